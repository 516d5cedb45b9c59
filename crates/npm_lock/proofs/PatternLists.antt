-- The patterns of a list, one after another, and what their sets say.
use Rattle.std.proofs.Common.{◌≡◌, ◌∙◌, ◌⊎◌, ◌↔◌, ◌||◌, ◌∷◌, ◌+◌, ◌<◌, ℕ, suc, List, Bool, true, false, if◌then◌else◌}
use Rattle.std.proofs.Common.{IsTrue, add-one, ap, drop, drop-cons, get_or, inl, inr, length, not, refl, sym}
use Rattle.serde_json.specs.Data.{Items, item}
use Rattle.serde_json.specs.View.{items_view, view}
use Rattle.serde_json.specs.declared.value.Value.{Value}
use Rattle.npm_lock.specs.Private.Patterns.{HasMatched, IsSaid, matched, unmatched, unread}
use Rattle.npm_lock.specs.Private.PatternSteps as PatternSteps
use Rattle.npm_lock.specs.declared.patterns.Patterns.{Patterns}
use Rattle.npm_lock.specs.declared.workspace.Workspace.{Workspace}
use Rattle.npm_lock.specs.declared.workspace.Workspace.TheVariants.{Is, IsNot}

-- ---- all patterns of a list

-- the patterns from here on: this one, and those after it
pub items_from : (patterns : List Value) (at : ℕ) (first : Value) → at < length patterns → first ≡ get_or patterns at first
    → items_view (drop at patterns) ≡ item (view first) (items_view (drop (at + 1) patterns))
items_from patterns at first inside is =
    let whole : drop at patterns ≡ first ∷ drop (at + 1) patterns =
    rw (add-one at) (drop-cons patterns at first inside ∙ ap (λ v. v ∷ drop (suc at) patterns) (sym is)) in
    ap items_view whole

pub all_read : (first others : Bool) → (not first || others) ≡ false → (first ≡ true) × (others ≡ false)
all_read true others is = (refl, is)
all_read false others is = cc is

pub one_added : {Old New This Rest Both All : Type 0} → New ↔ (Old ⊎ This) → Both ↔ (This ⊎ Rest)
    → (Old ⊎ Both) ↔ All → (New ⊎ Rest) ↔ All
one_added new both all = (
  (λ either. elim either [
    | inl n ↦ elim (new.0 n) [
      | inl old ↦ all.0 (inl old)
      | inr this ↦ all.0 (inr (both.1 (inl this)))
    ]
    | inr rest ↦ all.0 (inr (both.1 (inr rest)))
  ]),
  (λ a. elim (all.1 a) [
    | inl old ↦ inl (new.1 (inl old))
    | inr b ↦ elim (both.0 b) [
      | inl this ↦ inl (new.1 (inr this))
      | inr rest ↦ inr rest
    ]
  ]),
)

-- ---- what the sets say

module _ (patterns : Patterns) (folder : List ℕ) where
  pub by_none : patterns.has_unread ≡ false → ¬ HasMatched patterns folder → (found : Workspace)
      → IsSaid patterns folder found → IsNot ≡ found
  by_none read none found (unread is) = cc (read, is)
  by_none read none found (matched is has) = absurd (none has)
  by_none read none found (unmatched is not_has) = refl

  by_unread : (items : Items) → PatternSteps.has_unknown items ≡ true → patterns.has_unread ≡ true → (found : Workspace)
      → IsSaid patterns folder found → found ≡ PatternSteps.by_patterns folder items
  by_unread items any said found (unread is) = rw any refl
  by_unread items any said found (matched is has) = cc (said, is)
  by_unread items any said found (unmatched is not_has) = cc (said, is)

  by_match : (all : Bool) → (HasMatched patterns folder ↔ IsTrue all) → patterns.has_unread ≡ false → (found : Workspace)
      → IsSaid patterns folder found → found ≡ (if all then Is else IsNot)
  by_match all same read found (unread is) = cc (read, is)
  by_match all same read found (matched is has) = rw (same.0 has) refl
  by_match true same read found (unmatched is none) = absurd (none (same.1 refl))
  by_match false same read found (unmatched is none) = refl

  pub by_sets : (items : Items) → PatternSteps.has_unknown items ≡ false
      → (HasMatched patterns folder ↔ IsTrue (PatternSteps.has_matched folder items)) → patterns.has_unread ≡ false
      → (found : Workspace) → IsSaid patterns folder found → found ≡ PatternSteps.by_patterns folder items
  by_sets items read same said found is =
      rw read (by_match (PatternSteps.has_matched folder items) same said found is)
