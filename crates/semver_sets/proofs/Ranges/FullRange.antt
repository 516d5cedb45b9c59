-- Texts that are a full version, with a caret, a tilde or nothing before it.
use native.Mathlib.Omega.{arith}
use Rattle.std.proofs.Common.{◌≡◌, ℕ, List, ◌∷◌, Some, refl, sym, ap, ◌∙◌}
use Rattle.semver_texts.specs.Characters.{BeginsWith, caret, is_digit, tilde}
use Rattle.semver_texts.specs.Lemmas.Public.{digit-no_blank}
use Rattle.semver_texts.specs.Reading.{rest_of}
use Rattle.semver_texts.specs.Version.{release}
use Rattle.semver_sets.specs.FullTexts.{IsFullText, full_row, full_set}
use Rattle.semver_sets.specs.declared.read.full.FullLead.TheVariants.{Caret, Nothing, Tilde}
use Rattle.semver_sets.specs.declared.read.full.Form.{Form}
use Rattle.semver_sets.specs.Private.RangeViews.{IsFullNumbers}
use Rattle.semver_sets.specs.Private.WordReading.{Lead, caret_lead, lead_row, no_lead, read_lead, tilde_lead}
use Rattle.semver_sets.proofs.Words.LeadReading.{lead-none}
use Rattle.semver_sets.proofs.Ranges.OnlySet.{only-between, only-value}
use Rattle.semver_sets.proofs.Ranges.OnlyWord.{only-word}

-- a lead and the three numbers after it, whose row gives a set
led-full : (text operand : List ℕ) (l : Lead) (form : Form) (major minor patch : ℕ)
    → (l, operand) ≡ read_lead text → IsFullNumbers operand major minor patch
    → lead_row l (Some major) (Some minor) (Some patch) (release major minor patch)
    ≡ Some (full_set form major minor patch)
    → IsFullText text form major minor patch
led-full text operand l form major minor patch led h gives =
    let set = full_set form major minor patch in
    let only = only-word text operand l _ (Some set) led h.read (sym gives) in
    record {
      sets = only-between text set set only refl;
      set = (only-value text set only).each.0;
      limit = h.limit;
    }

-- a caret before a digit
caret-lead : (rest : List ℕ) → BeginsWith is_digit rest → (caret_lead, rest) ≡ read_lead (caret ∷ rest)
unfolding read_lead rest_of
caret-lead rest h1 = grind (arith, digit-no_blank)

-- a tilde before a digit
tilde-lead : (rest : List ℕ) → BeginsWith is_digit rest → (tilde_lead, rest) ≡ read_lead (tilde ∷ rest)
unfolding read_lead rest_of
tilde-lead rest h1 = grind (arith, digit-no_blank)

-- `^1.2.3`
pub caret-full : (text rest : List ℕ) (form : Form) (major minor patch : ℕ) → text ≡ caret ∷ rest
    → IsFullNumbers rest major minor patch → full_row Caret major minor patch ≡ Some (full_set form major minor patch)
    → IsFullText text form major minor patch
caret-full text rest form major minor patch whole h =
    led-full text rest caret_lead form major minor patch (caret-lead rest h.digit ∙ ap read_lead (sym whole)) h

-- `~1.2.3`
pub tilde-full : (text rest : List ℕ) (form : Form) (major minor patch : ℕ) → text ≡ tilde ∷ rest
    → IsFullNumbers rest major minor patch → full_row Tilde major minor patch ≡ Some (full_set form major minor patch)
    → IsFullText text form major minor patch
tilde-full text rest form major minor patch whole h =
    led-full text rest tilde_lead form major minor patch (tilde-lead rest h.digit ∙ ap read_lead (sym whole)) h

-- `1.2.3`
pub plain-full : (text : List ℕ) (form : Form) (major minor patch : ℕ) → IsFullNumbers text major minor patch
    → full_row Nothing major minor patch ≡ Some (full_set form major minor patch)
    → IsFullText text form major minor patch
plain-full text form major minor patch h =
    led-full text text no_lead form major minor patch (sym (lead-none text _ (sym h.read))) h
