-- The least and the greatest of versions, one after the other.
use Rattle.std.proofs.Common.{◌≡◌, ◌↔◌, List, [], ◌∷◌, ◌++◌, Bool, true, false, IsTrue, ap, append_assoc}
use Rattle.std.proofs.Common.{◌∙◌, arith, refl}
use Rattle.std.specs.Bool.{MatchBool}
use Rattle.std.specs.List.{AllByRecursion}
use Rattle.std.specs.Ordering.{ordering_reverse}
use Rattle.std.specs.declared.cmp.Ordering.{Ordering}
use Rattle.std.specs.declared.cmp.Ordering.TheVariants.{Less}
use Rattle.node_semver.specs.Versions.{IsBelow, VersionValue, version_cmp}
use Rattle.semver_texts.specs.Lemmas.Public.{Less-version, version-Less, version_total}
use Rattle.semver_command.specs.Kept.{IsBestOf, IsBetter}

all_weaker : {X : Type 0} (P Q : X → Type 0) (xs : List X) → ((x : X) → P x → Q x) → AllByRecursion P xs
    → AllByRecursion Q xs
all_weaker P Q [] weaker all = tt
all_weaker P Q (x ∷ xs) weaker all = (weaker x all.0, all_weaker P Q xs weaker all.1)

all_pushed : {X : Type 0} (P : X → Type 0) (xs : List X) (x : X) → AllByRecursion P xs → P x
    → AllByRecursion P (xs ++ (x ∷ []))
all_pushed P [] x all is = (is, tt)
all_pushed P (y ∷ xs) x all is = (all.0, all_pushed P xs x all.1 is)

below_trans : (u v w : VersionValue) → IsBelow u v → IsBelow v w → IsBelow u w
below_trans u v w first second =
    Less-version u w (version_total.trans u v w (version-Less u v first) (version-Less v w second))

never : (r : Ordering) → r ≡ Less → r ≡ ordering_reverse r → ⊥
never r is turned = grind (arith, is, turned)

below_irrefl : (v : VersionValue) → IsBelow v v → ⊥
below_irrefl v is =
    never (version_cmp v v) (version-Less v v is) (version_total.antisymm v v)

better_trans : (is_least : Bool) (u v w : VersionValue) → IsBetter is_least u v → IsBetter is_least v w
    → IsBetter is_least u w
better_trans true u v w first second = below_trans u v w first second
better_trans false u v w first second = below_trans w v u second first

not_better : (is_least : Bool) (v : VersionValue) → IsBetter is_least v v → ⊥
not_better true v is = below_irrefl v is
not_better false v is = below_irrefl v is

-- the first version of all
pub best_first : (is_least : Bool) (v : VersionValue) (versions : List VersionValue) → versions ≡ []
    → IsBestOf is_least (versions ++ (v ∷ [])) v
best_first is_least v versions none = rw none (record {
  before = [];
  after = [];
  parts = refl;
  none_better = (not_better is_least v, tt);
})

-- a better one takes the place of the best so far
pub best_new : (is_least : Bool) (v best : VersionValue) (versions : List VersionValue)
    → IsBestOf is_least versions best → IsBetter is_least v best → IsBestOf is_least (versions ++ (v ∷ [])) v
best_new is_least v best versions is better = record {
  before = versions;
  after = [];
  parts = refl;
  none_better = all_pushed _ versions v
      (all_weaker _ _ versions (λ u not worse. not (better_trans is_least u v best worse better)) is.none_better)
      (not_better is_least v);
}

-- the best so far stays
pub best_kept : (is_least : Bool) (v best : VersionValue) (versions : List VersionValue)
    → IsBestOf is_least versions best → ¬ IsBetter is_least v best → IsBestOf is_least (versions ++ (v ∷ [])) best
best_kept is_least v best versions is not = record {
  before = is.before;
  after = is.after ++ (v ∷ []);
  parts = ap (λ l. l ++ (v ∷ [])) is.parts ∙ append_assoc is.before (best ∷ is.after) (v ∷ []);
  none_better = all_pushed _ versions v is.none_better not;
}

-- a version, after the best of those before it
pub best_next : (b is_least : Bool) (v best : VersionValue) (versions : List VersionValue)
    → IsTrue b ↔ IsBetter is_least v best → IsBestOf is_least versions best
    → MatchBool b (IsBestOf is_least (versions ++ (v ∷ [])) v) (IsBestOf is_least (versions ++ (v ∷ [])) best)
best_next true is_least v best versions told is = best_new is_least v best versions is (told.0 refl)
best_next false is_least v best versions told is =
    best_kept is_least v best versions is (λ better. grind (arith, told.1 better))
