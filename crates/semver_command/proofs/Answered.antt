-- What is decided, from what is kept.
use Rattle.std.proofs.Common.{◌≡◌, ◌≢◌, ◌↔◌, ◌∙◌, List, [], ◌∷◌, ◌++◌, ℕ, Bool, true, false, Option, None, Some}
use Rattle.std.proofs.Common.{ap, arith, is_some, length, map, refl, sym}
use Rattle.std.proofs.lemmas.List.{length-reverse, nil_from_length}
use Rattle.std.proofs.lemmas.List.Sorted.{length_permutation}
use Rattle.std.specs.Bool.{MatchBool}
use mathlib.Core.Bool.{not, true≢false}
use Rattle.npm_semver.specs.declared.bump.Bump.{Bump}
use Rattle.npm_semver.specs.declared.bump.IdentifierBase.{IdentifierBase}
use Rattle.node_semver.specs.Versions.{VersionValue}
use Rattle.semver_command.specs.Answer.{IsAnswer}
use Rattle.semver_command.specs.Increment.{IsIncremented, IsRaised, incremented, no_version}
use Rattle.semver_command.specs.Kept.{AreInOrder, IsBest, IsKept, IsListed, ending_of, in_direction}
use Rattle.semver_command.specs.Private.Gathering.{IsGathered}
use Rattle.semver_command.specs.Ranges.{IsAdmittedByAll, npm_options}
use Rattle.semver_command.specs.declared.asked.Options.{Options}
use Rattle.semver_command.specs.declared.ending.Ending.TheVariants as Endings
use Rattle.semver_command.specs.declared.kept.Kept.{Kept}
use Rattle.semver_command.proofs.Satisfying.{chosen_same}

pub all_listed : (options : Options) (ranges : List (Option (List ℕ))) (S : VersionValue → Type 0) (words : List (List ℕ))
    (k l : Kept) → ((v : VersionValue) → S v ↔ IsAdmittedByAll (npm_options options) ranges v)
    → IsGathered options S words k
    → ((given : Options) (versions : List VersionValue) → IsKept given.listing versions k → given.reverse ≡ options.reverse
    → IsListed given versions l)
    → IsAnswer options ranges words l
all_listed options ranges S words k l same has order = record {
  texts = has.texts;
  placed = has.placed;
  versions = has.of_texts.versions;
  chosen = chosen_same options S (IsAdmittedByAll (npm_options options) ranges) has.texts has.of_texts.versions same
      has.of_texts.chosen;
  listed = order options has.of_texts.versions has.of_texts.is_kept refl;
}

-- ---- whether there was a version

direction_length : (is_reverse : Bool) (versions : List VersionValue) → length (in_direction is_reverse versions) ≡ length versions
direction_length false versions = refl
direction_length true versions = length-reverse versions

same_length : (is_reverse : Bool) (versions written : List VersionValue) → AreInOrder is_reverse versions written
    → length written ≡ length versions
same_length is_reverse versions written are =
    ap length are.direction ∙ direction_length is_reverse are.ascending ∙ length_permutation versions are.ascending are.same

pub listed_nothing : (b is_reverse : Bool) (versions written : List VersionValue) → AreInOrder is_reverse versions written
    → MatchBool b (written ≡ []) (written ≢ []) → MatchBool b (versions ≡ []) (versions ≢ [])
listed_nothing true is_reverse versions written are is =
    nil_from_length versions (sym (same_length is_reverse versions written are) ∙ ap length is)
listed_nothing false is_reverse versions written are is = λ none.
    is (nil_from_length written (same_length is_reverse versions written are ∙ ap length none))

inside : (before after : List VersionValue) (v : VersionValue) → before ++ (v ∷ after) ≡ [] → ⊥
inside [] after v is = grind (arith, is)
inside (x ∷ before) after v is = grind (arith, is)

pub best_nothing : (b is_least : Bool) (versions : List VersionValue) (best : Option VersionValue)
    → IsBest is_least versions best → is_some best ≡ not b → MatchBool b (versions ≡ []) (versions ≢ [])
best_nothing true is_least versions None is told = is
best_nothing true is_least versions (Some v) is told = absurd (true≢false told)
best_nothing false is_least versions None is told = absurd (true≢false (sym told))
best_nothing false is_least versions (Some v) is told = λ none. inside is.before is.after v (sym is.parts ∙ none)

pub empty_ending : (versions : List VersionValue) → versions ≡ [] → Endings.Nothing ≡ ending_of versions
empty_ending versions none = rw none refl

pub some_ending : (versions : List VersionValue) → versions ≢ [] → Endings.Written ≡ ending_of versions
some_ending [] some = absurd (some refl)
some_ending (v ∷ versions) some = refl

-- ---- increments

pub some_mapped : {A B : Type 0} (f : A → B) (xs : List A) → xs ≢ [] → map f xs ≢ []
some_mapped f [] some empty = some refl
some_mapped f (one ∷ others) some empty = grind (arith, empty)

pub none_raised : (bump : Bump) (text : Option (List ℕ)) (base : IdentifierBase) (ranges : List (Option (List ℕ)))
    (versions : List VersionValue) → versions ≡ [] → IsRaised bump text base ranges versions Endings.Nothing None
none_raised bump text base ranges versions none = rw none no_version

pub one_raised : (bump : Bump) (text : Option (List ℕ)) (base : IdentifierBase)
    (ranges : List (Option (List ℕ))) (versions : List VersionValue) (v : VersionValue) (outcome : Option VersionValue)
    → ranges ≡ [] → versions ≡ v ∷ [] → IsIncremented bump text base v outcome
    → IsRaised bump text base ranges versions Endings.Written outcome
one_raised bump text base ranges versions v outcome free one is = rw one (incremented v outcome free is)
