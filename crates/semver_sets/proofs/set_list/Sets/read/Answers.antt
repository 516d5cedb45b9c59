use Rattle.std.proofs.lemmas.Grind.{common_steps}
use Rattle.std.proofs.Common.{◌≡◌, ℕ, Bool, true, List, [], ◌∷◌, Option, None, Some, arith, length, refl, subst, sym}
use Rattle.std.proofs.lemmas.Bool.{eqb-true}
use Rattle.std.specs.Borrow.{Bor}
use Rattle.std.specs.Prelude.{◌==◌}
use Rattle.semver_cuts.specs.Ends.{Ends}
use Rattle.semver_sets.specs.Comparator.{Comparator}
use Rattle.semver_sets.specs.Division.{IsAlternative}
use Rattle.semver_texts.specs.Version.{VersionValue}
use Rattle.semver_sets.specs.Private.PieceReading.{piece_at, some_seen}
use Rattle.semver_sets.specs.Private.RangeViews.{IsSetOfAlternative}
use Rattle.semver_sets.proofs.Ranges.DivisionLemmas.{completes-end, completes-nothing}
use Rattle.semver_sets.proofs.Ranges.RangeReading.{accepted, none-read, not-refused, one-read, one-value}
use Rattle.semver_sets.proofs.Sets.AlternativeSets.{common-set, later-set}
use Rattle.semver_sets.proofs.set_list.Sets.read.Goals as goal

-- no words are left
words-none : (words : List ℕ) (r : Bool) → r ≡ (length words == 0) → r ≡ true → words ≡ []
words-none words r h1 h2 = grind (arith, common_steps, eqb-true)

-- then there is no set
nothing-given : IsSetOfAlternative [] None
nothing-given = common-set [] None None ([], completes-end [] [] (completes-nothing []), refl) refl

-- what is left after the first piece
divided-as : (text piece : List ℕ) (left left' : Option (Bor (List ℕ))) → left ≡ left'
    → (piece, some_seen left) ≡ piece_at text → (piece, some_seen left') ≡ piece_at text
divided-as text piece left left' same is = grind arith

-- the only piece, and its set
only-piece : (text piece words : List ℕ) (left : Option (Bor (List ℕ))) (set : Option (Ends VersionValue))
    → left ≡ None → (piece, some_seen left) ≡ piece_at text
    → ((comparators : List Comparator) → IsAlternative words comparators → IsAlternative piece comparators)
    → IsSetOfAlternative words set → ((piece, None) ≡ piece_at text) × IsSetOfAlternative piece set
only-piece text piece words left set none is later of =
    (divided-as text piece left None none is, later-set piece words set later of)

pub returns-in-Some-clause-accepted : goal.returns-in-Some-clause-accepted
returns-in-Some-clause-accepted c = grind (arith, divided-as, accepted)

pub returns-then-is_empty-clause-refused : goal.returns-then-is_empty-clause-refused
returns-then-is_empty-clause-refused c = λ is.
    let words = c.skip_ignored-words.result.now in
    let none = words-none words c.is_empty.result c.is_empty.ensures c.if-is_empty.true in
    let only = only-piece c.args.text.now _ words c.next_piece.result.1 None c.in_default.is c.next_piece.ensures
    c.skip_ignored-words.ensures (subst (λ (l : List ℕ). IsSetOfAlternative l None) (sym none) nothing-given) in
    none-read c.args.text.now _ only.0 only.1

pub returns-in-Ok-Some-clause-sets : goal.returns-in-Ok-Some-clause-sets
returns-in-Ok-Some-clause-sets c =
    let words = c.skip_ignored-words.result.now in
    let only = only-piece c.args.text.now _ words c.next_piece.result.1 (Some c.in-Ok-Some.set) c.in_default.is
    c.next_piece.ensures c.skip_ignored-words.ensures
    (subst (IsSetOfAlternative words) c.in-Ok-Some.field-0-is c.in-Ok-Some.ensures) in
    one-read c.args.text.now _ (Some c.in-Ok-Some.set) only.0 only.1

pub returns-in-Ok-Some-clause-holds : goal.returns-in-Ok-Some-clause-holds
returns-in-Ok-Some-clause-holds c =
    one-value c.args.text.now c.in-Ok-Some.set (returns-in-Ok-Some-clause-sets c)

pub returns-in-Ok-Some-clause-accepted : goal.returns-in-Ok-Some-clause-accepted
returns-in-Ok-Some-clause-accepted c =
    not-refused c.args.text.now (c.in-Ok-Some.set ∷ []) (returns-in-Ok-Some-clause-sets c)
    (returns-in-Ok-Some-clause-holds c)

pub returns-in-Ok-None-clause-refused : goal.returns-in-Ok-None-clause-refused
returns-in-Ok-None-clause-refused c = λ is.
    let words = c.skip_ignored-words.result.now in
    let only = only-piece c.args.text.now _ words c.next_piece.result.1 None c.in_default.is c.next_piece.ensures
    c.skip_ignored-words.ensures
    (subst (IsSetOfAlternative words) c.in-Ok-None.field-0-is c.in-Ok-None.ensures) in
    none-read c.args.text.now _ only.0 only.1
