-- One byte more before the place.
use Rattle.std.proofs.Common.{◌≡◌, ◌==◌, ◌+◌, ◌∙◌, false, arith, get_or, sym, take}
use Rattle.std.proofs.lemmas.List.{take_more}
use Rattle.std.proofs.lemmas.Bool.Decides.{nat_tests}
use Rattle.json_places.specs.Places.{IsPlaceAfter}
use Rattle.json_places.proofs.PlaceSteps.{after_character, after_newline, within_character}
use Rattle.json_places.proofs.place.passed.Goals as goal

pub returns-then-byte-eq10-clause-place : goal.returns-then-byte-eq10-clause-place
returns-then-byte-eq10-clause-place c =
    let after : IsPlaceAfter (take (c.args.place.offset + 1) c.args.text.now) (c.args.place.line + 1) 1 =
    rw (take_more c.args.text.now c.args.place.offset 0 c.requires.inside, c.if-byte-eq10.true)
    (after_newline _ _ _ c.requires.start.after) in
    record { inside = omega arith; after = after }

pub returns-then-begins_character-clause-place : goal.returns-then-begins_character-clause-place
returns-then-begins_character-clause-place c =
    let byte = get_or c.args.text.now c.args.place.offset 0 in
    let other : (byte == 10) ≡ false = grind (arith, nat_tests, c.if-byte-eq10.false) in
    let after : IsPlaceAfter (take (c.args.place.offset + 1) c.args.text.now) c.args.place.line
    (c.args.place.column + 1) =
    rw (take_more c.args.text.now c.args.place.offset 0 c.requires.inside)
    (after_character _ _ _ byte c.requires.start.after c.if-byte-eq10.false other
    (sym c.begins_character.ensures ∙ c.if-begins_character.true)) in
    record { inside = omega arith; after = after }

pub returns-else-begins_character-clause-place : goal.returns-else-begins_character-clause-place
returns-else-begins_character-clause-place c =
    let byte = get_or c.args.text.now c.args.place.offset 0 in
    let other : (byte == 10) ≡ false = grind (arith, nat_tests, c.if-byte-eq10.false) in
    let after : IsPlaceAfter (take (c.args.place.offset + 1) c.args.text.now) c.args.place.line c.args.place.column =
    rw (take_more c.args.text.now c.args.place.offset 0 c.requires.inside)
    (within_character _ _ _ byte c.requires.start.after c.if-byte-eq10.false other
    (sym c.begins_character.ensures ∙ c.if-begins_character.false)) in
    record { inside = omega arith; after = after }
