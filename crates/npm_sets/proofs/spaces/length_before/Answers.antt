use Rattle.std.proofs.Common.{◌≡◌, ◌<◌, ap, arith, encode_utf8, length, ℕ}
use Rattle.std.specs.Str.Iter.{chars_rest}
use Rattle.npm_sets.specs.Spaces.{plain}
use Rattle.npm_sets.proofs.Places.PlainPlaces.{characters-done, characters-end, characters-more}
use Rattle.npm_sets.proofs.spaces.length_before.Goals as goal

pub loop-left-preserved : goal.loop-left-preserved
loop-left-preserved c =
    let some : 0 < c.loop-left.left = omega (arith, c.loop-left-test.true) in
    let one : length (encode_utf8 c.plain.result) ≡ length (encode_utf8 (plain c.in-Some.c)) =
    ap (λ (n : ℕ). length (encode_utf8 n)) c.plain.ensures in
    characters-more c.args.text.now c.args.place c.loop-left.left (chars_rest c.loop-left.rest) c.in-Some.c
    (chars_rest c.next.new.self) c.saturating_sub-left.result c.loop-left.invariant c.in-Some.ensures.steps.0 some
    (omega (arith, c.saturating_sub-left.ensures, c.len_utf8.ensures.len, one))

pub returns-in-None : goal.returns-in-None
returns-in-None c =
    characters-end c.args.text.now c.args.place c.loop-left.left (chars_rest c.loop-left.rest) _ c.loop-left.invariant
    (omega (arith, c.loop-left-test.true)) c.in-None.ensures.steps.0.0

pub returns : goal.returns
returns c =
    let none : c.loop-left.left ≡ 0 = omega (arith, c.loop-left-test.false) in
    let rest : length c.as_str.result.now ≡ length (chars_rest c.loop-left.rest) = ap length c.as_str.ensures in
    characters-done c.args.text.now c.args.place c.loop-left.left (chars_rest c.loop-left.rest) _ c.loop-left.invariant
    none (omega (arith, rest))
