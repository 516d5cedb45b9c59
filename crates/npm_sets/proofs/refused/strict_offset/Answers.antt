use Rattle.std.proofs.Common.{◌∙◌, IsUtf8, List, sym, subst, ℕ}
use Rattle.std.proofs.lemmas.Str.{IsUtf8-string_bytes}
use Rattle.npm_sets.specs.NpmMeaning.{IsNpmRefused}
use Rattle.npm_sets.specs.Private.RefusedViews.{IsPlace}
use Rattle.npm_sets.proofs.Places.PlainPlaces.{ascii-place, wide-place}
use Rattle.npm_sets.proofs.PlainSpaces.{ascii-plain}
use Rattle.npm_sets.proofs.refused.strict_offset.Goals as goal

pub refused_place-requires-clause-refused : goal.refused_place-requires-clause-refused
refused_place-requires-clause-refused c =
    subst (IsNpmRefused c.args.options)
    (ascii-plain c.args.text.now c.if-is_ascii.ensures.cases ∙ sym c.as_bytes.ensures.value) c.requires.refused

pub returns-then-is_ascii : goal.returns-then-is_ascii
returns-then-is_ascii c =
    ascii-place c.args.options c.args.text.now c.refused_place.result c.if-is_ascii.ensures.cases
    (subst (λ (t : List ℕ). IsPlace c.args.options t c.refused_place.result) c.as_bytes.ensures.value (record {
      before = c.refused_place.ensures.before;
      after = c.refused_place.ensures.after;
      whole = c.refused_place.ensures.whole;
      refused = c.refused_place.ensures.refused;
      ascii = c.refused_place.ensures.ascii;
      place_is = c.refused_place.ensures.place_is;
    }))

pub returns : goal.returns
returns c =
    let plain = c.in_ok-plain.ensures in
    let same = c.as_bytes-2.ensures.value ∙ c.as_str.ensures.value ∙ plain in
    wide-place c.args.options c.args.text.now c.refused_place-2.result c.length_before.result
    (subst IsUtf8 plain (IsUtf8-string_bytes c.in_ok-plain.plain))
    (subst (λ (t : List ℕ). IsPlace c.args.options t c.refused_place-2.result) same c.refused_place-2.ensures)
    c.length_before.ensures
