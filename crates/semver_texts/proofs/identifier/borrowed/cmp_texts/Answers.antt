use native.Mathlib.Omega.{arith}
use Rattle.std.proofs.Common.{sym, subst}
use Rattle.std.proofs.lemmas.List.{take_rest}
use Rattle.semver_texts.specs.IdentifierText.{IsListed}
use Rattle.semver_texts.specs.Lemmas.Texts.CommonStarts.{decided-after, from-start}
use Rattle.semver_texts.specs.Lemmas.Texts.IdentifierStarts.{texts_cmp}
use Rattle.semver_texts.proofs.identifier.borrowed.cmp_texts.Goals as goal

pub returns-then-are_decided : goal.returns-then-are_decided
returns-then-are_decided c = grind (arith, take_rest, decided-after)

pub cmp_one_by_one-requires-clause-first : goal.cmp_one_by_one-requires-clause-first
cmp_one_by_one-requires-clause-first c = grind (arith, from-start, take_rest)

pub cmp_one_by_one-requires-clause-second : goal.cmp_one_by_one-requires-clause-second
cmp_one_by_one-requires-clause-second c =
    let from = from-start c.args.a.now c.args.b.now c.common_length-alike.result c.last_start-start.result
    c.requires.first c.requires.second c.common_length-alike.ensures
    c.last_start-start.ensures.within c.last_start-start.ensures.starts in
    subst IsListed (sym (take_rest c.args.b.now c.last_start-start.result)) from.second

pub returns : goal.returns
returns c = grind (arith, from-start, texts_cmp, take_rest)
