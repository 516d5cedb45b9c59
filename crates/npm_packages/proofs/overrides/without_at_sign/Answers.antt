-- `strip_prefix` of a character.
use Rattle.std.proofs.Common.{arith, inl, inr, refl}
use Rattle.std.proofs.lemmas.Str.Pattern.{strip_prefix_char}
use Rattle.npm_packages.proofs.overrides.without_at_sign.Goals as goal

pub returns-in-Some : goal.returns-in-Some
returns-in-Some c =
    let strips = strip_prefix_char 64 c.args.key.now c.strip_prefix.result c.strip_prefix.ensures.cases (omega arith) in
    inl (rw c.in-Some.is at strips)

pub returns-in-None : goal.returns-in-None
returns-in-None c =
    let strips = strip_prefix_char 64 c.args.key.now c.strip_prefix.result c.strip_prefix.ensures.cases (omega arith) in
    inr (refl, rw c.in-None.is at strips)
