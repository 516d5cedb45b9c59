use Rattle.std.proofs.Common.{◌∷◌, suc, subst}
use Rattle.std.specs.Str.{IsAscii}
use Rattle.semver_texts.specs.Characters.{newline}
use Rattle.semver_pairs.proofs.AsciiLemmas.{ascii-past}
use Rattle.semver_pairs.proofs.answering.next_version.Goals as goal

pub returns-clause-ascii : goal.returns-clause-ascii
returns-clause-ascii c = λ all.
    let past : IsAscii (newline ∷ c.in_ok-past_line.field-0.now) =
    ascii-past c.args.range.now _ (subst IsAscii c.in_ok-past_line.ensures all) in
    let parts = c.in_ok-version.ensures.ascii (λ k. past (suc k)) in
    (c.without_return.ensures.ascii parts.0, parts.1)
