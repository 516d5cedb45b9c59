use Rattle.std.proofs.Common.{◌∙◌, subst, ℕ, List}
use Rattle.npm_sets.specs.NpmAnswer.{IsNpmAnswer}
use Rattle.npm_sets.proofs.spaces.read_wide.Goals as goal

pub returns : goal.returns
returns c =
    let same = c.as_bytes.ensures.value ∙ c.as_str.ensures.value ∙ c.in_ok-plain.ensures in
    let read = c.read_npm.ensures in
    subst (λ (t : List ℕ). IsNpmAnswer c.args.options t c.read_npm.result) same (record {
      sets = read.sets;
      means = read.means;
      holds = read.holds;
      refused = read.refused;
      accepted = read.accepted;
    })
