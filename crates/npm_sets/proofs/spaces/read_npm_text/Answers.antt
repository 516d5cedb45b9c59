use Rattle.std.proofs.Common.{◌∙◌, sym, subst, ℕ, List}
use Rattle.npm_sets.specs.NpmAnswer.{IsNpmAnswer}
use Rattle.npm_sets.proofs.PlainSpaces.{ascii-plain}
use Rattle.npm_sets.proofs.spaces.read_npm_text.Goals as goal

pub returns-then-is_ascii : goal.returns-then-is_ascii
returns-then-is_ascii c =
    let text = c.args.text.now in
    let ascii = c.if-is_ascii.ensures.cases in
    let same = c.as_bytes.ensures.value ∙ sym (ascii-plain text ascii) in
    let read = c.read_npm.ensures in
    subst (λ (t : List ℕ). IsNpmAnswer c.args.options t c.read_npm.result) same (record {
      sets = read.sets;
      means = read.means;
      holds = read.holds;
      refused = read.refused;
      accepted = read.accepted;
    })
