-- The list of the name has one advisory more.
use Rattle.std.proofs.Common.{arith}
use Rattle.std.proofs.lemmas.Map.Text.{text_keys}
use Rattle.npm_advisories.specs.Lemmas.Adding.{one-named}
use Rattle.npm_advisories.proofs.index.Index.add.Goals as goal

pub returns : goal.returns
returns c = λ name. rw (one-named c.args.self.now name c.args.advisory) (grind (arith, text_keys))
