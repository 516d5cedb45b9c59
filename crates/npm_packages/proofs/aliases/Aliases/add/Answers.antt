-- The folder has the name, if it had none.
use Rattle.std.proofs.Common.{arith}
use Rattle.std.proofs.lemmas.Map.Text.{text_keys}
use Rattle.npm_packages.proofs.aliases.Aliases.add.Goals as goal

pub returns : goal.returns
returns c = λ folder. grind (arith, text_keys)
