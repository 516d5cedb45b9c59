-- The list of the folder has one text more.
use Rattle.std.proofs.Common.{arith}
use Rattle.std.proofs.lemmas.List.{map-append}
use Rattle.std.proofs.lemmas.Map.Text.{text_keys}
use Rattle.npm_packages.proofs.dependents.Dependents.add.Goals as goal

pub returns : goal.returns
returns c = λ folder. grind (arith, text_keys, map-append)
