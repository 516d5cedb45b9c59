-- A folder that is not the root begins so, or does not.
use Rattle.std.proofs.Common.{◌≡◌, ◌∙◌, ◌==◌, codes, false, length, sym}
use Rattle.std.proofs.lemmas.Str.Pattern.{starts_text}
use Rattle.npm_packages.proofs.overrides.is_in_root.Goals as goal

pub returns-else-is_empty : goal.returns-else-is_empty
returns-else-is_empty c =
    let some : (length c.args.folder.now == 0) ≡ false = sym c.is_empty.ensures ∙ c.if-is_empty.false in
    rw some (starts_text c.starts_with.result (codes "node_modules/") c.args.folder.now c.starts_with.ensures.cases)
