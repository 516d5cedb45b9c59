-- If the project is not known, no key is found.
use Rattle.std.proofs.Common.{◌≡◌, ◌∙◌, ◌==◌, length, refl, sym, true}
use Rattle.serde_json.specs.View.{members_view}
use Rattle.npm_lock.proofs.other_folder.key_read_as_another.Goals as goal

pub returns-then-is_empty : goal.returns-then-is_empty
returns-then-is_empty c =
    let empty : (length c.args.project.now == 0) ≡ true = sym c.is_empty.ensures ∙ c.if-is_empty.true in
    record {
      members = members_view c.packages-packages.result.members.now.entries;
      packages = c.packages-packages.ensures;
      first = rw empty refl;
    }
