-- The first key of the members that are left is that of all.
use Rattle.std.proofs.Common.{ℕ, List, Option}
use Rattle.serde_json.specs.View.{members_view}
use Rattle.npm_lock.specs.OtherFolders.{IsFirstAnother}
use Rattle.npm_lock.proofs.other_folder.first_among.Given as goal

abbrev pub invariant-loop-key : goal.invariant-loop-key
invariant-loop-key l = (found : Option (List ℕ)) → IsFirstAnother l.folder (members_view l.key-iterator) found
    → IsFirstAnother l.folder (members_view l.initial.key-iterator) found
