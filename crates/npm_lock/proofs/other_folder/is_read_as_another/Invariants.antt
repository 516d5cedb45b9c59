-- What is left of the path is another from here if the path is from the folder.
use Rattle.std.proofs.Common.{◌↔◌, length}
use denote.Shadow.{shadow}
use denote.Text.{Utf8}
use Rattle.npm_lock.specs.OtherFolders.{IsReadAsAnother}
use Rattle.npm_lock.proofs.other_folder.is_read_as_another.Given as goal

abbrev pub invariant-up : goal.invariant-up
invariant-up l = record {
  at_text : shadow (Utf8 l.at);
  text : shadow (Utf8 l.left);
  same : IsReadAsAnother l.at l.left ↔ IsReadAsAnother l.fn.folder l.fn.path;
}

abbrev pub decreases-up : goal.decreases-up
decreases-up l = length l.left
