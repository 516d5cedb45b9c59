-- The parts that are left decide.
use Rattle.std.proofs.Common.{◌≡◌, length}
use denote.Shadow.{shadow}
use denote.Text.{Utf8}
use Rattle.npm_packages.specs.Folders.{parts_of}
use Rattle.npm_packages.specs.Private.Folders.{are_steps}
use Rattle.npm_packages.proofs.folder.are_steps.Given as goal

abbrev pub invariant-parts : goal.invariant-parts
invariant-parts l = record {
  text : shadow (Utf8 l.left);
  same : are_steps l.is_up (parts_of l.left) ≡ are_steps l.may_lead_up (parts_of l.path);
}

abbrev pub decreases-parts : goal.decreases-parts
decreases-parts l = length l.left
