-- Each folder so far is reached.
use Rattle.std.proofs.Common.{length}
use denote.Shadow.{shadow}
use denote.Text.{Utf8}
use Rattle.npm_packages.specs.Lookups.{IsReached}
use Rattle.npm_packages.proofs.search.outermost_of.Given as goal

abbrev pub invariant-folders : goal.invariant-folders
invariant-folders l = record { text : shadow (Utf8 l.at); reached : IsReached l.fn.folder l.at }

abbrev pub decreases-folders : goal.decreases-folders
decreases-folders l = length l.at
