-- What is left has the same text before its slashes.
use Rattle.std.proofs.Common.{◌≡◌, length}
use denote.Shadow.{shadow}
use denote.Text.{Utf8}
use Rattle.npm_lock.specs.Tarballs.{before_slashes}
use Rattle.npm_lock.proofs.tarball.before_slashes.Given as goal

abbrev pub invariant-loop-front : goal.invariant-loop-front
invariant-loop-front l = record { text : shadow (Utf8 l.left); same : before_slashes l.left ≡ before_slashes l.fn.text }

abbrev pub decreases-loop-front : goal.decreases-loop-front
decreases-loop-front l = length l.left
