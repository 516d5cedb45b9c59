-- What is left has the same text after its slashes.
use Rattle.std.proofs.Common.{◌≡◌, length}
use denote.Shadow.{shadow}
use denote.Text.{Utf8}
use Rattle.npm_lock.specs.Tarballs.{after_slashes}
use Rattle.npm_lock.proofs.tarball.after_slashes.Given as goal

abbrev pub invariant-loop-rest : goal.invariant-loop-rest
invariant-loop-rest l = record { text : shadow (Utf8 l.left); same : after_slashes l.left ≡ after_slashes l.fn.text }

abbrev pub decreases-loop-rest : goal.decreases-loop-rest
decreases-loop-rest l = length l.left
