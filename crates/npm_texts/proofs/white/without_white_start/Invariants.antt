-- What is left has the same characters from the first on that is no white space.
use Rattle.std.proofs.Common.{◌≡◌, chars, length}
use Rattle.std.specs.Str.Iter.{chars_rest}
use Rattle.npm_texts.specs.WhiteSpace.{is_white, without_start}
use Rattle.npm_texts.proofs.white.without_white_start.Given as goal

abbrev pub invariant-white : goal.invariant-white
invariant-white l = without_start is_white (chars (chars_rest l.left)) ≡ without_start is_white (chars l.text)

abbrev pub decreases-white : goal.decreases-white
decreases-white l = length (chars_rest l.left)
