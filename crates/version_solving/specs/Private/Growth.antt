-- Ranges that are added behind others.
use Rattle.std.specs.Prelude.{◌≡◌, ◌++◌, List}
use Rattle.version_solving.specs.declared.wanted.Wanted.{Wanted}

abbrev pub Extends : (old new : List Wanted) → Type 0
Extends old new = (more : List Wanted) × (new ≡ old ++ more)
