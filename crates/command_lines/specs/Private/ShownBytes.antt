-- What is written for one byte, as the program holds it.
use Rattle.std.specs.Prelude.{ℕ, List}
use Rattle.command_lines.specs.declared.shown.ShownByte.{ShownByte}
use Rattle.command_lines.specs.declared.shown.ShownByte.TheVariants.{Marked, Numbered, Plain}

abbrev pub bytes_of : ShownByte → List ℕ
bytes_of (Plain bytes) = bytes
bytes_of (Marked bytes) = bytes
bytes_of (Numbered bytes) = bytes
