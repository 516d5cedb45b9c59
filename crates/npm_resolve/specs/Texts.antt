-- What a contract sees of a text that is borrowed.
use Rattle.std.specs.Prelude.{ℕ, List}
use Rattle.std.specs.Borrow.{Bor}

abbrev pub text : Bor (List ℕ) → List ℕ
text borrowed = borrowed.now
