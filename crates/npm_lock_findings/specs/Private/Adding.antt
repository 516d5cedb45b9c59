-- What is added to a text safely.
use Rattle.std.specs.Prelude.{◌≡◌, ◌++◌, ℕ, List}
use Rattle.npm_lock_findings.specs.Forms.{IsSafe}
use Rattle.npm_lock_findings.specs.declared.forms.piece.Form.{Form}

abbrev pub Adds : Form → (old new : List ℕ) → Type 0
Adds form old new = (shown : List ℕ) × IsSafe form shown × (new ≡ old ++ shown)
