-- The messages that pieces have so far.
use Rattle.std.specs.Prelude.{ℕ, List, map}
use Rattle.npm_lock_findings.specs.Forms.{messages_in, piece_value}
use Rattle.npm_lock_findings.specs.declared.forms.piece.Piece.{Piece}
use Rattle.npm_lock_findings.specs.declared.pages.order.Row.{Row}

abbrev pub said_in : List Piece → List (List ℕ)
said_in pieces = messages_in (map piece_value pieces)

-- the message of a row
abbrev pub row_message : Row → List ℕ
row_message row = row.message.now
