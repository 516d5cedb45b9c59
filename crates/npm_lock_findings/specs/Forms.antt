-- How texts are written: no text ends a line, leaves a string, or is read as markup.
use Rattle.std.specs.Prelude.{◌≡◌, ◌||◌, ◌==◌, ◌++◌, ℕ, List, [], ◌∷◌, Bool, bytes_eq, codes, false, nat_lt, true}
use Rattle.std.specs.List.{flat_map}
use Rattle.npm_lock_findings.specs.declared.finding.Finding.{Finding}
use Rattle.npm_lock_findings.specs.declared.forms.piece.Form.{Form}
use Rattle.npm_lock_findings.specs.declared.forms.piece.Form.TheVariants.{Json, Line, Markup}
use Rattle.npm_lock_findings.specs.declared.forms.piece.Piece.{Piece}
use Rattle.npm_lock_findings.specs.declared.forms.piece.Piece.TheVariants as Variants

-- ---- texts

-- The bytes that would end a line; the quotation mark, the backslash and the control characters of JSON; and `"`, `&`, `'`, `<` and `>`.
abbrev pub is_special : Form → (byte : ℕ) → Bool
is_special Line byte = byte == 10 || byte == 13
is_special Json byte = byte == 34 || (byte == 92 || nat_lt byte 32)
is_special Markup byte = byte == 34 || (byte == 38 || (byte == 39 || (byte == 60 || byte == 62)))

-- what may be written for one of them: in JSON `\u` goes on with four digits
abbrev pub is_escape : Form → (text : List ℕ) → Bool
is_escape Line text = false
is_escape Json text = bytes_eq text (codes "\\\"") || (bytes_eq text (codes "\\\\") || bytes_eq text (codes "\\u"))
is_escape Markup text = bytes_eq text (codes "&quot;") || (bytes_eq text (codes "&amp;") || (bytes_eq text (codes "&#39;")
    || (bytes_eq text (codes "&lt;") || bytes_eq text (codes "&gt;"))))

-- a text as it is written: a special byte stands only in an escape
pub data IsSafe (form : Form) : (text : List ℕ) → Type 0 where
  nothing : IsSafe form []
  itself : (byte : ℕ) (rest : List ℕ) → is_special form byte ≡ false → IsSafe form rest → IsSafe form (byte ∷ rest)
  escape : (one rest : List ℕ) → is_escape form one ≡ true → IsSafe form rest → IsSafe form (one ++ rest)

-- ---- pieces

-- words of the program; a text; or the message of a finding
pub data PieceValue : Type 0 where
  fixed : List ℕ → PieceValue
  text : PieceValue
  message : List ℕ → PieceValue

-- what a contract sees of a piece
abbrev pub piece_value : Piece → PieceValue
piece_value (Variants.Fixed words) = fixed words.now
piece_value (Variants.Text any) = text
piece_value (Variants.Message any) = message any.now
piece_value (Variants.Address any) = text
piece_value (Variants.Number count) = text

-- the words of the program are written as they are, and each text and each message safely
abbrev pub IsShown : Form → PieceValue → (shown : List ℕ) → Type 0
IsShown form (fixed words) shown = shown ≡ words
IsShown form text shown = IsSafe form shown
IsShown form (message any) shown = IsSafe form shown

-- the law: so is each piece, one after the other
abbrev pub IsWritten : Form → List PieceValue → (whole : List ℕ) → Type 0
IsWritten form [] whole = whole ≡ []
IsWritten form (one ∷ pieces) whole = (shown : List ℕ) × (rest : List ℕ) × IsShown form one shown × IsWritten form pieces rest
    × (whole ≡ shown ++ rest)

-- ---- messages

abbrev pub message_in : PieceValue → List (List ℕ)
message_in (fixed any) = []
message_in text = []
message_in (message any) = any ∷ []

-- the messages that pieces have, in their order
abbrev pub messages_in : List PieceValue → List (List ℕ)
messages_in pieces = flat_map message_in pieces

-- the message of a finding
abbrev pub message_of : Finding → List ℕ
message_of finding = finding.message.items
