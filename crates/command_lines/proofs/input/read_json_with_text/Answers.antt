-- What was read has no mark, and is not in UTF-8; or it is no JSON text, or memory ran out.
use Rattle.std.proofs.Common.{◌≡◌, ◌≢◌, ◌∙◌, ◌<◌, [], ◌∷◌, ℕ, List, IsUtf8, None, Some, false, arith, length, rules, sym}
use Rattle.std.proofs.Common.{inl, inr}
use Rattle.std.specs.Prelude.{◌⊎◌}
use Rattle.std.specs.Io.{appended_bytes}
use Rattle.std.specs.Io.KnownBytes.{IsAtEnd}
use Rattle.serde_json.specs.Data.{Data}
use Rattle.command_lines.specs.Inputs.{IsTextOf, IsUnread, IsWholeInput, has_mark}
use Rattle.command_lines.specs.declared.input_error.InputError.{InputError}
use Rattle.command_lines.specs.declared.input_error.InputError.TheVariants.{Memory, NoJson}
use Rattle.command_lines.proofs.input.read_json_with_text.Goals as goal

-- a text with a byte is not empty
not_empty : (text : List ℕ) → 0 < length text → text ≢ []
not_empty [] small = absurd (omega (arith, small))
not_empty (byte ∷ text) small = λ is. cc is

-- either error says why
either : {M F : Type 0} (error : InputError)
    → ((error ≡ Memory) × M) ⊎ ((line column : ℕ) × (error ≡ NoJson line column) × F) → (Says : InputError → Type 0)
    → (M → Says Memory) → ((line column : ℕ) → F → Says (NoJson line column)) → Says error
either error (inl (is, memory)) Says one other = rw is (one memory)
either error (inr (line, column, is, fault)) Says one other = rw is (other line column fault)

no_text : {value : Data} → None ≡ Some value → ⊥
no_text is = cc is

pub returns-in-Err-clause-refused : goal.returns-in-Err-clause-refused
returns-in-Err-clause-refused g c =
    let unread : ¬ IsUtf8 (appended_bytes c.new-bytes.result.items c.read_to_end.new.bytes.items) = search rules in
    let unmarked : has_mark (appended_bytes c.new-bytes.result.items c.read_to_end.new.bytes.items) ≡ false =
    search (rules, c.starts_with.ensures, c.if-starts_with.false) in
    let unfailed : c.read_to_end.new.self.failure ≡ None = search rules in
    let ended : IsAtEnd (g.R.Read.remaining c.read_to_end.new.self.inner) = search rules in
    record {
      bytes = appended_bytes c.new-bytes.result.items c.read_to_end.new.bytes.items;
      taken = c.read_to_end.ensures.taken;
      ended = ended;
      unfailed = unfailed;
      such = (unmarked, unread);
    }

pub returns-in-Err-from_str-clause-refused : goal.returns-in-Err-from_str-clause-refused
returns-in-Err-from_str-clause-refused g c =
    let text : List ℕ = c.as_str.result.now in
    let same : appended_bytes c.new-bytes.result.items c.read_to_end.new.bytes.items ≡ text = search rules in
    let utf8 : IsUtf8 text = c.as_str.utf8 in
    let unmarked : has_mark text ≡ false =
    search (rules, same, c.starts_with.ensures, c.if-starts_with.false) in
    let unfailed : c.read_to_end.new.self.failure ≡ None = search rules in
    let ended : IsAtEnd (g.R.Read.remaining c.read_to_end.new.self.inner) = search rules in
    let whole : (Such : List ℕ → Type 0) → Such text
    → IsWholeInput g.R.Read.remaining c.args.reader.now c.read_to_end.new.self Such = λ Such such. record {
      bytes = text;
      taken = rw (← same) c.read_to_end.ensures.taken;
      ended = ended;
      unfailed = unfailed;
      such = such;
    } in
    either c.json_error.result c.json_error.ensures (IsUnread g.R.Read.remaining c.args.reader.now c.read_to_end.new.self)
    (λ memory. inr (whole (λ bytes. IsUtf8 bytes × (bytes ≢ []))
    (utf8, not_empty text (rw c.in-Err-from_str.is at c.from_str.ensures.memory memory))))
    (λ line column fault. whole
    (λ bytes. (has_mark bytes ≡ false) × IsUtf8 bytes × ((value : Data) → ¬ IsTextOf bytes value))
    (unmarked, utf8, λ value is. no_text (sym (rw c.in-Err-from_str.is at c.from_str.ensures.err fault) ∙ is.1)))
