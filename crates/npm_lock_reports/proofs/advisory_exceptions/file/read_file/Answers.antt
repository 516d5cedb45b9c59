-- What was read is not in UTF-8, or it is a text that is refused.
use Rattle.std.proofs.Common.{◌≡◌, ℕ, List, IsUtf8, None, rules}
use Rattle.std.specs.Io.{appended_bytes}
use Rattle.std.specs.Io.KnownBytes.{IsAtEnd}
use Rattle.command_lines.specs.Inputs.{IsWholeInput}
use Rattle.npm_lock_reports.proofs.PlacingItems.{refused_file}
use Rattle.npm_lock_reports.proofs.advisory_exceptions.file.read_file.Goals as goal

pub returns-in-Err-from_utf8-clause-refused : goal.returns-in-Err-from_utf8-clause-refused
returns-in-Err-from_utf8-clause-refused g c =
    let unread : ¬ IsUtf8 (appended_bytes c.new-bytes.result.items c.read_to_end.new.bytes.items) = search rules in
    let unfailed : c.read_to_end.new.self.failure ≡ None = search rules in
    let ended : IsAtEnd (g.R.Read.remaining c.read_to_end.new.self.inner) = search rules in
    record {
      bytes = appended_bytes c.new-bytes.result.items c.read_to_end.new.bytes.items;
      taken = c.read_to_end.ensures.taken;
      ended = ended;
      unfailed = unfailed;
      such = unread;
    }

pub returns-clause-refused : goal.returns-clause-refused
returns-clause-refused g c =
    let text : List ℕ = c.as_str.result.now in
    let same : appended_bytes c.new-bytes.result.items c.read_to_end.new.bytes.items ≡ text = search rules in
    let utf8 : IsUtf8 text = c.as_str.utf8 in
    let unfailed : c.read_to_end.new.self.failure ≡ None = search rules in
    let ended : IsAtEnd (g.R.Read.remaining c.read_to_end.new.self.inner) = search rules in
    let whole : (Such : List ℕ → Type 0) → Such text
    → IsWholeInput g.R.Read.remaining c.args.reader.now c.read_to_end.new.self Such = λ Such such. record {
      bytes = text;
      taken = rw (← same) c.read_to_end.ensures.taken;
      ended = ended;
      unfailed = unfailed;
      such = such;
    } in
    refused_file g.R.Read.remaining c.args.reader.now c.read_to_end.new.self text c.in-Err-read_exceptions.error whole utf8
    c.in-Err-read_exceptions.ensures.refused
