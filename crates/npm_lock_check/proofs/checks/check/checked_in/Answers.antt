-- The input was read, and a value was refused, or memory ran out, or this is the report.
use Rattle.std.proofs.Common.{refl, string_bytes}
use Rattle.std.specs.Fn.{FnOnceReturnsAt}
use Rattle.serde_json.specs.View.{view}
use Rattle.npm_manifest_files.specs.Linked.{loaded_value}
use Rattle.npm_lock_check.specs.Report.{wanted_value}
use Rattle.npm_lock_check.proofs.Stopping.{input_of, out, refused}
use Rattle.npm_lock_check.proofs.checks.check.checked_in.Goals as goal

pub returns-clause-refused : goal.returns-clause-refused
returns-clause-refused g c =
    refused g.R.Read.remaining c.args.reader.now c.read_json_with_text.new.reader (FnOnceReturnsAt g.F.FnOnce c.args.load)
    (wanted_value c.args.wanted) c.in-Ok.read.0 (loaded_value c.in-Ok-load_compared.loaded)
    (input_of g.R.Read.remaining c.args.reader.now c.read_json_with_text.new.reader (string_bytes c.in-Ok.read.1)
    (view c.in-Ok.read.0) c.in-Ok.ensures.value) c.in-Ok-load_compared.ensures.found
    c.in-Err-report_of.error (rw c.in-Ok-as_read.ensures at c.in-Err-report_of.ensures.refused)

pub returns-in-Ok-report_of-clause-found : goal.returns-in-Ok-report_of-clause-found
returns-in-Ok-report_of-clause-found g c =
    let made = c.in-Ok-report_of.ensures.found in (
      made.0,
      record {
        lock = c.in-Ok.read.0;
        loaded = loaded_value c.in-Ok-load_compared.loaded;
        input = input_of g.R.Read.remaining c.args.reader.now c.read_json_with_text.new.reader (string_bytes c.in-Ok.read.1)
            (view c.in-Ok.read.0) c.in-Ok.ensures.value;
        given = c.in-Ok-load_compared.ensures.found;
        report_of = rw c.in-Ok-as_read.ensures at made.1;
        written = made.2;
      },
    )

pub returns-in_default-clause-refused : goal.returns-in_default-clause-refused
returns-in_default-clause-refused g c =
    out g.R.Read.remaining c.args.reader.now c.read_json_with_text.new.reader (FnOnceReturnsAt g.F.FnOnce c.args.load)
    (wanted_value c.args.wanted) c.in-Ok.read.0 (loaded_value c.in-Ok-load_compared.loaded)
    (input_of g.R.Read.remaining c.args.reader.now c.read_json_with_text.new.reader (string_bytes c.in-Ok.read.1)
    (view c.in-Ok.read.0) c.in-Ok.ensures.value) c.in-Ok-load_compared.ensures.found _ refl
