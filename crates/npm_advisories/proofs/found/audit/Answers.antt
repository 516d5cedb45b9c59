-- What holds of one test for version texts and of the names that were looked up holds of each such test.
use Rattle.std.proofs.Common.{map, rules}
use Rattle.serde_json.specs.View.{view}
use Rattle.npm_advisories.specs.Audit.{installed_value, names_of}
use Rattle.npm_advisories.specs.Index.{has_name}
use Rattle.npm_advisories.proofs.FileFaults.{audit-error, fault-each}
use Rattle.npm_advisories.proofs.found.audit.Goals as goal

pub returns-clause-sound : goal.returns-clause-sound
returns-clause-sound c =
    fault-each (names_of (map installed_value c.args.installed.now)) (has_name c.in_ok-names.names)
    c.in_ok-names.ensures c.args.today (view c.args.file.now) _ c.in_ok-index.ensures.sound

pub returns-in_err-index-clause-refused : goal.returns-in_err-index-clause-refused
returns-in_err-index-clause-refused c =
    let fault = audit-error (names_of (map installed_value c.args.installed.now)) (has_name c.in_ok-names.names)
    c.in_ok-names.ensures c.args.today (view c.args.file.now) c.in_err-index.field-0.0 c.in_err-index.ensures.refused in
    search (rules, fault)
