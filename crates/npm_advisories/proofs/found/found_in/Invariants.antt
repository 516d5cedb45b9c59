-- What was found so far is found of the packages so far.
use Rattle.std.proofs.Common.{List, map, take}
use Rattle.npm_advisories.specs.Advisories.{AdvisoryValue}
use Rattle.npm_advisories.specs.Audit.{IsAudit, found_value, installed_value, names_of}
use Rattle.npm_advisories.specs.Files.{is_among}
use Rattle.npm_advisories.specs.Index.{IsIndex}
use Rattle.npm_advisories.specs.Private.Unions.{AreUnions}
use Rattle.npm_advisories.proofs.found.found_in.Given as goal

abbrev pub invariant-loop-one : goal.invariant-loop-one
invariant-loop-one l = record {
  unions : AreUnions l.index l.unions;
  found : (values : List AdvisoryValue) → IsIndex (is_among (names_of (map installed_value l.installed))) values l.index
      → IsAudit l.level values (map installed_value (take l.one-index l.installed)) (map found_value l.all.items);
}
