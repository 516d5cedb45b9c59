-- The spans are those of the versions so far, and none of these has a fault.
use Rattle.std.proofs.Common.{◌≡◌, ◌++◌, ℕ, List, drop}
use Rattle.serde_json.specs.View.{items_view}
use Rattle.node_semver.specs.Ranges.{AnyByRecursion}
use Rattle.npm_advisories.specs.Faults.{first_fault}
use Rattle.npm_advisories.specs.OsvFaults.{version_text_fault}
use Rattle.npm_advisories.specs.OsvForm.{texts_of}
use Rattle.npm_advisories.specs.OsvRanges.{IsTextOfSame}
use Rattle.npm_advisories.specs.Lemmas.Spans.{Have}
use Rattle.npm_advisories.proofs.osv.affected.spans_of_versions.Given as goal

abbrev pub invariant-loop-value : goal.invariant-loop-value
invariant-loop-value l = record {
  front : List (List ℕ);
  have : Have l.spans.items (λ v. AnyByRecursion (λ text. IsTextOfSame text v) front);
  rest : texts_of (items_view l.versions) ≡ front ++ texts_of (items_view (drop l.value-index l.versions));
  fault : first_fault version_text_fault (items_view l.versions)
      ≡ first_fault version_text_fault (items_view (drop l.value-index l.versions));
}
