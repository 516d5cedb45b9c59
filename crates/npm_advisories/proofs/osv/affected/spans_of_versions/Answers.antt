-- The span of one version more, or none, or it is at fault.
use Rattle.std.proofs.Common.{◌≡◌, ◌∙◌, ◌++◌, ◌∷◌, [], Some, None, ap, append-nil, refl, rules, sym}
use Rattle.std.specs.Option.{option_map_or}
use Rattle.serde_json.specs.Find.{as_str}
use Rattle.serde_json.specs.View.{items_view, view}
use Rattle.npm_advisories.specs.Faults.{first_fault}
use Rattle.npm_advisories.specs.OsvFaults.{version_text_fault}
use Rattle.npm_advisories.specs.OsvForm.{texts_of}
use Rattle.npm_advisories.specs.OsvRanges.{IsTextOfSame}
use Rattle.npm_advisories.specs.Lemmas.Spans.{have-more, have-none}
use Rattle.npm_advisories.specs.Lemmas.Items.{fault-found, fault-passed, read-ended, read-passed}
use Rattle.npm_advisories.specs.declared.fault.FaultKind.TheVariants.{VersionText}
use Rattle.npm_advisories.specs.declared.fault.Unread.TheVariants.{Refused}
use Rattle.npm_advisories.proofs.osv.affected.spans_of_versions.Goals as goal
use Rattle.npm_advisories.proofs.osv.affected.spans_of_versions.Goals.{in-Some-2+in_ok-push_span, in_default-2}

pub loop-value-init : goal.loop-value-init
loop-value-init c = record {
  front = [];
  have = rw c.new-spans.ensures.items (have-none (λ text v. IsTextOfSame text v));
  rest = refl;
  fault = refl;
}

pub loop-value-preserved : goal.loop-value-preserved
loop-value-preserved c =
    let text = c.in-Some.text.now in
    let some : as_str (view c.value-item.result) ≡ Some text = search rules in
    record {
      front = c.loop-value.invariant.front ++ text ∷ [];
      have = elim c.match-branch-2.branch [
        | in-Some-2+in_ok-push_span w ↦
            have-more (λ t v. IsTextOfSame t v) c.loop-value.invariant.front (text ∷ []) c.loop-value.spans.items
            (w.in-Some-2.span ∷ []) c.match-branch-2.spans.items
            (ap (λ v. v.items) w.spans-is ∙ w.in_ok-push_span.ensures) c.loop-value.invariant.have
            (rw w.in-Some-2.is at c.in_ok-span.ensures)
        | in_default-2 w ↦
            have-more (λ t v. IsTextOfSame t v) c.loop-value.invariant.front (text ∷ []) c.loop-value.spans.items []
            c.match-branch-2.spans.items (ap (λ v. v.items) w.spans-is ∙ sym (append-nil c.loop-value.spans.items))
            c.loop-value.invariant.have (rw w.in_default-2.is at c.in_ok-span.ensures)
      ];
      rest = let more = read-passed c.args.versions.now c.loop-value.value-index c.value-item.result
          c.loop-value-test.true c.value-item.is texts_of (λ d. option_map_or (λ t. t ∷ []) (as_str d) [])
          (λ d others. refl) _ c.loop-value.invariant.front c.loop-value.invariant.rest in rw some at more;
      fault = fault-passed c.args.versions.now c.loop-value.value-index c.value-item.result c.loop-value-test.true
          c.value-item.is version_text_fault _ (rw some refl) c.loop-value.invariant.fault;
    }

pub returns-in_default-clause-refused : goal.returns-in_default-clause-refused
returns-in_default-clause-refused c =
    let none : as_str (view c.value-item.result) ≡ None = search rules in
    fault-found c.args.versions.now c.loop-value.value-index c.value-item.result c.loop-value-test.true c.value-item.is
    version_text_fault (first_fault version_text_fault (items_view c.args.versions.now)) (Refused VersionText)
    (rw none refl) c.loop-value.invariant.fault

pub returns-clause-read : goal.returns-clause-read
returns-clause-read c =
    let all = read-ended c.args.versions.now c.loop-value.value-index c.loop-value-test.false texts_of refl _
    c.loop-value.invariant.front c.loop-value.invariant.rest in
    rw all c.loop-value.invariant.have
