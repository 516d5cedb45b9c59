use Rattle.std.proofs.Common.{◌≡◌, ◌==◌, [], ap, length, subst, sym, true, ◌∙◌}
use mathlib.Core.Bool.{true≢false}
use Rattle.std.proofs.lemmas.Result.{IfOk-weaker}
use Rattle.semver_cuts.specs.Joined.{AreJoined}
use Rattle.semver_cuts.specs.Places.{IsPlacesOf, merged_spans}
use Rattle.semver_cuts.proofs.Joining.JoinedPlaces.{merged-by}
use Rattle.semver_cuts.proofs.algebra.joined.join.Goals as goal

pub returns-then-is_empty : goal.returns-then-is_empty
returns-then-is_empty g c =
    let spans = c.args.spans.items in
    let places = c.in_ok-places.places in
    subst (AreJoined g.T.Ord.cmp spans)
    (merged-by g.T.Ord.cmp spans places true
    (ap (λ l. length l == 0) (sym c.as_slice.ensures) ∙ sym c.is_empty.ensures ∙ c.if-is_empty.true))
    (subst (λ l. IsPlacesOf g.T.Ord.cmp l places) c.deref.ensures.value c.in_ok-places.ensures).joined

pub taken_at-requires-clause-places : goal.taken_at-requires-clause-places
taken_at-requires-clause-places g c =
    subst (IsPlacesOf g.T.Ord.cmp c.deref_mut.result.now) (sym c.as_slice-2.ensures)
    (subst (λ l. IsPlacesOf g.T.Ord.cmp l c.in_ok-places.places) (c.deref.ensures.value ∙ sym c.deref_mut.ensures.value)
    c.in_ok-places.ensures)

pub taken_at-requires-clause-some : goal.taken_at-requires-clause-some
taken_at-requires-clause-some g c = λ none.
    let empty : c.as_slice.result.now ≡ [] = c.as_slice.ensures ∙ sym c.as_slice-2.ensures ∙ none in
    true≢false (sym (ap (λ l. length l == 0) empty) ∙ sym c.is_empty.ensures ∙ c.if-is_empty.false)

pub returns : goal.returns
returns g c =
    let spans = c.args.spans.items in
    let places = c.in_ok-places.places in
    let are = (subst (λ l. IsPlacesOf g.T.Ord.cmp l places) c.deref.ensures.value c.in_ok-places.ensures).joined in
    IfOk-weaker c.taken_at.result _ _
    (λ joined e. subst (AreJoined g.T.Ord.cmp spans)
    (sym (e ∙ (λ i. merged_spans (c.deref_mut.ensures.value i) (c.as_slice-2.ensures i)))) are)
    c.taken_at.ensures
