use Rattle.std.proofs.Common.{◌≡◌, ◌+◌, ◌<◌, ◌∷◌, arith, drop, length, subst, sym, true, ◌∙◌}
use Rattle.semver_cuts.specs.Ends.{span_between}
use Rattle.semver_cuts.proofs.Joining.JoinedPlaces.{low-pair, low-place, merged-at, merged-by, within-at}
use Rattle.semver_cuts.proofs.algebra.merged.MergedSpans.ends.Goals as goal

pub returns-else-is_empty : goal.returns-else-is_empty
returns-else-is_empty g c =
    rw (← c.self.view_is) (merged-at g.T.Ord.cmp c.self.inside.spans.now c.self.inside.places.now c.args.number
    (subst (λ m. c.args.number < length m.merged) (sym c.self.view_is) c.requires)
    (sym c.is_empty.ensures ∙ c.if-is_empty.false) (0, 0)
    (span_between c.ends_between.result.0.now c.ends_between.result.1.now) c.ends_between.ensures)

pub ends_at-requires : goal.ends_at-requires
ends_at-requires g c =
    low-place g.T.Ord.cmp c.self.inside.spans.now c.self.inside.places.now c.args.number
    (subst (λ m. c.args.number < length m.merged) (sym c.self.view_is) c.requires)
    (sym c.is_empty.ensures ∙ c.if-is_empty.true)

pub bounds-self-inside-number : goal.bounds-self-inside-number
bounds-self-inside-number g c =
    low-pair g.T.Ord.cmp c.self.inside.spans.now c.self.inside.places.now c.args.number
    (subst (λ m. c.args.number < length m.merged) (sym c.self.view_is) c.requires)
    (sym c.is_empty.ensures ∙ c.if-is_empty.false)

pub ends_between-requires : goal.ends_between-requires
ends_between-requires g c =
    within-at g.T.Ord.cmp c.self.inside.spans.now c.self.inside.places.now c.args.number (0, 0) c.self.invariant.within
    (low-pair g.T.Ord.cmp c.self.inside.spans.now c.self.inside.places.now c.args.number
    (subst (λ m. c.args.number < length m.merged) (sym c.self.view_is) c.requires)
    (sym c.is_empty.ensures ∙ c.if-is_empty.false))

pub returns-then-is_empty : goal.returns-then-is_empty
returns-then-is_empty g c =
    let span = span_between c.ends_at.result.0.now c.ends_at.result.1.now in
    rw (← c.self.view_is) (subst (λ l. drop c.args.number l ≡ span ∷ drop (c.args.number + 1) l)
    (sym (merged-by g.T.Ord.cmp c.self.inside.spans.now c.self.inside.places.now true
    (sym c.is_empty.ensures ∙ c.if-is_empty.true))) c.ends_at.ensures)

pub offset_bounds-self-inside-number : goal.offset_bounds-self-inside-number
offset_bounds-self-inside-number g c =
    omega (
      arith,
      low-pair g.T.Ord.cmp c.self.inside.spans.now c.self.inside.places.now c.args.number
          (subst (λ m. c.args.number < length m.merged) (sym c.self.view_is) c.requires)
          (sym c.is_empty.ensures ∙ c.if-is_empty.false),
    )
