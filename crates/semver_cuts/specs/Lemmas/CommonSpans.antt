-- The intersection of two lists of spans: its cuts, its ends, and from which two spans each of its spans comes.
use native.Mathlib.Omega.{arith}
use Rattle.std.specs.Prelude.{◌≡◌, ◌≢◌, ◌↔◌, List, [], ◌∷◌, refl}
use mathlib.Core.Logic.{inl}
use Rattle.std.specs.declared.cmp.Ordering.{Ordering}
use Rattle.std.specs.Cmp.{IsTotalOrder}
use Rattle.std.specs.List.{AllByRecursion}
use Rattle.semver_cuts.specs.declared.cut.Cut.{Cut}
use Rattle.semver_cuts.specs.Ends.{Ends, HoldsCut, IsInSpan}
use Rattle.semver_cuts.specs.SpanLists.{AnyByRecursion, IsInSome}
use Rattle.semver_cuts.specs.CommonSpans.{common_ends, common_of, common_spans}
use Rattle.semver_cuts.specs.Sharing.{HaveCommonCut, ShareCut}
use Rattle.semver_cuts.specs.Lemmas.InSome.{none_held}
use Rattle.semver_cuts.specs.Lemmas.Lists.{all-always, all-flat_map, all_map, any-flat_map, any-found, any-map}
use Rattle.semver_cuts.specs.Lemmas.Lists.{flat_map-any}
use Rattle.semver_cuts.specs.Lemmas.TwoSpans.{common_ends-cuts, common_ends-hold, common_of-cases, greater-is}
use Rattle.semver_cuts.specs.Lemmas.TwoSpans.{holds-below}
use Rattle.semver_cuts.specs.Lemmas.TwoSpans.{lesser-is}

module _ {T : Type 0} {cmp : T → T → Ordering} (o : IsTotalOrder cmp) where
  -- ---- each of the common spans

  -- a fact of the common ends of each two spans that share a cut is a fact of each common span
  pub common_spans-each : (P P' Q : Ends T → Type 0)
      → ((one other : Ends T) → P one → P' other → HaveCommonCut cmp one other → Q (common_ends cmp one other))
      → (ones others : List (Ends T)) → AllByRecursion P ones → AllByRecursion P' others
      → AllByRecursion Q (common_spans cmp ones others)
  common_spans-each P P' Q from ones others all all' = all-flat_map _ Q ones
      (all_map P _ (λ one p. all-flat_map (common_of cmp one) Q others
      (all_map P' _ (λ other p'. common_of-cases o one other (AllByRecursion Q)
      (λ shared. (from one other p p' shared, tt)) (λ apart. tt)) others all')) ones all)

  -- each common span holds a cut
  pub common_spans-hold : (ones others : List (Ends T)) → AllByRecursion (HoldsCut cmp) (common_spans cmp ones others)
  common_spans-hold ones others = common_spans-each (λ one. Unit {0}) (λ other. Unit {0}) (HoldsCut cmp)
      (λ one other p p' shared. (holds-below o (common_ends cmp one other)).1 ((common_ends-hold o one other).0 shared))
      ones others (all-always _ (λ one. tt) ones) (all-always _ (λ one. tt) others)

  -- a fact of all lower ends, and one of all upper ends, are facts of those of the common spans
  pub common_spans-ends : (Lower Upper : Cut T → Type 0) (ones others : List (Ends T))
      → AllByRecursion (λ (span : Ends T). Lower span.lower × Upper span.upper) ones
      → AllByRecursion (λ (span : Ends T). Lower span.lower × Upper span.upper) others
      → AllByRecursion (λ (span : Ends T). Lower span.lower × Upper span.upper) (common_spans cmp ones others)
  common_spans-ends Lower Upper ones others all all' = common_spans-each _ _ _
      (λ one other p p' shared. (
        greater-is o Lower one.lower other.lower (λ h. p.0) (λ h. p'.0),
        lesser-is o Upper
            one.upper other.upper (λ h. p'.1) (λ h. p.1),
      )) ones others all all'

  -- ---- some of the common spans

  module _ (Q : Ends T → Type 0) where
    abbrev IsFrom : Ends T → Ends T → Type 0
    IsFrom one other = HaveCommonCut cmp one other × Q (common_ends cmp one other)

    some-of : (one other : Ends T) → AnyByRecursion Q (common_of cmp one other) ↔ IsFrom one other
    some-of one other = common_of-cases o one other (λ spans. AnyByRecursion Q spans ↔ IsFrom one other)
        (λ shared. grind arith) (λ apart. grind arith)

    -- a fact of the common ends of some two spans that share a cut is a fact of some common span
    pub common_spans-some : (ones others : List (Ends T)) → AnyByRecursion Q (common_spans cmp ones others)
        ↔ AnyByRecursion (λ (one : Ends T). AnyByRecursion (λ (other : Ends T).
        HaveCommonCut cmp one other × Q (common_ends cmp one other)) others) ones
    common_spans-some ones others = (
      λ some. any-map _ _ (λ one with. any-map _ (IsFrom one) (λ other is. (some-of one other).0 is) others
          (any-flat_map (common_of cmp one) Q others with)) ones (any-flat_map _ Q ones some),
      λ from. flat_map-any _ Q ones (any-map _ _ (λ one some. flat_map-any (common_of cmp one) Q others
          (any-map (IsFrom one) _ (λ other is. (some-of one other).1 is) others some)) ones from),
    )

  -- ---- cuts

  -- a cut lies in one of the common spans exactly if it lies in a span of each list
  pub common_spans-cuts : (ones others : List (Ends T)) (cut : Cut T)
      → IsInSome cmp (common_spans cmp ones others) cut ↔ (IsInSome cmp ones cut × IsInSome cmp others cut)
  common_spans-cuts ones others cut =
      let law = common_spans-some (λ span. IsInSpan cmp span cut) ones others in
      let both = λ (one other : Ends T). common_ends-cuts o one other cut in (
        λ is.
            let one = any-found _ ones (law.0 is) in
            let other = any-found _ others one.1 in (
              any-map _ _ (λ one from. let other = any-found _ others from in ((both one other.0).0 other.1.1).0) ones
                  (law.0 is),
              any-map _ _ (λ other from. ((both one.0 other).0 from.1).1) others one.1,
            ),
        λ is. law.1 (any-map _ _ (λ one here. any-map _ _
            (λ other there. ((cut, here, there), (both one other).1 (here, there))) others is.1) ones is.0),
      )

  -- ---- no common span

  some-held : (spans : List (Ends T)) → AllByRecursion (HoldsCut cmp) spans → spans ≢ []
      → (cut : Cut T) × IsInSome cmp spans cut
  some-held [] held some = absurd (some refl)
  some-held (span ∷ spans) held some = (held.0.0, inl held.0.1)

  -- there is no common span if no cut lies in a span of each list
  pub common_spans-none : (ones others : List (Ends T))
      → (common_spans cmp ones others ≡ []) ↔ (¬ ShareCut cmp ones others)
  common_spans-none ones others = (
    λ none shared. grind (arith, common_spans-cuts ones others shared.0),
    λ apart.
        none_held cmp _ (common_spans-hold ones others) (λ cut is. grind (arith, common_spans-cuts ones others cut)),
  )

  -- and there is one if some cut does
  pub common_spans-any : (ones others : List (Ends T))
      → (common_spans cmp ones others ≢ []) ↔ ShareCut cmp ones others
  common_spans-any ones others = (
    λ some. let held = some-held _ (common_spans-hold ones others) some in let both =
        (common_spans-cuts ones others held.0).0 held.1 in (held.0, both.0, both.1),
    λ shared none.
        (common_spans-none ones others).0 none shared,
  )
