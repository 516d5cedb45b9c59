-- A span of cuts, given by its two ends, and the cuts that lie in it.
use Rattle.std.specs.Prelude.{◌≡◌, ◌⊎◌, Bool}
use Rattle.std.specs.Ordering.{eq_by_cmp, eq_of_both, on}
use Rattle.std.specs.declared.cmp.Ordering.{Ordering}
use Rattle.std.specs.declared.cmp.Ordering.TheVariants.{Less, Equal}
use Rattle.semver_cuts.specs.declared.cut.Cut.{Cut}
use Rattle.semver_cuts.specs.Cut.{cut_cmp}

-- where a span begins and where it ends: `Before 3` and `After 5`, for 3, 5 and the values between them
pub record Ends (T : Type 0) : Type 0 where
  pub lower : Cut T
  pub upper : Cut T

-- the span from one cut up to another
abbrev pub span_between : {T : Type 0} → Cut T → Cut T → Ends T
span_between lower upper = record { lower = lower; upper = upper }

-- the first cut is less than the second: `Before 3` is less than `After 3`
abbrev pub IsCutBelow : {T : Type 0} → (T → T → Ordering) → Cut T → Cut T → Type 0
IsCutBelow cmp c d = cut_cmp cmp c d ≡ Less

-- the first cut is less than the second or equal to it: `Before 3` is at most `Before 3`
abbrev pub IsCutAtMost : {T : Type 0} → (T → T → Ordering) → Cut T → Cut T → Type 0
IsCutAtMost cmp c d = (cut_cmp cmp c d ≡ Less) ⊎ (cut_cmp cmp c d ≡ Equal)

-- a cut lies in a span from the lower end up to but not including the upper: `Before 5` in `Before 3` to `After 5`
pub record IsInSpan {T : Type 0} (cmp : T → T → Ordering) (span : Ends T) (cut : Cut T) : Type 0 where
  pub lower : IsCutAtMost cmp span.lower cut
  pub upper : IsCutBelow cmp cut span.upper

-- some cut lies in the span: `Before 3` lies in `Before 3` to `After 3`, and no cut lies in `After 3` to `Before 3`
abbrev pub HoldsCut : {T : Type 0} → (T → T → Ordering) → Ends T → Type 0
HoldsCut {T} cmp span = (cut : Cut T) × IsInSpan cmp span cut

-- two spans have equal lower ends and equal upper ends, even if the values in them can be told apart in another way
pub record AreSameEnds {T : Type 0} (cmp : T → T → Ordering) (one other : Ends T) : Type 0 where
  pub lower : cut_cmp cmp one.lower other.lower ≡ Equal
  pub upper : cut_cmp cmp one.upper other.upper ≡ Equal

-- `true` if two spans have equal lower ends and equal upper ends: what `==` returns
abbrev pub are_same_ends : {T : Type 0} → (T → T → Ordering) → Ends T → Ends T → Bool
are_same_ends {T} cmp = eq_of_both (on (λ (span : Ends T). span.lower) (eq_by_cmp (cut_cmp cmp)))
    (on (λ (span : Ends T). span.upper) (eq_by_cmp (cut_cmp cmp)))
