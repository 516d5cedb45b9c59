-- Equal cuts, and equal spans, feed a hasher the same, if equal values do.
use native.Mathlib.Omega.{arith}
use Rattle.std.specs.Prelude.{◌≡◌, true, ◌++◌}
use Rattle.std.specs.declared.cmp.Ordering.{Ordering}
use Rattle.std.specs.Cmp.{first_so, second_so}
use Rattle.std.specs.Hash.{HashWrites}
use Rattle.std.specs.Ordering.{eq_by_cmp}
use Rattle.semver_cuts.specs.declared.cut.Cut.{Cut}
use Rattle.semver_cuts.specs.Cut.{cut_cmp}
use Rattle.semver_cuts.specs.Ends.{Ends, are_same_ends}
use Rattle.semver_cuts.specs.Hash.{cut_writes, span_writes}

module _ {T : Type 0} (cmp : T → T → Ordering) {writes : T → HashWrites}
    (alike : (v w : T) → eq_by_cmp cmp v w ≡ true → writes v ≡ writes w) where
  -- equal cuts feed a hasher the same
  pub cut_alike : (c d : Cut T) → eq_by_cmp (cut_cmp cmp) c d ≡ true → cut_writes writes c ≡ cut_writes writes d
  cut_alike c d e = grind arith

  -- and equal spans do
  pub span_alike : (s t : Ends T) → are_same_ends cmp s t ≡ true → span_writes writes s ≡ span_writes writes t
  span_alike s t e = λ i. cut_alike s.lower t.lower (first_so _ _ e) i ++ cut_alike s.upper t.upper (second_so _ _ e) i
