-- One span of a list is replaced by a span with the same end: this end is the same at each place before and after.
use Rattle.std.proofs.Common.{◌≡◌, ◌≢◌, ℕ, zero, suc, ◌<◌, List, [], ◌∷◌, set, get_or, length, ap, refl, arith}
use Rattle.std.proofs.lemmas.List.{get_or-set_other, get_or_default, length-set}
use Rattle.semver_cuts.specs.declared.cut.Cut.{Cut}
use Rattle.semver_cuts.specs.declared.cut.Cut.TheVariants.{Start, End}
use Rattle.semver_cuts.specs.Ends.{Ends, span_between}
use Rattle.semver_cuts.specs.Places.{span_at}

module _ {T : Type 0} (end : Ends T → Cut T) where
  -- an end of the span at a place of the list, for any default
  pub end-at : (spans : List (Ends T)) (k : ℕ) (d : Ends T) → k < length spans
      → end (get_or spans k d) ≡ end (span_at spans k)
  end-at spans k d low = ap end (get_or_default spans k d (span_between Start End) low)

  -- the span at another place is replaced
  pub end-unset : (spans : List (Ends T)) (i k : ℕ) (span : Ends T) → k ≢ i
      → end (span_at (set spans i span) k) ≡ end (span_at spans k)
  end-unset spans i k span apart = ap end (get_or-set_other spans i k span (span_between Start End) apart)

  -- the new span has the same end
  pub end-kept : (spans : List (Ends T)) (i k : ℕ) (span d : Ends T) → i < length spans
      → end span ≡ end (get_or spans i d) → end (span_at (set spans i span) k) ≡ end (span_at spans k)
  end-kept [] i k span d low e = absurd (omega arith)
  end-kept (s ∷ spans) zero zero span d low e = e
  end-kept (s ∷ spans) zero (suc k) span d low e = refl
  end-kept (s ∷ spans) (suc i) zero span d low e = refl
  end-kept (s ∷ spans) (suc i) (suc k) span d low e = end-kept spans i k span d (omega arith) e

  -- the end at a place of the new list, for any default
  pub end-read : (spans : List (Ends T)) (i k : ℕ) (span d e : Ends T) → i < length spans → k < length spans
      → end span ≡ end (get_or spans i d) → end (get_or (set spans i span) k e) ≡ end (span_at spans k)
  end-read spans i k span d e low within kept = grind (arith, end-at, length-set, end-kept)
