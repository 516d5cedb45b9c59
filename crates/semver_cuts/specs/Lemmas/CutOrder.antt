-- The order of cuts is a total order wherever the order of the values is.
use native.Mathlib.Omega.{arith}
use Rattle.std.specs.Prelude.{◌≡◌, ℕ}
use mathlib.Core.Path.{subst}
use Rattle.std.specs.declared.cmp.Ordering.{Ordering}
use Rattle.std.specs.declared.cmp.Ordering.TheVariants.{Equal}
use Rattle.std.specs.declared.option.Option.{Option}
use Rattle.std.specs.declared.option.Option.TheVariants.{Some, None}
use Rattle.std.specs.Option.{option_cmp}
use Rattle.std.specs.Ordering.{nat_cmp, on, flip_args, then_cmp}
use Rattle.std.specs.Cmp.{IsTotalOrder, on_total, then_total, back_total, nat_cmp_total}
use Rattle.std.specs.Cmp.Lexicographic.{options_total}
use Rattle.semver_cuts.specs.declared.cut.Cut.{Cut}
use Rattle.semver_cuts.specs.declared.cut.Cut.TheVariants.{Start, Before, After, End}
use Rattle.semver_cuts.specs.Cut.{cut_cmp}

-- a cut by what decides first: none at the start, then none at the end, then the value and the side
key : {T : Type 0} → Cut T → Option (Option (T × ℕ))
key Start = None
key (Before v) = Some (Some (v, 0))
key (After v) = Some (Some (v, 1))
key End = Some None

pair_cmp : {T : Type 0} → (T → T → Ordering) → T × ℕ → T × ℕ → Ordering
pair_cmp {T} cmp = then_cmp (on (λ (p : T × ℕ). p.0) cmp) (on (λ (p : T × ℕ). p.1) nat_cmp)

key_cmp : {T : Type 0} → (T → T → Ordering) → Option (Option (T × ℕ)) → Option (Option (T × ℕ)) → Ordering
key_cmp cmp = option_cmp (flip_args (option_cmp (flip_args (pair_cmp cmp))))

by_key : {T : Type 0} (cmp : T → T → Ordering) (c d : Cut T) → on key (key_cmp cmp) c d ≡ cut_cmp cmp c d
unfolding key key_cmp pair_cmp
by_key cmp c d = grind arith

pair_total : {T : Type 0} {cmp : T → T → Ordering} → IsTotalOrder cmp → IsTotalOrder (pair_cmp cmp)
unfolding pair_cmp
pair_total {T} o = then_total (on_total (λ (p : T × ℕ). p.0) o) (on_total (λ (p : T × ℕ). p.1) nat_cmp_total)

key_total : {T : Type 0} {cmp : T → T → Ordering} → IsTotalOrder cmp → IsTotalOrder (key_cmp cmp)
unfolding key_cmp
key_total o = options_total (back_total (options_total (back_total (pair_total o))))

-- the order of cuts is total
pub cut_total : {T : Type 0} {cmp : T → T → Ordering} → IsTotalOrder cmp → IsTotalOrder (cut_cmp cmp)
cut_total {T} {cmp} o = subst IsTotalOrder (λ i c d. by_key cmp c d i) (on_total key (key_total o))

-- equal cuts are of one kind: what holds of those of each kind holds of all
pub equal-by_kind : {T : Type 0} (cmp : T → T → Ordering) (P : Cut T → Cut T → Type 0) → P Start Start
    → ((v w : T) → cmp v w ≡ Equal → P (Before v) (Before w))
    → ((v w : T) → cmp v w ≡ Equal → P (After v) (After w))
    → P End End → (c d : Cut T) → cut_cmp cmp c d ≡ Equal → P c d
equal-by_kind cmp P h1 h2 h3 h4 c d h5 = grind arith
