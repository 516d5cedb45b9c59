-- The laws of the order of cuts. No other order has all of them.
use Rattle.std.specs.Prelude.{◌≡◌, ◌≢◌}
use Rattle.std.specs.declared.cmp.Ordering.{Ordering}
use Rattle.std.specs.declared.cmp.Ordering.TheVariants.{Less, Equal}
use Rattle.std.specs.Cmp.{IsTotalOrder}
use Rattle.semver_cuts.specs.declared.cut.Cut.{Cut}
use Rattle.semver_cuts.specs.declared.cut.Cut.TheVariants.{Start, Before, After, End}

-- the order of cuts: `Start` first, `End` last, and the two cuts of a value between those of lesser and greater values
pub record IsOrderOfCuts {T : Type 0} (cmp : T → T → Ordering) (order : Cut T → Cut T → Ordering) : Type 0 where
  pub total : IsTotalOrder order
  pub start : (cut : Cut T) → cut ≢ Start → order Start cut ≡ Less
  pub end : (cut : Cut T) → cut ≢ End → order cut End ≡ Less
  pub sides : (v : T) → order (Before v) (After v) ≡ Less
  pub values : (v w : T) → cmp v w ≡ Less → order (After v) (Before w) ≡ Less
  pub before_same : (v w : T) → cmp v w ≡ Equal → order (Before v) (Before w) ≡ Equal
  pub after_same : (v w : T) → cmp v w ≡ Equal → order (After v) (After w) ≡ Equal

-- no cut lies between the two cuts of a value: none between `Before 3` and `After 3`
abbrev pub NoneBetween : {T : Type 0} → (Cut T → Cut T → Ordering) → T → Type 0
NoneBetween {T} order v = (cut : Cut T) → order (Before v) cut ≡ Less → ¬ (order cut (After v) ≡ Less)
