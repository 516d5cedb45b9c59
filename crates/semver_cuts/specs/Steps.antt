-- The least value of a total order, and the next value after a value.
use Rattle.std.specs.Prelude.{◌≡◌}
use Rattle.std.specs.declared.cmp.Ordering.{Ordering}
use Rattle.std.specs.declared.cmp.Ordering.TheVariants.{Less}

-- the least value: no value is less. For whole numbers from 0 on, it is 0
pub record IsLeast {T : Type 0} (cmp : T → T → Ordering) (IsValue : T → Type 0) (least : T) : Type 0 where
  pub value : IsValue least
  pub none_below : (other : T) → IsValue other → ¬ (cmp other least ≡ Less)

-- the next value: greater than this one, with no value between the two. After 3 it is 4, for whole numbers
pub record IsNext {T : Type 0} (cmp : T → T → Ordering) (IsValue : T → Type 0) (this next : T) : Type 0 where
  pub value : IsValue next
  pub above : cmp this next ≡ Less
  pub none_between : (other : T) → IsValue other → cmp this other ≡ Less → ¬ (cmp other next ≡ Less)
