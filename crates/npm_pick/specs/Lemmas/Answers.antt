-- What holds of the result of a pick if no allocation failed.
use Rattle.std.proofs.Common.{◌≢◌, Result, Ok, Err, inl, inr}
use Rattle.npm_pick.specs.Pick.{IsAnswer, PickedValue}
use Rattle.npm_pick.specs.declared.error.PickError.{PickError}
use Rattle.npm_pick.specs.declared.error.PickError.TheVariants as Errors

-- if a version is picked, no allocation has failed
pub is_picked : (Holds : Result PickedValue PickError → Type 0) (version : PickedValue)
    → IsAnswer Holds (Ok version) → Holds (Ok version)
is_picked Holds version (inl is) = cc is
is_picked Holds version (inr holds) = holds

-- and no other error is
pub is_unpicked : (Holds : Result PickedValue PickError → Type 0) (error : PickError) → error ≢ Errors.Memory
    → IsAnswer Holds (Err error) → Holds (Err error)
is_unpicked Holds error other (inl is) = absurd (other (cc is))
is_unpicked Holds error other (inr holds) = holds
