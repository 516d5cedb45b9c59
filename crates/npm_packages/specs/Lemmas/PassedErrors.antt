-- An error that is passed on, in place of another value.
use Rattle.std.proofs.Common.{◌≡◌, ◌↔◌, Err, ap}
use Rattle.std.specs.Result.{IsErrOf}

-- it is the same error
pub passed_on : {T S E : Type 0} (one other : E) → IsErrOf {T = T} (Err one) other → IsErrOf {T = S} (Err one) other
passed_on one other is = let same : one ≡ other = cc is in ap Err same

-- what it is told for stays
pub told_as : {T S E F : Type 0} (error : E) (of_fault : F → E) (Holds : F → Type 0)
    → ((fault : F) → IsErrOf {T = T} (Err error) (of_fault fault) ↔ Holds fault)
    → (fault : F) → IsErrOf {T = S} (Err error) (of_fault fault) ↔ Holds fault
told_as error of_fault Holds told fault = (
  (λ is. (told fault).0 (passed_on error (of_fault fault) is)),
  (λ holds. passed_on error (of_fault fault) ((told fault).1 holds)),
)
