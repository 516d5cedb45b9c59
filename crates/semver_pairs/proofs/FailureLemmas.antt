-- Which error a result tells, and what that says of the writer.
use Rattle.std.proofs.Common.{◌≡◌, ◌↔◌, Bool, true, false, Result, Ok, Err, IsErr, IsErrAnd, IfErr, OnOk, MatchResult}
use Rattle.std.proofs.Common.{ap, refl, subst, sym}
use Rattle.std.specs.Result.{IsErrOf}
use Rattle.std.proofs.lemmas.Bool.{false≢true}
use Rattle.semver_pairs.specs.declared.run_error.RunError.{RunError}
use Rattle.semver_pairs.specs.declared.run_error.RunError.TheVariants.{Endless, Memory, Read, Write}
use Rattle.semver_pairs.specs.Private.Answering.{ErrorTells, TellsFailure}

-- ---- one error is no other

-- the two errors are the same
abbrev pub is_same : RunError → RunError → Bool
is_same Read Read = true
is_same Write Write = true
is_same Memory Memory = true
is_same Endless Endless = true
is_same e other = false

same-itself : (e : RunError) → is_same e e ≡ true
same-itself Read = refl
same-itself Write = refl
same-itself Memory = refl
same-itself Endless = refl

pub no_other : {T P : Type 0} (e other : RunError) → is_same e other ≡ false → IsErrOf {T = T} (Err e) other → P
no_other e other differ is = let same : e ≡ other = cc is in cc (same-itself e, same, differ)

-- ---- what a result says of the writer

pub tells-write : {T Failed : Type 0} (r : Result T RunError) → TellsFailure r Failed → IsErrOf r Write ↔ Failed
tells-write (Ok x) tells = (λ is. cc is, λ failed. absurd (tells failed))
tells-write (Err Read) tells = absurd tells
tells-write (Err Write) tells = (λ is. tells, λ failed. refl)
tells-write (Err Memory) tells = (λ is. no_other Memory Write refl is, λ failed. absurd (tells failed))
tells-write (Err Endless) tells = absurd tells

pub tells-not_read : {T : Type 0} (Failed : Type 0) (r : Result T RunError) → TellsFailure r Failed → ¬ IsErrOf r Read
tells-not_read Failed (Ok x) tells is = cc is
tells-not_read Failed (Err Read) tells is = tells
tells-not_read Failed (Err Write) tells is = no_other Write Read refl is
tells-not_read Failed (Err Memory) tells is = no_other Memory Read refl is
tells-not_read Failed (Err Endless) tells is = tells

pub tells-not_endless : {T : Type 0} (Failed : Type 0) (r : Result T RunError) → TellsFailure r Failed → ¬ IsErrOf r
    Endless
tells-not_endless Failed (Ok x) tells is = cc is
tells-not_endless Failed (Err Read) tells is = tells
tells-not_endless Failed (Err Write) tells is = no_other Write Endless refl is
tells-not_endless Failed (Err Memory) tells is = no_other Memory Endless refl is
tells-not_endless Failed (Err Endless) tells is = tells

-- ---- an error that is handed on

-- it says the same
pub tells-on : {T : Type 0} (Failed : Type 0) (r : Result T RunError) (e : RunError) → IsErrAnd r (λ found. found ≡ e)
    → ErrorTells e Failed → TellsFailure r Failed
tells-on Failed (Ok x) e is tells = absurd is
tells-on Failed (Err found) e is tells = subst (λ (k : RunError). ErrorTells k Failed) (sym is) tells

-- a write failed
pub write-tells : {Failed : Type 0} (e : RunError) → e ≡ Write → Failed → ErrorTells e Failed
write-tells {Failed} e is failed = subst (λ (k : RunError). ErrorTells k Failed) (sym is) failed

-- an allocation failed
pub memory-tells : {Failed : Type 0} (e : RunError) → e ≡ Memory → ¬ Failed → ErrorTells e Failed
memory-tells {Failed} e is fine = subst (λ (k : RunError). ErrorTells k Failed) (sym is) fine

-- an allocation failed, or nothing
pub tells-memory : {T Failed : Type 0} (r : Result T RunError) → IfErr r (λ e. e ≡ Memory) → ¬ Failed
    → TellsFailure r Failed
tells-memory (Ok x) memory fine = fine
tells-memory (Err e) memory fine = memory-tells e memory fine

-- ---- what holds of a result

-- what holds anyhow holds beside an error
pub on_err : {T E P : Type 0} (Done : T → Type 0) (r : Result T E) → IsErr r → P → MatchResult r Done (λ _. P)
on_err Done (Ok x) is holds = absurd (false≢true is)
on_err Done (Err e) is holds = holds

-- what follows from the value, and what holds anyhow
pub either_way : {T E Given P Q : Type 0} (r : Result T E) → OnOk r Given → (Given → P) → Q
    → MatchResult r (λ _. P) (λ _. Q)
either_way (Ok x) given done holds = done given
either_way (Err e) given done holds = holds
