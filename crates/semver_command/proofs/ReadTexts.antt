-- What a text is read as.
use Rattle.std.proofs.Common.{◌≡◌, ℕ, List, Option, Some, None, Result, Ok, Err, true, false, IfOk, MatchOption, arith}
use Rattle.node_semver.specs.Versions.{VersionValue}
use Rattle.semver_texts.specs.Version.{without_build}
use Rattle.semver_command.specs.Written.{IsFound, IsRead, IsWritten, found, unfound, written}
use Rattle.semver_command.specs.declared.asked.Options.{Options}

pub found_read : (options : Options) (text : List ℕ) (v w : VersionValue) → options.coerce ≡ true
    → IsFound options text v → w ≡ without_build v → IsRead options text w
found_read options text v w on is same = rw same (found v on is)

-- a text in which no version is found or written is not read
not_read : (options : Options) (text : List ℕ)
    → ((v : VersionValue) → options.coerce ≡ true → IsFound options text v → ⊥)
    → ((v : VersionValue) → IsWritten text v → ⊥) → (w : VersionValue) → IsRead options text w → ⊥
not_read options text nothing unwritten w (found v on is) = nothing v on is
not_read options text nothing unwritten w (unfound v on none is) = unwritten v is
not_read options text nothing unwritten w (written v off is) = unwritten v is

own_read : {E : Type 0} (options : Options) (text : List ℕ) (r : Result (Option VersionValue) E)
    → ((v : VersionValue) → options.coerce ≡ true → IsFound options text v → ⊥)
    → ((v : VersionValue) → IsWritten text v → IsRead options text (without_build v))
    → IfOk r (λ read. MatchOption read ((v : VersionValue) → ¬ IsWritten text v)
    (λ v. (w : VersionValue) × IsWritten text w × (v ≡ without_build w)))
    → IfOk r (λ read. MatchOption read ((v : VersionValue) → ¬ IsRead options text v) (IsRead options text))
own_read options text (Err e) nothing make is = tt
own_read options text (Ok None) nothing make is = not_read options text nothing is
own_read options text (Ok (Some v)) nothing make is = rw is.2 (make is.0 is.1)

pub own_unfound : {E : Type 0} (options : Options) (text : List ℕ) (r : Result (Option VersionValue) E)
    → options.coerce ≡ true → ((v : VersionValue) → ¬ IsFound options text v)
    → IfOk r (λ read. MatchOption read ((v : VersionValue) → ¬ IsWritten text v)
    (λ v. (w : VersionValue) × IsWritten text w × (v ≡ without_build w)))
    → IfOk r (λ read. MatchOption read ((v : VersionValue) → ¬ IsRead options text v) (IsRead options text))
own_unfound options text r on none is =
    own_read options text r (λ v on is. none v is) (λ v is. unfound v on none is) is

pub own_written : {E : Type 0} (options : Options) (text : List ℕ) (r : Result (Option VersionValue) E)
    → options.coerce ≡ false
    → IfOk r (λ read. MatchOption read ((v : VersionValue) → ¬ IsWritten text v)
    (λ v. (w : VersionValue) × IsWritten text w × (v ≡ without_build w)))
    → IfOk r (λ read. MatchOption read ((v : VersionValue) → ¬ IsRead options text v) (IsRead options text))
own_written options text r off is =
    own_read options text r (λ v on found. grind (arith, on, off)) (λ v is. written v off is) is
