-- The version after an increment, from what `inc` returns.
use Rattle.std.proofs.Common.{◌≡◌, ◌≢◌, ◌⊎◌, List, ℕ, Option, Some, None, ap, inl, inr, option_map}
use Rattle.std.specs.Option.{option_copied}
use denote.Ref.{Bor}
use Rattle.npm_semver.specs.Bump.{IsBumped, identifier_seen}
use Rattle.npm_semver.specs.declared.bump.Bump.{Bump}
use Rattle.npm_semver.specs.declared.bump.IdentifierBase.{IdentifierBase}
use Rattle.node_semver.specs.Versions.{VersionValue}
use Rattle.semver_texts.specs.Identifier.{value_of}
use Rattle.semver_texts.specs.declared.identifier.Identifier.{Identifier}
use Rattle.semver_command.specs.Increment.{IsIdentifierGiven, IsIncremented, raised, refused}

seen : (r : Option (Bor Identifier)) (whole : Option Identifier) → option_copied r ≡ whole
    → identifier_seen r ≡ option_map value_of whole
seen None whole is = ap (option_map value_of) is
seen (Some identifier) whole is = ap (option_map value_of) is

pub raised_version : (bump : Bump) (text : Option (List ℕ)) (base : IdentifierBase) (v w : VersionValue)
    (r : Option (Bor Identifier)) (whole : Option Identifier) → option_copied r ≡ whole
    → IsIdentifierGiven text (option_map value_of whole) → IsBumped bump (identifier_seen r) base v w
    → IsIncremented bump text base v (Some w)
raised_version bump text base v w r whole is start bumped =
    raised (option_map value_of whole) w start (rw (seen r whole is) at bumped)

pub no_version : {E : Type 0} (bump : Bump) (text : Option (List ℕ)) (base : IdentifierBase) (v : VersionValue)
    (r : Option (Bor Identifier)) (whole : Option Identifier) (error memory : E)
    → option_copied r ≡ whole → IsIdentifierGiven text (option_map value_of whole)
    → (error ≡ memory) ⊎ ((w : VersionValue) → ¬ IsBumped bump (identifier_seen r) base v w) → error ≢ memory
    → IsIncremented bump text base v None
no_version bump text base v r whole error memory is start (inl out) other = absurd (other out)
no_version bump text base v r whole error memory is start (inr none) other =
    refused (option_map value_of whole) start (rw (seen r whole is) at none)
