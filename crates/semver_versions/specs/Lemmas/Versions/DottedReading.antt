-- A dot before a number, and two numbers after dots.
use Rattle.std.proofs.Common.{arith}
use Rattle.std.proofs.Common.{◌≡◌, ℕ, List, ◌∷◌, Ok, Err, refl}
use Rattle.semver_texts.specs.Characters.{dot}
use Rattle.semver_versions.specs.Private.VersionReading.{read_dot, read_dotted, read_minor_and_patch}
use Rattle.semver_texts.specs.declared.parse.fault.Fault.{Fault}

-- a dot comes before the rest
pub dot-takes : (text rest : List ℕ) → read_dot text ≡ Ok rest → text ≡ dot ∷ rest
unfolding read_dot
dot-takes text rest h = grind arith

pub dotted-both : (major : ℕ) (text : List ℕ) (minor patch : ℕ × List ℕ) → Ok minor ≡ read_dotted text
    → Ok patch ≡ read_dotted minor.1 → Ok ((major, minor.0, patch.0), patch.1) ≡ read_minor_and_patch (major, text)
dotted-both major text minor patch first second = grind arith

-- where the second one is missing
pub dotted-second : (major : ℕ) (text : List ℕ) (minor : ℕ × List ℕ) (f : Fault) → Ok minor ≡ read_dotted text
    → Err f ≡ read_dotted minor.1 → Err f ≡ read_minor_and_patch (major, text)
dotted-second major text minor f first second = grind arith

-- and where the first one is
pub dotted-first : (major : ℕ) (text : List ℕ) (f : Fault) → Err f ≡ read_dotted text
    → Err f ≡ read_minor_and_patch (major, text)
dotted-first major text f first = grind arith

pub dot-again : (rest : List ℕ) → read_dot (dot ∷ rest) ≡ Ok rest
unfolding read_dot
dot-again rest = refl
