-- Which of two candidates is preferred: npm's "npm-pick-manifest", "Algorithm". By the theorem `versions_are_in_the_order_of_their_ranks` of
-- the examples this is the order of the ranks that a pick gives.
use Rattle.std.specs.Prelude.{◌&&◌, Bool, if◌then◌else◌, not}
use Rattle.std.specs.Ordering.{bool_cmp, flip_args, on, then_cmp}
use Rattle.std.specs.declared.cmp.Ordering.{Ordering}
use Rattle.node_semver.specs.Versions.{version_cmp}
use Rattle.npm_resolve.specs.declared.candidates.candidate.Candidate.{Candidate}

-- not deprecated, and fitting the version of Node
abbrev pub is_sound : Candidate → Bool
is_sound c = not c.is_deprecated && c.fits

-- What comes first counts most: not to be deprecated and to fit, to fit, not to be deprecated, and then this order.
abbrev pub sound_first : (alike : Candidate → Candidate → Ordering) → Candidate → Candidate → Ordering
sound_first alike = then_cmp (on is_sound bool_cmp) (then_cmp (on (λ (c : Candidate). c.fits) bool_cmp)
    (then_cmp (on (λ (c : Candidate). not c.is_deprecated) bool_cmp) alike))

-- what is sound first, and then the greater version
abbrev pub version_preference : Candidate → Candidate → Ordering
version_preference = sound_first (on (λ (c : Candidate). c.version) version_cmp)

-- the version of the default tag is above the others
abbrev pub preference_cmp : Candidate → Candidate → Ordering
preference_cmp = then_cmp (on (λ (c : Candidate). c.is_default) bool_cmp) version_preference

-- the candidate that is preferred comes first
abbrev pub candidate_order : Candidate → Candidate → Ordering
candidate_order = flip_args preference_cmp

-- Where the lowest version is preferred: what is sound first, and then the lesser version. The tag does not count.
abbrev pub lowest_order : Candidate → Candidate → Ordering
lowest_order = flip_args (sound_first (flip_args (on (λ (c : Candidate). c.version) version_cmp)))

abbrev pub order_of : (is_lowest : Bool) → Candidate → Candidate → Ordering
order_of is_lowest = if is_lowest then lowest_order else candidate_order
