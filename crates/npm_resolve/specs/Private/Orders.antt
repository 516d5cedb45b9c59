-- The order of candidates is total.
use Rattle.std.specs.Prelude.{not}
use Rattle.std.specs.Cmp.{IsTotalOrder, back_total, bool_cmp_total, on_total, then_total}
use Rattle.std.specs.declared.cmp.Ordering.{Ordering}
use Rattle.semver_texts.specs.Lemmas.Public.{version_total}
use Rattle.npm_resolve.specs.Preference.{candidate_order, is_sound, lowest_order, sound_first}
use Rattle.npm_resolve.specs.declared.candidates.candidate.Candidate.{Candidate}

pub sound_total : {alike : Candidate → Candidate → Ordering} → IsTotalOrder alike → IsTotalOrder (sound_first alike)
sound_total total = then_total (on_total is_sound bool_cmp_total) (then_total (on_total (λ (c : Candidate). c.fits) bool_cmp_total)
    (then_total (on_total (λ (c : Candidate). not c.is_deprecated) bool_cmp_total) total))

pub candidate_total : IsTotalOrder candidate_order
candidate_total = back_total (then_total (on_total (λ (c : Candidate). c.is_default) bool_cmp_total)
    (sound_total (on_total (λ (c : Candidate). c.version) version_total)))

pub lowest_total : IsTotalOrder lowest_order
lowest_total = back_total (sound_total (back_total (on_total (λ (c : Candidate). c.version) version_total)))
