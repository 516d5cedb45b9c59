-- The order of candidates, and the ranks that a pick gives their releases.
use Rattle.std.proofs.Common.{◌≡◌, ◌≢◌, ◌↔◌, ◌∙◌, ℕ, List, Bool, true, false, Less, Equal, Greater, Ordering, IsTrue, ap, is_lt, not, option_map, refl, sym}
use Rattle.std.proofs.lemmas.List.Sorted.{ranks_by}
use Rattle.std.specs.Cmp.{IsStrictWeakOrder, IsTotalOrder, back_total, bool_cmp_total, both_ways, on_total, then_total}
use Rattle.semver_texts.specs.Lemmas.Public.{version_total}
use Rattle.serde_json.specs.Data.{Data}
use Rattle.node_semver.specs.Versions.{VersionValue}
use Rattle.npm_texts.specs.Admission.{Admits, of_dependencies}
use Rattle.npm_pick.specs.Lemmas.Readings.{one_version}
use Rattle.npm_pick.specs.Packument.{Release, is_staged}
use Rattle.npm_pick.specs.Rank.{FitsEngines, IsAvoided, IsRankOf, Rank, rank_cmp}
use Rattle.npm_pick.specs.declared.options.Options as Picking
use Rattle.npm_resolve.specs.Candidates.{IsCandidate}
use Rattle.npm_resolve.specs.Preference.{candidate_order, is_sound, version_preference}
use Rattle.npm_resolve.specs.declared.candidates.candidate.Candidate.{Candidate}
use Rattle.npm_resolve.specs.declared.candidates.options.Options.{Options}
use Rattle.npm_resolve_laws.specs.Alike.{AreAlike}

-- ---- the order

candidate_total : IsTotalOrder candidate_order
candidate_total = back_total (then_total (on_total (λ (c : Candidate). c.is_default) bool_cmp_total)
    (then_total (on_total is_sound bool_cmp_total) (then_total (on_total (λ (c : Candidate). c.fits) bool_cmp_total)
    (then_total (on_total (λ (c : Candidate). not c.is_deprecated) bool_cmp_total)
    (on_total (λ (c : Candidate). c.version) version_total)))))

abbrev pub comes_before : Candidate → Candidate → Bool
comes_before a b = is_lt (candidate_order a b)

pub is_order : IsStrictWeakOrder comes_before
is_order = ranks_by candidate_total (λ (c : Candidate). c)

pub default_is_before : (a b : Candidate) → a.is_default ≡ true → b.is_default ≡ false → comes_before a b ≡ true
default_is_before a b default other = rw (default, other) refl

-- of two candidates that the tag does not name, the one of the higher rank comes first
pub by_rank : (a b : Candidate) → a.is_default ≡ false → b.is_default ≡ false → candidate_order a b ≡ version_preference b a
by_rank a b one other = rw (one, other) refl

is_less : (o : Ordering) → is_lt o ≡ true → o ≡ Less
is_less Less said = refl
is_less Equal said = cc said
is_less Greater said = cc said

-- ---- ranks

abbrev pub rank_of : Candidate → Rank
rank_of c = record {
  is_avoided = false;
  is_restricted = false;
  is_staged = false;
  is_deprecated = c.is_deprecated;
  fits = c.fits;
  version = c.version;
}

same_rank : (a b : Rank) → a.is_avoided ≡ b.is_avoided → a.is_restricted ≡ b.is_restricted → a.is_staged ≡ b.is_staged
    → a.is_deprecated ≡ b.is_deprecated → a.fits ≡ b.fits → a.version ≡ b.version → a ≡ b
same_rank a b s r t d f v = λ i. record {
  is_avoided = s i;
  is_restricted = r i;
  is_staged = t i;
  is_deprecated = d i;
  fits = f i;
  version = v i;
}

never_true : (b : Bool) → ¬ IsTrue b → b ≡ false
never_true true never = absurd (never refl)
never_true false never = refl

pub comes_by_rank : (a b : Candidate) → a.is_default ≡ false → b.is_default ≡ false → rank_cmp (rank_of b) (rank_of a) ≡ Less
    → comes_before a b ≡ true
comes_by_rank a b one other less = ap is_lt (by_rank a b one other ∙ less)

pub never_by_rank : (a b : Candidate) → a.is_default ≡ false → b.is_default ≡ false → rank_cmp (rank_of b) (rank_of a) ≢ Less
    → comes_before a b ≡ true → ⊥
never_by_rank a b one other none before =
    none (is_less (version_preference b a) (ap is_lt (sym (by_rank a b one other)) ∙ before))

module _ (p : Data) (o : Options) (picking : Picking.Options) (alike : AreAlike o picking) where
  pub not_avoided : (v : VersionValue) → ¬ IsAvoided (option_map (λ text. text.now) picking.avoid) v
  not_avoided v avoided = rw alike.avoid at avoided

  pub not_staged : (key : List ℕ) → is_staged picking.include_staged p key ≡ false
  not_staged key = rw alike.staged refl

  pub never_avoided : (range : List ℕ) (r : Release) (rank : Rank) → IsRankOf p picking range r rank → rank.is_avoided ≡ false
  never_avoided range r rank has = never_true rank.is_avoided (λ yes. not_avoided rank.version (has.avoided.0 yes))

  module _ (range : List ℕ) (r : Release) (c : Candidate) (is : IsCandidate p o r c) where
    pub fits_means : IsTrue c.fits ↔ FitsEngines picking r.manifest
    fits_means = rw (alike.node, alike.npm) ((λ yes. (is.fitting.0 yes, tt)), (λ both. is.fitting.1 both.0))

    pub ranked : Admits of_dependencies range c.version → IsRankOf p picking range r (rank_of c)
    ranked admits = record {
      read = is.read;
      admitted = admits;
      published = rw alike.before is.published;
      avoided = ((λ yes. cc yes), (λ avoided. absurd (not_avoided c.version avoided)));
      restricted = sym is.allowed;
      staged = sym (not_staged r.key);
      deprecated = is.deprecated;
      fitting = fits_means;
    }

    pub rank_is : (rank : Rank) → IsRankOf p picking range r rank → rank ≡ rank_of c
    rank_is rank has =
        let version : rank.version ≡ c.version = one_version r.key rank.version c.version has.read is.read in
        same_rank rank (rank_of c)
        (never_avoided range r rank has) (has.restricted ∙ is.allowed) (has.staged ∙ not_staged r.key) (has.deprecated ∙ sym is.deprecated)
        (both_ways rank.fits c.fits (λ yes. fits_means.1 (has.fitting.0 yes)) (λ yes. has.fitting.1 (fits_means.0 yes))) version
