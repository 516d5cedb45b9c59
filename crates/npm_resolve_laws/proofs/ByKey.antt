-- Where one key alone is admitted.
use Rattle.std.proofs.Common.{◌≡◌, ◌∙◌, ℕ, List, Bool, true, false, None, Option, Some, bytes_eq, is_some, refl, subst, sym}
use Rattle.std.proofs.lemmas.Slice.Eq.{bytes_eq-Decides}
use Rattle.std.specs.List.{AllByRecursion}
use Rattle.std.specs.Option.{option_or}
use Rattle.semver_cuts.specs.Lemmas.Lists.{all_map, all_middle}
use Rattle.serde_json.specs.Data.{Data}
use Rattle.npm_pick.specs.Packument.{Release, candidate_of, is_restricted, manifest_in, manifest_of, releases_in, restricted_of, staged_of, versions_of}
use Rattle.npm_pick.specs.Pick as Picks
use Rattle.npm_pick.specs.Times.{is_published}
use Rattle.npm_pick.specs.declared.options.Options as Picking
use Rattle.npm_resolve.specs.Candidates.{AreCandidates, IsCandidate, IsEligible}
use Rattle.npm_resolve.specs.Meanings.{IsAdmitted, only}
use Rattle.npm_resolve.specs.declared.candidates.candidate.Candidate.{Candidate}
use Rattle.npm_resolve.specs.declared.candidates.options.Options.{Options}
use Rattle.npm_resolve_laws.specs.Alike.{AreAlike, HasKeysOnce}
use Rattle.npm_resolve_laws.specs.Firsts.{AdmitsNone, IsPickedFirst, IsVersion}
use Rattle.npm_resolve_laws.proofs.Known.{IsKnown, known, listed_there}
use Rattle.npm_resolve_laws.proofs.Listing.{IsListedAt, IsWithin, found}
use Rattle.npm_resolve_laws.proofs.Tested.{IsFirst, first_of_moved}

-- what is found in the first or in neither of the others is found in the first
in_first : (one other third : Option Data) (manifest : Data) → option_or one (option_or other third) ≡ Some manifest
    → other ≡ None → is_some third ≡ false → one ≡ Some manifest
in_first (Some d) other third manifest is none absent = is
in_first None other None manifest is none absent = rw none at is
in_first None other (Some d) manifest is none absent = cc absent

in_neither : (one rest : Option Data) → option_or one rest ≡ None → one ≡ None
in_neither None rest is = refl
in_neither (Some d) rest is = cc is

module _ (p : Data) (o : Options) (picking : Picking.Options) (alike : AreAlike o picking) (once : HasKeysOnce p)
    (cs : List Candidate) (are : AreCandidates p o cs) (key : List ℕ) where
  abbrev has_key : Candidate → Bool
  has_key c = bytes_eq c.key.now key

  out : (c : Candidate) → has_key c ≡ false → ¬ IsAdmitted (only key) c
  out c other is = cc (other, (bytes_eq-Decides c.key.now key).1 is)

  -- no candidate has the key, if a fact of each candidate's release is wrong
  none_by : ((r : Release) (c : Candidate) → manifest_of p r.key ≡ Some r.manifest → IsCandidate p o r c → r.key ≡ key → ⊥)
      → AdmitsNone (only key) cs
  none_by wrong = all_map (IsKnown p o) (λ c. ¬ IsAdmitted (only key) c)
      (λ c at is. wrong at.release c at.there at.is (sym at.is.key ∙ is)) cs (known p o cs are once)

  pub late_none : is_published picking.before p key ≡ false → AdmitsNone (only key) cs
  late_none late = none_by (λ r c there is same. cc (is.published, rw (alike.before, ← same) at late))

  pub restricted_none : is_restricted p key ≡ true → AdmitsNone (only key) cs
  restricted_none restricted = none_by (λ r c there is same. cc (is.allowed, same, restricted))

  pub absent_none : candidate_of picking.include_staged p key ≡ None → AdmitsNone (only key) cs
  absent_none absent = none_by (λ r c there is same. cc (there, in_neither (manifest_of p r.key) _ (rw (← same) at absent)))

  module _ (manifest : Data) (there : candidate_of picking.include_staged p key ≡ Some manifest)
      (published : is_published picking.before p key ≡ true) (free : is_restricted p key ≡ false) (read : IsVersion key)
      (is_avoided : Bool) where
    abbrev picked : Release
    picked = record { key = key; manifest = manifest }

    is_there : manifest_of p key ≡ Some manifest
    is_there = in_first (manifest_of p key) (manifest_in (staged_of picking.include_staged p) key) (manifest_in (restricted_of p) key)
        manifest there (rw alike.staged refl) free

    fit : IsEligible p o key
    fit = record { version = read.0; read = read.1; published = rw (← alike.before) published; allowed = free }

    first : IsFirst has_key cs
    first =
        let within : IsWithin (releases_in (versions_of p)) picked = found p key manifest is_there in
        let at : IsListedAt p o within.0 within.1 picked are.all = listed_there p o cs are picked within.0 within.1 within.2 fit in
        first_of_moved has_key are.all cs at.front at.back at.candidate are.same at.parts ((bytes_eq-Decides at.candidate.key.now key).1 at.is.key)

    of_known : IsKnown p o first.first → IsPickedFirst (only key) cs (Picks.inside key manifest is_avoided)
    of_known at =
        let is : first.first.key.now ≡ key = (bytes_eq-Decides first.first.key.now key).0 first.passes in
        let same : at.release.key ≡ key = sym at.is.key ∙ is in
        let found : Some at.release.manifest ≡ Some manifest = sym at.there ∙ (rw same is_there) in
        let one : at.release.manifest ≡ manifest = cc found in
        record {
          first = first.first;
          is = record {
            before = first.before;
            after = first.after;
            parts = first.parts;
            admitted = is;
            others = all_map (λ c. has_key c ≡ false) (λ c. ¬ IsAdmitted (only key) c) out first.before first.fail;
          };
          key = is;
          manifest = at.is.manifest ∙ one;
        }

    pub key_first : IsPickedFirst (only key) cs (Picks.inside key manifest is_avoided)
    key_first = of_known (all_middle (IsKnown p o) first.before first.after first.first
        (subst (AllByRecursion (IsKnown p o)) first.parts (known p o cs are once)))
