-- Where the version of the default tag is picked, it is the first candidate.
use Rattle.std.proofs.Common.{◌≡◌, ◌∙◌, ◌&&◌, ℕ, List, [], Bool, true, false, Some, inl, inr, not, refl, subst, sym}
use Rattle.std.specs.List.{AllByRecursion}
use Rattle.std.specs.List.Sorted.{IsSorted}
use Rattle.semver_cuts.specs.Lemmas.Lists.{all_middle}
use Rattle.serde_json.specs.Data.{Data}
use Rattle.npm_texts.specs.Admission.{Admits, of_dependencies}
use Rattle.npm_pick.specs.Lemmas.Readings.{one_version}
use Rattle.npm_pick.specs.Packument.{Release, releases_in, tagged, versions_of}
use Rattle.npm_pick.specs.Pick.{IsDefault, IsInRange}
use Rattle.npm_pick.specs.Pick as Picks
use Rattle.npm_pick.specs.declared.options.Options as Picking
use Rattle.npm_resolve.specs.Candidates.{AreCandidates, IsCandidate, IsEligible}
use Rattle.npm_resolve.specs.Meanings.{IsAdmitted, inside}
use Rattle.npm_resolve.specs.Preference.{candidate_order}
use Rattle.npm_resolve.specs.declared.candidates.candidate.Candidate.{Candidate}
use Rattle.npm_resolve.specs.declared.candidates.options.Options.{Options}
use Rattle.npm_resolve_laws.specs.Alike.{AreAlike, HasKeysOnce}
use Rattle.npm_resolve_laws.specs.Firsts.{AdmitsNone, IsPickedFirst, IsVersion}
use Rattle.npm_resolve_laws.proofs.Defaults.{is_named, names}
use Rattle.npm_resolve_laws.proofs.Known.{IsKnown, known, listed_there}
use Rattle.npm_resolve_laws.proofs.Listing.{IsListedAt, IsWithin, found}
use Rattle.npm_resolve_laws.proofs.Ranking.{comes_before, default_is_before, fits_means, is_order}
use Rattle.npm_resolve_laws.proofs.Tested.{IsFirst, first_of_moved, is_head}

abbrev is_default_of : Candidate → Bool
is_default_of c = c.is_default

sound : (deprecated fits tagged : Bool) → deprecated ≡ false → fits ≡ true → tagged ≡ true → ((not deprecated && fits) && tagged) ≡ true
sound deprecated fits tagged lasting fitting named = rw (lasting, fitting, named) refl

module _ (p : Data) (o : Options) (picking : Picking.Options) (alike : AreAlike o picking) (once : HasKeysOnce p)
    (cs : List Candidate) (are : AreCandidates p o cs) (range key : List ℕ) (manifest : Data)
    (default : IsDefault p picking range key manifest) (read : IsVersion key) where
  abbrev picked : Release
  picked = record { key = key; manifest = manifest }

  fit : IsEligible p o key
  fit = record {
    version = read.0;
    read = read.1;
    published = rw (← alike.before) default.suitable.published;
    allowed = default.suitable.allowed;
  }

  is_it : (c : Candidate) → IsCandidate p o picked c → c.is_default ≡ true
  is_it c is = is.default ∙ sound _ _ _ (is.deprecated ∙ default.suitable.lasting)
      ((fits_means p o picking alike range picked c is).1 default.suitable.fitting)
      (names (tagged p o.default_tag.now) key (rw (← alike.tag) default.tag))

  abbrev Here : Type 0
  Here = IsFirst is_default_of cs

  there : Here
  there =
      let within : IsWithin (releases_in (versions_of p)) picked = found p key manifest default.there in
      let at : IsListedAt p o within.0 within.1 picked are.all = listed_there p o cs are picked within.0 within.1 within.2 fit in
      first_of_moved is_default_of are.all cs at.front at.back at.candidate are.same at.parts (is_it at.candidate at.is)

  of_head : (some : Here) → IsKnown p o some.first → some.before ≡ [] → IsPickedFirst (inside range) cs (Picks.inside key manifest false)
  of_head some at head =
      let named : Some key ≡ Some at.release.key = sym default.tag ∙ is_named p o picking alike at.release some.first at.is some.passes in
      let same : key ≡ at.release.key = cc named in
      let found : Some at.release.manifest ≡ Some manifest = sym at.there ∙ (rw (← same) default.there) in
      let one : at.release.manifest ≡ manifest = cc found in
      record {
        first = some.first;
        is = record {
          before = some.before;
          after = some.after;
          parts = some.parts;
          admitted = admitted default.suitable.admitted same;
          others = subst (AdmitsNone (inside range)) (sym head) tt;
        };
        key = at.is.key ∙ sym same;
        manifest = at.is.manifest ∙ one;
      }
    where
      admitted : IsInRange range key → key ≡ at.release.key → IsAdmitted (inside range) some.first
      admitted (inl star) same = inl (star, some.passes)
      admitted (inr (v, is, admits)) same = inr (subst (λ w. Admits of_dependencies range w)
          (one_version key v some.first.version is (rw same at.is.read)) admits)

  pub default_first : IsPickedFirst (inside range) cs (Picks.inside key manifest false)
  default_first =
      let sorted : IsSorted candidate_order cs = rw alike.greatest at are.sorted in
      of_head there (all_middle (IsKnown p o) there.before there.after there.first
      (subst (AllByRecursion (IsKnown p o)) there.parts (known p o cs are once)))
      (is_head is_default_of comes_before is_order default_is_before cs sorted there)
