-- What a document has for the key of a candidate.
use Rattle.std.proofs.Common.{◌≡◌, ◌∙◌, ◌⊎◌, ℕ, List, ◌∷◌, false, true, None, Option, Ordering, Less, Equal, Greater, Some, ap, bytes_eq, codes, filter, inl, inr, is_eq, nat_cmp, not, option_and_then, refl, subst, sym}
use Rattle.std.proofs.lemmas.List.Elements.{Contains-append_cases}
use Rattle.std.proofs.lemmas.List.Sorted.{Contains-permutation, IsPermutation-sym}
use Rattle.std.proofs.lemmas.Map.Text.{is_eq-slice_cmp}
use Rattle.std.proofs.lemmas.Slice.Eq.{bytes_eq-Decides}
use Rattle.std.specs.List.{AllByRecursion, Contains}
use Rattle.std.specs.List.Sorted.{IsStrictlySortedBy}
use Rattle.std.specs.Cmp.Lexicographic.{slice_cmp}
use Rattle.serde_json.specs.Data.{Data, Members, array, boolean, member, no_members, null, number, object, string}
use Rattle.serde_json.specs.Find.{as_object, get, get_member}
use Rattle.npm_texts.specs.ObjectKeys.{keys_of}
use Rattle.npm_pick.specs.Packument.{Release, releases_among, releases_in, versions_of}
use Rattle.npm_resolve.specs.Candidates.{AreListed, IsCandidate}
use Rattle.npm_resolve.specs.Candidates as Candidates
use Rattle.npm_resolve.specs.Locked.{AreOffered, locked_first, locked_of}
use Rattle.npm_resolve.specs.declared.candidates.candidate.Candidate.{Candidate}
use Rattle.npm_resolve.specs.declared.candidates.options.Options.{Options}
use Rattle.npm_resolve_laws.proofs.Lists.{first_in, from_filter, in_cases, later_in, none_in}

-- ---- the release of a candidate

module _ (packument : Data) (options : Options) where
  from_listed : (releases : List Release) (candidates : List Candidate) → AreListed packument options releases candidates → (c : Candidate)
      → Contains candidates c → (release : Release) × Contains releases release × IsCandidate packument options release c
  from_listed _ _ Candidates.none c there = absurd (none_in c there)
  from_listed _ _ (Candidates.listed release one releases candidates is others) c there =
      by_part (from_listed releases candidates others c) (in_cases one candidates c there) where
        by_part : (Contains candidates c → (r : Release) × Contains releases r × IsCandidate packument options r c)
            → (one ≡ c) ⊎ Contains candidates c → (r : Release) × Contains (release ∷ releases) r × IsCandidate packument options r c
        by_part more (inl here) = (release, first_in release releases, subst (IsCandidate packument options release) here is)
        by_part more (inr later) = let found = more later in (found.0, later_in release releases found.0 found.1, found.2)
  from_listed _ _ (Candidates.passed release releases candidates odd others) c there =
      let found = from_listed releases candidates others c there in (found.0, later_in release releases found.0 found.1, found.2)

  from_first : (locked : Option (List ℕ)) (candidates : List Candidate) (c : Candidate) → Contains (locked_first locked candidates) c
      → Contains candidates c
  from_first None candidates c there = there
  from_first (Some key) candidates c there = by_part
      (Contains-append_cases (filter (λ (o : Candidate). bytes_eq o.key.now key) candidates)
      (filter (λ (o : Candidate). not (bytes_eq o.key.now key)) candidates) c there) where
        by_part : Contains (filter (λ (o : Candidate). bytes_eq o.key.now key) candidates) c
            ⊎ Contains (filter (λ (o : Candidate). not (bytes_eq o.key.now key)) candidates) c → Contains candidates c
        by_part (inl first) = from_filter (λ (o : Candidate). bytes_eq o.key.now key) candidates c first
        by_part (inr later) = from_filter (λ (o : Candidate). not (bytes_eq o.key.now key)) candidates c later

  pub release_of : (name : List ℕ) (candidates : List Candidate) → AreOffered name packument options candidates → (c : Candidate)
      → Contains candidates c
      → (release : Release) × Contains (releases_in (versions_of packument)) release × IsCandidate packument options release c
  release_of name candidates are c there =
      let offered : Contains (locked_first (locked_of options name) are.preferred) c =
      subst (λ (cs : List Candidate). Contains cs c) are.ordered there in
      let preferred = from_first (locked_of options name) are.preferred c offered in
      from_listed (releases_in (versions_of packument)) are.are.all are.are.listed c
      (Contains-permutation are.preferred are.are.all c (IsPermutation-sym are.are.all are.preferred are.are.same) preferred)

-- ---- the member of a release

itself : (key : List ℕ) (o : Ordering) → slice_cmp nat_cmp key key ≡ o → o ≡ Equal
itself key Less is = absurd (let off : false ≡ true = ap is_eq (sym is) ∙ (is_eq-slice_cmp key key ∙ (bytes_eq-Decides key key).1 refl) in (cc off))
itself key Equal is = refl
itself key Greater is = absurd (let off : false ≡ true = ap is_eq (sym is) ∙ (is_eq-slice_cmp key key ∙ (bytes_eq-Decides key key).1 refl) in (cc off))

-- a key that is below all others is that of none of them
below_one : (key : List ℕ) (ms : Members) → AllByRecursion (λ other. slice_cmp nat_cmp key other ≡ Less) (keys_of ms) → (release : Release)
    → Contains (releases_among ms) release → slice_cmp nat_cmp key release.key ≡ Less
below_one key no_members below release there = absurd (none_in release there)
below_one key (member k d ms) below release there = by_part (below_one key ms below.1 release)
    (in_cases (record { key = k; manifest = d }) (releases_among ms) release there) where
      by_part : (Contains (releases_among ms) release → slice_cmp nat_cmp key release.key ≡ Less)
          → (record { key = k; manifest = d } ≡ release) ⊎ Contains (releases_among ms) release → slice_cmp nat_cmp key release.key ≡ Less
      by_part more (inl here) = subst (λ (r : Release). slice_cmp nat_cmp key r.key ≡ Less) here below.0
      by_part more (inr later) = more later

member_of : (ms : Members) → IsStrictlySortedBy (slice_cmp nat_cmp) (keys_of ms) → (release : Release)
    → Contains (releases_among ms) release → get_member release.key ms ≡ Some release.manifest
unfolding IsStrictlySortedBy
member_of no_members sorted release there = absurd (none_in release there)
member_of (member k d ms) sorted release there = by_part (member_of ms sorted.1 release) (below_one k ms sorted.0 release)
    (in_cases (record { key = k; manifest = d }) (releases_among ms) release there) where
      here_found : get_member k (member k d ms) ≡ Some d
      here_found = rw (itself k (slice_cmp nat_cmp k k) refl) refl

      past : (o : Ordering) → slice_cmp nat_cmp release.key k ≡ o → slice_cmp nat_cmp k release.key ≡ Less
          → get_member release.key ms ≡ Some release.manifest → get_member release.key (member k d ms) ≡ Some release.manifest
      past Less is below found = rw is found
      past Equal is below found =
          let same : bytes_eq release.key k ≡ true = sym (is_eq-slice_cmp release.key k) ∙ ap is_eq is in
          let name : release.key ≡ k = (bytes_eq-Decides release.key k).0 same in
          let own : slice_cmp nat_cmp k k ≡ Less = subst (λ t. slice_cmp nat_cmp k t ≡ Less) name below in
          absurd (let off : Less ≡ Equal = sym own ∙ itself k (slice_cmp nat_cmp k k) refl in (cc off))
      past Greater is below found = rw is found

      by_part : (Contains (releases_among ms) release → get_member release.key ms ≡ Some release.manifest)
          → (Contains (releases_among ms) release → slice_cmp nat_cmp k release.key ≡ Less)
          → (record { key = k; manifest = d } ≡ release) ⊎ Contains (releases_among ms) release
          → get_member release.key (member k d ms) ≡ Some release.manifest
      by_part more below (inl here) = subst (λ (r : Release). get_member r.key (member k d ms) ≡ Some r.manifest) here here_found
      by_part more below (inr later) = past (slice_cmp nat_cmp release.key k) refl (below later) (more later)

-- a document has this for the key of a release
pub manifest_there : (packument : Data) → ((versions : Members) → versions_of packument ≡ Some versions
    → IsStrictlySortedBy (slice_cmp nat_cmp) (keys_of versions))
    → (release : Release) → Contains (releases_in (versions_of packument)) release
    → option_and_then (get release.key) (get (codes "versions") packument) ≡ Some release.manifest
manifest_there packument ordered release there = by_member (get (codes "versions") packument) refl where
  gone : (d : Option Data) → get (codes "versions") packument ≡ d → option_and_then as_object d ≡ None → ⊥
  gone d is none = none_in release
      (subst (λ (o : Option Members). Contains (releases_in o) release) (ap (option_and_then as_object) is ∙ none) there)

  by_member : (d : Option Data) → get (codes "versions") packument ≡ d → option_and_then (get release.key) d ≡ Some release.manifest
  by_member None is = absurd (gone None is refl)
  by_member (Some null) is = absurd (gone (Some null) is refl)
  by_member (Some (boolean b)) is = absurd (gone (Some (boolean b)) is refl)
  by_member (Some (number n)) is = absurd (gone (Some (number n)) is refl)
  by_member (Some (string t)) is = absurd (gone (Some (string t)) is refl)
  by_member (Some (array ds)) is = absurd (gone (Some (array ds)) is refl)
  by_member (Some (object ms)) is =
      let versions : versions_of packument ≡ Some ms = ap (option_and_then as_object) is in
      member_of ms (ordered ms versions) release
      (subst (λ (o : Option Members). Contains (releases_in o) release) versions there)
