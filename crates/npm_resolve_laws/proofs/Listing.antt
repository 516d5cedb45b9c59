-- Releases of a document, and the candidates that are made of them.
use Rattle.std.proofs.Common.{◌≡◌, ◌∙◌, ℕ, List, [], ◌∷◌, ◌++◌, true, Less, Equal, Greater, None, Option, Ordering, Some, ap, is_some, nat_cmp, refl, subst, sym}
use Rattle.std.proofs.lemmas.Map.Text.{is_eq-slice_cmp}
use Rattle.std.proofs.lemmas.Slice.Eq.{bytes_eq-Decides}
use Rattle.std.specs.Cmp.{Equal-is}
use Rattle.std.specs.Cmp.Lexicographic.{slice_cmp}
use Rattle.std.specs.List.{AllByRecursion}
use Rattle.semver_cuts.specs.Lemmas.Lists.{all_middle, all_map}
use Rattle.serde_json.specs.Data.{Data, Members, member, no_members}
use Rattle.serde_json.specs.Find.{get_member}
use Rattle.npm_pick.specs.Lemmas.Readings.{exact}
use Rattle.npm_pick.specs.Packument.{Release, is_restricted, manifest_in, manifest_of, releases_among, releases_in, restricted_of, versions_of}
use Rattle.npm_resolve.specs.Candidates.{AreListed, IsCandidate, IsEligible}
use Rattle.npm_resolve.specs.Candidates as Candidates
use Rattle.npm_resolve.specs.declared.candidates.candidate.Candidate.{Candidate}
use Rattle.npm_resolve.specs.declared.candidates.options.Options.{Options}

-- ---- one release among others

-- the list has this element
abbrev pub IsWithin : {X : Type 0} → List X → X → Type 0
IsWithin {X} xs x = (before : List X) × (after : List X) × (xs ≡ before ++ x ∷ after)

pub here : {X : Type 0} (x : X) (xs : List X) → IsWithin (x ∷ xs) x
here x xs = ([], xs, refl)

pub later : {X : Type 0} (y x : X) (xs : List X) → IsWithin xs x → IsWithin (y ∷ xs) x
later y x xs within = (y ∷ within.0, within.1, ap (λ l. y ∷ l) within.2)

-- what a key finds is a member
found_among : (ms : Members) (key : List ℕ) (manifest : Data) → get_member key ms ≡ Some manifest
    → IsWithin (releases_among ms) (record { key = key; manifest = manifest })
found_among no_members key manifest is = cc is
found_among (member k d ms) key manifest is = by_order (slice_cmp nat_cmp key k) refl (found_among ms key manifest) where
  by_order : (o : Ordering) → slice_cmp nat_cmp key k ≡ o
      → (get_member key ms ≡ Some manifest → IsWithin (releases_among ms) (record { key = key; manifest = manifest }))
      → IsWithin (releases_among (member k d ms)) (record { key = key; manifest = manifest })
  by_order Less order rest = later (record { key = k; manifest = d }) (record { key = key; manifest = manifest }) (releases_among ms) (rest (rw order at is))
  by_order Greater order rest = later (record { key = k; manifest = d }) (record { key = key; manifest = manifest }) (releases_among ms) (rest (rw order at is))
  by_order Equal order rest =
      let found : Some d ≡ Some manifest = rw order at is in
      let same : d ≡ manifest = cc found in
      rw (exact key k order, ← same) (here (record { key = k; manifest = d }) (releases_among ms))

found_in : (listed : Option Members) (key : List ℕ) (manifest : Data) → manifest_in listed key ≡ Some manifest
    → IsWithin (releases_in listed) (record { key = key; manifest = manifest })
found_in None key manifest is = cc is
found_in (Some ms) key manifest is = found_among ms key manifest is

pub found : (p : Data) (key : List ℕ) (manifest : Data) → manifest_of p key ≡ Some manifest
    → IsWithin (releases_in (versions_of p)) (record { key = key; manifest = manifest })
found p key manifest is = found_in (versions_of p) key manifest is

-- each member is found by its key, though another of this key may be
is_there : (k key : List ℕ) (d : Data) (ms : Members) → is_some (get_member key ms) ≡ true → is_some (get_member key (member k d ms)) ≡ true
is_there k key d ms there = by_order (slice_cmp nat_cmp key k) refl where
  by_order : (o : Ordering) → slice_cmp nat_cmp key k ≡ o → is_some (get_member key (member k d ms)) ≡ true
  by_order Less order = rw order there
  by_order Greater order = rw order there
  by_order Equal order = rw order refl

one_key : (k : List ℕ) → slice_cmp nat_cmp k k ≡ Equal
one_key k = (Equal-is (slice_cmp nat_cmp k k)).0 (is_eq-slice_cmp k k ∙ (bytes_eq-Decides k k).1 refl)

are_there : (ms : Members) → AllByRecursion (λ (r : Release). is_some (get_member r.key ms) ≡ true) (releases_among ms)
are_there no_members = tt
are_there (member k d ms) = (
  rw (one_key k) refl,
  all_map (λ (r : Release). is_some (get_member r.key ms) ≡ true) (λ (r : Release). is_some (get_member r.key (member k d ms)) ≡ true)
      (λ r there. is_there k r.key d ms there) (releases_among ms) (are_there ms),
)

are_all_there : (listed : Option Members) → AllByRecursion (λ (r : Release). is_some (manifest_in listed r.key) ≡ true) (releases_in listed)
are_all_there None = tt
are_all_there (Some ms) = are_there ms

pub all_restricted : (p : Data) → AllByRecursion (λ (r : Release). is_restricted p r.key ≡ true) (releases_in (restricted_of p))
all_restricted p = are_all_there (restricted_of p)

-- an element of two lists that has no fact of those of the second is one of the first
pub record IsOfFirst {X : Type 0} (xs ys before after : List X) (x : X) : Type 0 where
  pub rest : List X
  pub parts : xs ≡ before ++ x ∷ rest
  pub others : after ≡ rest ++ ys

pub of_first : {X : Type 0} (P : X → Type 0) (xs ys before after : List X) (x : X) → xs ++ ys ≡ before ++ x ∷ after
    → AllByRecursion P ys → ¬ P x → IsOfFirst xs ys before after x
of_first P [] ys before after x is all none = absurd (none (all_middle P before after x (subst (AllByRecursion P) is all)))
of_first P (y ∷ xs) ys [] after x is all none =
    let same : y ≡ x = cc is in
    let others : xs ++ ys ≡ after = cc is in
    record { rest = xs; parts = ap (λ z. z ∷ xs) same; others = sym others }
of_first P (y ∷ xs) ys (z ∷ before) after x is all none =
    let same : y ≡ z = cc is in
    let parts : xs ++ ys ≡ before ++ x ∷ after = cc is in
    let rest : IsOfFirst xs ys before after x = of_first P xs ys before after x parts all none in
    record { rest = rest.rest; parts = rw (same, rest.parts) refl; others = rest.others }

-- ---- candidates

module _ (p : Data) (o : Options) where
  -- a fact of releases is one of their candidates
  pub of_each : (Q : Release → Type 0) (P : Candidate → Type 0) → ((r : Release) (c : Candidate) → Q r → IsCandidate p o r c → P c)
      → (rs : List Release) (cs : List Candidate) → AreListed p o rs cs → AllByRecursion Q rs → AllByRecursion P cs
  of_each Q P f _ _ Candidates.none all = tt
  of_each Q P f _ _ (Candidates.listed r c rs cs is rest) all = (f r c all.0 is, of_each Q P f rs cs rest all.1)
  of_each Q P f _ _ (Candidates.passed r rs cs other rest) all = of_each Q P f rs cs rest all.1

  -- the candidate of a release, those of the releases before it, and those of the releases after it
  pub record IsListedAt (before after : List Release) (r : Release) (cs : List Candidate) : Type 0 where
    pub front : List Candidate
    pub candidate : Candidate
    pub back : List Candidate
    pub parts : cs ≡ front ++ candidate ∷ back
    pub of_before : AreListed p o before front
    pub is : IsCandidate p o r candidate
    pub of_after : AreListed p o after back

  pub listed_at : (before after : List Release) (r : Release) (cs : List Candidate) → AreListed p o (before ++ r ∷ after) cs
      → IsEligible p o r.key → IsListedAt before after r cs
  listed_at [] after r _ (Candidates.listed r2 c rs cs is rest) fit =
      record { front = []; candidate = c; back = cs; parts = refl; of_before = Candidates.none; is = is; of_after = rest }
  listed_at [] after r _ (Candidates.passed r2 rs cs other rest) fit = absurd (other fit)
  listed_at (b ∷ before) after r _ (Candidates.listed b2 c rs cs is rest) fit =
      let at : IsListedAt before after r cs = listed_at before after r cs rest fit in
      record {
        front = c ∷ at.front;
        candidate = at.candidate;
        back = at.back;
        parts = ap (λ l. c ∷ l) at.parts;
        of_before = Candidates.listed b c before at.front is at.of_before;
        is = at.is;
        of_after = at.of_after;
      }
  listed_at (b ∷ before) after r _ (Candidates.passed b2 rs cs other rest) fit =
      let at : IsListedAt before after r cs = listed_at before after r cs rest fit in
      record {
        front = at.front;
        candidate = at.candidate;
        back = at.back;
        parts = at.parts;
        of_before = Candidates.passed b before at.front other at.of_before;
        is = at.is;
        of_after = at.of_after;
      }
