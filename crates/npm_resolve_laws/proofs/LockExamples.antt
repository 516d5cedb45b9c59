-- Worked example: dependencies can be ordinary. The root has `{"dependencies": {"a": "^1.0.0"}}`, the package `a` has
-- `{"dependencies": {"b": "latest"}}`, and the package `b`, which is `@s/c` in the registry, has `{"dependencies": {"a": "1.2.3"}}`.
use Rattle.std.proofs.Common.{◌≡◌, ◌≢◌, ◌∙◌, ◌∷◌, ℕ, zero, suc, Bool, List, [], None, Ordering, Less, Equal, Greater, Some, ap, arith, codes, false, is_eq, nat_cmp, refl, subst, sym, true}
use Rattle.std.proofs.lemmas.List.Elements.{All-cons, All-nil}
use Rattle.std.proofs.lemmas.Map.Text.{is_eq-slice_cmp}
use Rattle.std.proofs.lemmas.Slice.Eq.{bytes_eq-Decides}
use Rattle.std.specs.Cmp.Lexicographic.{slice_cmp}
use Rattle.std.specs.List.{All}
use Rattle.std.specs.Str.{chars, trim_end, trim_start}
use lib.Utf8.{encode}
use Rattle.semver_texts.specs.Reading.{list_prefix, list_rest, prefix_of, read_build, read_extras, read_number, read_prerelease, rest_of, skip_one, skip_plus}
use Rattle.npm_sets.specs.NpmMeaning.{alternatives_of, comparators_of, pieces_alternatives}
use Rattle.npm_sets.specs.PartialTexts.{has_none_padded, partial_of}
use Rattle.npm_sets.specs.Spaces.{with_plain_spaces}
use Rattle.npm_sets.specs.WordTexts.{chunks_of, ending_after, pieces_of, words_from, words_of}
use Rattle.serde_json.specs.Data.{Data, member, no_members, object, string}
use Rattle.serde_json.specs.View.{view}
use Rattle.node_semver.specs.Versions.{VersionValue}
use Rattle.semver_texts.specs.Version.{least_of, release}
use Rattle.semver_sets.specs.Comparator.{Comparator, exactly, from_up_to}
use Rattle.semver_versions.specs.Lemmas.Public.{is-version_in, one_reading, version_in}
use Rattle.std.specs.Fmt.{digits}
use Rattle.npm_texts.specs.Admission.{IsNoRange, of_dependencies}
use Rattle.npm_texts.specs.InstalledVersions.{IsInstalledVersion, bare}
use Rattle.npm_texts.specs.SpecGrammar.{SpecValue, in_registry, is_tag}
use Rattle.npm_texts.specs.SpecLaws.{IsSpecAsWritten}
use Rattle.npm_texts.specs.WhiteSpace.{trimmed}
use Rattle.npm_packages.specs.Asked.{AskedValue, asked_of}
use Rattle.npm_packages.specs.LastParts as LastParts
use Rattle.npm_resolve.specs.Installed.{InstalledValue}
use Rattle.npm_resolve.specs.declared.documents.Document.{Document}
use Rattle.npm_resolve_laws.specs.Met.{IsInside}
use Rattle.npm_resolve_laws.specs.Ordinary.{AreAllOrdinary, AreOrdinary, IsExact, IsOrdered, IsOrdinarySpec}
use Rattle.npm_resolve_laws.specs.Ordinary as Ordinary

-- ---- a manifest with one dependency

abbrev depends_on : (name spec : List ℕ) → Data
depends_on name spec = object (member (codes "dependencies") (object (member name (string spec) no_members)) no_members)

only_asked : (is_installed : Bool) (key spec name : List ℕ) (asked : AskedValue)
    → asked_of (depends_on key spec) is_installed name ≡ Some asked → (name ≡ key) × (asked.spec ≡ spec)
only_asked is_installed key spec name asked is = by_order is_installed (slice_cmp nat_cmp name key) refl is where
  same_name : slice_cmp nat_cmp name key ≡ Equal → name ≡ key
  same_name equal = (bytes_eq-Decides name key).0 (sym (is_eq-slice_cmp name key) ∙ ap is_eq equal)

  same_spec : Some (record { spec = spec; is_needed = true; is_peer = false; is_dev = false; is_overridden = false }) ≡ Some asked
      → asked.spec ≡ spec
  same_spec found =
      let same : record { spec = spec; is_needed = true; is_peer = false; is_dev = false; is_overridden = false } ≡ asked = cc found in
      ap (λ (a : AskedValue). a.spec) (sym same)

  by_order : (b : Bool) (o : Ordering) → slice_cmp nat_cmp name key ≡ o → asked_of (depends_on key spec) b name ≡ Some asked
      → (name ≡ key) × (asked.spec ≡ spec)
  by_order true Less less found = absurd (let off : None ≡ Some asked = rw less at found in (cc off))
  by_order false Less less found = absurd (let off : None ≡ Some asked = rw less at found in (cc off))
  by_order true Greater greater found = absurd (let off : None ≡ Some asked = rw greater at found in (cc off))
  by_order false Greater greater found = absurd (let off : None ≡ Some asked = rw greater at found in (cc off))
  by_order true Equal equal found = (same_name equal, same_spec (rw equal at found))
  by_order false Equal equal found = (same_name equal, same_spec (rw equal at found))

-- ---- specs

caret_is_no_version : (v : VersionValue) → IsInstalledVersion (codes "^1.0.0") v → ⊥
unfolding bare chars encode
caret_is_no_version v is = let off : false ≡ true = is.digit in (cc off)

latest_is_no_version : (v : VersionValue) → IsInstalledVersion (codes "latest") v → ⊥
unfolding bare chars encode
latest_is_no_version v is = let off : false ≡ true = is.digit in (cc off)

some_alternative : {comparators : List Comparator} → comparators ∷ [] ≡ [] → ⊥
some_alternative is = cc is

version_is : (v : VersionValue) → IsInstalledVersion (codes "1.2.3") v → v ≡ release 1 2 3
unfolding bare chars encode version_in
version_is v is = one_reading (codes "1.2.3") v (release 1 2 3) is.read (is-version_in (codes "1.2.3") (release 1 2 3) (omega arith) refl)

version_is_exact : IsExact (codes "1.2.3") (release 1 2 3)
unfolding digits
version_is_exact = record { printed = refl; short = omega arith }

version_alternatives : alternatives_of of_dependencies (with_plain_spaces (codes "1.2.3")) ≡ (exactly (release 1 2 3) ∷ []) ∷ []
unfolding pieces_of chunks_of ending_after words_from words_of partial_of has_none_padded comparators_of pieces_alternatives prefix_of rest_of
    read_number read_extras read_prerelease read_build list_prefix list_rest skip_one skip_plus chars encode
version_alternatives = refl

version_is_a_range : IsNoRange of_dependencies (codes "1.2.3") → ⊥
version_is_a_range bad = some_alternative (sym version_alternatives ∙ bad)

version_is_tidy : trimmed (codes "1.2.3") ≡ codes "1.2.3"
unfolding trimmed chars encode
version_is_tidy = refl

caret_alternatives : alternatives_of of_dependencies (with_plain_spaces (codes "^1.0.0"))
    ≡ (from_up_to (release 1 0 0) (least_of 2 0 0) ∷ []) ∷ []
unfolding pieces_of chunks_of ending_after words_from words_of partial_of has_none_padded comparators_of pieces_alternatives prefix_of rest_of
    read_number read_extras read_prerelease read_build list_prefix list_rest skip_one skip_plus chars encode
caret_alternatives = refl

caret_is_a_range : IsNoRange of_dependencies (codes "^1.0.0") → ⊥
caret_is_a_range bad = some_alternative (sym caret_alternatives ∙ bad)

latest_is_a_tag : is_tag (codes "latest") ≡ true
unfolding trim_start trim_end chars encode
latest_is_a_tag = refl

caret_is_tidy : trimmed (codes "^1.0.0") ≡ codes "^1.0.0"
unfolding trimmed chars encode
caret_is_tidy = refl

latest_is_tidy : trimmed (codes "latest") ≡ codes "latest"
unfolding trimmed chars encode
latest_is_tidy = refl

module _ (as_written : (text : List ℕ) (value : SpecValue) → IsSpecAsWritten text value) where
  a_range_is_ordinary : IsOrdinarySpec (codes "a") (codes "^1.0.0")
  a_range_is_ordinary = record {
    registered = refl;
    range = codes "^1.0.0";
    written = (as_written (codes "^1.0.0") (in_registry (codes "^1.0.0"))).0 refl;
    tidy = rw caret_is_tidy refl;
    exact = λ v is. absurd (caret_is_no_version v is);
    tag = λ bad. absurd (caret_is_a_range bad);
  }

  a_tag_is_ordinary : IsOrdinarySpec (codes "b") (codes "latest")
  a_tag_is_ordinary = record {
    registered = refl;
    range = codes "latest";
    written = (as_written (codes "latest") (in_registry (codes "latest"))).0 refl;
    tidy = rw latest_is_tidy refl;
    exact = λ v is. absurd (latest_is_no_version v is);
    tag = λ bad. latest_is_a_tag;
  }

  a_version_is_ordinary : IsOrdinarySpec (codes "a") (codes "1.2.3")
  a_version_is_ordinary = record {
    registered = refl;
    range = codes "1.2.3";
    written = (as_written (codes "1.2.3") (in_registry (codes "1.2.3"))).0 refl;
    tidy = rw version_is_tidy refl;
    exact = λ v is. subst (IsExact (codes "1.2.3")) (sym (version_is v is)) version_is_exact;
    tag = λ bad. absurd (version_is_a_range bad);
  }

  one_ordinary : (is_installed : Bool) (key spec : List ℕ) → IsOrdinarySpec key spec → AreAllOrdinary (depends_on key spec) is_installed
  one_ordinary is_installed key spec ordinary name asked is =
      let only = only_asked is_installed key spec name asked is in
      Ordinary.registered (subst (λ n. IsOrdinarySpec n asked.spec) (sym only.0) (subst (IsOrdinarySpec key) (sym only.1) ordinary))

  -- ---- all of it

  abbrev first : InstalledValue
  first = record { name = codes "a"; of_package = codes "a"; version = codes "1.2.3"; manifest = depends_on (codes "b") (codes "latest") }

  abbrev second : InstalledValue
  second = record { name = codes "b"; of_package = codes "@s/c"; version = codes "2.0.0"; manifest = depends_on (codes "a") (codes "1.2.3") }

  one_letter : (b : ℕ) → b ≢ 47 → LastParts.HasNoSlash (b ∷ [])
  one_letter b other zero inside = other
  one_letter b other (suc i) inside = absurd (omega (arith, inside))

  pub dependencies_can_be_ordinary : (documents : List Document) → All (λ (document : Document). IsOrdered (view document.packument)) documents
      → AreOrdinary (depends_on (codes "a") (codes "^1.0.0")) documents (first ∷ second ∷ [])
  dependencies_can_be_ordinary documents ordered = record {
    ordered = ordered;
    no_rules = λ name. refl;
    names = All-cons (λ (one : InstalledValue). IsInside one.name) first (second ∷ [])
        (record { plain = LastParts.alone (one_letter 97 (λ is. cc is)) refl; down = refl })
        (All-cons (λ (one : InstalledValue). IsInside one.name) second []
        (record { plain = LastParts.alone (one_letter 98 (λ is. cc is)) refl; down = refl })
        (All-nil (λ (one : InstalledValue). IsInside one.name)));
    of_root = one_ordinary false (codes "a") (codes "^1.0.0") a_range_is_ordinary;
    of_packages = All-cons (λ (one : InstalledValue). AreAllOrdinary one.manifest true) first (second ∷ [])
        (one_ordinary true (codes "b") (codes "latest") a_tag_is_ordinary)
        (All-cons (λ (one : InstalledValue). AreAllOrdinary one.manifest true) second []
        (one_ordinary true (codes "a") (codes "1.2.3") a_version_is_ordinary)
        (All-nil (λ (one : InstalledValue). AreAllOrdinary one.manifest true)));
  }
