-- What a selection installs meets all that is asked, if dependencies are ordinary.
use Rattle.std.specs.Prelude.{slice_get}
use Rattle.npm_resolve.specs.Rules.{rules_of}
use Rattle.npm_packages.specs.Overrides.{changed_by, rule_in}
use Rattle.std.proofs.Common.{◌≡◌, ◌≢◌, ◌∙◌, ◌&&◌, ◌||◌, ◌⊎◌, ℕ, List, [], ◌∷◌, Bool, false, true, None, Option, Some, ap, bytes_eq, codes, if◌then◌else◌, inl, inr, not, option_and_then, refl, string_bytes, subst, sym}
use Rattle.std.proofs.lemmas.List.Elements.{All-contains, All-contains_itself, All-weaker}
use Rattle.std.proofs.lemmas.Slice.Eq.{bytes_eq-Decides}
use Rattle.std.specs.List.{All, Contains}
use Rattle.std.specs.Option.{option_map_or}
use Rattle.serde_json.specs.Data.{Data}
use Rattle.serde_json.specs.Find.{get}
use Rattle.serde_json.specs.View.{view}
use Rattle.serde_json.specs.declared.value.Value.{Value}
use Rattle.npm_texts.specs.InstalledVersions.{IsInstalledVersion}
use Rattle.npm_texts.specs.RegistrySpec.{RegistrySpecValue, registry_spec}
use Rattle.npm_texts.specs.SpecLaws.{IsAskedAsWritten}
use Rattle.npm_packages.specs.Asked.{AskedValue, asked_of}
use Rattle.npm_resolve.specs.Asks.{AskValue, ask_of, asks_by, asks_on, counts, has_dependencies, is_root}
use Rattle.npm_resolve.specs.declared.candidates.candidate.Candidate.{Candidate}
use Rattle.npm_resolve.specs.declared.candidates.options.Options.{Options}
use Rattle.npm_resolve.specs.declared.candidates.owner.Owner.{Owner}
use Rattle.npm_resolve.specs.declared.candidates.owner.Owner.TheVariants.{Root, Version}
use Rattle.npm_resolve.specs.declared.candidates.owner.Reach.TheVariants.{Dependencies}
use Rattle.npm_resolve.specs.Answers.{ChosenValue}
use Rattle.npm_resolve.specs.Optional.{is_required_in}
use Rattle.npm_resolve.specs.declared.documents.Document.{Document}
use Rattle.npm_resolve_reports.specs.Locks.{all_installed, installed_by, manifest_of, packument_of}
use Rattle.npm_resolve.specs.Installed.{InstalledValue, found, found_after, later_found}
use Rattle.npm_resolve_laws.specs.Met.{AreAllMet, AreMet, IsInside, IsKept, IsMet}
use Rattle.npm_resolve_laws.specs.Met as Meeting
use Rattle.npm_resolve_laws.specs.Ordinary.{AreAllOrdinary, AreOrdinary, IsOrdered, IsOrdinary, IsOrdinarySpec, nothing_omitted}
use Rattle.npm_resolve_laws.specs.Ordinary as Ordinary
use Rattle.npm_resolve_laws.specs.Selected.{AreAnswered, IsAllowedBy, IsAnswered, IsAnsweredFor, IsSelectedFrom, IsSound}
use Rattle.npm_resolve_laws.specs.Selected as Answering
use Rattle.npm_resolve_laws.proofs.Edges.{OneSpec, found_so}
use Rattle.npm_resolve_laws.proofs.Lists.{first_in, from_flat_map, in_cases, in_flat_map, item_of, later_in, none_in}
use Rattle.npm_resolve_laws.proofs.Ranges.{ReadBack, kept}
use Rattle.npm_resolve_laws.proofs.Releases.{manifest_there, release_of}

-- ---- what is found under a name

pub none_found : (installed : List InstalledValue) (before : Option InstalledValue) (name : List ℕ)
    → found_after before installed name ≡ None
    → (before ≡ None) × ((x : InstalledValue) → Contains installed x → x.name ≡ name → ⊥)
none_found [] before name is = (is, λ x there same. none_in x there)
none_found (one ∷ others) before name is =
    let later = none_found others (later_found before one name) name is in
    by_name (bytes_eq one.name name) refl later.0 later.1 where
      by_name : (b : Bool) → bytes_eq one.name name ≡ b → later_found before one name ≡ None
          → ((x : InstalledValue) → Contains others x → x.name ≡ name → ⊥)
          → (before ≡ None) × ((x : InstalledValue) → Contains (one ∷ others) x → x.name ≡ name → ⊥)
      by_name true on none apart = absurd (let off : Some one ≡ None = rw on at none in (cc off))
      by_name false off none apart = (rw off at none, λ x there same. by_part x same (in_cases one others x there)) where
        by_part : (x : InstalledValue) → x.name ≡ name → (one ≡ x) ⊎ Contains others x → ⊥
        by_part x same (inl here) =
            let on : bytes_eq one.name name ≡ true = (bytes_eq-Decides one.name name).1 (ap (λ (o : InstalledValue). o.name) here ∙ same) in
            (cc (on, off))
        by_part x same (inr later) = apart x later same

pub some_found : (installed : List InstalledValue) (name : List ℕ) (one : InstalledValue) → found installed name ≡ Some one
    → Contains installed one × (one.name ≡ name)
some_found installed name one is = found_so (Contains installed) installed None name one (All-contains_itself installed)
    (λ off. absurd (cc off)) is

-- ---- a selected version as it is installed

abbrev pub installed_as : ChosenValue → (manifest : Data) → InstalledValue
installed_as one manifest = record { name = one.name; of_package = one.of_package; version = one.key; manifest = manifest }

-- the first document of a name
document_there : (documents : List Document) (name : List ℕ) (packument : Data) → packument_of documents name ≡ Some packument
    → (document : Document) × Contains documents document × (view document.packument ≡ packument)
document_there [] name packument is = absurd (cc is)
document_there (document ∷ others) name packument is =
    by_name (document_there others name packument) (bytes_eq (string_bytes document.name) name) refl is where
      by_name : (packument_of others name ≡ Some packument
          → (d : Document) × Contains others d × (view d.packument ≡ packument)) → (b : Bool) → bytes_eq (string_bytes document.name) name ≡ b → packument_of (document ∷ others) name ≡ Some packument
          → (d : Document) × Contains (document ∷ others) d × (view d.packument ≡ packument)
      by_name more true on found =
          let this : Some (view document.packument) ≡ Some packument = rw on at found in
          (document, first_in document others, cc this)
      by_name more false off found =
          let later = more (rw off at found) in
          (later.0, later_in document others later.0 later.1, later.2)

abbrev pub AreOrdered : List Document → Type 0
AreOrdered documents = All (λ (document : Document). IsOrdered (view document.packument)) documents

module _ (documents : List Document) (options : Options) (ordered : AreOrdered documents) where
  module _ (one : ChosenValue) (packument : Data) (candidate : Candidate) (from : IsSelectedFrom documents options one packument candidate) where
    pub read_key : IsInstalledVersion candidate.key.now candidate.version
    read_key =
        let release = release_of packument options one.name from.candidates from.are candidate from.there in
        subst (λ (t : List ℕ). IsInstalledVersion t candidate.version) (sym release.2.key) release.2.read

    in_order : IsOrdered packument
    in_order =
        let document = document_there documents one.name packument from.document in
        subst IsOrdered document.2 (All-contains (λ (d : Document). IsOrdered (view d.packument)) documents document.0 ordered document.1)

    manifest_is : manifest_of documents one.name one.key ≡ Some (view candidate.manifest.now)
    manifest_is =
        let release = release_of packument options one.name from.candidates from.are candidate from.there in
        ap (λ o. option_and_then (get one.key) (option_and_then (get (codes "versions")) o)) from.document
        ∙ (ap (λ key. option_and_then (get key) (get (codes "versions") packument)) (sym from.key ∙ release.2.key)
        ∙ (manifest_there packument in_order release.0 release.1 ∙ ap Some (sym release.2.manifest)))

    is_installed : installed_by documents one ≡ installed_as one (view candidate.manifest.now) ∷ []
    is_installed = ap (λ o. option_map_or (λ manifest. installed_as one manifest ∷ []) o []) manifest_is

-- ---- all that a manifest asks

all_count : (is_needed is_peer is_dev : Bool) → (if is_peer then true else (true && (if is_dev then true else (is_needed || true)))) ≡ true
all_count is_needed true is_dev = refl
all_count is_needed false true = refl
all_count true false false = refl
all_count false false false = refl

by_or : (a b : Bool) → (a || b) ≡ false → a ≡ false
by_or true b off = absurd (cc off)
by_or false b off = refl

module _ (read_back : ReadBack) (one_spec : OneSpec) (as_written : (name spec : List ℕ) (one : RegistrySpecValue) → IsAskedAsWritten name spec one)
    (manifests : List Value) (documents : List Document) (options : Options) (unmet : List (List ℕ)) (selected : List ChosenValue)
    (sound : IsSound manifests documents options Dependencies nothing_omitted unmet selected) (ordered : AreOrdered documents) where
  abbrev installed : List InstalledValue
  installed = all_installed documents selected

  -- a selected version, and what is installed of it
  abbrev Answers : ChosenValue → Type 0
  Answers = IsAnsweredFor documents options Dependencies (rules_of manifests) nothing_omitted selected

  from_installed : (x : InstalledValue) → Contains installed x
      → (one : ChosenValue) × (own : Answers one) × Contains selected one × (x ≡ installed_as one (view own.candidate.manifest.now))
  from_installed x there =
      let one = from_flat_map (installed_by documents) selected x there in
      let own : Answers one.0 = All-contains Answers selected one.0 sound.of_versions one.1 in
      let alone : Contains (installed_as one.0 (view own.candidate.manifest.now) ∷ []) x =
      subst (λ (xs : List InstalledValue). Contains xs x)
      (is_installed documents options ordered one.0 own.packument own.candidate own.from) one.2 in (
        one.0,
        own,
        one.1,
        same (installed_as one.0 (view own.candidate.manifest.now))
            (in_cases (installed_as one.0 (view own.candidate.manifest.now)) [] x alone),
      ) where
        same : (y : InstalledValue) → (y ≡ x) ⊎ Contains [] x → x ≡ y
        same y (inl is) = sym is
        same y (inr none) = absurd (none_in x none)

  in_installed : (one : ChosenValue) (packument : Data) (candidate : Candidate) → IsSelectedFrom documents options one packument candidate
      → Contains selected one → Contains installed (installed_as one (view candidate.manifest.now))
  in_installed one packument candidate from there = in_flat_map (installed_by documents) selected one
      (installed_as one (view candidate.manifest.now)) there
      (subst (λ (xs : List InstalledValue). Contains xs (installed_as one (view candidate.manifest.now)))
      (sym (is_installed documents options ordered one packument candidate from)) (first_in (installed_as one (view candidate.manifest.now)) []))

  module _ (name : List ℕ) (asked : AskedValue) where
    -- what is found under the name may stand for a spec that allows the version that is selected for it
    kept_one : IsOrdinarySpec name asked.spec → (one : ChosenValue) → Contains selected one → one.name ≡ name
        → IsAllowedBy documents options asked.spec one → (x : InstalledValue) → found installed name ≡ Some x → IsKept x.version asked.spec
    kept_one ordinary one there named allowed x is =
        let here = some_found installed name x is in
        let from = from_installed x here.0 in
        let alike : from.0.name ≡ one.name = ap (λ (o : InstalledValue). o.name) (sym from.3) ∙ (here.1 ∙ sym named) in
        let same : from.0 ≡ one = sound.once from.0 one from.2 there alike in
        let version : x.version ≡ allowed.candidate.key.now =
        ap (λ (o : InstalledValue). o.version) from.3 ∙ (ap (λ (o : ChosenValue). o.key) same ∙ sym allowed.selected.key) in
        let asks : registry_spec name asked.spec ≡ Some allowed.request =
        subst (λ (n : List ℕ). registry_spec n asked.spec ≡ Some allowed.request) named allowed.asks in
        subst (λ (t : List ℕ). IsKept t asked.spec) (sym version) (kept read_back one_spec allowed.packument options.before name asked.spec allowed.request
        allowed.meaning allowed.candidate ((as_written name asked.spec allowed.request).0 asks) ordinary allowed.means allowed.admitted
        (read_key documents options ordered one allowed.packument allowed.candidate allowed.selected))

    -- what is selected under no name is not installed
    none_apart : ((one : ChosenValue) → Contains selected one → one.name ≢ name) → (x : InstalledValue) → found installed name ≡ Some x
        → IsMet installed name asked
    none_apart apart x is =
        let here = some_found installed name x is in
        let from = from_installed x here.0 in
        absurd (apart from.0 from.2 (ap (λ (o : InstalledValue). o.name) (sym from.3) ∙ here.1))

    module _ (told : List (List ℕ)) (manifest : Data)
        (may_lack : Contains told name → is_required_in manifest name ≡ false → asked.is_needed ≡ false) where
      met_by : IsOrdinarySpec name asked.spec → (owner : Owner) → IsAnswered documents options selected told manifest (ask_of owner name asked)
          → (o : Option InstalledValue) → found installed name ≡ o → IsMet installed name asked
      met_by ordinary owner (Answering.allowed one there named allowed) None none = absurd
          ((none_found installed None name none).1 (installed_as one (view allowed.candidate.manifest.now))
          (in_installed one allowed.packument allowed.candidate allowed.selected there) named)
      met_by ordinary owner (Answering.allowed one there named allowed) (Some x) is =
          Meeting.met x is (kept_one ordinary one there named allowed x is)
      met_by ordinary owner (Answering.unneeded free apart) None none =
          Meeting.unneeded none (by_or asked.is_needed (is_root owner && not asked.is_peer) free)
      met_by ordinary owner (Answering.unneeded free apart) (Some x) is = none_apart apart x is
      met_by ordinary owner (Answering.unmet_option inside free apart) None none = Meeting.unneeded none (may_lack inside free)
      met_by ordinary owner (Answering.unmet_option inside free apart) (Some x) is = none_apart apart x is

  -- what is told may be missing
  abbrev MayLack : (told : List (List ℕ)) → (manifest : Data) → Owner → Type 0
  MayLack told manifest owner = (name : List ℕ) (asked : AskedValue) → asked_of manifest (not (is_root owner)) name ≡ Some asked
      → Contains told name → is_required_in manifest name ≡ false → asked.is_needed ≡ false

  all_met : ((name : List ℕ) → rules_of manifests name ≡ None) → (told : List (List ℕ)) (manifest : Data) (owner : Owner)
      → MayLack told manifest owner → has_dependencies owner ≡ true
      → AreAnswered documents options selected told manifest owner (rules_of manifests) nothing_omitted
      → AreAllOrdinary manifest (not (is_root owner)) → AreAllMet installed manifest (not (is_root owner))
  all_met none told manifest owner may_lack has answered ordinary name asked is = by_kind (ordinary name asked is) where
    counted : counts owner nothing_omitted asked ≡ true
    counted = ap (λ b. if asked.is_peer then true else (b && (if asked.is_dev then true else (asked.is_needed || true)))) has
        ∙ all_count asked.is_needed asked.is_peer asked.is_dev

    on_name : asks_on manifest owner (rules_of manifests) nothing_omitted name ≡ ask_of owner name asked ∷ []
    on_name = ap (λ o. option_map_or (λ (a : AskedValue). asks_by owner nothing_omitted name (changed_by (rules_of manifests name) [] a)) o []) is
        ∙ ap (λ r. asks_by owner nothing_omitted name (changed_by r [] asked)) (none name)
        ∙ ap (λ b. if b then ask_of owner name asked ∷ [] else []) counted

    by_kind : IsOrdinary name asked → IsMet installed name asked
    by_kind (Ordinary.registered spec) = met_by name asked told manifest (may_lack name asked is) spec owner
        (answered name (ask_of owner name asked) (subst (λ (asks : List AskValue). Contains asks (ask_of owner name asked)) (sym on_name)
        (first_in (ask_of owner name asked) [])) spec.registered) (found installed name) refl
    by_kind (Ordinary.elsewhere is_location free) = by_found (found installed name) refl where
      by_found : (o : Option InstalledValue) → found installed name ≡ o → IsMet installed name asked
      by_found None none = Meeting.unneeded none free
      by_found (Some x) there = Meeting.met x there (Meeting.elsewhere is_location)

  pub are_met : (root : Value) → slice_get manifests 0 ≡ Some root → AreOrdinary (view root) documents installed → AreMet (view root) installed
  are_met root first ordinary = record {
    names = ordinary.names;
    of_root = all_met none unmet (view root) Root
        (λ name asked is inside free. sym (ap (λ o. option_map_or (λ (a : AskedValue). a.is_needed) o false) is) ∙ free) refl
        (All-contains (λ (manifest : Value). AreAnswered documents options selected unmet (view manifest) Root (rules_of manifests) nothing_omitted) manifests root
        sound.of_manifests (item_of manifests 0 root first)) ordinary.of_root;
    of_packages = All-weaker (Contains installed) (λ (x : InstalledValue). AreAllMet installed x.manifest true) of_one installed
        (All-contains_itself installed);
  } where
    none : (name : List ℕ) → rules_of manifests name ≡ None
    none name = ap (option_and_then (λ (r : Value). rule_in (view r) name)) first ∙ ordinary.no_rules name

    of_one : (x : InstalledValue) → Contains installed x → AreAllMet installed x.manifest true
    of_one x inside =
        let from = from_installed x inside in
        let manifest : x.manifest ≡ view from.1.candidate.manifest.now = ap (λ (o : InstalledValue). o.manifest) from.3 in
        let own = All-contains (λ (o : InstalledValue). AreAllOrdinary o.manifest true) installed x ordinary.of_packages inside in
        subst (λ (m : Data). AreAllMet installed m true) (sym manifest)
        (all_met none [] (view from.1.candidate.manifest.now) (Version Dependencies)
        (λ name asked is inside free. absurd (none_in name inside)) refl from.1.answered
        (subst (λ (m : Data). AreAllOrdinary m true) manifest own))
