-- The problem that a single wish poses.
use Rattle.std.proofs.Common.{◌≡◌, ◌∙◌, ◌++◌, ◌||◌, ◌∷◌, ℕ, ℤ, zero, suc, List, [], Bool, false, true, None, Option, Some, ap, bytes_eq, length, map, refl, string_bytes, subst, subst₂, sym}
use Rattle.std.proofs.lemmas.Slice.Eq.{bytes_eq-Decides}
use Rattle.std.specs.List.{AllByRecursion, AllZip}
use Rattle.std.specs.Option.{option_map_or}
use Rattle.std.specs.Prelude.{MatchOption, slice_get}
use Rattle.serde_json.specs.View.{view}
use Rattle.serde_json.specs.declared.value.Value.{Value}
use Rattle.version_solving.specs.Documents.{allowed_in, candidates_in, demands_in, problem_of}
use Rattle.version_solving.specs.Naming.{AreCandidatesOf, AreDemandsOf, IsCandidateOf, IsDemandOf, IsPackageOf, number_of}
use Rattle.version_solving.specs.Solving.{Problem}
use Rattle.version_solving.specs.declared.ask.Ask.{Ask}
use Rattle.version_solving.specs.declared.ask.Asker.{Asker}
use Rattle.version_solving.specs.declared.ask.Listed.{Listed}
use Rattle.version_solving.specs.declared.demand.Demand.{Demand}
use Rattle.version_solving.specs.declared.documents.Candidate as Solving
use Rattle.version_solving.specs.declared.documents.Package.{Package}
use Rattle.version_solving.specs.declared.documents.Range.{Range}
use Rattle.version_solving.specs.declared.outcome.Choice.{Choice}
use Rattle.version_solving.specs.declared.wanted.Wanted.{Wanted}
use Rattle.npm_texts.specs.RegistrySpec.{RegistrySpecValue, registry_spec}
use Rattle.npm_resolve.specs.Asks.{AskValue, RulesValue, ask_value}
use Rattle.npm_resolve.specs.Candidates.{AreCandidates}
use Rattle.npm_resolve.specs.Locked.{AreOffered, locked_first, locked_of}
use Rattle.npm_resolve.specs.Meanings.{IsMeaning, MeaningValue}
use Rattle.npm_resolve.specs.declared.candidates.candidate.Candidate.{Candidate}
use Rattle.npm_resolve.specs.declared.candidates.options.Omits.{Omits}
use Rattle.npm_resolve.specs.declared.candidates.options.Options.{Options}
use Rattle.npm_resolve.specs.declared.candidates.owner.Reach.{Reach}
use Rattle.npm_resolve.specs.Answers.{ChosenValue, chosen_of}
use Rattle.npm_resolve.specs.Instance.{AreAllowed, IsAllowed, IsAsker, IsInstance, IsListedFor, IsMeaningFor, IsOffer, IsRangeFor}
use Rattle.npm_resolve.specs.Instance as Instances
use Rattle.npm_resolve.specs.Optional.{is_unmet, name_at, root_demand, root_demands, unmet_names}
use Rattle.npm_resolve.specs.Rules.{rules_of}
use Rattle.npm_resolve.specs.declared.documents.Document.{Document}
use Rattle.npm_resolve_laws.specs.Single.{AsksNothing, IsSingleWish}
use Rattle.npm_resolve_laws.proofs.Optionals.{alone_off, still_needed}
use Rattle.npm_resolve_laws.proofs.Places.{is_allowed}
use Rattle.npm_pick.specs.Lemmas.Zips.{zip_at, zip_length}
use Rattle.npm_resolve_laws.proofs.Zips.{head_zip, no_map, one_map, one_zip}

-- the lock file has no version of the name
offered_are : (name : List ℕ) (options : Options) (document : Document) (cs : List Candidate)
    → AreOffered name (view document.packument) options cs → (locked : Option (List ℕ)) → locked ≡ None
    → ((preferred : List Candidate) → cs ≡ locked_first locked preferred → cs ≡ preferred)
offered_are name options document cs are locked none preferred is = rw none at is

-- candidates that ask for nothing demand nothing
ask_none : (reach : Reach) (rules : RulesValue) (omits : Omits) (cs : List Candidate) (askers : List Asker)
    → AllZip (IsAsker reach rules omits) cs askers → AllByRecursion (AsksNothing reach rules omits) cs
    → AllByRecursion (λ (a : Asker). a.asks.items ≡ []) askers
ask_none reach rules omits [] [] zip none = tt
ask_none reach rules omits [] (a ∷ askers) zip none = absurd zip
ask_none reach rules omits (c ∷ cs) [] zip none = absurd zip
ask_none reach rules omits (c ∷ cs) (a ∷ askers) zip none =
    (no_map ask_value a.asks.items (none.0 (map ask_value a.asks.items) zip.0.0 zip.0.1), ask_none reach rules omits cs askers zip.1 none.1)

no_demands : (names : List Listed) (ranges : List Wanted) (asks : List Ask) (demands : List Demand) → asks ≡ []
    → AreDemandsOf names ranges asks demands → demands ≡ []
no_demands names ranges [] [] none zip = refl
no_demands names ranges [] (d ∷ demands) none zip = absurd zip
no_demands names ranges (a ∷ asks) demands none zip = cc none

demand_none : (names : List Listed) (ranges : List Wanted) (askers : List Asker) (made : List Solving.Candidate)
    → AreCandidatesOf names ranges askers made → AllByRecursion (λ (a : Asker). a.asks.items ≡ []) askers → (c : ℕ)
    → demands_in (slice_get made c) ≡ []
demand_none names ranges [] [] zip none c = refl
demand_none names ranges [] (m ∷ made) zip none c = absurd zip
demand_none names ranges (a ∷ askers) [] zip none c = absurd zip
demand_none names ranges (a ∷ askers) (m ∷ made) zip none zero = no_demands names ranges a.asks.items m.demands.items none.0 zip.0
demand_none names ranges (a ∷ askers) (m ∷ made) zip none (suc c) = demand_none names ranges askers made zip.1 none.1 c

-- what the spec of the wish means, by its text
means : (before : Option ℤ) (offer : _) (spec : List ℕ) (request : RegistrySpecValue) (meaning : MeaningValue)
    → IsMeaningFor before offer spec meaning → registry_spec offer.name.now spec ≡ Some request → offer.package.now ≡ request.name
    → IsMeaning (view offer.packument.now) before request.text meaning
means before offer spec request meaning (Instances.by_text other _ is same text) asks of_package =
    let found : Some other ≡ Some request = sym is ∙ asks in
    let one : other ≡ request = cc found in
    subst (λ (r : RegistrySpecValue). IsMeaning (view offer.packument.now) before r.text meaning) one text
means before offer spec request _ (Instances.of_another other is differs) asks of_package =
    let found : Some other ≡ Some request = sym is ∙ asks in
    let one : other ≡ request = cc found in
    let same : bytes_eq other.name offer.package.now ≡ true = (bytes_eq-Decides other.name offer.package.now).1
    (ap (λ (r : RegistrySpecValue). r.name) one ∙ sym of_package) in
    let meets : (bytes_eq other.name offer.package.now || bytes_eq other.name offer.name.now) ≡ true =
    ap (λ b. b || bytes_eq other.name offer.name.now) same in
    absurd (cc (meets, differs))
means before offer spec request _ (Instances.of_none none) asks of_package = absurd (cc (asks, none))

-- ---- all of it

-- the key of a candidate at a place
abbrev pub key_at : List Candidate → (c : ℕ) → List ℕ
key_at cs c = option_map_or (λ (found : Candidate). found.key.now) (slice_get cs c) []

-- The one demand of the root, the candidates that its range allows, and what is said of a choice of one of them
pub record IsPosedAlone (p : Problem) (value_of : Choice → ChosenValue) (document : Document) (options : Options) (wish : AskValue)
    (request : RegistrySpecValue)
    : Type 0 where
  pub demand : Demand
  pub alone : p.root ≡ demand ∷ []
  pub needed : demand.needed ≡ true
  pub nothing : (c : ℕ) → p.demands demand.name c ≡ []
  pub candidates : List Candidate
  pub are : AreCandidates (view document.packument) options candidates
  pub count : p.count demand.name ≡ length candidates
  pub value : (c : ℕ) → value_of (record { name = demand.name; candidate = c })
      ≡ record { name = wish.name; of_package = request.name; key = key_at candidates c }
  pub allowed : List Bool
  pub allows : (c : ℕ) → p.allows demand.range c ≡ is_allowed allowed c
  pub meaning : MeaningValue
  pub is : IsMeaning (view document.packument) options.before request.text meaning
  pub each : AreAllowed meaning candidates allowed

module _ (manifests : List Value) (document : Document) (options : Options) (reach : Reach) (omits : Omits) (wish : AskValue)
    (request : RegistrySpecValue) (single : IsSingleWish manifests document options reach omits wish request) (posed : _)
    (posing : IsInstance manifests (document ∷ []) options reach omits posed)
    (all_met : unmet_names manifests posed.names.items posed.documents.ranges.items posing.demands ≡ []) where
  abbrev IsAlone : Type 0
  IsAlone = IsPosedAlone (problem_of posed.root.items posed.documents) (chosen_of posed.offers.items) document options wish request

  -- the wish, the offer, and the name are each alone
  module _ (w : Ask) (wishes : posed.wishes.items ≡ w ∷ []) (w_is : ask_value w ≡ wish) (offer : _)
      (offers : posed.offers.items ≡ offer ∷ []) (is_offer : IsOffer options document offer) (l : Listed)
      (names : posed.names.items ≡ l ∷ posing.absent) (is_listed : IsListedFor reach (rules_of manifests) omits offer l) where
    name : offer.name.now ≡ wish.name
    name = is_offer.name ∙ single.name

    of_package : offer.package.now ≡ request.name
    of_package = is_offer.of_package ∙ single.of_package

    are : AreCandidates (view document.packument) options offer.candidates.items
    are =
        let unlocked : locked_of options (string_bytes document.name) ≡ None =
        subst (λ n. locked_of options n ≡ None) (sym single.name) single.unlocked in
        subst (AreCandidates (view document.packument) options)
        (sym (offered_are (string_bytes document.name) options document offer.candidates.items is_offer.candidates
        (locked_of options (string_bytes document.name)) unlocked is_offer.candidates.preferred is_offer.candidates.ordered))
        is_offer.candidates.are

    first_number : number_of (l ∷ posing.absent) w.name.now ≡ 0
    first_number =
        let same : l.name.now ≡ w.name.now = is_listed.name ∙ name ∙ sym (ap (λ (a : AskValue). a.name) w_is) in
        let found : bytes_eq l.name.now w.name.now ≡ true = (bytes_eq-Decides l.name.now w.name.now).1 same in
        rw found refl

    module _ (d : Demand) (root : posed.root.items ≡ d ∷ []) (is_demand : IsDemandOf posed.names.items posed.ranges.items w d)
        (made : Package) (others : List Package) (packages : posed.documents.packages.items ≡ made ∷ others)
        (is_made : IsPackageOf posed.names.items posed.ranges.items l made) (range : Range)
        (there : slice_get posed.documents.ranges.items d.range ≡ Some range)
        (is_range : IsRangeFor options.before posed.offers.items is_demand.range.wanted range) where
      first_name : d.name ≡ 0
      first_name = is_demand.name ∙ subst (λ all. number_of all w.name.now ≡ 0) (sym names) first_number

      package_is : slice_get posed.documents.packages.items d.name ≡ Some made
      package_is = subst₂ (λ all n. slice_get all n ≡ Some made) (sym packages) (sym first_name) refl

      is_in : IsAllowed options.before is_demand.range.wanted.spec.now range offer
      is_in = subst₂ (λ all n. MatchOption (slice_get all n) (range.allowed.items ≡ [])
          (IsAllowed options.before is_demand.range.wanted.spec.now range)) offers (is_demand.range.of_name ∙ first_name) is_range

      spec_is : is_demand.range.wanted.spec.now ≡ wish.spec
      spec_is = is_demand.range.of_spec ∙ ap (λ (a : AskValue). a.spec) w_is

      meant : IsMeaning (view document.packument) options.before request.text is_in.meaning
      meant = subst (λ (v : Value). IsMeaning (view v) options.before request.text is_in.meaning) is_offer.packument
          (means options.before offer is_demand.range.wanted.spec.now request is_in.meaning is_in.is
          (subst₂ (λ n s. registry_spec n s ≡ Some request) (sym name) (sym spec_is) single.asks) of_package)

      posed_alone : IsAlone
      posed_alone = record {
        demand = d;
        alone = root;
        needed = is_demand.needed ∙ ap (λ (a : AskValue). a.needed) w_is ∙ single.needed;
        nothing = λ c. subst (λ found. demands_in (slice_get (candidates_in found) c) ≡ []) (sym package_is)
            (demand_none posed.names.items posed.ranges.items l.candidates.items made.candidates.items is_made
            (ask_none reach (rules_of manifests) omits offer.candidates.items l.candidates.items is_listed.askers (single.nothing offer.candidates.items are)) c);
        candidates = offer.candidates.items;
        are = are;
        count = ap (λ found. length (candidates_in found)) package_is
            ∙ sym (zip_length (IsCandidateOf posed.names.items posed.ranges.items) l.candidates.items made.candidates.items is_made)
            ∙ sym (zip_length (IsAsker reach (rules_of manifests) omits) offer.candidates.items l.candidates.items is_listed.askers);
        value = λ c. subst₂ (λ all n. chosen_of all (record { name = n; candidate = c })
            ≡ record { name = wish.name; of_package = request.name; key = key_at offer.candidates.items c }) (sym offers) (sym first_name)
            (λ i. record { name = name i; of_package = of_package i; key = key_at offer.candidates.items c });
        allowed = range.allowed.items;
        allows = λ c. ap (λ found. allowed_in found c) there;
        meaning = is_in.meaning;
        is = meant;
        each = is_in.each;
      }

  pub alone_posed : IsPosedAlone (problem_of posed.root.items posed.documents) (chosen_of posed.offers.items) document options wish request
  alone_posed =
      let w = one_map ask_value posed.wishes.items wish (single.alone (map ask_value posed.wishes.items) posing.left_out posing.asked) in
      let o = one_zip (IsOffer options) document posed.offers.items posing.offered in
      let l = one_zip (IsListedFor reach (rules_of manifests) omits) o.0 posing.listed
      (subst (λ offers. AllZip (IsListedFor reach (rules_of manifests) omits) offers posing.listed) o.1 posing.are_listed) in
      let names : posed.names.items ≡ l.0 ∷ posing.absent = posing.named ∙ ap (λ all. all ++ posing.absent) l.1 in
      let d = one_zip (IsDemandOf posed.names.items posed.ranges.items) w.0 posing.demands
      (subst (λ wishes. AreDemandsOf posed.names.items posed.ranges.items wishes posing.demands) w.1 posing.demanded) in
      let limit = root_demand manifests posed.names.items posed.documents.ranges.items d.0 in
      let root : posed.root.items ≡ limit ∷ [] = posing.root
      ∙ ap (root_demands manifests posed.names.items posed.documents.ranges.items) d.1 in
      let met : is_unmet manifests posed.names.items posed.documents.ranges.items d.0 ≡ false =
      alone_off (λ (one : Demand). name_at posed.names.items one.name) (is_unmet manifests posed.names.items posed.documents.ranges.items) d.0
      (subst (λ demands. unmet_names manifests posed.names.items posed.documents.ranges.items demands ≡ []) d.1 all_met) in
      let needed : limit.needed ≡ w.0.needed = still_needed d.0.needed _ met ∙ d.2.needed in
      let made = head_zip (IsPackageOf posed.names.items posed.ranges.items) l.0 posing.absent posed.documents.packages.items
      (subst (λ all. AllZip (IsPackageOf posed.names.items posed.ranges.items) all posed.documents.packages.items) names posing.packages) in
      let range = zip_at (IsRangeFor options.before posed.offers.items) posed.ranges.items posed.documents.ranges.items d.0.range
      d.2.range.wanted posing.allowed d.2.range.there in
      posed_alone w.0 w.1 w.2 o.0 o.1 o.2 l.0 names l.2 limit root (record { name = d.2.name; range = d.2.range; needed = needed }) made.0 made.1 made.2 made.3 range.0 range.1 range.2
