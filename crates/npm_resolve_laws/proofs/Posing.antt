-- What stands behind the numbers of a problem that manifests and documents pose.
use Rattle.npm_resolve.specs.Rules.{rules_of}
use Rattle.npm_resolve.specs.Asks.{RulesValue}
use Rattle.std.proofs.Common.{◌≡◌, ◌∙◌, ◌<◌, ◌⊎◌, ℕ, List, [], Option, Some, None, ap, arith, inl, inr, length, refl, string_bytes, subst, sym}
use Rattle.std.proofs.lemmas.List.Elements.{All-contains}
use Rattle.std.proofs.lemmas.Option.{slice_get_within}
use Rattle.std.specs.Prelude.{slice_get}
use Rattle.std.specs.List.{Contains}
use Rattle.std.specs.Option.{option_map_or}
use Rattle.serde_json.specs.View.{view}
use Rattle.serde_json.specs.declared.value.Value.{Value}
use Rattle.version_solving.specs.Documents.{candidates_in, demands_in, problem_of}
use Rattle.version_solving.specs.Naming.{AreDemandsOf, IsCandidateOf, IsDemandOf, IsPackageOf, number_of}
use Rattle.version_solving.specs.Solving.{Fits, IsNeeded, Problem, Selection}
use Rattle.version_solving.specs.Solving.IsNeeded.{by_candidate, by_root}
use Rattle.version_solving.specs.declared.ask.Ask.{Ask}
use Rattle.version_solving.specs.declared.ask.Asker.{Asker}
use Rattle.version_solving.specs.declared.ask.Listed.{Listed}
use Rattle.version_solving.specs.declared.demand.Demand.{Demand}
use Rattle.version_solving.specs.declared.documents.Candidate.{Candidate as Demands}
use Rattle.version_solving.specs.declared.documents.Package.{Package}
use Rattle.npm_resolve.specs.Locked.{AreOffered}
use Rattle.npm_resolve.specs.declared.candidates.candidate.Candidate.{Candidate}
use Rattle.npm_resolve.specs.declared.candidates.options.Omits.{Omits}
use Rattle.npm_resolve.specs.declared.candidates.options.Options.{Options}
use Rattle.npm_resolve.specs.declared.candidates.owner.Reach.{Reach}
use Rattle.npm_resolve.specs.Answers.{ChosenValue}
use Rattle.npm_resolve.specs.Instance.{HasNone, IsAsker, IsInstance, IsListedFor, IsOffer, key_of}
use Rattle.npm_resolve.specs.Optional.{root_demand}
use Rattle.npm_resolve.specs.declared.documents.Document.{Document}
use Rattle.npm_resolve_reports.specs.Locks.{packument_of}
use Rattle.npm_resolve_laws.specs.Selected.{IsSelectedFrom}
use Rattle.npm_pick.specs.Lemmas.Mapped.{contains_mapped}
use Rattle.npm_resolve_laws.proofs.Lists.{either_place, item_of, place_of, place_within, zip_right}
use Rattle.npm_resolve_laws.proofs.Numbers.{document_of, number_named}
use Rattle.npm_resolve_laws.proofs.Types.{Offer, Posed}

abbrev pub problem_posed : Posed → Problem
problem_posed posed = problem_of posed.root.items posed.documents

-- the candidate with this number of the name with that number
pub record IsAt (options : Options) (reach : Reach) (rules : RulesValue) (omits : Omits) (posed : Posed) (n c : ℕ) : Type 0 where
  pub offer : Offer
  pub offer_at : slice_get posed.offers.items n ≡ Some offer
  pub document : Document
  pub of_document : IsOffer options document offer
  pub one : Listed
  pub one_at : slice_get posed.names.items n ≡ Some one
  pub named : one.name.now ≡ offer.name.now
  pub candidate : Candidate
  pub candidate_at : slice_get offer.candidates.items c ≡ Some candidate
  pub asker : Asker
  pub asks : IsAsker reach rules omits candidate asker
  pub demands : AreDemandsOf posed.names.items posed.ranges.items asker.asks.items ((problem_posed posed).demands n c)

-- what is selected by these numbers
abbrev pub with_key : Offer → (key : List ℕ) → ChosenValue
with_key offer key = record { name = offer.name.now; of_package = offer.package.now; key = key }

abbrev pub no_value : ChosenValue
no_value = record { name = []; of_package = []; key = [] }

abbrev pub chosen_at : List Offer → (n c : ℕ) → ChosenValue
chosen_at offers n c = option_map_or (λ (offer : Offer). with_key offer (key_of offer c)) (slice_get offers n) no_value

module _ (manifests : List Value) (documents : List Document) (options : Options) (reach : Reach) (omits : Omits) (posed : Posed)
    (posing : IsInstance manifests documents options reach omits posed) where
  abbrev names : List Listed
  names = posed.names.items

  -- the number is that of a name
  abbrev pub IsOfName : (n : ℕ) → Type 0
  IsOfName n = (name : List ℕ) × (n ≡ number_of names name)

  abbrev IsAtHere : (n c : ℕ) → Type 0
  IsAtHere n c = IsAt options reach (rules_of manifests) omits posed n c

  absent_none : (one : Listed) → Contains posing.absent one → HasNone one
  absent_none one there = All-contains HasNone posing.absent one posing.are_absent.none there

  -- ---- candidates

  module _ (n c : ℕ) (made_of : Package) (made_at : slice_get posed.documents.packages.items n ≡ Some made_of)
      (inside : c < length made_of.candidates.items) where
    at_package : IsAtHere n c
    at_package =
        let made = place_within made_of.candidates.items c inside in
        let one = zip_right (IsPackageOf names posed.ranges.items) names posed.documents.packages.items n made_of posing.packages made_at in
        let asker = zip_right (IsCandidateOf names posed.ranges.items) one.0.candidates.items made_of.candidates.items c made.0 one.2 made.1 in
        by_part one.0 asker.0 one.1 asker.1
        (subst (λ ds. AreDemandsOf names posed.ranges.items asker.0.asks.items ds) (sym (same_demands made.0 made.1)) asker.2)
        (either_place posing.listed posing.absent n one.0 (subst (λ (ls : List Listed). slice_get ls n ≡ Some one.0) posing.named one.1)) where
          same_demands : (made : Demands) → slice_get made_of.candidates.items c ≡ Some made → (problem_posed posed).demands n c ≡ made.demands.items
          same_demands made there = ap (λ o. demands_in (slice_get (candidates_in o) c)) made_at ∙ ap demands_in there

          by_part : (one : Listed) (asker : Asker) → slice_get names n ≡ Some one → slice_get one.candidates.items c ≡ Some asker
              → AreDemandsOf names posed.ranges.items asker.asks.items ((problem_posed posed).demands n c)
              → (slice_get posing.listed n ≡ Some one) ⊎ Contains posing.absent one → IsAtHere n c
          by_part one asker one_at asker_at demands (inl listed_at) =
              let offer = zip_right (IsListedFor reach (rules_of manifests) omits) posed.offers.items posing.listed n one posing.are_listed listed_at in
              let candidate = zip_right (IsAsker reach (rules_of manifests) omits) offer.0.candidates.items one.candidates.items c asker offer.2.askers asker_at in
              let document = zip_right (IsOffer options) documents posed.offers.items n offer.0 posing.offered offer.1 in
              record {
                offer = offer.0;
                offer_at = offer.1;
                document = document.0;
                of_document = document.2;
                one = one;
                one_at = one_at;
                named = offer.2.name;
                candidate = candidate.0;
                candidate_at = candidate.1;
                asker = asker;
                asks = candidate.2;
                demands = demands;
              }
          by_part one asker one_at asker_at demands (inr gone) =
              let none : slice_get one.candidates.items c ≡ None = rw (absent_none one gone) refl in
              absurd (let off = sym none ∙ asker_at in (cc off))

  pub candidate_at : (n c : ℕ) → c < (problem_posed posed).count n → IsAtHere n c
  candidate_at n c inside = by_package (slice_get posed.documents.packages.items n) refl where
    by_package : (o : Option Package) → slice_get posed.documents.packages.items n ≡ o → IsAtHere n c
    by_package None none =
        let empty : c < 0 = subst (λ o. c < length (candidates_in o)) none inside in absurd (omega (arith, empty))
    by_package (Some made_of) some = at_package n c made_of some (subst (λ o. c < length (candidates_in o)) some inside)

  -- ---- numbers of names

  demand_named : (asks : List Ask) (demands : List Demand) → AreDemandsOf names posed.ranges.items asks demands → (d : Demand)
      → Contains demands d → IsOfName d.name
  demand_named asks demands are d there =
      let place = place_of demands d there in
      let ask = zip_right (IsDemandOf names posed.ranges.items) asks demands place.0 d are place.1 in (ask.0.name.now, ask.2.name)

  pub needed_named : (s : Selection) → Fits (problem_posed posed) s → (n : ℕ) → IsNeeded (problem_posed posed) s n → IsOfName n
  needed_named s fits n (by_root d inside needed) =
      let from = contains_mapped (root_demand manifests names posed.documents.ranges.items) posing.demands d
      (subst (λ (ds : List Demand). Contains ds d) posing.root inside) in
      subst (λ (one : Demand). IsOfName one.name) from.2 (demand_named posed.wishes.items posing.demands posing.demanded from.0 from.1)
  needed_named s fits n (by_candidate other c d is_needed is inside needed) =
      let spot = candidate_at other c (fits.existing other c is) in
      demand_named spot.asker.asks.items ((problem_posed posed).demands other c) spot.demands d inside

  module _ (n c : ℕ) (spot : IsAtHere n c) where
    -- what has the number of a name has the name
    pub at_named : (name : List ℕ) → n ≡ number_of names name → spot.offer.name.now ≡ name
    at_named name is = sym spot.named ∙ number_named names name spot.one (subst (λ m. slice_get names m ≡ Some spot.one) is spot.one_at)

    abbrev pub value_at : ChosenValue
    value_at = with_key spot.offer spot.candidate.key.now

    pub chosen_is : chosen_at posed.offers.items n c ≡ value_at
    chosen_is = ap (λ (o : Option Offer). option_map_or (λ (offer : Offer). with_key offer (key_of offer c)) o no_value) spot.offer_at
        ∙ ap (λ (o : Option Candidate). with_key spot.offer (option_map_or (λ (found : Candidate). found.key.now) o [])) spot.candidate_at

    pub selected_from : number_of names spot.offer.name.now ≡ n → IsSelectedFrom documents options value_at (view spot.offer.packument.now) spot.candidate
    selected_from number = record {
      document = first;
      candidates = spot.offer.candidates.items;
      are = subst (λ (t : List ℕ). AreOffered t (view spot.offer.packument.now) options spot.offer.candidates.items) (sym spot.of_document.name)
          (subst (λ (v : Value). AreOffered (string_bytes spot.document.name) (view v) options spot.offer.candidates.items)
          (sym spot.of_document.packument) spot.of_document.candidates);
      there = item_of spot.offer.candidates.items c spot.candidate spot.candidate_at;
      key = refl;
    } where
      first : packument_of documents spot.offer.name.now ≡ Some (view spot.offer.packument.now)
      first = document_of options reach (rules_of manifests) omits spot.offer.name.now documents posed.offers.items posing.listed posing.absent spot.offer n posing.offered
          posing.are_listed (subst (λ (ls : List Listed). n < length ls) posing.named (slice_get_within names n spot.one spot.one_at))
          (subst (λ (ls : List Listed). number_of ls spot.offer.name.now ≡ n) posing.named number) spot.offer_at
