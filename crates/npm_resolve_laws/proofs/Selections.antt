-- A selection of a problem that manifests and documents pose answers all that is asked.
use Rattle.npm_packages.specs.Overrides.{changed_by}
use Rattle.npm_resolve.specs.Rules.{rules_of}
use Rattle.std.proofs.Common.{◌≡◌, ◌≢◌, ◌∙◌, ◌↔◌, ◌++◌, ◌⊎◌, IsTrue, ℕ, List, [], Bool, false, true, Option, Some, None, ap, filter, inl, inr, map, not, refl, reverse, subst, subst₂, sym, unwrap_or}
use Rattle.std.proofs.lemmas.List.{reverse-reverse}
use Rattle.std.proofs.lemmas.List.Elements.{All-contains, All-contains_itself, All-weaker}
use Rattle.std.specs.Prelude.{MatchOption, slice_get}
use Rattle.std.specs.List.{All, Contains}
use Rattle.std.specs.Option.{option_map_or}
use Rattle.serde_json.specs.Data.{Data}
use Rattle.serde_json.specs.View.{view}
use Rattle.serde_json.specs.declared.value.Value.{Value}
use Rattle.version_solving.specs.Documents.{allowed_in}
use Rattle.version_solving.specs.Naming.{AreDemandsOf, IsDemandOf, IsRangeAt, number_of}
use Rattle.version_solving.specs.Solving.{Holds, IsTheSelection, Selection, selection_of}
use Rattle.version_solving.specs.declared.ask.Ask.{Ask}
use Rattle.version_solving.specs.declared.ask.Listed.{Listed}
use Rattle.version_solving.specs.declared.demand.Demand.{Demand}
use Rattle.version_solving.specs.declared.documents.Range.{Range}
use Rattle.version_solving.specs.declared.outcome.Choice.{Choice}
use Rattle.npm_packages.specs.Asked.{AskedValue, asked_of}
use Rattle.npm_resolve.specs.Asks.{AreAsks, AskValue, RulesValue, ask_value, asks_by, asks_on, is_registered, is_root}
use Rattle.npm_resolve.specs.Meanings.{IsAdmitted, MeaningValue}
use Rattle.npm_resolve.specs.declared.candidates.candidate.Candidate.{Candidate}
use Rattle.npm_resolve.specs.declared.candidates.options.Omits.{Omits}
use Rattle.npm_resolve.specs.declared.candidates.options.Options.{Options}
use Rattle.npm_resolve.specs.declared.candidates.owner.Owner.{Owner}
use Rattle.npm_resolve.specs.declared.candidates.owner.Owner.TheVariants.{Root, Version}
use Rattle.npm_resolve.specs.declared.candidates.owner.Reach.{Reach}
use Rattle.npm_resolve.specs.Answers.{ChosenValue, IsAnswer, IsResolution, chosen_of}
use Rattle.npm_resolve.specs.Instance.{IsAllowed, IsAskNamed, IsInstance, IsMeaningFor, IsRangeFor}
use Rattle.npm_resolve.specs.Instance as Posing
use Rattle.npm_resolve.specs.Optional.{is_met, is_required, is_required_in, is_unmet, name_at, root_demand, unmet_names}
use Rattle.npm_resolve.specs.Texts.{text}
use Rattle.npm_resolve.specs.Wishes.{IsWish, WishesValue}
use Rattle.npm_resolve.specs.declared.answer.Answer.{Answer}
use Rattle.npm_resolve.specs.declared.answer.Resolution.{Resolution}
use Rattle.npm_resolve.specs.declared.answer.Resolution.TheVariants as Resolutions
use Rattle.npm_resolve.specs.declared.documents.Document.{Document}
use Rattle.npm_resolve_laws.specs.Selected.{AreAnswered, IfSelected, IsAllowedBy, IsAnswered, IsAnsweredFor, IsSound}
use Rattle.npm_resolve_laws.specs.Selected as Answering
use Rattle.npm_pick.specs.Lemmas.Mapped.{contains_mapped}
use Rattle.npm_pick.specs.Lemmas.Zips.{zip_at}
use Rattle.npm_resolve_laws.proofs.Lists.{in_filter, in_flat_map, in_map, in_reverse, item_of, none_in, place_of}
use Rattle.npm_resolve_laws.proofs.Numbers.{chosen_in, in_selection}
use Rattle.npm_resolve_laws.proofs.Optionals.{is_told, named_at, none_any, not_required}
use Rattle.npm_resolve_laws.proofs.Posing.{IsAt, at_named, candidate_at, chosen_at, chosen_is, needed_named, problem_posed, selected_from, value_at}
use Rattle.npm_resolve_laws.proofs.Types.{Offer, Posed}

-- what a manifest asks a registry for is among its asks
asked_there : (manifest : Data) (owner : Owner) (rules : RulesValue) (omits : Omits) (asks left_out : List AskValue) → AreAsks manifest owner rules omits asks left_out
    → (name : List ℕ) (ask : AskValue) → Contains (asks_on manifest owner rules omits name) ask → is_registered ask ≡ true → Contains asks ask
asked_there manifest owner rules omits asks left_out are name ask there registered =
    subst (λ (asks : List AskValue). Contains asks ask) (sym are.kept) (in_filter is_registered are.all ask
    (subst (λ (asks : List AskValue). Contains asks ask) (sym are.are.found)
    (in_flat_map (asks_on manifest owner rules omits) are.are.names name ask (named (asked_of manifest (not (is_root owner)) name) refl) there))
    registered) where
      named : (o : Option AskedValue) → asked_of manifest (not (is_root owner)) name ≡ o → Contains are.are.names name
      named None none = absurd (none_in ask
          (subst (λ (o : Option AskedValue). Contains (option_map_or (λ (asked : AskedValue). asks_by owner omits name (changed_by (rules name) [] asked)) o []) ask) none there))
      named (Some asked) some = (are.are.are_names.all name).1 (rw some refl)

module _ (manifests : List Value) (documents : List Document) (options : Options) (reach : Reach) (omits : Omits) (posed : Posed)
    (posing : IsInstance manifests documents options reach omits posed) (choices : List Choice)
    (best : IsTheSelection (problem_posed posed) (reverse choices)) where
  abbrev names : List Listed
  names = posed.names.items

  abbrev s : Selection
  s = selection_of (reverse choices)

  abbrev selected : List ChosenValue
  selected = map (chosen_of posed.offers.items) choices

  abbrev IsAtHere : (n c : ℕ) → Type 0
  IsAtHere n c = IsAt options reach (rules_of manifests) omits posed n c

  abbrev value : (n c : ℕ) → IsAtHere n c → ChosenValue
  value n c spot = value_at manifests documents options reach omits posed posing n c spot

  -- ---- what is selected

  at_place : (n c : ℕ) → s n ≡ Some c → IsAtHere n c
  at_place n c is = candidate_at manifests documents options reach omits posed posing n c (best.fits.existing n c is)

  -- a selected number is that of its own name
  own_number : (n c : ℕ) (is : s n ≡ Some c) → number_of names (at_place n c is).offer.name.now ≡ n
  own_number n c is =
      let of_name = needed_named manifests documents options reach omits posed posing s best.fits n (best.grounded n c is) in
      ap (number_of names) (at_named manifests documents options reach omits posed posing n c (at_place n c is) of_name.0 of_name.1)
      ∙ sym of_name.1

  from_selected : (one : ChosenValue) → Contains selected one → (n : ℕ) × (c : ℕ) × (s n ≡ Some c) × (chosen_at posed.offers.items n c ≡ one)
  from_selected one there =
      let choice = contains_mapped (chosen_of posed.offers.items) choices one there in (
        choice.0.name,
        choice.0.candidate,
        in_selection (problem_posed posed) (reverse choices) best.first choice.0
            (in_reverse choices choice.0 choice.1),
        choice.2,
      )

  is_selected : (n c : ℕ) → s n ≡ Some c → Contains selected (chosen_at posed.offers.items n c)
  is_selected n c is =
      let choice = chosen_in (reverse choices) n c is in
      let there : Contains choices choice.0 = subst (λ (cs : List Choice). Contains cs choice.0) (reverse-reverse choices)
      (in_reverse (reverse choices) choice.0 choice.1) in
      let same : chosen_of posed.offers.items choice.0 ≡ chosen_at posed.offers.items n c =
      ap (λ m. chosen_at posed.offers.items m choice.0.candidate) choice.2 ∙ ap (chosen_at posed.offers.items n) choice.3 in
      subst (Contains selected) same (in_map (chosen_of posed.offers.items) choices choice.0 there)

  named_so : (n c : ℕ) (spot : IsAtHere n c) (one : ChosenValue) → chosen_at posed.offers.items n c ≡ one → spot.offer.name.now ≡ one.name
  named_so n c spot one is = ap (λ (o : ChosenValue). o.name)
      (sym (chosen_is manifests documents options reach omits posed posing n c spot) ∙ is)

  once : (one other : ChosenValue) → Contains selected one → Contains selected other → one.name ≡ other.name → one ≡ other
  once one other first second alike =
      let a = from_selected one first in
      let b = from_selected other second in
      let name_a = named_so a.0 a.1 (at_place a.0 a.1 a.2) one a.3 in
      let name_b = named_so b.0 b.1 (at_place b.0 b.1 b.2) other b.3 in
      let number : a.0 ≡ b.0 = sym (own_number a.0 a.1 a.2)
      ∙ (ap (number_of names) (name_a ∙ (alike ∙ sym name_b)) ∙ own_number b.0 b.1 b.2) in
      let both : Some a.1 ≡ Some b.1 = sym a.2 ∙ (ap s number ∙ b.2) in
      let candidate : a.1 ≡ b.1 = cc both in
      sym a.3 ∙ (ap (λ n. chosen_at posed.offers.items n a.1) number ∙ (ap (chosen_at posed.offers.items b.0) candidate ∙ b.3))

  -- ---- what an ask is answered by

  -- a version is selected for it that its spec allows
  abbrev IsMetBy : Ask → Type 0
  IsMetBy ask = (one : ChosenValue) × Contains selected one × (one.name ≡ ask.name.now) × IsAllowedBy documents options ask.spec.now one

  -- none is selected
  abbrev IsApart : (name : List ℕ) → Type 0
  IsApart name = (one : ChosenValue) → Contains selected one → one.name ≢ name

  module _ (ask : Ask) (d : Demand) (number : d.name ≡ number_of names ask.name.now) (at : IsRangeAt posed.ranges.items d.range d.name ask.spec.now) where
    abbrev HoldsOf : Option ℕ → Type 0
    HoldsOf o = MatchOption o (d.needed ≡ false) (λ (candidate : ℕ). (problem_posed posed).allows d.range candidate ≡ true)

    held : (o : Option ℕ) → s d.name ≡ o → Holds (problem_posed posed) s d → HoldsOf o
    held o is holds = subst HoldsOf is holds

    module _ (c : ℕ) (is : s d.name ≡ Some c) where
      abbrev spot : IsAtHere d.name c
      spot = at_place d.name c is

      abbrev one : ChosenValue
      one = value d.name c spot

      name_is : one.name ≡ ask.name.now
      name_is = at_named manifests documents options reach omits posed posing d.name c spot ask.name.now number

      admitted_by : (meaning : MeaningValue) → IsAdmitted meaning spot.candidate
          → IsMeaningFor options.before spot.offer ask.spec.now meaning → IsAllowedBy documents options ask.spec.now one
      admitted_by meaning admitted (Posing.by_text request _ registered named means) = record {
        packument = view spot.offer.packument.now;
        candidate = spot.candidate;
        selected = selected_from manifests documents options reach omits posed posing d.name c spot (own_number d.name c is);
        request = request;
        asks = registered;
        of_package = named;
        meaning = meaning;
        means = means;
        admitted = admitted;
      }
      admitted_by _ admitted (Posing.of_another request registered other) = absurd admitted
      admitted_by _ admitted (Posing.of_none none) = absurd admitted

      by_range : (range : Range) → IsAllowed options.before ask.spec.now range spot.offer → allowed_in (Some range) c ≡ true
          → IsAllowedBy documents options ask.spec.now one
      by_range range are allows =
          let each = zip_at (λ (candidate : Candidate) (allowed : Bool). IsTrue allowed ↔ IsAdmitted are.meaning candidate) spot.offer.candidates.items range.allowed.items c spot.candidate
          are.each spot.candidate_at in
          let on : each.0 ≡ true = sym (ap (λ (o : Option Bool). unwrap_or o false) each.1) ∙ allows in
          admitted_by are.meaning (each.2.0 on) are.is

      allowed_so : (problem_posed posed).allows d.range c ≡ true → IsAllowedBy documents options ask.spec.now one
      allowed_so allows =
          let wanted = at.wanted in
          let range = zip_at (IsRangeFor options.before posed.offers.items) posed.ranges.items posed.documents.ranges.items d.range wanted
          posing.allowed at.there in
          let offer_at : slice_get posed.offers.items wanted.name ≡ Some spot.offer = ap (slice_get posed.offers.items) at.of_name ∙ spot.offer_at in
          let are : IsAllowed options.before wanted.spec.now range.0 spot.offer =
          subst (λ (o : Option Offer). MatchOption o (range.0.allowed.items ≡ []) (IsAllowed options.before wanted.spec.now range.0)) offer_at range.2 in
          by_range range.0 (subst (λ (t : List ℕ). IsAllowed options.before t range.0 spot.offer) at.of_spec are)
          (sym (ap (λ (o : Option Range). allowed_in o c) range.1) ∙ allows)

      is_met_by : Holds (problem_posed posed) s d → IsMetBy ask
      is_met_by holds = (
        one,
        subst (Contains selected) (chosen_is manifests documents options reach omits posed posing d.name c spot) (is_selected d.name c is),
        name_is,
        allowed_so (held (Some c) is holds),
      )

    unnamed : s d.name ≡ None → IsApart ask.name.now
    unnamed none one there same =
        let from = from_selected one there in
        let name = named_so from.0 from.1 (at_place from.0 from.1 from.2) one from.3 in
        let found : d.name ≡ from.0 = number ∙ (ap (number_of names) (sym (name ∙ same)) ∙ own_number from.0 from.1 from.2) in
        let off : None ≡ Some from.1 = sym none ∙ (ap s found ∙ from.2) in (cc off)

    answered : Holds (problem_posed posed) s d → IsMetBy ask ⊎ ((d.needed ≡ false) × IsApart ask.name.now)
    answered holds = by_choice (s d.name) refl where
      by_choice : (o : Option ℕ) → s d.name ≡ o → IsMetBy ask ⊎ ((d.needed ≡ false) × IsApart ask.name.now)
      by_choice None none = inr (held None none holds, unnamed none)
      by_choice (Some c) some = inl (is_met_by c some holds)

  -- ---- what versions ask

  module _ (manifest : Data) where
    by_demand : (ask : Ask) (d : Demand) → IsDemandOf names posed.ranges.items ask d
        → IsMetBy ask ⊎ ((d.needed ≡ false) × IsApart ask.name.now) → IsAnswered documents options selected [] manifest (ask_value ask)
    by_demand ask d of (inl met) = Answering.allowed met.0 met.1 met.2 met.3
    by_demand ask d of (inr free) = Answering.unneeded (sym of.needed ∙ free.0) free.1

    all_answered : (asks : List Ask) (demands : List Demand) → AreDemandsOf names posed.ranges.items asks demands
        → All (Holds (problem_posed posed) s) demands → (ask : AskValue) → Contains (map ask_value asks) ask
        → IsAnswered documents options selected [] manifest ask
    all_answered asks demands are hold ask there =
        let from = contains_mapped ask_value asks ask there in
        let place = place_of asks from.0 from.1 in
        let demand = zip_at (IsDemandOf names posed.ranges.items) asks demands place.0 from.0 are place.1 in
        subst (IsAnswered documents options selected [] manifest) from.2 (by_demand from.0 demand.0 demand.2
        (answered from.0 demand.0 demand.2.name demand.2.range
        (All-contains (Holds (problem_posed posed) s) demands demand.0 hold (item_of demands place.0 demand.0 demand.1))))

  -- ---- what manifests ask

  abbrev ranges : List Range
  ranges = posed.documents.ranges.items

  abbrev unmet : List (List ℕ)
  unmet = unmet_names manifests names ranges posing.demands

  module _ (manifest : Value) (among : Contains manifests manifest) (ask : Ask) (wished : Contains posed.wishes.items ask) (d : Demand)
      (of : IsDemandOf names posed.ranges.items ask d) (inside : Contains posing.demands d) where
    named : name_at names d.name ≡ ask.name.now
    named = ap (name_at names) of.name ∙ named_at names ask.name.now (subst (λ (ls : List Listed). IsAskNamed ls ask) (sym posing.named)
        (All-contains (IsAskNamed (posing.listed ++ posing.absent)) posed.wishes.items ask posing.are_absent.of_root wished))

    told : is_unmet manifests names ranges d ≡ true → Contains unmet ask.name.now
    told on = subst (Contains unmet) named (in_map (λ (one : Demand). name_at names one.name) (filter (is_unmet manifests names ranges) posing.demands) d
        (in_filter (is_unmet manifests names ranges) posing.demands d inside on))

    free : is_unmet manifests names ranges d ≡ true → is_required_in (view manifest) ask.name.now ≡ false
    free on = subst (λ name. is_required_in (view manifest) name ≡ false) named
        (none_any (λ (one : Value). is_required_in (view one) (name_at names d.name)) manifests manifest
        (not_required d.needed (is_met ranges d.range) (is_required manifests (name_at names d.name)) on) among)

    by_root_demand : IsMetBy ask ⊎ (((root_demand manifests names ranges d).needed ≡ false) × IsApart ask.name.now)
        → IsAnswered documents options selected unmet (view manifest) (ask_value ask)
    by_root_demand (inl met) = Answering.allowed met.0 met.1 met.2 met.3
    by_root_demand (inr left) = by_need d.needed refl where
      by_need : (b : Bool) → d.needed ≡ b → IsAnswered documents options selected unmet (view manifest) (ask_value ask)
      by_need false off = Answering.unneeded (sym of.needed ∙ off) left.1
      by_need true on =
          let is = is_told d.needed (is_met ranges d.range) (is_required manifests (name_at names d.name)) left.0 on in
          Answering.unmet_option (told is) (free is) left.1

    root_answered : IsAnswered documents options selected unmet (view manifest) (ask_value ask)
    root_answered = by_root_demand (answered ask (root_demand manifests names ranges d) of.name of.range
        (All-contains (Holds (problem_posed posed) s) posed.root.items (root_demand manifests names ranges d) best.fits.root
        (subst (λ (ds : List Demand). Contains ds (root_demand manifests names ranges d)) (sym posing.root)
        (in_map (root_demand manifests names ranges) posing.demands d inside))))

  -- ---- all that is asked

  of_manifest : (manifest : Value) → Contains manifests manifest
      → AreAnswered documents options selected unmet (view manifest) Root (rules_of manifests) omits
  of_manifest manifest there name ask asked registered =
      let place = place_of manifests manifest there in
      let wish = zip_at (IsWish (rules_of manifests) omits) manifests posing.asked.each place.0 manifest posing.asked.are place.1 in
      let inside = asked_there (view manifest) Root (rules_of manifests) omits wish.0.asks wish.0.left_out wish.2 name ask asked registered in
      let from = contains_mapped ask_value posed.wishes.items ask (subst (λ (asks : List AskValue). Contains asks ask) (sym posing.asked.asked)
      (in_flat_map (λ (one : WishesValue). one.asks) posing.asked.each wish.0 ask (item_of posing.asked.each place.0 wish.0 wish.1) inside)) in
      let spot = place_of posed.wishes.items from.0 from.1 in
      let demand = zip_at (IsDemandOf names posed.ranges.items) posed.wishes.items posing.demands spot.0 from.0 posing.demanded spot.1 in
      subst (IsAnswered documents options selected unmet (view manifest)) from.2 (root_answered manifest there from.0 from.1 demand.0 demand.2
      (item_of posing.demands spot.0 demand.0 demand.1))

  of_version : (one : ChosenValue) → Contains selected one → IsAnsweredFor documents options reach (rules_of manifests) omits selected one
  of_version one there =
      let from = from_selected one there in
      let spot = at_place from.0 from.1 from.2 in
      subst (IsAnsweredFor documents options reach (rules_of manifests) omits selected)
      (sym (chosen_is manifests documents options reach omits posed posing from.0 from.1 spot) ∙ from.3) (record {
        packument = view spot.offer.packument.now;
        candidate = spot.candidate;
        from = selected_from manifests documents options reach omits posed posing from.0 from.1 spot (own_number from.0 from.1 from.2);
        answered = λ name ask asked registered. all_answered (view spot.candidate.manifest.now) spot.asker.asks.items ((problem_posed posed).demands from.0 from.1) spot.demands
            (best.fits.candidates from.0 from.1 from.2) ask
            (asked_there (view spot.candidate.manifest.now) (Version reach) (rules_of manifests) omits (map ask_value spot.asker.asks.items) spot.asks.0 spot.asks.1 name ask
            asked registered);
      })

  pub sound : IsSound manifests documents options reach omits unmet selected
  sound = record {
    once = once;
    of_manifests = All-weaker (Contains manifests) (λ (manifest : Value). AreAnswered documents options selected unmet (view manifest) Root (rules_of manifests) omits)
        of_manifest manifests (All-contains_itself manifests);
    of_versions = All-weaker (Contains selected) (IsAnsweredFor documents options reach (rules_of manifests) omits selected) of_version selected
        (All-contains_itself selected);
  }

pub answer_is_sound : (manifests : List Value) (documents : List Document) (options : Options) (reach : Reach) (omits : Omits) (answer : Answer)
    → IsAnswer manifests documents options reach omits answer
    → IfSelected answer.resolution (IsSound manifests documents options reach omits (map text answer.unmet.items))
answer_is_sound manifests documents options reach omits answer is = by_resolution answer.resolution is.resolution where
  by_resolution : (r : Resolution) → IsResolution is.posed r
      → IfSelected r (IsSound manifests documents options reach omits (map text answer.unmet.items))
  by_resolution (Resolutions.Selected chosen) found = subst₂ (IsSound manifests documents options reach omits) (sym is.unmet) (sym found.2)
      (sound manifests documents options reach omits is.posed is.posing found.0 found.1)
  by_resolution (Resolutions.NoSelection conflict) none = tt
  by_resolution Resolutions.Undecided unknown = tt
