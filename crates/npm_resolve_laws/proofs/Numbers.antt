-- Names by their numbers, and the choices of a selection.
use Rattle.npm_resolve.specs.Asks.{RulesValue}
use Rattle.std.proofs.Common.{◌≡◌, ◌∙◌, ◌<◌, ◌≤◌, ◌+◌, ◌++◌, ◌==◌, ◌⊎◌, ◌&&◌, ℕ, zero, suc, List, [], ◌∷◌, Bool, true, false, Option, Some, None, ap, arith, bytes_eq, cond, inl, inr, is_none, length, refl, string_bytes, subst, sym, unwrap_or}
use Rattle.std.proofs.lemmas.Bool.Decides.{Decides-eqb}
use Rattle.std.proofs.lemmas.Option.{slice_get_within}
use Rattle.std.proofs.lemmas.Slice.Eq.{bytes_eq-Decides}
use Rattle.std.specs.Prelude.{slice_get}
use Rattle.std.specs.List.{AllZip, Contains}
use Rattle.serde_json.specs.View.{view}
use Rattle.version_solving.specs.Naming.{number_of, place_from}
use Rattle.version_solving.specs.Solving.{AreFirst, Problem, Selection, demands_so_far, first_open, is_open, selection_of}
use Rattle.version_solving.specs.declared.ask.Listed.{Listed}
use Rattle.version_solving.specs.declared.demand.Demand.{Demand}
use Rattle.version_solving.specs.declared.outcome.Choice.{Choice}
use Rattle.npm_resolve.specs.declared.candidates.options.Omits.{Omits}
use Rattle.npm_resolve.specs.declared.candidates.options.Options.{Options}
use Rattle.npm_resolve.specs.declared.candidates.owner.Reach.{Reach}
use Rattle.npm_resolve.specs.Instance.{IsListedFor, IsOffer}
use Rattle.npm_resolve.specs.declared.documents.Document.{Document}
use Rattle.npm_resolve_reports.specs.Locks.{packument_of}
use Rattle.npm_resolve_laws.proofs.Lists.{first_in, in_cases, later_in, none_in}
use Rattle.npm_resolve_laws.proofs.Types.{Offer}

-- ---- the first place of a name

place_above : (k : ℕ) (listed : List Listed) (name : List ℕ) (i : ℕ) → place_from k listed name ≡ Some i → k ≤ i
place_above k [] name i is = absurd (cc is)
place_above k (one ∷ others) name i is = by_name (place_above (k + 1) others name i) (bytes_eq one.name.now name) refl is where
  by_name : (place_from (k + 1) others name ≡ Some i → k + 1 ≤ i) → (b : Bool) → bytes_eq one.name.now name ≡ b
      → place_from k (one ∷ others) name ≡ Some i → k ≤ i
  by_name more true on here =
      let found : Some k ≡ Some i = rw on at here in
      let same : k ≡ i = cc found in omega (arith, same)
  by_name more false off later = let above = more (rw off at later) in omega (arith, above)

-- it has the name
place_named : (k : ℕ) (listed : List Listed) (name : List ℕ) (j : ℕ) (one : Listed) → place_from k listed name ≡ Some (j + k)
    → slice_get listed j ≡ Some one → one.name.now ≡ name
place_named k [] name j one is here = absurd (cc here)
place_named k (first ∷ others) name j one is here = by_name (λ i. place_named (k + 1) others name i one)
    (bytes_eq first.name.now name) refl j is here where
      by_name : ((i : ℕ) → place_from (k + 1) others name ≡ Some (i + (k + 1)) → slice_get others i ≡ Some one → one.name.now ≡ name)
          → (b : Bool) → bytes_eq first.name.now name ≡ b → (i : ℕ) → place_from k (first ∷ others) name ≡ Some (i + k)
          → slice_get (first ∷ others) i ≡ Some one → one.name.now ≡ name
      by_name more true on zero found there =
          let same : first ≡ one = cc there in
          subst (λ (l : Listed). l.name.now ≡ name) same ((bytes_eq-Decides first.name.now name).0 on)
      by_name more true on (suc i) found there =
          let this : Some k ≡ Some (suc i + k) = rw on at found in
          let same : k ≡ suc i + k = cc this in absurd (omega (arith, same))
      by_name more false off zero found there =
          let above = place_above (k + 1) others name (0 + k) (rw off at found) in absurd (omega (arith, above))
      by_name more false off (suc i) found there =
          let next : suc i + k ≡ i + (k + 1) = omega arith in
          more i (subst (λ n. place_from (k + 1) others name ≡ Some n) next (rw off at found)) there

-- what has the number of a name has the name
pub number_named : (listed : List Listed) (name : List ℕ) (one : Listed) → slice_get listed (number_of listed name) ≡ Some one
    → one.name.now ≡ name
number_named listed name one here = by_place (place_from 0 listed name) refl where
  by_place : (o : Option ℕ) → place_from 0 listed name ≡ o → one.name.now ≡ name
  by_place None none =
      let past : slice_get listed (length listed) ≡ Some one =
      subst (λ n. slice_get listed n ≡ Some one) (ap (λ o. unwrap_or o (length listed)) none) here in
      let inside = slice_get_within listed (length listed) one past in absurd (omega (arith, inside))
  by_place (Some j) some =
      let same : j ≡ j + 0 = omega arith in
      place_named 0 listed name j one (some ∙ ap Some same)
      (subst (λ n. slice_get listed n ≡ Some one) (ap (λ o. unwrap_or o (length listed)) some) here)

module _ (options : Options) (reach : Reach) (rules : RulesValue) (omits : Omits) (name : List ℕ) where
  -- the first document of a name is that of its number
  first_document : (k j : ℕ) (documents : List Document) (offers : List Offer) (listed absent : List Listed) (offer : Offer)
      → AllZip (IsOffer options) documents offers → AllZip (IsListedFor reach rules omits) offers listed
      → place_from k (listed ++ absent) name ≡ Some (j + k) → slice_get offers j ≡ Some offer
      → packument_of documents name ≡ Some (view offer.packument.now)
  first_document k j [] [] listed absent offer of_documents of_offers is here = absurd (cc here)
  first_document k j [] (o ∷ offers) listed absent offer of_documents of_offers is here = absurd of_documents
  first_document k j (d ∷ documents) [] listed absent offer of_documents of_offers is here = absurd of_documents
  first_document k j (d ∷ documents) (o ∷ offers) [] absent offer of_documents of_offers is here = absurd of_offers
  first_document k j (d ∷ documents) (o ∷ offers) (l ∷ listed) absent offer of_documents of_offers is here =
      by_name (λ i. first_document (k + 1) i documents offers listed absent offer of_documents.1 of_offers.1)
      (bytes_eq l.name.now name) refl j is here where
        alike : string_bytes d.name ≡ l.name.now
        alike = sym (of_offers.0.name ∙ of_documents.0.name)

        by_name : ((i : ℕ) → place_from (k + 1) (listed ++ absent) name ≡ Some (i + (k + 1)) → slice_get offers i ≡ Some offer
            → packument_of documents name ≡ Some (view offer.packument.now))
            → (b : Bool) → bytes_eq l.name.now name ≡ b → (i : ℕ) → place_from k (l ∷ (listed ++ absent)) name ≡ Some (i + k)
            → slice_get (o ∷ offers) i ≡ Some offer → packument_of (d ∷ documents) name ≡ Some (view offer.packument.now)
        by_name more true on zero found there =
            let same : o ≡ offer = cc there in
            let on_document : bytes_eq (string_bytes d.name) name ≡ true = ap (λ t. bytes_eq t name) alike ∙ on in
            ap (λ b. cond b (Some (view d.packument)) (packument_of documents name)) on_document
            ∙ ap (λ v. Some (view v)) (sym of_documents.0.packument ∙ ap (λ (x : Offer). x.packument.now) same)
        by_name more true on (suc i) found there =
            let this : Some k ≡ Some (suc i + k) = rw on at found in
            let same : k ≡ suc i + k = cc this in absurd (omega (arith, same))
        by_name more false off zero found there =
            let above = place_above (k + 1) (listed ++ absent) name (0 + k) (rw off at found) in absurd (omega (arith, above))
        by_name more false off (suc i) found there =
            let next : suc i + k ≡ i + (k + 1) = omega arith in
            let off_document : bytes_eq (string_bytes d.name) name ≡ false = ap (λ t. bytes_eq t name) alike ∙ off in
            ap (λ b. cond b (Some (view d.packument)) (packument_of documents name)) off_document
            ∙ more i (subst (λ n. place_from (k + 1) (listed ++ absent) name ≡ Some n) next (rw off at found)) there

  pub document_of : (documents : List Document) (offers : List Offer) (listed absent : List Listed) (offer : Offer) (n : ℕ)
      → AllZip (IsOffer options) documents offers → AllZip (IsListedFor reach rules omits) offers listed
      → n < length (listed ++ absent) → number_of (listed ++ absent) name ≡ n → slice_get offers n ≡ Some offer
      → packument_of documents name ≡ Some (view offer.packument.now)
  document_of documents offers listed absent offer n of_documents of_offers inside is here =
      by_place (place_from 0 (listed ++ absent) name) refl where
        by_place : (o : Option ℕ) → place_from 0 (listed ++ absent) name ≡ o → packument_of documents name ≡ Some (view offer.packument.now)
        by_place None none =
            let past : length (listed ++ absent) ≡ n = sym (ap (λ o. unwrap_or o (length (listed ++ absent))) none) ∙ is in
            absurd (omega (arith, past, inside))
        by_place (Some j) some =
            let same : j ≡ n = sym (ap (λ o. unwrap_or o (length (listed ++ absent))) some) ∙ is in
            let zero_up : j ≡ n + 0 = omega (arith, same) in
            first_document 0 n documents offers listed absent offer of_documents of_offers (some ∙ ap Some zero_up) here

-- ---- choices

abbrev IsFree : Selection → ℕ → Type 0
IsFree s name = s name ≡ None

-- what is open is free
open_free : (s : Selection) (demands : List Demand) (name : ℕ) → first_open s demands ≡ Some name → IsFree s name
open_free s [] name is = absurd (cc is)
open_free s (d ∷ more) name is = by_kind (open_free s more name) (is_open s d) refl is where
  both : (a b : Bool) → (a && b) ≡ true → b ≡ true
  both true b on = on
  both false b on = absurd (cc on)

  free : (o : Option ℕ) → s d.name ≡ o → is_none o ≡ true → IsFree s d.name
  free None none on = none
  free (Some c) some on = absurd (cc on)

  by_kind : (first_open s more ≡ Some name → IsFree s name) → (b : Bool) → is_open s d ≡ b → first_open s (d ∷ more) ≡ Some name
      → IsFree s name
  by_kind later true on found =
      let this : Some d.name ≡ Some name = rw on at found in
      let same : d.name ≡ name = cc this in
      subst (IsFree s) same (free (s d.name) refl (both d.needed (is_none (s d.name)) on))
  by_kind later false off found = later (rw off at found)

-- what choices select is one of them
pub chosen_in : (choices : List Choice) (name candidate : ℕ) → selection_of choices name ≡ Some candidate
    → (choice : Choice) × Contains choices choice × (choice.name ≡ name) × (choice.candidate ≡ candidate)
chosen_in [] name candidate is = absurd (cc is)
chosen_in (choice ∷ earlier) name candidate is = by_name (chosen_in earlier name candidate) (choice.name == name) refl is where
  by_name : (selection_of earlier name ≡ Some candidate
      → (one : Choice) × Contains earlier one × (one.name ≡ name) × (one.candidate ≡ candidate))
      → (b : Bool) → (choice.name == name) ≡ b → selection_of (choice ∷ earlier) name ≡ Some candidate
      → (one : Choice) × Contains (choice ∷ earlier) one × (one.name ≡ name) × (one.candidate ≡ candidate)
  by_name more true on found =
      let this : Some choice.candidate ≡ Some candidate = rw on at found in
      (choice, first_in choice earlier, (Decides-eqb choice.name name).0 on, cc this)
  by_name more false off found =
      let later = more (rw off at found) in
      (later.0, later_in choice earlier later.0 later.1, later.2, later.3)

-- each choice is selected, since its name was free
pub in_selection : (p : Problem) (choices : List Choice) → AreFirst p choices → (choice : Choice) → Contains choices choice
    → selection_of choices choice.name ≡ Some choice.candidate
in_selection p [] first choice is = absurd (none_in choice is)
in_selection p (last ∷ earlier) first choice is = by_part (in_selection p earlier first.0 choice) (in_cases last earlier choice is) where
  newest : selection_of (last ∷ earlier) last.name ≡ Some last.candidate
  newest = ap (λ b. cond b (Some last.candidate) (selection_of earlier last.name)) ((Decides-eqb last.name last.name).1 refl)

  older : (b : Bool) → (last.name == choice.name) ≡ b → selection_of earlier choice.name ≡ Some choice.candidate
      → selection_of (last ∷ earlier) choice.name ≡ Some choice.candidate
  older true on before =
      let same : last.name ≡ choice.name = (Decides-eqb last.name choice.name).0 on in
      let free = open_free (selection_of earlier) (demands_so_far p earlier) last.name first.1 in
      let none : selection_of earlier choice.name ≡ None = subst (IsFree (selection_of earlier)) same free in
      absurd (let off = sym none ∙ before in (cc off))
  older false off before = ap (λ b. cond b (Some last.candidate) (selection_of earlier choice.name)) off ∙ before

  by_part : (Contains earlier choice → selection_of earlier choice.name ≡ Some choice.candidate) → (last ≡ choice) ⊎ Contains earlier choice
      → selection_of (last ∷ earlier) choice.name ≡ Some choice.candidate
  by_part more (inl same) = subst (λ (c : Choice). selection_of (last ∷ earlier) c.name ≡ Some c.candidate) same newest
  by_part more (inr before) = older (last.name == choice.name) refl (more before)
