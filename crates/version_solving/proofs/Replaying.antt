-- Choices that are made one after the other.
use Rattle.std.proofs.Common.{◌≡◌, ◌⊎◌, ◌<◌, ◌≤◌, ◌∙◌, ◌+◌, ◌++◌, ◌==◌, ℕ, Bool, true, false, cond, List, [], ◌∷◌, Some, None, All, length, reverse, take, inl, inr, refl, ap, sym, subst, arith}
use Rattle.std.proofs.lemmas.List.{length-append, reverse-append, take-append-le}
use Rattle.std.proofs.lemmas.List.Elements.{All-weaker}
use Rattle.version_solving.specs.declared.certificate.Values.{Values}
use Rattle.version_solving.specs.declared.demand.Demand.{Demand}
use Rattle.version_solving.specs.declared.outcome.Choice.{Choice}
use Rattle.version_solving.specs.declared.replay.Path.{Path}
use Rattle.version_solving.specs.Solving.{AreFirst, IsTheSelection, Keeps, NoneFits, Problem, Selection, demands_so_far, first_open, next_name, selection_of}
use Rattle.version_solving.specs.Private.Paths.{Allows, AreRuled, AreThere, IsNext, IsPath, in_table, made}
use Rattle.version_solving.specs.Private.Values.{Spares, is_out}
use Rattle.version_solving.proofs.Choices.{free_of, newest, selected_cases, selection_done, stays}
use Rattle.version_solving.proofs.Entries.{closed_more}
use Rattle.version_solving.proofs.OpenDemands.{open_same}
use Rattle.version_solving.proofs.Ruling.{spared_not}

fewer_free : (s t : Selection) (choice : Choice) → ((n : ℕ) → t n ≡ cond (choice.name == n) (Some choice.candidate) (s n))
    → (name : ℕ) → t name ≡ None → s name ≡ None
fewer_free s t choice is name none = by_kind (choice.name == name) refl where
  by_kind : (b : Bool) → (choice.name == name) ≡ b → s name ≡ None
  by_kind true eq =
      let found : Some choice.candidate ≡ None = sym (ap (λ b. cond b (Some choice.candidate) (s name)) eq) ∙ (sym (is name) ∙ none) in absurd (cc)
  by_kind false eq = sym (ap (λ b. cond b (Some choice.candidate) (s name)) eq) ∙ (sym (is name) ∙ none)

module _ (p : Problem) where
  -- ---- a path

  module _ (path : Path) (is : IsPath p path) where
    pub same_next : first_open (in_table path.table.items) path.demands.items ≡ next_name p (made path)
    same_next =
        open_same (in_table path.table.items) (selection_of (made path)) is.table path.demands.items
        ∙ ap (first_open (selection_of (made path))) is.demands

    allows_same : (d : Demand) → Allows p (in_table path.table.items) d → Allows p (selection_of (made path)) d
    allows_same d allows = rw (is.table d.name) at allows

    all_allow : All (Allows p (in_table path.table.items)) path.demands.items → All (Allows p (selection_of (made path))) (demands_so_far p (made path))
    all_allow all =
        let there : All (Allows p (in_table path.table.items)) (demands_so_far p (made path)) = rw is.demands at all in
        All-weaker (Allows p (in_table path.table.items)) (Allows p (selection_of (made path))) allows_same (demands_so_far p (made path)) there

    pub done : next_name p (made path) ≡ None → All (Allows p (in_table path.table.items)) path.demands.items → IsTheSelection p (made path)
    done none all = selection_done p (made path) is.first is.there (all_allow all) none

    -- the demands before the next place are not open either
    pub passed : (new : Path) → new.table ≡ path.table → new.demands ≡ path.demands → new.choices ≡ path.choices
        → new.from ≤ length path.demands.items → first_open (in_table path.table.items) (take new.from path.demands.items) ≡ None → IsPath p new
    passed new table demands choices within none = record {
      table = rw (table, choices) is.table;
      demands = rw (demands, choices) is.demands;
      within = rw demands within;
      passed = rw (table, demands) none;
      first = rw choices is.first;
      there = rw choices is.there;
    }

    pub made_more : (new : Path) (choice : Choice) → new.choices.items ≡ path.choices.items ++ choice ∷ [] → made new ≡ choice ∷ made path
    made_more new choice more = ap reverse more ∙ reverse-append path.choices.items (choice ∷ [])

    there_more : (choice : Choice) → choice.candidate < p.count choice.name → AreThere p (choice ∷ made path)
    there_more choice small name candidate selected = by_case (selected_cases choice (made path) name candidate selected) where
      by_case : ((choice.name ≡ name) × (choice.candidate ≡ candidate)) ⊎ (selection_of (made path) name ≡ Some candidate) → candidate < p.count name
      by_case (inl same) = rw (same.0, same.1) at small
      by_case (inr old) = is.there name candidate old

    pub pushed : (new : Path) (choice : Choice) → IsNext p (made path) choice → new.choices.items ≡ path.choices.items ++ choice ∷ []
        → new.demands.items ≡ path.demands.items ++ p.demands choice.name choice.candidate → new.from ≡ path.from
        → ((n : ℕ) → in_table new.table.items n ≡ cond (choice.name == n) (Some choice.candidate) (in_table path.table.items n)) → IsPath p new
    pushed new choice next more added from table = record {
      table = λ n. table n ∙ (ap (λ o. cond (choice.name == n) (Some choice.candidate) o) (is.table n) ∙ ap (λ cs. selection_of cs n) (sym front));
      demands = added ∙ (ap (λ ds. ds ++ p.demands choice.name choice.candidate) is.demands ∙ ap (demands_so_far p) (sym front));
      within =
          let count : length new.demands.items ≡ length path.demands.items + length (p.demands choice.name choice.candidate) =
          ap length added ∙ length-append path.demands.items (p.demands choice.name choice.candidate) in
          let old = is.within in omega arith;
      passed =
          ap (first_open (in_table new.table.items)) (ap (λ k. take k new.demands.items) from
          ∙ (ap (take path.from) added ∙ take-append-le path.from path.demands.items (p.demands choice.name choice.candidate) is.within))
          ∙ closed_more (in_table path.table.items) (in_table new.table.items)
          (fewer_free (in_table path.table.items) (in_table new.table.items) choice table) (take path.from path.demands.items) is.passed;
      first = subst (AreFirst p) (sym front) (is.first, next.name, next.first);
      there = subst (AreThere p) (sym front) (there_more choice next.there);
    } where
      front : made new ≡ choice ∷ made path
      front = made_more new choice more

  -- ---- what is ruled out

  module _ (earlier : List Choice) (rows : List Values) (ruled : AreRuled p earlier rows) (name : ℕ) (next : next_name p earlier ≡ Some name) where
    keeps_earlier : (s : Selection) (candidate : ℕ) → Keeps s (record { name = name; candidate = candidate } ∷ earlier) → Keeps s earlier
    keeps_earlier s candidate keeps other c is =
        keeps other c (stays (record { name = name; candidate = candidate }) earlier (free_of p earlier name next) other c is)

    pub better_fails : (better : ℕ) → is_out rows name (Some better) ≡ true → NoneFits p (record { name = name; candidate = better } ∷ earlier)
    better_fails better out s fits keeps =
        spared_not rows s (ruled s fits (keeps_earlier s better keeps)) name (Some better)
        (keeps name better (newest (record { name = name; candidate = better }) earlier)) out

    pub ruled_more : (candidate : ℕ) (rows' : List Values) → ((s : Selection) → s name ≡ Some candidate → Spares rows s → Spares rows' s)
        → AreRuled p (record { name = name; candidate = candidate } ∷ earlier) rows'
    ruled_more candidate rows' kept s fits keeps =
        kept s (keeps name candidate (newest (record { name = name; candidate = candidate }) earlier)) (ruled s fits (keeps_earlier s candidate keeps))
