-- The first alias for a folder, one dependency more at a time.
use Rattle.std.proofs.Common.{◌≡◌, ◌∙◌, ◌++◌, ℕ, List, [], ◌∷◌, Bool, true, false, cond, Option, Some, None, ap, bytes_eq, refl}
use Rattle.std.specs.Option.{option_or}
use Rattle.npm_packages.specs.Aliases.{alias_for, first_alias}
use Rattle.npm_packages.specs.Dependents.{leads_to}
use Rattle.npm_packages.specs.Edges.{EdgeValue}
use Rattle.npm_texts.specs.RangeText.{aliased_name}

or_none : (a : Option (List ℕ)) → option_or a None ≡ a
or_none None = refl
or_none (Some name) = refl

or_later : (a b c : Option (List ℕ)) → option_or a (option_or b c) ≡ option_or (option_or a b) c
or_later None b c = refl
or_later (Some name) b c = refl

-- the alias of the last one counts if none before it has one
last_counts : (folder : List ℕ) (edges : List EdgeValue) (edge : EdgeValue)
    → first_alias folder (edges ++ (edge ∷ [])) ≡ option_or (first_alias folder edges) (alias_for folder edge)
last_counts folder [] edge = or_none (alias_for folder edge)
last_counts folder (first ∷ edges) edge =
    ap (option_or (alias_for folder first)) (last_counts folder edges edge)
    ∙ or_later (alias_for folder first) (first_alias folder edges) (alias_for folder edge)

module _ (folder : List ℕ) (edges : List EdgeValue) (edge : EdgeValue) (old : Option (List ℕ))
    (same : old ≡ first_alias folder edges) where
  with_last : (last : Option (List ℕ)) → alias_for folder edge ≡ last
      → option_or old last ≡ first_alias folder (edges ++ (edge ∷ []))
  with_last last is = rw (last_counts folder edges edge, is, same) refl

  no_more : alias_for folder edge ≡ None → old ≡ first_alias folder (edges ++ (edge ∷ []))
  no_more none = rw (last_counts folder edges edge, none, or_none (first_alias folder edges)) same

  -- one name more, if the dependency leads to this folder
  pub one_name : (to name : List ℕ) → edge.to ≡ Some to → aliased_name edge.spec ≡ Some name
      → cond (bytes_eq to folder) (option_or old (Some name)) old ≡ first_alias folder (edges ++ (edge ∷ []))
  one_name to name to_is is = by_folder (bytes_eq to folder) refl where
    by_folder : (there : Bool) → bytes_eq to folder ≡ there
        → cond there (option_or old (Some name)) old ≡ first_alias folder (edges ++ (edge ∷ []))
    by_folder true there = with_last (Some name) (rw (to_is, there) is)
    by_folder false there = no_more (rw (to_is, there) refl)

  -- no name more, if no package is found, or the spec is no alias
  pub no_place : edge.to ≡ None → old ≡ first_alias folder (edges ++ (edge ∷ []))
  no_place none = no_more (rw none refl)

  pub no_name : aliased_name edge.spec ≡ None → old ≡ first_alias folder (edges ++ (edge ∷ []))
  no_name none = no_more (by_folder (leads_to folder edge) refl) where
    by_folder : (there : Bool) → leads_to folder edge ≡ there → alias_for folder edge ≡ None
    by_folder true there = rw there none
    by_folder false there = rw there refl
