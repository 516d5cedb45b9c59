-- Terms: what may be selected of a name. The terms of a line never hold together.
-- What is selected of a name is one of its candidates, or none.

use Rattle.std.specs.Prelude.{◌≡◌, ℕ, true, false, List, Option, Some, None, IfSome, IsSomeAnd, All, Contains}
use Rattle.version_solving.specs.declared.demand.Demand.{Demand}
use Rattle.version_solving.specs.Solving.{Fits, Problem, Selection}
use Rattle.version_solving.specs.declared.reasoning.reason.Wish.{Wish}
use Rattle.version_solving.specs.declared.reasoning.reason.Term.{Term}
use Rattle.version_solving.specs.declared.reasoning.reason.Term.TheVariants.{Against, Making}

-- The demand is of the name of the wish, of its range if it has one, and needs the name if the wish does.
pub record Makes (w : Wish) (d : Demand) : Type 0 where
  pub name : d.name ≡ w.name
  pub range : IfSome w.range (λ range. d.range ≡ range)
  pub needed : w.needed ≡ true → d.needed ≡ true

-- A demand of the candidate makes the wish.
abbrev pub SomeMakes : Problem → ℕ → ℕ → Wish → Type 0
SomeMakes p name candidate w = (d : Demand) × Contains (p.demands name candidate) d × Makes w d

-- No candidate is selected though the wish needs one, or one that its range does not allow.
abbrev pub IsAgainst : Problem → Wish → Option ℕ → Type 0
IsAgainst p w None = w.needed ≡ true
IsAgainst p w (Some candidate) = IsSomeAnd w.range (λ range. p.allows range candidate ≡ false)

-- ---- terms

-- The name that a term is of.
abbrev pub name_of : Term → ℕ
name_of (Making name w) = name
name_of (Against w) = w.name

-- What is selected of the name is of the term.
abbrev pub IsOf : Problem → Term → Option ℕ → Type 0
IsOf p (Making name w) None = ⊥
IsOf p (Making name w) (Some candidate) = SomeMakes p name candidate w
IsOf p (Against w) selected = IsAgainst p w selected

abbrev pub Meets : Problem → Selection → List Term → Type 0
Meets p s terms = All (λ t. IsOf p t (s (name_of t))) terms

-- No selection that fits meets the terms.
abbrev pub Forbids : Problem → List Term → Type 0
Forbids p terms = (s : Selection) → Fits p s → Meets p s terms → ⊥
