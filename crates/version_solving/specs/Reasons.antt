-- Lines each of which is true of the documents, or follows from lines above it. A line says that its terms never hold together.

use Rattle.std.specs.Prelude.{◌≡◌, ◌⊎◌, ◌<◌, ◌-◌, ℕ, List, [], length, take, slice_get, Option, Some, IfSome, IsSomeAnd, All, Contains}
use Rattle.version_solving.specs.declared.demand.Demand.{Demand}
use Rattle.version_solving.specs.Solving.{Problem}
use Rattle.version_solving.specs.declared.reasoning.reason.Reason.{Reason}
use Rattle.version_solving.specs.declared.reasoning.reason.Source.{Source}
use Rattle.version_solving.specs.declared.reasoning.reason.Source.TheVariants.{Candidates, Lines, Root}
use Rattle.version_solving.specs.declared.reasoning.reason.Term.{Term}
use Rattle.version_solving.specs.declared.reasoning.reason.Term.TheVariants.{Against, Making}
use Rattle.version_solving.specs.declared.reasoning.reason.Wish.{Wish}
use Rattle.version_solving.specs.Wishes.{IsOf, name_of}

-- The whole demand as a wish.
abbrev pub wish_of : Demand → Wish
wish_of d = record { name = d.name; range = Some d.range; needed = d.needed }

-- None is selected, or a candidate that is there.
abbrev pub IsValue : Problem → ℕ → Option ℕ → Type 0
IsValue p name selected = IfSome selected (λ candidate. candidate < p.count name)

-- The term is of the name, or among these.
abbrev pub IsKept : ℕ → List Term → Term → Type 0
IsKept name terms t = (name_of t ≡ name) ⊎ Contains terms t

-- The terms of other names in a line are among these.
abbrev pub KeepsOthers : ℕ → List Term → Reason → Type 0
KeepsOthers name terms line = All (IsKept name terms) line.terms.items

-- The term has what is selected, if it is of the name.
abbrev pub IsMetBy : Problem → ℕ → Option ℕ → Term → Type 0
IsMetBy p name selected t = name_of t ≡ name → IsOf p t selected

-- A line rules out what is selected of the name: each of its terms of the name has it.
abbrev pub RulesOut : Problem → ℕ → Option ℕ → Reason → Type 0
RulesOut p name selected line = All (IsMetBy p name selected) line.terms.items

-- One of the lines rules it out.
abbrev pub IsRuledOut : Problem → List Reason → ℕ → List ℕ → Option ℕ → Type 0
IsRuledOut p above name lines selected = (line : ℕ) × Contains lines line × IsSomeAnd (slice_get above line) (RulesOut p name selected)

-- Each of the lines is above, and its terms of other names are among these.
abbrev pub AreKept : List Reason → List ℕ → ℕ → List Term → Type 0
AreKept above lines name terms = All (λ line. IsSomeAnd (slice_get above line) (KeepsOthers name terms)) lines

-- Whatever is selected of the name, one of the lines rules it out.
abbrev pub AreRuledOut : Problem → List Reason → ℕ → List ℕ → Type 0
AreRuledOut p above name lines = (selected : Option ℕ) → IsValue p name selected → IsRuledOut p above name lines selected

-- The terms of other names in the lines are kept, and the lines rule out whatever is selected of the name.
abbrev pub Follows : Problem → List Reason → ℕ → List ℕ → List Term → Type 0
Follows p above name lines terms = AreKept above lines name terms × AreRuledOut p above name lines

-- The line is true of the root or of the documents, or follows from lines above it.
abbrev pub IsJustified : Problem → List Reason → Source → List Term → Type 0
IsJustified p above (Root d) terms = Contains p.root d × Contains terms (Against (wish_of d))
IsJustified p above (Candidates name w) terms = Contains terms (Making name w) × Contains terms (Against w)
IsJustified p above (Lines name from) terms = Follows p above name from.items terms

-- Each line is justified by those above it.
abbrev pub AreJustified : Problem → List Reason → Type 0
AreJustified p lines = (k : ℕ) → IfSome (slice_get lines k) (λ line. IsJustified p (take k lines) line.source line.terms.items)

-- The last line has no terms: it says that nothing fits.
abbrev pub IsLastEmpty : List Reason → Type 0
IsLastEmpty lines = IsSomeAnd (slice_get lines (length lines - 1)) (λ line. line.terms.items ≡ [])

-- Each line is justified by those above it, and the last says that nothing fits.
pub record IsProof (p : Problem) (lines : List Reason) : Type 0 where
  pub each : AreJustified p lines
  pub last : IsLastEmpty lines
