-- What cannot be met together, and why: lines of reasons in names, specs and versions.
use Rattle.std.specs.Prelude.{◌≡◌, ◌++◌, ℕ, List, [], ◌∷◌, Option, Some, None, IfSome, map, option_map, slice_get, suc}
use Rattle.std.specs.List.{AllZip}
use Rattle.std.specs.Option.{option_map_or}
use Rattle.version_solving.specs.Culprits.{AreCulprits}
use Rattle.version_solving.specs.Documents.{problem_of}
use Rattle.version_solving.specs.Fitting.{IsChange}
use Rattle.version_solving.specs.Solving.{Problem}
use Rattle.version_solving.specs.declared.change.Change.{Change}
use Rattle.version_solving.specs.declared.change.Change.TheVariants.{First, Nothing, Undecided}
use Rattle.version_solving.specs.declared.demand.Demand.{Demand}
use Rattle.version_solving.specs.Reasons as Reasons
use Rattle.version_solving.specs.Reasons.{IsProof}
use Rattle.version_solving.specs.Wishes.{SomeMakes}
use Rattle.version_solving.specs.declared.reasoning.reason.Reason.{Reason as Line}
use Rattle.version_solving.specs.declared.reasoning.reason.Source.{Source as LineSource}
use Rattle.version_solving.specs.declared.reasoning.reason.Source.TheVariants.{Candidates, Lines, Root}
use Rattle.version_solving.specs.declared.reasoning.reason.Term.{Term as LineTerm}
use Rattle.version_solving.specs.declared.reasoning.reason.Term.TheVariants.{Against, Making}
use Rattle.version_solving.specs.declared.reasoning.reason.Wish.{Wish as LineWish}
use Rattle.version_solving.specs.Naming.{IsAskOf}
use Rattle.version_solving.specs.declared.ask.Listed.{Listed}
use Rattle.version_solving.specs.declared.wanted.Wanted.{Wanted}
use Rattle.npm_resolve.specs.Instance.{key_of}
use Rattle.npm_resolve.specs.declared.conflict.Conflict.{Conflict}
use Rattle.npm_resolve.specs.declared.conflict.Culprit.{Culprit}
use Rattle.npm_resolve.specs.declared.conflict.Reason.{Reason}
use Rattle.npm_resolve.specs.declared.conflict.Source.{Source}
use Rattle.npm_resolve.specs.declared.conflict.Source.TheVariants as Sources
use Rattle.npm_resolve.specs.declared.conflict.Term.{Term}
use Rattle.npm_resolve.specs.declared.conflict.Term.TheVariants as Terms
use Rattle.npm_resolve.specs.declared.conflict.Wish.{Wish}
use Rattle.npm_resolve.specs.declared.instance.Offer.{Offer}
use Rattle.npm_resolve.specs.declared.posed.Posed.{Posed}
use Rattle.npm_resolve.specs.Texts.{text}

-- ---- what numbers stand for; those of what is posed are there

abbrev pub name_of : Posed → (number : ℕ) → List ℕ
name_of posed number = option_map_or (λ (one : Listed). one.name.now) (slice_get posed.names.items number) []

abbrev pub spec_of : Posed → (range : ℕ) → List ℕ
spec_of posed range = option_map_or (λ (wanted : Wanted). wanted.spec.now) (slice_get posed.ranges.items range) []

abbrev pub key_at : Posed → (name candidate : ℕ) → List ℕ
key_at posed name candidate = option_map_or (λ (offer : Offer). key_of offer candidate) (slice_get posed.offers.items name) []

-- The wish is this one.
pub record IsWish (posed : Posed) (line : LineWish) (wish : Wish) : Type 0 where
  pub name : wish.name.now ≡ name_of posed line.name
  pub spec : option_map text wish.spec ≡ option_map (spec_of posed) line.range
  pub needed : wish.needed ≡ line.needed

abbrev pub IsTerm : Posed → LineTerm → Term → Type 0
IsTerm posed (Making name line) (Terms.Asking asker wish) = (asker.now ≡ name_of posed name) × IsWish posed line wish
IsTerm posed (Against line) (Terms.Outside wish) = IsWish posed line wish
IsTerm posed line term = ⊥

-- ---- lines

-- The candidates of every root.
abbrev pub candidates_of : Posed → Problem
candidates_of posed = problem_of [] posed.documents

-- The keys of the candidates before this one that ask for the wish, in their order.
pub data AreKeys (posed : Posed) (name : ℕ) (wish : LineWish) : (candidate : ℕ) → (keys : List (List ℕ)) → Type 0 where
  none : AreKeys posed name wish 0 []
  asks : (candidate : ℕ) (keys : List (List ℕ)) → AreKeys posed name wish candidate keys
      → SomeMakes (candidates_of posed) name candidate wish
      → AreKeys posed name wish (suc candidate) (keys ++ key_at posed name candidate ∷ [])
  other : (candidate : ℕ) (keys : List (List ℕ)) → AreKeys posed name wish candidate keys
      → (SomeMakes (candidates_of posed) name candidate wish → ⊥) → AreKeys posed name wish (suc candidate) keys

abbrev pub AreKeysOf : Posed → (name : ℕ) → LineWish → (keys : List (List ℕ)) → Type 0
AreKeysOf posed name wish keys = AreKeys posed name wish ((candidates_of posed).count name) keys

abbrev pub IsSource : Posed → LineSource → Source → Type 0
IsSource posed (Root demand) (Sources.Root wish) = IsWish posed (Reasons.wish_of demand) wish
IsSource posed (Candidates name line) (Sources.Versions asker wish keys) = (asker.now ≡ name_of posed name)
    × IsWish posed line wish × AreKeysOf posed name line (map text keys.items)
IsSource posed (Lines name lines) (Sources.Lines asker numbers) = (asker.now ≡ name_of posed name) × (numbers.items ≡ lines.items)
IsSource posed line source = ⊥

-- The line in names, specs and versions.
pub record IsReasonOf (posed : Posed) (line : Line) (reason : Reason) : Type 0 where
  pub source : IsSource posed line.source reason.source
  pub terms : AllZip (IsTerm posed) line.terms.items reason.terms.items

-- ---- what cannot be met together

-- Lines of reasons that these demands cannot be met together, one after the other.
abbrev pub AreReasons : Posed → (demands : List Demand) → List Reason → Type 0
AreReasons posed demands reasons = (lines : List Line) × IsProof (problem_of demands posed.documents) lines
    × AllZip (IsReasonOf posed) lines reasons

-- The key of the candidate that would fit in place of a demand, if one is found.
abbrev pub fitting_key : Posed → Demand → Change → Option (List ℕ)
fitting_key posed demand (First candidate) = Some (key_at posed demand.name candidate)
fitting_key posed demand Nothing = None
fitting_key posed demand Undecided = None

-- What the demand asks for, and the version that would fit in its place: the first one outside its range with which the other demands of
-- the root can be met.
pub record IsCulprit (posed : Posed) (demand : Demand) (culprit : Culprit) : Type 0 where
  pub asked : IsAskOf posed.wishes.items posed.root.items demand culprit.ask
  pub change : Change
  pub fits : IsChange (problem_of posed.root.items posed.documents) demand change
  pub key : option_map text culprit.would_fit ≡ fitting_key posed demand change

-- The culprits are those of demands of the root that cannot be met together, and without any one of which the others can; and the reasons
-- are why.
pub record IsConflict (posed : Posed) (conflict : Conflict) : Type 0 where
  pub demands : List Demand
  pub culprits : AreCulprits (problem_of posed.root.items posed.documents) demands
  pub told : AllZip (IsCulprit posed) demands conflict.culprits.items
  pub reasons : IfSome conflict.reasons (λ reasons. AreReasons posed demands reasons.items)
