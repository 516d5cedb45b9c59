-- What a contract sees of the results of the private readers of words.
use Rattle.std.specs.Prelude.{ℕ, List, [], ◌∷◌, Option, Some, None}
use Rattle.std.specs.Borrow.{Bor}
use Rattle.semver_sets.specs.Comparator.{Comparator}
use Rattle.semver_sets.specs.Operators.{equal, greater, greater_or_equal, less, less_or_equal}
use Rattle.semver_sets.specs.WordEnds.{ends_seen, partial_seen}
use Rattle.semver_sets.specs.Private.WordReading as Reading
use Rattle.semver_sets.specs.Private.WordReading.{ReadPartial, Word}
use Rattle.semver_sets.specs.declared.partial.Partial.{Partial as CodePartial}
use Rattle.semver_sets.specs.declared.word.ends.WordEnds.{WordEnds}
use Rattle.semver_sets.specs.declared.word.Lead.{Lead}
use Rattle.semver_sets.specs.declared.word.Lead.TheVariants.{Above, AtLeast, AtMost, Below, Caret, Equal, Plain}
use Rattle.semver_sets.specs.declared.word.Lead.TheVariants.{Tilde, TildeGreater}

-- ---- partials

-- a component and the rest, or none
abbrev pub component_seen : Option (Option ℕ × Bor (List ℕ)) → Reading.Component
component_seen None = None
component_seen (Some r) = Some (r.0, r.1.now)

-- a partial and the rest, or none
abbrev pub read_partial_seen : Option (CodePartial × Bor (List ℕ)) → ReadPartial
read_partial_seen None = None
read_partial_seen (Some r) = Some (partial_seen r.0, r.1.now)

-- ---- the beginning of a word, before its partial

-- the lead
abbrev pub lead_seen : Lead → Reading.Lead
lead_seen Plain = Reading.no_lead
lead_seen AtLeast = Reading.operator greater_or_equal
lead_seen Above = Reading.operator greater
lead_seen Equal = Reading.operator equal
lead_seen AtMost = Reading.operator less_or_equal
lead_seen Below = Reading.operator less
lead_seen Tilde = Reading.tilde_lead
lead_seen TildeGreater = Reading.tilde_greater_lead
lead_seen Caret = Reading.caret_lead

-- ---- words

-- the comparator, if there is one
abbrev pub some_ends : Option WordEnds → Option Comparator
some_ends None = None
some_ends (Some e) = Some (ends_seen e)

-- the word
abbrev pub word_seen : Option WordEnds × Bor (List ℕ) → Word
word_seen w = (some_ends w.0, w.1.now)

-- the comparator of a word, if it has one
abbrev pub listed : Option Comparator → List Comparator
listed None = []
listed (Some c) = c ∷ []
