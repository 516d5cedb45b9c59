-- What is known of a dependency after a look at one place.
use Rattle.std.specs.Prelude.{◌≡◌, ◌<◌, ℕ, List, Bool, true, false, Option}
use Rattle.npm_overrides.specs.Choice.{Counts, Fits}
use Rattle.npm_overrides.specs.Rules.{RuleValue}
use Rattle.npm_overrides.specs.declared.chosen.Step.{Step}
use Rattle.npm_overrides.specs.declared.chosen.Step.TheVariants.{Around, Found}

-- what counts at the place, or a place before it at which the same counts
abbrev pub IsStep : (rules : List RuleValue) → (name spec : List ℕ) → (at : ℕ) → Step → Type 0
IsStep rules name spec at (Found found) = Counts rules name spec at found
IsStep rules name spec at (Around parent) = (parent < at) × ((found : Option ℕ) → Counts rules name spec parent found → Counts rules name spec at found)

-- the rule at a place is inside another and fits; or it does not fit, if it is inside
abbrev pub FitsInside : RuleValue → (place parent : ℕ) → (name spec : List ℕ) → Bool → Type 0
FitsInside rule place parent name spec true = (rule.parent ≡ parent) × (parent < place) × Fits rule name spec true
FitsInside rule place parent name spec false = rule.parent ≡ parent → parent < place → Fits rule name spec false
