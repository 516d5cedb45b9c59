-- What is asked for by a name on which a manifest depends.
use Rattle.std.specs.Prelude.{◌≡◌, ℕ, List, Option}
use Rattle.serde_json.specs.Data.{Data}
use Rattle.npm_packages.specs.Asked.{AskedValue}
use Rattle.npm_overrides.specs.Asks.{AskValue, IsRuleFor, ask_of}
use Rattle.npm_overrides.specs.Rules.{RuleValue}
use Rattle.npm_overrides.specs.declared.kind.Owner.{Owner}

-- it is asked for by this dependency, and by the rule that counts for it
abbrev pub IsAskBy : (manifest : Data) → Owner → (rules : List RuleValue) → (counts peers_count : ℕ) → (name : List ℕ) → AskedValue
    → AskValue → Type 0
IsAskBy manifest owner rules counts peers_count name asked ask = (rule : Option ℕ) × IsRuleFor owner rules counts name asked.spec rule
    × (ask ≡ ask_of manifest owner rules counts peers_count name asked rule)
