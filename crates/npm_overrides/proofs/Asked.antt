-- An ask of a manifest.
use Rattle.std.proofs.Common.{◌≡◌, ℕ, List, Some, not}
use Rattle.serde_json.specs.Data.{Data}
use Rattle.npm_packages.specs.Asked.{AskedValue, asked_of}
use Rattle.npm_overrides.specs.Asks.{AskValue, IsAsk, by_rule, is_top}
use Rattle.npm_overrides.specs.Private.Asking.{IsAskBy}
use Rattle.npm_overrides.specs.Rules.{RuleValue}
use Rattle.npm_overrides.specs.declared.kind.Owner.{Owner}

pub is_ask : (m : Data) (owner : Owner) (rules : List RuleValue) (counts peers_count : ℕ) (name : List ℕ) (asked : AskedValue) (ask : AskValue)
    → asked_of m (not (is_top owner)) name ≡ Some asked → IsAskBy m owner rules counts peers_count name asked ask
    → IsAsk m owner rules counts peers_count name ask
is_ask m owner rules counts peers_count name asked ask there (rule, ruled, is) = rw is (by_rule asked rule there ruled)
