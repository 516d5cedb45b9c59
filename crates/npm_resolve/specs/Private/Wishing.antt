-- What one manifest more asks for.
use Rattle.std.specs.Prelude.{◌≡◌, ◌++◌, List, map}
use Rattle.serde_json.specs.Data.{Data}
use Rattle.npm_resolve.specs.Asks.{AreAsks, AskValue, RulesValue, ask_value}
use Rattle.npm_resolve.specs.declared.candidates.asks.Asks.{Asks}
use Rattle.npm_resolve.specs.declared.candidates.options.Omits.{Omits}
use Rattle.npm_resolve.specs.declared.candidates.owner.Owner.TheVariants.{Root}

pub record AreWishesAdded (rules : RulesValue) (omits : Omits) (manifest : Data) (old new : Asks) : Type 0 where
  pub asks : List AskValue
  pub left_out : List AskValue
  pub are : AreAsks manifest Root rules omits asks left_out
  pub asked : map ask_value new.asks.items ≡ map ask_value old.asks.items ++ asks
  pub others : map ask_value new.left_out.items ≡ map ask_value old.left_out.items ++ left_out
