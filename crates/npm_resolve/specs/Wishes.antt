-- What the manifests of a root ask for.
use Rattle.std.specs.Prelude.{◌≡◌, List, flat_map}
use Rattle.std.specs.List.{AllZip}
use Rattle.serde_json.specs.View.{view}
use Rattle.serde_json.specs.declared.value.Value.{Value}
use Rattle.npm_resolve.specs.Asks.{AreAsks, AskValue, RulesValue}
use Rattle.npm_resolve.specs.declared.candidates.options.Omits.{Omits}
use Rattle.npm_resolve.specs.declared.candidates.owner.Owner.TheVariants.{Root}

-- what one manifest asks a registry for, and what is left out
pub record WishesValue : Type 0 where
  pub asks : List AskValue
  pub left_out : List AskValue

abbrev pub IsWish : RulesValue → Omits → Value → WishesValue → Type 0
IsWish rules omits manifest one = AreAsks (view manifest) Root rules omits one.asks one.left_out

-- The same of all manifests, one after the other. A name can be asked for several times.
pub record AreWishes (rules : RulesValue) (omits : Omits) (manifests : List Value) (asks left_out : List AskValue) : Type 0 where
  pub each : List WishesValue
  pub are : AllZip (IsWish rules omits) manifests each
  pub asked : asks ≡ flat_map (λ (one : WishesValue). one.asks) each
  pub others : left_out ≡ flat_map (λ (one : WishesValue). one.left_out) each
