-- A list of no length has nothing.
use Rattle.std.proofs.Common.{◌≡◌, ◌∙◌, List, [], ◌∷◌, ap, arith, false, length, refl}
use Rattle.std.proofs.lemmas.Bool.{ne_eqb}
use Rattle.std.specs.Prelude.{◌==◌}
use Rattle.std.specs.Option.{option_map_or}
use Rattle.serde_json.specs.View.{items_view}
use Rattle.serde_json.specs.declared.value.Value.{Value}
use Rattle.npm_lock_reports.specs.Read.{has_nothing}
use Rattle.npm_lock_reports.proofs.read.is_empty_list.Goals as goal

empty : (items : List Value) → (length items == 0) ≡ has_nothing (items_view items)
empty [] = refl
empty (item ∷ others) = ne_eqb (length (item ∷ others)) 0 (omega arith)

pub returns-in-Some : goal.returns-in-Some
returns-in-Some c = c.is_empty.ensures ∙ ap (λ list. length list == 0) c.as_slice.ensures.value
    ∙ empty c.in-Some.items.now.items ∙ ap (λ list. option_map_or has_nothing list false) c.in-Some.ensures
