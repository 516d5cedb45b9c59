-- The first place of a name, from a place of the list on.
use Rattle.std.proofs.Common.{◌≡◌, ◌∙◌, ◌<◌, ◌+◌, ℕ, suc, List, ◌∷◌, Some, ap, arith, bytes_eq, cond, drop, drop-cons, get_or, length, sym}
use Rattle.version_solving.specs.Naming.{place_from}
use Rattle.version_solving.specs.declared.ask.Listed.{Listed}

pub place_at : (listed : List Listed) (place next : ℕ) (one : Listed) (name : List ℕ) → place < length listed
    → next ≡ suc place → one ≡ get_or listed place one
    → place_from place (drop place listed) name
    ≡ cond (bytes_eq one.name.now name) (Some place) (place_from next (drop next listed) name)
place_at listed place next one name inside same is =
    let one_up : place + 1 ≡ next = omega (arith, same) in
    let b = bytes_eq one.name.now name in
    ap (λ rest. place_from place rest name) (drop-cons listed place one inside)
    ∙ (ap (λ (first : Listed). place_from place (first ∷ drop (suc place) listed) name) (sym is)
    ∙ (ap (λ n. cond b (Some place) (place_from n (drop (suc place) listed) name)) one_up
    ∙ ap (λ n. cond b (Some place) (place_from next (drop n listed) name)) (sym same)))
