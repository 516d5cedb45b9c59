-- Whether npm reads a path as another, a step up at a time.
use Rattle.std.proofs.Common.{◌≡◌, ◌∙◌, ◌⊎◌, ◌↔◌, ◌||◌, ◌&&◌, ℕ, List, [], Bool, true, false, Option, Some, None, IsTrue, ap, bytes_eq, codes}
use Rattle.std.proofs.Common.{inl, inr, is_none, is_some, refl, sym}
use Rattle.std.specs.Path.{rsplit_once, slash}
use Rattle.npm_texts.specs.Texts.{rest_after}
use Rattle.npm_lock.specs.OtherFolders.{IsReadAsAnother, back, higher, is_at_or_below, leads_up, top}

-- ---- a path that leads up, from a folder that is not topmost

above_in : Option (List ℕ × List ℕ) → List ℕ
above_in None = []
above_in (Some parts) = parts.0

name_in : Option (List ℕ × List ℕ) → List ℕ
name_in None = []
name_in (Some parts) = parts.1

pub step : (folder path above name rest : List ℕ) → rsplit_once slash folder ≡ Some (above, name)
    → rest_after (codes "../") path ≡ Some rest → IsReadAsAnother folder path
    → (is_at_or_below name rest ≡ true) ⊎ IsReadAsAnother above rest
unfolding name_in above_in
step folder path above name rest parts up (back _ _ other_above other_name other_rest other_parts other_up is) =
    let same_name : other_name ≡ name = ap name_in (sym other_parts ∙ parts) in
    let same_rest : other_rest ≡ rest = cc (sym other_up ∙ up) in
    inl (rw (same_name, same_rest) at is)
step folder path above name rest parts up (higher _ _ other_above other_name other_rest other_parts other_up is) =
    let same_above : other_above ≡ above = ap above_in (sym other_parts ∙ parts) in
    let same_rest : other_rest ≡ rest = cc (sym other_up ∙ up) in
    inr (rw (same_above, same_rest) at is)
step folder path above name rest parts up (top _ _ none leads) = cc (none, parts)

-- the step is not back into the folder, so that what is left decides
pub passed : (folder path above name rest : List ℕ) → rsplit_once slash folder ≡ Some (above, name)
    → rest_after (codes "../") path ≡ Some rest → is_at_or_below name rest ≡ false
    → IsReadAsAnother above rest ↔ IsReadAsAnother folder path
passed folder path above name rest parts up apart = (
  (λ is. higher folder path above name rest parts up is),
  (λ is. elim (step folder path above name rest parts up is) [
    | inl back_into ↦ cc (apart, back_into)
    | inr later ↦ later
  ]),
)

-- ---- the topmost folder

or_true : (a : Bool) → (a || true) ≡ true
or_true true = refl
or_true false = refl

pub over_top : (folder path rest : List ℕ) → rsplit_once slash folder ≡ None → rest_after (codes "../") path ≡ Some rest
    → IsReadAsAnother folder path
over_top folder path rest none up =
    top folder path none (ap (λ found. bytes_eq path (codes "..") || is_some found) up ∙ or_true (bytes_eq path (codes "..")))

-- ---- a path that goes down, or is `..`

up_alone : (folder path : List ℕ) → rest_after (codes "../") path ≡ None → IsReadAsAnother folder path
    → (rsplit_once slash folder ≡ None) × ((bytes_eq path (codes "..") || false) ≡ true)
up_alone folder path down (back _ _ _ _ _ _ up _) = cc (down, up)
up_alone folder path down (higher _ _ _ _ _ _ up _) = cc (down, up)
up_alone folder path down (top _ _ none leads) =
    (none, sym (ap (λ found. bytes_eq path (codes "..") || is_some found) down) ∙ leads)

both : (is : Bool) (parts : Option (List ℕ × List ℕ)) → (is && is_none parts) ≡ true → (is ≡ true) × (parts ≡ None)
both true None are = (refl, refl)
both true (Some parts) are = cc are
both false parts are = cc are

of_both : (is : Bool) (parts : Option (List ℕ × List ℕ)) → (is || false) ≡ true → parts ≡ None → (is && is_none parts) ≡ true
of_both true None one none = refl
of_both true (Some parts) one none = cc none
of_both false parts one none = cc one

pub ended : (folder path : List ℕ) (b : Bool) → rest_after (codes "../") path ≡ None
    → b ≡ (bytes_eq path (codes "..") && is_none (rsplit_once slash folder)) → IsTrue b ↔ IsReadAsAnother folder path
ended folder path b down same = (
  (λ holds.
      let facts = both (bytes_eq path (codes "..")) (rsplit_once slash folder) (sym same ∙ holds) in
      top folder path facts.1 (ap (λ is. is || is_some (rest_after (codes "../") path)) facts.0)),
  (λ is.
      let facts = up_alone folder path down is in
      same ∙ of_both (bytes_eq path (codes "..")) (rsplit_once slash folder) facts.1 facts.0),
)
