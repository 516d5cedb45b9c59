-- The exceptions of a list are added from the last one on.
use Rattle.std.proofs.Common.{◌≡◌, ◌&&◌, ◌<◌, ◌+◌, ℕ, List, Bool, Option, None, Some, add-one, ap, bytes_eq, cond, drop, drop-cons}
use Rattle.std.proofs.Common.{false, get_or, length, map, not, option_and_then, refl, string_bytes, sym, true, unwrap_or}
use Rattle.std.proofs.Common.{BTreeMap, Global, String}
use Rattle.std.specs.BTreeMap.{IsEmpty, get_by_text}
use Rattle.std.specs.List.{position_from}
use Rattle.toml_datetime.specs.declared.datetime.Date.{Date}
use Rattle.npm_lock_reports.specs.AdvisoryExceptions.{exception_value, is_over}
use Rattle.npm_lock_reports.specs.Places.{excepts, is_same_id}
use Rattle.npm_lock_reports.specs.declared.advisory_exceptions.exception.Exception.{Exception}

-- one place more, among the ids of one name
pub one-more : {M : Type 0} (look : M → Option ℕ) (place : ℕ) (same here : Bool) (new old : Option M) (before after : M)
    → new ≡ cond here (Some after) old → (here ≡ true → look before ≡ option_and_then look old)
    → look after ≡ cond same (Some place) (look before)
    → option_and_then look new ≡ cond (here && same) (Some place) (option_and_then look old)
one-more look place same true new old before after is was now = rw (is, ← was refl) now
one-more look place same false new old before after is was now = rw is refl

-- nothing is found where there are no ids
pub none-there : (ids : BTreeMap (String Global) ℕ) → IsEmpty ids → (id : List ℕ) → get_by_text ids id ≡ None
none-there ids is id = rw is refl

-- what is found among the ids of a name, which are none before the first
pub there-before : {M : Type 0} (look : M → Option ℕ) (found : Option M) (before empty : M) → look empty ≡ None
    → before ≡ unwrap_or found empty → look before ≡ option_and_then look found
there-before look None before empty none is = rw is none
there-before look (Some m) before empty none is = rw is refl

module _ (today : Date) (list : List Exception) (i : ℕ) (one : Exception) (lt : i < length list)
    (is : one ≡ get_or list i one) (left : ℕ) (at : left ≡ i + 1) (name id : List ℕ) where
  -- the first place among the exceptions from a place on
  abbrev first : ℕ → Option ℕ
  first n = position_from (excepts today name id) n (map exception_value (drop n list))

  abbrev is_about : Bool
  is_about = bytes_eq (string_bytes one.name) name && is_same_id (string_bytes one.id) id

  step : first i ≡ cond (not (is_over today (exception_value one)) && is_about) (Some i) (first left)
  step = rw (at, drop-cons list i one lt, ← is) (ap (λ k. cond (not (is_over today (exception_value one)) && is_about) (Some i)
      (position_from (excepts today name id) (i + 1) (map exception_value (drop k list)))) (sym (add-one i)))

  by_over : (over : Bool) → first i ≡ cond (not over && is_about) (Some i) (first left) → over ≡ true → first i ≡ first left
  by_over true e is = e
  by_over false e is = absurd (cc is)

  by_other : (over : Bool) → first i ≡ cond (not over && is_about) (Some i) (first left) → over ≡ false
      → first i ≡ cond is_about (Some i) (first left)
  by_other true e is = absurd (cc is)
  by_other false e is = e

  -- one that is over is passed
  pub passed : is_over today (exception_value one) ≡ true → first left ≡ first i
  passed over = sym (by_over (is_over today (exception_value one)) step over)

  -- any other is added
  pub added : is_over today (exception_value one) ≡ false → cond is_about (Some i) (first left) ≡ first i
  added over = sym (by_other (is_over today (exception_value one)) step over)
