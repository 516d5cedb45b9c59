-- The first name of one group, or of the other.
use Rattle.std.proofs.Common.{◌≡◌, ◌∙◌, ℕ, List, None, Option, Some, ap, option_map, sym}
use denote.Ref.{Bor}
use Rattle.std.specs.Option.{MatchOption}
use Rattle.serde_json.specs.Data.{Members}
use Rattle.npm_lock.specs.Private.GroupSpecs.{HasNone, IsFirstOf, first_key}
use Rattle.npm_lock.proofs.GroupWalk.{first_alone, first_locked, first_of_locked, first_of_specs, no_first}
use Rattle.npm_lock.proofs.manifest.first_name.Goals as goal
use Rattle.npm_lock.proofs.manifest.first_name.Goals.{in_default-name-via-in-Some-name+else-lt}
use Rattle.npm_lock.proofs.manifest.first_name.Goals.{in_default-name-via-in_default-name}

-- only the second group may have names that are left
second_alone : (result : Option (Bor (List ℕ))) (specs locked : Members) → first_key specs ≡ None
    → option_map (λ name. name.now) result ≡ first_key locked
    → MatchOption result (HasNone specs locked) (λ name. IsFirstOf name.now specs locked)
second_alone None specs locked none is = (no_first specs none, no_first locked (sym is))
second_alone (Some name) specs locked none is = first_locked name.now specs locked none (sym is)

pub returns-in_default : goal.returns-in_default
returns-in_default c = second_alone c.name-in_default.result _ _
    (sym c.name.ensures ∙ ap (option_map (λ name. name.now)) c.in_default.is) c.name-in_default.ensures

pub returns-in-Some-name : goal.returns-in-Some-name
returns-in-Some-name c = first_of_locked c.in-Some.name.now c.in-Some-name.other.now _ _
    (sym c.name.ensures ∙ ap (option_map (λ name. name.now)) c.in-Some.is)
    (sym c.name-2.ensures ∙ ap (option_map (λ name. name.now)) c.in-Some-name.is)
    (sym c.lt.ensures ∙ c.if-lt.true)

pub returns-in_default-name : goal.returns-in_default-name
returns-in_default-name c = elim c.in_default-name.branch [
  | in_default-name-via-in-Some-name+else-lt w ↦ first_of_specs c.in-Some.name.now w.in-Some-name.other.now _ _
      (sym c.name.ensures ∙ ap (option_map (λ name. name.now)) c.in-Some.is)
      (sym c.name-2.ensures ∙ ap (option_map (λ name. name.now)) w.in-Some-name.is)
      (sym w.lt.ensures ∙ w.if-lt.false)
  | in_default-name-via-in_default-name w ↦ first_alone c.in-Some.name.now _ _
      (sym c.name.ensures ∙ ap (option_map (λ name. name.now)) c.in-Some.is)
      (sym c.name-2.ensures ∙ ap (option_map (λ name. name.now)) w.in_default-name.is)
]
