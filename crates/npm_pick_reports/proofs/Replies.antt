-- Replies, and their counts.
use Rattle.std.proofs.Common.{◌≡◌, ◌≢◌, ◌∙◌, ◌+◌, ℕ, List, [], ◌∷◌, Bool, Ok, Err, map, refl, sym}
use Rattle.std.proofs.lemmas.List.Folds.{fold-map}
use Rattle.std.specs.List.{list_any}
use Rattle.std.specs.Prelude.{cond, count_by}
use Rattle.npm_pick.specs.Lemmas.Answers.{is_picked, is_unpicked}
use Rattle.npm_pick.specs.Pick.{IsAnswer, IsPicked, PickedValue}
use Rattle.npm_pick.specs.declared.options.Options.{Options}
use Rattle.npm_pick.specs.declared.error.PickError.{PickError}
use Rattle.npm_pick.specs.declared.error.PickError.TheVariants as Errors
use Rattle.npm_pick_reports.specs.Outdated.{OutcomeValue, is_absent, is_outdated, outcome_value}
use Rattle.npm_pick_reports.specs.declared.outdated.Outcome.{Outcome}
use Rattle.npm_texts.specs.RangeText.{filled}
use Rattle.serde_json.specs.Data.{Data}
use Rattle.npm_pick_reports.specs.Reply as Replies
use Rattle.npm_pick_reports.specs.Reply.{IsPickedReply}
use Rattle.npm_pick_reports.specs.declared.reply.Ending.TheVariants.{Compared}

any-map : {X Y : Type 0} (test : Y → Bool) (f : X → Y) (xs : List X)
    → list_any test (map f xs) ≡ list_any (λ x. test (f x)) xs
any-map test f [] = refl
any-map test f (x ∷ xs) = rw (any-map test f xs) refl

pub compared_ending : (outcomes : List Outcome) (is_behind : Bool) (absent : ℕ)
    → is_behind ≡ list_any (λ outcome. is_outdated (outcome_value outcome)) outcomes
    → absent ≡ count_by (λ outcome. is_absent (outcome_value outcome)) outcomes
    → Compared is_behind absent ≡ Compared (list_any is_outdated (map outcome_value outcomes))
    (count_by is_absent (map outcome_value outcomes))
compared_ending outcomes is_behind absent any count =
    let behind_too : is_behind ≡ list_any is_outdated (map outcome_value outcomes) =
    any ∙ sym (any-map is_outdated outcome_value outcomes) in
    let absent_too : absent ≡ count_by is_absent (map outcome_value outcomes) =
    count ∙ sym (fold-map (λ n (y : OutcomeValue). n + cond (is_absent y) 1 0) outcome_value 0 outcomes) in
    rw (behind_too, absent_too) refl

-- ---- the version that is picked

module _ (packument : Data) (options : Options) (wanted : List ℕ) where
  pub some_reply : (version : PickedValue) → IsAnswer (IsPicked packument options (filled wanted)) (Ok version)
      → IsPickedReply packument options wanted (Replies.picked version)
  some_reply version answer =
      Replies.some version (is_picked (IsPicked packument options (filled wanted)) version answer)

  pub nothing_reply : (error : PickError) → error ≢ Errors.Memory
      → IsAnswer (IsPicked packument options (filled wanted)) (Err error)
      → IsPickedReply packument options wanted (Replies.nothing error)
  nothing_reply error other answer =
      Replies.none error (is_unpicked (IsPicked packument options (filled wanted)) error other answer)
