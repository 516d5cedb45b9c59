use Rattle.std.proofs.Common.{◌≡◌, ◌∙◌, ℕ, List, Some, ap, option_map, subst, sym, true}
use Rattle.serde_json.specs.Find.{as_str}
use Rattle.serde_json.specs.View.{view}
use Rattle.npm_texts.specs.Truth.{is_true}
use Rattle.npm_texts.specs.Admission.{Admits, of_engines}
use Rattle.npm_pick.proofs.rank.asked.is_engine_for.Goals as goal

pub returns-in-Some-2 : goal.returns-in-Some-2
returns-in-Some-2 c =
    let means = rw c.in-Some-2.is at c.in_ok-range.ensures.means in
    let counts : is_true (view c.args.asked.now) ≡ true = sym c.is_true.ensures ∙ c.if-not-is_true.false in
    let text : as_str (view c.args.asked.now) ≡ Some c.in-Some.text.now =
    sym c.as_str.ensures ∙ ap (option_map (λ t. t.now)) c.in-Some.is in (
      (λ yes. λ _. (c.in-Some.text.now, text, (means c.args.version.now).0 (c.contains.ensures.0 yes))),
      (λ fits.
          let asked = fits counts in
          let same : asked.0 ≡ c.in-Some.text.now = cc (asked.1, text) in
          c.contains.ensures.1 ((means c.args.version.now).1
          (subst (λ (t : List ℕ). Admits of_engines t c.args.version.now) same asked.2))),
    )
