-- The members are those of `packages`.
use Rattle.std.proofs.Common.{◌≡◌, ◌∙◌, ap, option_map, sym}
use Rattle.std.proofs.lemmas.Result.{IfOk-weaker}
use Rattle.serde_json.specs.View.{members_view}
use Rattle.npm_pick_reports.proofs.Elsewhere.{all_asked_too}
use Rattle.npm_pick_reports.proofs.mirror.installed.installed_of.Goals as goal

pub returns : goal.returns
returns c = IfOk-weaker c.installed_among.result _ _ (λ installed are members there.
    let same : members_view c.in-Some.members.now.entries ≡ members =
    cc (rw there at (ap (option_map (λ found. members_view found.now.entries)) (sym c.in-Some.is) ∙ c.members_of.ensures)) in
    all_asked_too members _ c.in_ok-elsewhere.ensures (rw same at are)) c.installed_among.ensures
