use Rattle.std.proofs.Common.{◌≡◌, ◌∙◌, ◌&&◌, ◌||◌, ap, filter, map, not, rules}
use Rattle.std.proofs.lemmas.Fn.{filter_same}
use Rattle.serde_json.specs.View.{view}
use Rattle.npm_lock.specs.Sources.{source_value}
use Rattle.npm_lock_reports.specs.LeftOut.{is_certain}
use Rattle.npm_lock_reports.specs.Omissions.{is_omitted_at}
use Rattle.npm_lock_reports.proofs.Keeping.{map-kept}
use Rattle.npm_lock_reports.proofs.left_out.leave_out_sources.Goals as goal

pub returns : goal.returns
returns c =
    let kept : c.retain.new.self.items
    ≡ filter (λ source. (c.args.is_asked || is_certain (source_value source).kind)
    && not (is_omitted_at c.args.omissions (view c.args.lock.now) (source_value source).folder)) c.args.list.now.items =
    filter_same _ _ _ (λ x b f' k. search rules) _ _ c.retain.ensures.filtered in
    ap (map source_value) kept
    ∙ map-kept source_value (λ one. (c.args.is_asked || is_certain one.kind)
    && not (is_omitted_at c.args.omissions (view c.args.lock.now) one.folder)) c.args.list.now.items
