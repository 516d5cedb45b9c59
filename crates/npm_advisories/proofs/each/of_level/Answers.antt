-- The values of those that are kept.
use Rattle.std.proofs.Common.{◌≡◌, ◌∙◌, ap, filter, map, rules}
use Rattle.std.proofs.lemmas.Fn.{filter_same}
use Rattle.npm_advisories.specs.Advisories.{AboutValue, about_value}
use Rattle.npm_advisories.specs.Severities.{is_at_least}
use Rattle.npm_advisories.proofs.EachRelease.{map-kept}
use Rattle.npm_advisories.proofs.each.of_level.Goals as goal

pub returns : goal.returns
returns c =
    let kept : c.retain.new.self.items ≡ filter
    (λ about. is_at_least c.args.level (about_value about).severity) c.in_ok-some.some.items =
    filter_same _ _ _ (λ x b f' k. search rules) _ _ c.retain.ensures.filtered in
    ap (map about_value) kept
    ∙ map-kept about_value (λ about. is_at_least c.args.level about.severity) c.in_ok-some.some.items
    ∙ ap (λ l. filter (λ (about : AboutValue). is_at_least c.args.level about.severity) (map about_value l)) c.in_ok-some.ensures.items
