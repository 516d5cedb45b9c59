-- The rule is put at its name, and nothing else changes.
use Rattle.std.proofs.Common.{◌∙◌, ap, bytes_eq, option_map}
use Rattle.std.proofs.lemmas.Map.Text.{btree_map_updates_str}
use Rattle.std.proofs.lemmas.Slice.Eq.{bytes_eq-Decides}
use Rattle.npm_packages.specs.Rules.{rule_at, rule_value}
use Rattle.npm_packages.proofs.Groups.{seen_update}
use Rattle.npm_packages.proofs.OverrideRules.{put_again, put_first, rule_added}
use Rattle.npm_packages.proofs.overrides.add_rule.Goals as goal
use Rattle.npm_packages.proofs.overrides.add_rule.Goals.{in-Some, in-None}

pub returns : goal.returns
returns c = λ other.
    rule_added (bytes_eq c.args.name.now other) (rule_at c.args.rules.now other) (rule_at c.insert.new.self other)
    (rule_at c.args.rules.now c.args.name.now) (rule_value c.args.rule) (rule_value c.match-get.kept)
    (ap (option_map rule_value) (btree_map_updates_str c.args.name.now c.args.rules.now c.insert.new.self _
    c.in_ok-insert.ensures.updates other)
    ∙ seen_update rule_value (bytes_eq c.args.name.now other) c.match-get.kept _)
    (λ same. ap (rule_at c.args.rules.now) ((bytes_eq-Decides c.args.name.now other).0 same))
    (elim c.match-get.branch [
      | in-Some w ↦ put_again _ _ _ _ (rw w.in-Some.is at c.get.ensures.value) w.kept-is
      | in-None w ↦ put_first _ _ _ (rw w.in-None.is at c.get.ensures.value) w.kept-is
    ])
