-- The hits that are added to none.
use Rattle.std.proofs.Common.{◌∙◌, ap, subst, sym, ◌++◌}
use Rattle.npm_advisories.proofs.Halving.{AreHit}
use Rattle.npm_advisories.proofs.unions.Union.hits.Goals as goal

pub add_hits-requires : goal.add_hits-requires
add_hits-requires c = c.requires.halves

pub returns : goal.returns
returns c =
    let more = c.in_ok-add_hits.ensures in
    subst (AreHit c.args.level c.args.version.now c.args.advisories.now)
    (sym (more.1 ∙ ap (λ l. l ++ more.0) c.new-hits.ensures.items)) more.2
