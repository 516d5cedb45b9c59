-- What `load` returned is returned.
use Rattle.std.proofs.Common.{◌∙◌, option_map, rules, sym}
use Rattle.std.specs.Fn.{FnOnceReturnsAt}
use Rattle.serde_json.specs.View.{view}
use Rattle.npm_lock_check.proofs.LinkedManifests.{are_loaded, are_not_loaded}
use Rattle.npm_lock_check.proofs.checks.sync.load_compared.Goals as goal

pub returns-then-is_compared-clause-found : goal.returns-then-is_compared-clause-found
returns-then-is_compared-clause-found g c =
    let gives : FnOnceReturnsAt g.F.FnOnce c.args.load c.args.lock.now c.load.result = search rules in
    are_loaded (FnOnceReturnsAt g.F.FnOnce c.args.load) c.args.lock.now
    (option_map (λ manifest. view manifest.now) c.args.manifest) (sym c.is_compared.ensures ∙ c.if-is_compared.true)
    c.load.result gives

pub returns-then-is_compared-clause-failed : goal.returns-then-is_compared-clause-failed
returns-then-is_compared-clause-failed g c =
    let gives : FnOnceReturnsAt g.F.FnOnce c.args.load c.args.lock.now c.load.result = search rules in
    are_not_loaded (FnOnceReturnsAt g.F.FnOnce c.args.load) c.args.lock.now
    (option_map (λ manifest. view manifest.now) c.args.manifest) (sym c.is_compared.ensures ∙ c.if-is_compared.true)
    c.load.result gives
