-- The folder was copied.
use Rattle.std.proofs.Common.{◌∙◌, inl, refl}
use Rattle.npm_lock_check.proofs.checks.sync.no_linked.Goals as goal

pub returns-in-Ok : goal.returns-in-Ok
returns-in-Ok c =
    inl (record { text = c.in-Ok.text }, c.args.fault, refl, c.in-Ok.ensures.ok ∙ c.as_str.ensures.value, c.requires)
