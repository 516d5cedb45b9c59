-- A package asks a registry for its version, or for nothing.
use Rattle.std.proofs.Common.{◌∙◌, [], ◌∷◌, ap, append-nil, option_map, refl, sym}
use Rattle.npm_texts.specs.RegistrySpec.{registry_spec_value}
use Rattle.npm_pick_reports.specs.Installed.{asked, other, unversioned}
use Rattle.npm_pick.specs.Lemmas.Gathering.{pushed-seen}
use Rattle.npm_pick_reports.proofs.Mirrors.{no_truth}
use Rattle.npm_pick_reports.proofs.mirror.installed.add_package.Goals as goal

pub returns-then-not-asks_registry : goal.returns-then-not-asks_registry
returns-then-not-asks_registry c =
    ([], other (λ asks. no_truth _ c.if-not-asks_registry.true (c.asks_registry.ensures.1 asks)), sym (append-nil _))

pub returns-in_default : goal.returns-in_default
returns-in_default c = (
  [],
  unversioned (sym c.version_of.ensures ∙ ap (option_map (λ version. version.now)) c.in_default.is),
  sym (append-nil _),
)

pub returns : goal.returns
returns c = (
  record { name = c.name_of.result.now; text = c.in-Some.version.now } ∷ [],
  asked c.name_of.result.now c.in-Some.version.now (c.asks_registry.ensures.0 c.if-not-asks_registry.false)
      c.name_of.ensures (sym c.version_of.ensures ∙ ap (option_map (λ version. version.now)) c.in-Some.is),
  pushed-seen registry_spec_value _ _ _ _ c.in_ok-push.ensures.items refl,
)
