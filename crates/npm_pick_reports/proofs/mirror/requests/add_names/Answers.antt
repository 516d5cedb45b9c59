-- The name of one request more.
use Rattle.std.proofs.Common.{◌∙◌, [], ◌∷◌, ◌++◌, ap, map, string_bytes}
use Rattle.std.proofs.lemmas.List.Concat.{flat_map_single}
use Rattle.npm_texts.specs.RegistrySpec.{RegistrySpecValue, registry_spec_value}
use Rattle.npm_pick.specs.Lemmas.Gathering.{made_all, made_at, pushed}
use Rattle.npm_pick_reports.proofs.mirror.requests.add_names.Goals as goal

pub loop-request-preserved : goal.loop-request-preserved
loop-request-preserved c = made_at registry_spec_value c.args.requests.now (λ (r : RegistrySpecValue). r.name ∷ []) _
    c.loop-request.request-index _ _ _ c.loop-request-test.true
    (pushed _ _ _ _ c.in_ok-push.ensures.items c.in_ok-from_str.ensures.ok) c.loop-request.invariant

pub returns : goal.returns
returns c = made_all registry_spec_value c.args.requests.now (λ (r : RegistrySpecValue). r.name ∷ []) _
    c.loop-request.request-index _ c.loop-request-test.false c.loop-request.invariant
    ∙ ap (λ l. map string_bytes c.args.names.now.items ++ l)
    (flat_map_single (λ (r : RegistrySpecValue). r.name) (map registry_spec_value c.args.requests.now))
