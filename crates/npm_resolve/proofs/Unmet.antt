-- Demands of the root.
use Rattle.std.proofs.Common.{◌≡◌, ◌∙◌, List, ap, length, sym}
use Rattle.std.proofs.lemmas.List.{length-map}
use Rattle.serde_json.specs.declared.value.Value.{Value}
use Rattle.version_solving.specs.declared.ask.Listed.{Listed}
use Rattle.version_solving.specs.declared.demand.Demand.{Demand}
use Rattle.version_solving.specs.declared.documents.Range.{Range}
use Rattle.npm_resolve.specs.Optional.{root_demand, root_demands}

pub root_length : (manifests : List Value) (names : List Listed) (ranges : List Range) (demands root : List Demand)
    → root ≡ root_demands manifests names ranges demands → length demands ≡ length root
root_length manifests names ranges demands root is =
    sym (length-map demands (root_demand manifests names ranges)) ∙ ap length (sym is)
