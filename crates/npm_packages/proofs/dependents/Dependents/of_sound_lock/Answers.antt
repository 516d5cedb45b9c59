-- The dependents are those of all dependencies.
use Rattle.std.proofs.Common.{map}
use Rattle.std.proofs.lemmas.Result.{IfOk-weaker}
use Rattle.npm_packages.specs.Edges.{edge_value}
use Rattle.npm_packages.proofs.dependents.Dependents.of_sound_lock.Goals as goal

pub returns : goal.returns
returns c = IfOk-weaker c.of_edges.result _ _
    (λ dependents texts. record {
      edges = map edge_value c.in_ok-edges.edges.items;
      are = c.in_ok-edges.ensures;
      texts = texts;
    })
    (rw c.deref.ensures.value at c.of_edges.ensures)
