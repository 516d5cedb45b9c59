-- The text of a dependency is added to the folder of the package that is found.
use Rattle.std.proofs.Common.{ap, option_map}
use Rattle.std.proofs.lemmas.Result.{on_ok_weaker}
use Rattle.npm_packages.specs.Dependents.{texts_at}
use Rattle.npm_packages.specs.Edges.{edge_value}
use Rattle.npm_packages.proofs.DependentTexts.{no_text, one_text}
use Rattle.npm_packages.proofs.dependents.Dependents.add_edge.Goals as goal

pub returns-in-Some : goal.returns-in-Some
returns-in-Some c = on_ok_weaker c.add.result (λ adds folder edges are.
    rw (adds folder) (one_text folder edges (edge_value c.args.edge) (texts_at c.args.self.now folder) c.in-Some.to.now
    c.edge_text.result.now (ap (option_map (λ text. text.now)) c.in-Some.is) c.edge_text.ensures are)) c.add.ensures

pub returns-in-None : goal.returns-in-None
returns-in-None c = λ folder edges are. no_text folder edges (edge_value c.args.edge) (texts_at c.args.self.now folder)
    (ap (option_map (λ text. text.now)) c.in-None.is) are
