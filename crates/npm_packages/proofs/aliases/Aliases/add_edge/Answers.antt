-- The name of an alias counts if it is the first for the folder of the package that is found.
use Rattle.std.proofs.Common.{ap, option_map, sym}
use Rattle.std.proofs.lemmas.Result.{on_ok_weaker}
use Rattle.npm_packages.specs.Aliases.{name_at}
use Rattle.npm_packages.specs.Edges.{edge_value}
use Rattle.npm_packages.proofs.AliasNames.{no_name, no_place, one_name}
use Rattle.npm_packages.proofs.aliases.Aliases.add_edge.Goals as goal

pub returns-in-Some-aliased_name : goal.returns-in-Some-aliased_name
returns-in-Some-aliased_name c = on_ok_weaker c.add.result (λ adds folder edges same.
    rw (adds folder) (one_name folder edges (edge_value c.args.edge) (name_at c.args.self.now folder) same
    c.in-Some.to.now c.in-Some-aliased_name.name.now (ap (option_map (λ text. text.now)) c.in-Some.is)
    (sym c.in-Some-aliased_name.ensures))) c.add.ensures

pub returns-in-None-aliased_name : goal.returns-in-None-aliased_name
returns-in-None-aliased_name c = λ folder edges same. no_name folder edges (edge_value c.args.edge)
    (name_at c.args.self.now folder) same (sym c.in-None-aliased_name.ensures)

pub returns-in-None : goal.returns-in-None
returns-in-None c = λ folder edges same. no_place folder edges (edge_value c.args.edge) (name_at c.args.self.now folder)
    same (ap (option_map (λ text. text.now)) c.in-None.is)
