-- What is nearest is reached, or lies above the outermost folder.
use Rattle.std.proofs.Common.{◌≡◌, None, arith, rules}
use Rattle.npm_packages.specs.PackageValue.{packages_data}
use Rattle.npm_packages.proofs.Indexing.{by_folder}
use Rattle.npm_packages.proofs.Nearest.{nearest_none, nearest_over_all, nearest_some}
use Rattle.npm_packages.proofs.place.Lock.nearest.Goals as goal

pub nearest-requires-clause-by_folder : goal.nearest-requires-clause-by_folder
nearest-requires-clause-by_folder c =
    by_folder (packages_data c.args.self) c.args.index.now.by_name c.requires.index.places

pub nearest-requires-clause-above : goal.nearest-requires-clause-above
nearest-requires-clause-above c = λ folder up. c.requires.index.above c.args.name.now folder

pub returns-in_err-hit : goal.returns-in_err-hit
returns-in_err-hit c =
    let result : c.from_residual.result ≡ None = search rules in
    rw result (nearest_none (packages_data c.args.self) c.args.from.now c.args.outermost.now c.args.name.now
    c.args.index.now.by_name c.requires.index.places c.requires.outermost c.requires.plain
    (rw c.in_err-hit.was at c.nearest.ensures))

pub returns-then-outermost-hit : goal.returns-then-outermost-hit
returns-then-outermost-hit c =
    nearest_some (packages_data c.args.self) c.args.from.now c.args.outermost.now c.args.name.now
    c.args.index.now.by_name c.requires.index.places c.requires.outermost c.requires.plain c.in_ok-hit.hit
    c.in_ok-hit.ensures c.if-outermost-hit.true

pub returns-else-outermost-hit : goal.returns-else-outermost-hit
returns-else-outermost-hit c =
    nearest_over_all (packages_data c.args.self) c.args.from.now c.args.outermost.now c.args.name.now
    c.args.index.now.by_name c.requires.index.places c.requires.outermost c.requires.plain c.in_ok-hit.hit
    c.in_ok-hit.ensures (omega (arith, c.if-outermost-hit.false))
