-- The nearest package is found, and a name that is not plain nowhere.
use Rattle.std.proofs.Common.{None, Some, length, refl}
use Rattle.npm_packages.specs.LastParts.{IsPlain}
use Rattle.npm_packages.specs.PackageValue.{packages_data}
use Rattle.npm_packages.proofs.Nearest.{equal_lengths, found_by, not_plain, own_by}
use Rattle.npm_packages.proofs.place.Lock.find.Goals as goal

pub returns-in-Some-clause-found : goal.returns-in-Some-clause-found
returns-in-Some-clause-found c = found_by (packages_data c.args.self) c.args.from.now c.args.outermost.now
    c.args.name.now (Some c.in-Some.hit) c.requires.outermost (c.is_plain.ensures.0 c.if-not-is_plain.false)
    (rw c.in-Some.is at c.nearest.ensures)

pub returns-in-Some-clause-own : goal.returns-in-Some-clause-own
returns-in-Some-clause-own c = equal_lengths (length c.in-Some.hit.folder.now) (length c.args.from.now)
    (own_by (packages_data c.args.self) c.args.from.now c.args.outermost.now c.args.name.now (Some c.in-Some.hit)
    c.requires.outermost (c.is_plain.ensures.0 c.if-not-is_plain.false) (rw c.in-Some.is at c.nearest.ensures)
    c.in-Some.hit refl)

pub returns-in-None-clause-found : goal.returns-in-None-clause-found
returns-in-None-clause-found c = found_by (packages_data c.args.self) c.args.from.now c.args.outermost.now
    c.args.name.now None c.requires.outermost (c.is_plain.ensures.0 c.if-not-is_plain.false)
    (rw c.in-None.is at c.nearest.ensures)

pub returns-then-not-is_plain-clause-found : goal.returns-then-not-is_plain-clause-found
returns-then-not-is_plain-clause-found c =
    not_plain (packages_data c.args.self) c.args.from.now c.args.outermost.now c.args.name.now c.requires.outermost
    (λ plain. cc (c.is_plain.ensures.1 plain, c.if-not-is_plain.true))

pub nearest-requires-clause-plain : goal.nearest-requires-clause-plain
nearest-requires-clause-plain c = c.is_plain.ensures.0 c.if-not-is_plain.false
