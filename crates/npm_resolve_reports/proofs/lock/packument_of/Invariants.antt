-- The first document of the name is among those that are left.
use Rattle.std.proofs.Common.{◌≡◌, drop}
use Rattle.npm_resolve_reports.specs.Locks.{packument_of}
use Rattle.npm_resolve_reports.proofs.lock.packument_of.Given as goal

abbrev pub invariant-loop-document : goal.invariant-loop-document
invariant-loop-document l = packument_of (drop l.document-index l.documents) l.name ≡ packument_of l.documents l.name
