-- One name more has its union.
use Rattle.std.proofs.lemmas.Map.Text.{btree_map_updates_str}
use Rattle.npm_advisories.specs.Private.Unions.{IsUnion, union_at}
use Rattle.std.proofs.Common.{◌∙◌, subst, sym}
use Rattle.npm_advisories.proofs.Uniting.{known-none, known-some, union-here, union-more}
use Rattle.npm_advisories.proofs.unions.Unions.add.Goals as goal

pub returns-then-contains_key-clause-here : goal.returns-then-contains_key-clause-here
returns-then-contains_key-clause-here c = λ are.
    known-some c.args.index.now c.args.name.now (union_at c.args.self.now c.args.name.now)
    (sym c.contains_key.ensures ∙ c.if-contains_key.true) (are c.args.name.now)

pub returns-in_default-clause-here : goal.returns-in_default-clause-here
returns-in_default-clause-here c = λ are.
    known-none c.args.index.now c.args.name.now (union_at c.args.self.now c.args.name.now) (sym c.in_default.ensures)
    (are c.args.name.now)

pub returns-clause-all : goal.returns-clause-all
returns-clause-all c = λ are name.
    union-more c.args.index.now c.args.name.now name c.in_ok-all.all (union_at c.args.self.now name) _
    (subst (λ l. IsUnion l c.in_ok-all.all) c.in-Some.ensures c.in_ok-all.ensures) (are name)
    (btree_map_updates_str c.args.name.now c.args.self.now.by_name c.insert.new.self _ c.in_ok-insert.ensures.updates name)

pub returns-clause-here : goal.returns-clause-here
returns-clause-here c = λ are.
    union-here c.args.index.now c.args.name.now c.in_ok-all.all (union_at c.args.self.now c.args.name.now) _
    (subst (λ l. IsUnion l c.in_ok-all.all) c.in-Some.ensures c.in_ok-all.ensures)
    (btree_map_updates_str c.args.name.now c.args.self.now.by_name c.insert.new.self _ c.in_ok-insert.ensures.updates
    c.args.name.now)
