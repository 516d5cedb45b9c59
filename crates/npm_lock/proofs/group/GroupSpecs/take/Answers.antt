-- The first member is the name's, or no member is.
use Rattle.std.proofs.Common.{◌≡◌, ℕ, List, true, false, None, bytes_eq, refl, rules, string_bytes, sym}
use Rattle.std.proofs.lemmas.Slice.Eq.{bytes_eq-Decides}
use Rattle.serde_json.specs.Find.{get_member}
use Rattle.serde_json.specs.View.{members_view, view}
use Rattle.npm_lock.specs.Private.GroupSpecs.{left_of}
use Rattle.npm_lock.specs.declared.group.GroupSpecs.{GroupSpecs}
use Rattle.npm_lock.proofs.GroupWalk.{first_taken, first_value, none_taken, not_taken, not_there}
use Rattle.npm_lock.proofs.group.GroupSpecs.take.Goals as goal
use Rattle.npm_lock.proofs.group.GroupSpecs.take.Goals.{in_default-via-in-Some+else-eq, in_default-via-in_default}

none_in : (name : List ℕ) (specs : GroupSpecs) → specs.next ≡ None → None ≡ get_member name (left_of specs)
none_in name specs is = rw is refl

pub returns-in-Some-clause-value : goal.returns-in-Some-clause-value
returns-in-Some-clause-value c =
    let equal : bytes_eq (string_bytes c.in-Some.first.now) c.args.name.now ≡ true = search rules in
    let same : string_bytes c.in-Some.first.now ≡ c.args.name.now = (bytes_eq-Decides _ _).0 equal in
    rw c.in-Some.is (first_value c.args.name.now (string_bytes c.in-Some.first.now) (view c.in-Some.value.now)
    (members_view c.args.self.now.rest) same)

pub returns-in-Some-clause-left : goal.returns-in-Some-clause-left
returns-in-Some-clause-left c =
    let equal : bytes_eq (string_bytes c.in-Some.first.now) c.args.name.now ≡ true = search rules in
    let same : string_bytes c.in-Some.first.now ≡ c.args.name.now = (bytes_eq-Decides _ _).0 equal in
    let next : left_of (record { next = c.next-self.result; rest = c.next-self.new.self })
    ≡ members_view c.args.self.now.rest = search (rules, c.next-self.ensures.steps) in
    let sorted = rw c.in-Some.is at c.requires.sorted in
    rw (c.in-Some.is, next, ← same) (first_taken _ (view c.in-Some.value.now) (members_view c.args.self.now.rest)
    sorted)

pub returns-in_default-clause-value : goal.returns-in_default-clause-value
returns-in_default-clause-value c = elim c.in_default.branch [
  | in_default-via-in-Some+else-eq w ↦
      let differ : bytes_eq (string_bytes w.in-Some.first.now) c.args.name.now ≡ false = search rules in
      rw w.in-Some.is (sym (not_there c.args.name.now _ (view w.in-Some.value.now) (members_view c.args.self.now.rest)
      (rw w.in-Some.is at c.requires.sorted) (rw w.in-Some.is at c.requires.first) differ))
  | in_default-via-in_default w ↦ none_in c.args.name.now c.args.self.now w.in_default.is
]

pub returns-in_default-clause-left : goal.returns-in_default-clause-left
returns-in_default-clause-left c = elim c.in_default.branch [
  | in_default-via-in-Some+else-eq w ↦
      let differ : bytes_eq (string_bytes w.in-Some.first.now) c.args.name.now ≡ false = search rules in
      rw w.in-Some.is (not_taken c.args.name.now _ (view w.in-Some.value.now) (members_view c.args.self.now.rest)
      (rw w.in-Some.is at c.requires.sorted) (rw w.in-Some.is at c.requires.first) differ)
  | in_default-via-in_default w ↦ rw w.in_default.is (none_taken c.args.name.now)
]
