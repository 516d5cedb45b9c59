-- The marks of a name are what they say.
use Rattle.std.proofs.Common.{◌≡◌, ◌↔◌, ◌&&◌, ℕ, List, Bool, false, not, refl, true}
use Rattle.serde_json.specs.Data.{Data}
use Rattle.npm_resolve.specs.Installed.{InstalledValue}
use Rattle.npm_resolve.specs.Marks.{AreMarks}
use Rattle.npm_resolve.specs.Private.Reaching.{is_seen}
use Rattle.npm_resolve.specs.Private.Marking.{AreReaches, marks_in}
use Rattle.npm_resolve.specs.declared.flat_locks.marks.Reaches.{Reaches}

not_so : (b : Bool) (P : Type 0) → (b ≡ true) ↔ P → (not b ≡ true) ↔ ¬ P
not_so true P is = ((λ no. cc no), (λ never. absurd (never (is.0 refl))))
not_so false P is = ((λ yes p. let no : false ≡ true = is.1 p in (cc no)), (λ never. refl))

neither : (d o b : Bool) (P : Type 0) → (b ≡ true) ↔ P
    → ((not (not d) && (not (not o) && not b)) ≡ true) ↔ ((not d ≡ false) × (not o ≡ false) × ¬ P)
neither false o b P is = ((λ no. cc no), (λ all. let no = all.0 in (cc no)))
neither true false b P is = ((λ no. cc no), (λ all. let no = all.1 in (cc no)))
neither true true b P is = ((λ yes. (refl, refl, (not_so b P is).0 yes)), (λ all. (not_so b P is).1 all.2))

pub marked : (root : Data) (installed : List InstalledValue) (reaches : Reaches) → AreReaches root installed reaches → (name : List ℕ)
    → AreMarks root installed name (marks_in reaches name)
marked root installed reaches are name = record {
  dev = not_so (is_seen reaches.without_dev name) _ (are.dev name);
  optional = not_so (is_seen reaches.without_optional name) _ (are.optional name);
  dev_optional = neither (is_seen reaches.without_dev name) (is_seen reaches.without_optional name)
      (is_seen reaches.without_both name) _ (are.both name);
  peer = not_so (is_seen reaches.without_peers name) _ (are.peers name);
}
