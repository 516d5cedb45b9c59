-- The marks of a name, by four sets of names.
use Rattle.std.specs.Prelude.{◌≡◌, ◌↔◌, ◌&&◌, ℕ, List, not, true}
use Rattle.serde_json.specs.Data.{Data}
use Rattle.npm_resolve.specs.Installed.{InstalledValue}
use Rattle.npm_resolve.specs.Marks.{of_both, of_dev, of_optional, of_peers}
use Rattle.npm_resolve.specs.Reached.{IsReached}
use Rattle.npm_resolve.specs.Private.Reaching.{is_seen}
use Rattle.npm_resolve.specs.declared.flat_locks.marks.Marks.{Marks}
use Rattle.npm_resolve.specs.declared.flat_locks.marks.Reaches.{Reaches}
use Rattle.npm_resolve.specs.declared.flat_locks.reached.Groups.{Groups}
use Rattle.npm_resolve.specs.declared.flat_locks.reached.Reached.{Reached}

abbrev pub AreReached : Data → List InstalledValue → Groups → Reached → Type 0
AreReached root installed groups reached =
    (name : List ℕ) → (is_seen reached name ≡ true) ↔ IsReached root installed groups name

pub record AreReaches (root : Data) (installed : List InstalledValue) (reaches : Reaches) : Type 0 where
  pub dev : AreReached root installed of_dev reaches.without_dev
  pub optional : AreReached root installed of_optional reaches.without_optional
  pub both : AreReached root installed of_both reaches.without_both
  pub peers : AreReached root installed of_peers reaches.without_peers

abbrev pub marks_in : Reaches → (name : List ℕ) → Marks
marks_in reaches name = record {
  dev = not (is_seen reaches.without_dev name);
  optional = not (is_seen reaches.without_optional name);
  dev_optional = not (not (is_seen reaches.without_dev name)) && (not (not (is_seen reaches.without_optional name))
      && not (is_seen reaches.without_both name));
  peer = not (is_seen reaches.without_peers name);
}
