-- A tree is whole by its parts.
use Rattle.std.proofs.Common.{◌≡◌, ◌<◌, ℕ, List, All, Option, None, Some, length, slice_get}
use Rattle.std.specs.Option.{MatchOption}
use Rattle.npm_trees.specs.Whole.{IsInFolder, IsWhole, MayStand}
use Rattle.npm_trees.specs.Private.Folders.{AreDistinct, IsIndexOf, IsWholeBy, Map}
use Rattle.npm_trees.specs.declared.tree.Ask.{Ask}
use Rattle.npm_trees.specs.declared.tree.Document.{Document}
use Rattle.npm_trees.specs.declared.tree.Place.{Place}

module _ (places : List Place) (documents : List Document) (asks : List Ask) (root : 0 < length places)
    (folders : (number : ℕ) (place : Place) → slice_get places number ≡ Some place → IsInFolder places number place)
    (contents : (number : ℕ) (place : Place) → slice_get places number ≡ Some place → MayStand places documents number place place.stands)
    (askers : All (λ (ask : Ask). ask.from < length places) asks) where
  pub whole_by : (found : Option Map) → MatchOption found (¬ AreDistinct places) (IsIndexOf places)
      → MatchOption found (¬ IsWhole places documents asks) (IsWholeBy places documents asks)
  whole_by None never = λ whole. never whole.distinct
  whole_by (Some map) index = record {
    whole = record {
      root = root;
      folders = folders;
      contents = contents;
      distinct = λ folder name one other a b.
          let first = (index folder name one).1 a in
          let second = (index folder name other).1 b in cc (first, second);
      askers = askers;
    };
    index = index;
  }
