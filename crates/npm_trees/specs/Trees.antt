-- What a tree of packages is, and what the check says of one.
use Rattle.std.specs.Prelude.{List}
use Rattle.npm_trees.specs.Whole.{IsWhole}
use Rattle.npm_trees.specs.Meeting.{IsMet}
use Rattle.npm_trees.specs.Reaching.{AreReached}
use Rattle.npm_trees.specs.LeftOut.{AreLeftOut}
use Rattle.npm_trees.specs.declared.checking.Verdict.{Verdict}
use Rattle.npm_trees.specs.declared.checking.Verdict.TheVariants as Verdicts
use Rattle.npm_trees.specs.declared.tree.Document.{Document}
use Rattle.npm_trees.specs.declared.tree.Tree.{Tree}

-- A tree of packages: it is whole, each dependency is met, each place is reached, and what is left out is told.
pub record IsTree (tree : Tree) (documents : List Document) : Type 0 where
  pub whole : IsWhole tree.places.items documents tree.asks.items
  pub met : IsMet tree.places.items tree.asks.items
  pub reached : AreReached tree.places.items documents tree.asks.items
  pub left_out : AreLeftOut tree.places.items tree.asks.items tree.left_out.items

-- What each verdict says. All but the first say what is wrong.
abbrev pub Says : Tree → List Document → Verdict → Type 0
Says tree documents Verdicts.IsTree = IsTree tree documents
Says tree documents Verdicts.NotWhole = ¬ IsWhole tree.places.items documents tree.asks.items
Says tree documents Verdicts.NotMet = ¬ IsMet tree.places.items tree.asks.items
Says tree documents Verdicts.NotReached = ¬ AreReached tree.places.items documents tree.asks.items
Says tree documents Verdicts.NotLeftOut = ¬ AreLeftOut tree.places.items tree.asks.items tree.left_out.items
