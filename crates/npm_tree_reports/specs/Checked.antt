-- Answers whose tree is one.
use Rattle.std.specs.Prelude.{List}
use Rattle.npm_tree_building.specs.declared.answer.Answer.{Answer}
use Rattle.npm_tree_building.specs.declared.answer.Answer.TheVariants as Answers
use Rattle.npm_tree_reports.specs.Told.{AreTold}
use Rattle.npm_trees.specs.Trees.{IsTree}
use Rattle.npm_trees.specs.declared.tree.Document.{Document}

-- the tree of an answer is one of packages of these documents, with all dependencies of their manifests
abbrev pub IsChecked : List Document → Answer → Type 0
IsChecked documents (Answers.Tree tree) = IsTree tree documents × AreTold documents tree
IsChecked documents (Answers.Conflict conflict) = Unit {0}
IsChecked documents (Answers.Overridden name) = Unit {0}
IsChecked documents (Answers.SameName name) = Unit {0}
IsChecked documents Answers.Undecided = Unit {0}
