-- Names without a document that are added.
use Rattle.std.specs.Prelude.{◌≡◌, ◌++◌, List}
use Rattle.std.specs.List.{All}
use Rattle.version_solving.specs.declared.ask.Listed.{Listed}
use Rattle.npm_resolve.specs.Instance.{HasNone}
use Rattle.npm_resolve.specs.declared.absent.Names.{Names}

-- Names without candidates are added, and then the list and these have a fact.
pub record AreNamesAdded (listed : List Listed) (P : List Listed → Type 0) (old new : Names) : Type 0 where
  pub added : List Listed
  pub list : new.absent.items ≡ old.absent.items ++ added
  pub none : All HasNone added
  pub fact : P (listed ++ new.absent.items)
