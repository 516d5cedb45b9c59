-- The text of a lock file.
use Rattle.std.specs.Prelude.{◌≡◌, ◌≤◌, ◌++◌, ℕ, List, Some, codes}
use Rattle.serde_json.specs.Data.{Data, depth}
use Rattle.serde_json.specs.Read.{max_depth, read}

-- lines, and a newline at the end, which read as the value
pub record IsLockText (lock : Data) (text : List ℕ) : Type 0 where
  pub lines : List ℕ
  pub whole : text ≡ lines ++ codes "\n"
  pub reads_back : depth lock ≤ max_depth → read lines ≡ Some lock
