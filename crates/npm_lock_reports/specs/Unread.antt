-- What was not looked at beside a lock file.
use Rattle.std.specs.Prelude.{ℕ, List, [], string_bytes}
use Rattle.npm_lock_reports.specs.declared.unread.Unread.{Unread}
use Rattle.npm_lock_reports.specs.declared.unread.Unread.TheVariants as Variants

-- the manifest in a folder; the workspaces on disk, if a pattern of them is not read; or what the root depends on, if the lock
-- file has no root
pub data UnreadValue : Type 0 where
  manifest_in : (folder : List ℕ) → UnreadValue
  workspaces_on_disk : UnreadValue
  root_of_file : UnreadValue

-- what a contract sees of it
abbrev pub unread_value : Unread → UnreadValue
unread_value (Variants.Manifest folder) = manifest_in (string_bytes folder.text)
unread_value Variants.Workspaces = workspaces_on_disk
unread_value Variants.Root = root_of_file

-- the folder of the package that it is of, which may be the root
abbrev pub unread_folder : UnreadValue → List ℕ
unread_folder (manifest_in folder) = folder
unread_folder workspaces_on_disk = []
unread_folder root_of_file = []
