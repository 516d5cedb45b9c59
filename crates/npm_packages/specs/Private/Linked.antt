-- Which folders these members of `packages` lead to, and the folders of a map.
use Rattle.std.specs.Prelude.{◌≡◌, ◌↔◌, ℕ, List, Some}
use Rattle.std.specs.BTreeMap.{BTreeMap}
use Rattle.std.specs.Cmp.Lexicographic.{slice_cmp}
use Rattle.std.specs.List.{Contains}
use Rattle.std.specs.List.Sorted.{IsStrictlySortedBy}
use Rattle.std.specs.Ordering.{nat_cmp}
use Rattle.serde_json.specs.Data.{Data, Members}
use Rattle.serde_json.specs.Find.{get_member}
use denote.Ref.{Bor}
use Rattle.npm_packages.specs.Lemmas.FolderMaps.{HasFolder}
use Rattle.npm_packages.specs.LinkedFolders.{IsLinkTo}

-- a link among these members leads to the folder
abbrev pub IsLinkedAmong : (packages : Data) → Members → (folder : List ℕ) → Type 0
IsLinkedAmong packages members folder = (place : List ℕ) × (link : Data)
    × (get_member place members ≡ Some link) × IsLinkTo packages link folder

-- the folders of a map, in the order of their bytes
pub record AreKeys {X : Type 0} (folders : BTreeMap (Bor (List ℕ)) X) (list : List (List ℕ)) : Type 0 where
  pub ascending : IsStrictlySortedBy (slice_cmp nat_cmp) list
  pub all : (folder : List ℕ) → Contains list folder ↔ HasFolder folders folder
