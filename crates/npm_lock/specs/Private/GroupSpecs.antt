-- The members of a group that are left, and which of them one step takes.
use Rattle.std.specs.Prelude.{◌≡◌, ◌≢◌, ◌⊎◌, ◌<◌, ◌≤◌, ℕ, List, length, Option, Some, None, String, string_bytes}
use Rattle.std.specs.Prelude.{IsTrue, ⊤}
use Rattle.std.specs.Cmp.Lexicographic.{slice_cmp}
use Rattle.std.specs.List.{AllByRecursion}
use Rattle.std.specs.List.Sorted.{IsStrictlySortedBy}
use Rattle.std.specs.Option.{IsSome}
use Rattle.std.specs.Ordering.{nat_cmp, is_le}
use Rattle.std.specs.declared.alloc.Global.{Global}
use Rattle.std.specs.declared.cmp.Ordering.TheVariants.{Less}
use denote.Ref.{Bor}
use Rattle.serde_json.specs.Data.{Members, member, no_members}
use Rattle.serde_json.specs.Find.{get_member}
use Rattle.serde_json.specs.View.{members_view, view}
use Rattle.serde_json.specs.declared.value.Value.{Value}
use Rattle.npm_texts.specs.ObjectKeys.{keys_of}
use Rattle.npm_lock.specs.declared.group.GroupSpecs.{GroupSpecs}

-- the first member, and those after it
abbrev with_next : Option (Bor (String Global) × Bor Value) → Members → Members
with_next None rest = no_members
with_next (Some next) rest = member (string_bytes next.0.now) (view next.1.now) rest

-- the members that are left
abbrev pub left_of : GroupSpecs → Members
left_of specs = with_next specs.next (members_view specs.rest)

-- the first name
abbrev pub first_key : Members → Option (List ℕ)
first_key no_members = None
first_key (member name value others) = Some name

-- the names ascend
abbrev pub AreSorted : Members → Type 0
AreSorted members = IsStrictlySortedBy (slice_cmp nat_cmp) (keys_of members)

-- no name comes before this one
abbrev pub IsFirst : (name : List ℕ) → Members → Type 0
IsFirst name no_members = ⊤
IsFirst name (member key value others) = IsTrue (is_le (slice_cmp nat_cmp name key))

-- nothing is left of both
abbrev pub HasNone : (specs locked : Members) → Type 0
HasNone specs locked = (specs ≡ no_members) × (locked ≡ no_members)

-- the first name of both
pub record IsFirstOf (name : List ℕ) (specs locked : Members) : Type 0 where
  pub first : IsFirst name specs
  pub first_locked : IsFirst name locked
  pub is : (first_key specs ≡ Some name) ⊎ (first_key locked ≡ Some name)

-- the members that are left after this name is taken: it is gone, and the others are there
pub record IsLeft (name : List ℕ) (old new : Members) : Type 0 where
  pub sorted : AreSorted new
  pub above : AllByRecursion (λ key. slice_cmp nat_cmp name key ≡ Less) (keys_of new)
  pub others : (other : List ℕ) → other ≢ name → get_member other new ≡ get_member other old
  pub no_more : length (keys_of new) ≤ length (keys_of old)
  pub fewer : IsSome (get_member name old) → length (keys_of new) < length (keys_of old)
