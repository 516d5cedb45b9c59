-- Names that are reached: which of them were seen, and which of them wait for their dependencies to be read.
use Rattle.std.specs.Prelude.{◌≡◌, ◌⊎◌, ◌++◌, ℕ, Bool, List, [], ◌∷◌, Some, bytes_eq, false, if◌then◌else◌, map, string_bytes, true}
use Rattle.std.specs.Bool.{MatchBool}
use Rattle.std.specs.BTreeSet.{contains_text}
use Rattle.std.specs.List.{Contains}
use Rattle.serde_json.specs.Data.{Data}
use Rattle.npm_resolve.specs.Installed.{InstalledValue, found}
use Rattle.npm_resolve.specs.Reached.{Asks, IsReached}
use Rattle.npm_resolve.specs.declared.flat_locks.reached.Groups.{Groups}
use Rattle.npm_resolve.specs.declared.flat_locks.reached.Reached.{Reached}

abbrev pub is_seen : Reached → (name : List ℕ) → Bool
is_seen reached name = contains_text reached.seen name

-- the names whose dependencies wait to be read
abbrev pub waiting_of : Reached → List (List ℕ)
waiting_of reached = map string_bytes reached.waiting.items

abbrev pub IsWaiting : Reached → (name : List ℕ) → Type 0
IsWaiting reached name = Contains (waiting_of reached) name

-- The name was seen before, or it waits last.
pub data IsNoted (name : List ℕ) (old new : Reached) : Type 0 where
  known : is_seen old name ≡ true → new ≡ old → IsNoted name old new
  fresh : waiting_of new ≡ waiting_of old ++ (name ∷ [])
      → ((other : List ℕ) → is_seen new other ≡ (if bytes_eq name other then true else is_seen old other))
      → IsNoted name old new

-- These names were seen, and no others more. What is new waits.
pub record AreAdded (Names : List ℕ → Type 0) (old new : Reached) : Type 0 where
  pub kept : (name : List ℕ) → is_seen old name ≡ true → is_seen new name ≡ true
  pub all : (name : List ℕ) → Names name → is_seen new name ≡ true
  pub only : (name : List ℕ) → is_seen new name ≡ true → (is_seen old name ≡ true) ⊎ Names name
  pub still : (name : List ℕ) → IsWaiting old name → IsWaiting new name
  pub queued : (name : List ℕ) → is_seen new name ≡ true → (is_seen old name ≡ true) ⊎ IsWaiting new name
  pub waited : (name : List ℕ) → IsWaiting new name → IsWaiting old name ⊎ (is_seen new name ≡ true)

-- if the name is asked for, it was seen before, or it waits last; if not, nothing changes
abbrev pub IsNotedIf : (is_asked : Bool) → (name : List ℕ) → (old new : Reached) → Type 0
IsNotedIf is_asked name old new = MatchBool is_asked (IsNoted name old new) (new ≡ old)

-- The names so far were added, and these are left.
pub record AreBegun (Names : List ℕ → Type 0) (left : List (List ℕ)) (old new : Reached) : Type 0 where
  pub kept : (name : List ℕ) → is_seen old name ≡ true → is_seen new name ≡ true
  pub all : (name : List ℕ) → Names name → (is_seen new name ≡ true) ⊎ Contains left name
  pub only : (name : List ℕ) → is_seen new name ≡ true → (is_seen old name ≡ true) ⊎ Names name
  pub still : (name : List ℕ) → IsWaiting old name → IsWaiting new name
  pub queued : (name : List ℕ) → is_seen new name ≡ true → (is_seen old name ≡ true) ⊎ IsWaiting new name
  pub waited : (name : List ℕ) → IsWaiting new name → IsWaiting old name ⊎ (is_seen new name ≡ true)

-- the package that is installed under a name has such a dependency on another
pub record IsAskedBy (installed : List InstalledValue) (groups : Groups) (asker name : List ℕ) : Type 0 where
  pub one : InstalledValue
  pub there : found installed asker ≡ Some one
  pub asks : Asks one.manifest true groups name

-- What is seen is reached. A name that is seen waits, or the names that its package asks for are seen.
pub record AreHeld (root : Data) (installed : List InstalledValue) (groups : Groups) (reached : Reached) : Type 0 where
  pub sound : (name : List ℕ) → is_seen reached name ≡ true → IsReached root installed groups name
  pub waited : (name : List ℕ) → IsWaiting reached name → is_seen reached name ≡ true
  pub of_root : (name : List ℕ) → Asks root false groups name → is_seen reached name ≡ true
  pub closed : (asker : List ℕ) → is_seen reached asker ≡ true
      → IsWaiting reached asker ⊎ ((name : List ℕ) → IsAskedBy installed groups asker name → is_seen reached name ≡ true)
