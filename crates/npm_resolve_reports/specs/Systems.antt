-- For which systems a package is: npm's "package.json", "os", "cpu" and "libc".
use Rattle.std.specs.Prelude.{◌&&◌, ◌||◌, ℕ, List, Bool, None, Option, Some, false, bytes_eq, codes, if◌then◌else◌, is_none, not, option_and_then, option_map}
use Rattle.std.specs.Borrow.{Bor}
use Rattle.std.specs.Option.{option_map_or, option_or}
use Rattle.serde_json.specs.Data.{Data, Items, array, boolean, item, no_items, null, number, object, string}
use Rattle.serde_json.specs.Find.{as_str, get}
use Rattle.npm_texts.specs.Texts.{rest_after}
use Rattle.npm_resolve_reports.specs.declared.platform.Platform.{Platform}
use Rattle.npm_resolve_reports.specs.declared.platform.Unfit.{Unfit}

-- ---- lists of systems

-- an item is so
abbrev pub some_item : (is_so : Data → Bool) → Items → Bool
some_item is_so no_items = false
some_item is_so (item first others) = is_so first || some_item is_so others

-- the items of a list, or a value alone: `"linux"` is `["linux"]`
abbrev pub entries_of : Data → Items
entries_of null = item null no_items
entries_of (boolean b) = item (boolean b) no_items
entries_of (number n) = item (number n) no_items
entries_of (string s) = item (string s) no_items
entries_of (array items) = items
entries_of (object members) = item (object members) no_items

-- `linux`, or `any`
abbrev pub names : (system : List ℕ) → Data → Bool
names system entry = option_map_or (λ text. bytes_eq text system || bytes_eq text (codes "any")) (as_str entry) false

-- `!linux`
abbrev pub forbids : (system : List ℕ) → Data → Bool
forbids system entry = option_map_or (λ rest. bytes_eq rest system) (option_and_then (rest_after (codes "!")) (as_str entry)) false

-- a text that does not begin with `!`
abbrev pub is_plain : Data → Bool
is_plain entry = option_map_or (λ text. is_none (rest_after (codes "!") text)) (as_str entry) false

-- No entry forbids the system, and one names it, or there are only entries that forbid others.
abbrev pub admits : (system : List ℕ) → Items → Bool
admits system entries = not (some_item (forbids system) entries)
    && (some_item (names system) entries || not (some_item is_plain entries))

-- ---- a package on a platform

-- what it does not fit: a member of its manifest, and the system
pub record UnfitValue : Type 0 where
  pub member : List ℕ
  pub system : List ℕ

-- a member of the manifest, if it does not admit the system; without a member, and if the system is not known, it does
abbrev pub unfit_in : (manifest : Data) → (member : List ℕ) → (system : Option (List ℕ)) → Option UnfitValue
unfit_in manifest member system = option_and_then (λ known. option_and_then
    (λ list. if admits known (entries_of list) then None else Some (record { member = member; system = known }))
    (get member manifest)) system

-- ---- what a contract sees

abbrev pub text_value : Option (Bor (List ℕ)) → Option (List ℕ)
text_value text = option_map (λ t. t.now) text

abbrev pub unfit_value : Unfit → UnfitValue
unfit_value unfit = record { member = unfit.member.now; system = unfit.system.now }

-- the first of `os`, `cpu` and `libc` that does not admit the platform
abbrev pub unfit_of : Platform → (manifest : Data) → Option UnfitValue
unfit_of platform manifest = option_or (unfit_in manifest (codes "os") (text_value platform.os))
    (option_or (unfit_in manifest (codes "cpu") (text_value platform.cpu))
    (unfit_in manifest (codes "libc") (text_value platform.libc)))
