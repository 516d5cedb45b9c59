-- The members of a group of dependencies, and what a map of names has after one more of them.
use Rattle.std.proofs.Common.{◌≡◌, ◌&&◌, ℕ, List, [], ◌∷◌, not, Bool, true, false, cond, Option, Some, None, String}
use Rattle.std.proofs.Common.{Global}
use Rattle.std.proofs.Common.{Ordering, Less, Equal, Greater, ap, bytes_eq, is_eq, nat_cmp, option_and_then, option_map}
use Rattle.std.proofs.Common.{refl, string_bytes, string_cmp, sym}
use Rattle.std.proofs.lemmas.Slice.Eq.{bytes_eq-Decides}
use Rattle.std.specs.Cmp.Lexicographic.{slice_cmp}
use Rattle.std.specs.List.{AllByRecursion}
use Rattle.std.specs.Map.{keys_of}
use Rattle.std.specs.Option.{option_or}
use Rattle.serde_json.specs.Data.{Data, Members, member}
use Rattle.serde_json.specs.Find.{as_str, get_member}
use Rattle.serde_json.specs.View.{members_view}
use Rattle.serde_json.specs.declared.value.Value.{Value}
use Rattle.npm_texts.specs.Lemmas.Keys.{exact, other}

-- a key below all keys is none of them
pub absent : (key : String Global) (entries : List (String Global × Value))
    → AllByRecursion (λ y. string_cmp key y ≡ Less) (keys_of entries)
    → get_member (string_bytes key) (members_view entries) ≡ None
absent key [] below = refl
absent key (e ∷ entries) below = rw below.0 (absent key entries below.1)

module _ {X : Type 0} (f : List ℕ → List ℕ → X) where
  -- the value for the spec of this name among these members of a group
  abbrev pub among : (name : List ℕ) → Members → Option X
  among name members = option_map (f name) (option_and_then as_str (get_member name members))

  -- a member that is a text
  pub with_text : (o : Ordering) (name key text : List ℕ) (value : Data) (rest : Members) (old new : Option X)
      → slice_cmp nat_cmp name key ≡ o → as_str value ≡ Some text → get_member key rest ≡ None
      → new ≡ cond (bytes_eq key name) (Some (f key text)) old
      → option_or (among name rest) new ≡ option_or (among name (member key value rest)) old
  with_text Less name key text value rest old new is is_text none updated =
      let same : new ≡ old = rw (other name key (ap is_eq is)) at updated in rw (is, same) refl
  with_text Equal name key text value rest old new is is_text none updated =
      let same : name ≡ key = exact name key (ap is_eq is) in
      let equal : bytes_eq key name ≡ true = (bytes_eq-Decides key name).1 (sym same) in
      let made : new ≡ Some (f key text) = rw equal at updated in
      let found : get_member name (member key value rest) ≡ Some value = rw is refl in
      let gone : get_member name rest ≡ None = rw same none in
      rw (found, is_text, gone, made, same) refl
  with_text Greater name key text value rest old new is is_text none updated =
      let same : new ≡ old = rw (other name key (ap is_eq is)) at updated in rw (is, same) refl

  -- a member that is no text
  pub no_text : (o : Ordering) (name key : List ℕ) (value : Data) (rest : Members) (old : Option X)
      → slice_cmp nat_cmp name key ≡ o → as_str value ≡ None → get_member key rest ≡ None
      → option_or (among name rest) old ≡ option_or (among name (member key value rest)) old
  no_text Less name key value rest old is is_text none = rw is refl
  no_text Equal name key value rest old is is_text none =
      let same : name ≡ key = exact name key (ap is_eq is) in
      let gone : get_member name rest ≡ None = rw same none in
      rw (is, is_text, gone) refl
  no_text Greater name key value rest old is is_text none = rw is refl

-- the value of an entry after it is inserted under a key
pub seen_update : {X Y : Type 0} (g : X → Y) (here : Bool) (made : X) (old : Option X)
    → option_map g (cond here (Some made) old) ≡ cond here (Some (g made)) (option_map g old)
seen_update g true made old = refl
seen_update g false made old = refl

pub of_peer : (needed peer optional result : Bool) → needed ≡ true → peer ≡ true → result ≡ not optional
    → result ≡ (needed && not (peer && optional))
of_peer true true optional result is_needed is_peer is = is
of_peer true false optional result is_needed is_peer is = cc is_peer
of_peer false peer optional result is_needed is_peer is = cc is_needed

pub of_plain : (needed peer optional result : Bool) → needed ≡ true → peer ≡ false → result ≡ true
    → result ≡ (needed && not (peer && optional))
of_plain true true optional result is_needed is_peer is = cc is_peer
of_plain true false optional result is_needed is_peer is = is
of_plain false peer optional result is_needed is_peer is = cc is_needed

pub of_none : (needed peer optional result : Bool) → needed ≡ false → result ≡ false
    → result ≡ (needed && not (peer && optional))
of_none true peer optional result is_needed is = cc is_needed
of_none false peer optional result is_needed is = is

pub or_none : {X : Type 0} (o : Option X) → option_or o None ≡ o
or_none None = refl
or_none (Some x) = refl
