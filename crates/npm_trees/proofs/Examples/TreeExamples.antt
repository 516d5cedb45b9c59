-- What the definitions say of a small tree, and for each part of a tree of one that fails it.
use Rattle.std.proofs.Common.{◌≡◌, ◌∙◌, ◌<◌, ◌⊎◌, ◌∷◌, ℕ, zero, suc, List, [], Option, Some, None}
use Rattle.std.proofs.Common.{ap, arith, bytes_eq, codes, false, get_or, inl, inr, refl, slice_get, subst, sym, true}
use Rattle.std.specs.List.{Contains}
use Rattle.std.specs.Option.{option_map_or}
use Rattle.std.specs.Str.{chars, trim_end, trim_start}
use lib.Utf8.{encode}
use denote.Ref.{Bor}
use Rattle.serde_json.specs.Data.{Data, member, no_members, object}
use Rattle.serde_json.specs.View.{view}
use Rattle.serde_json.specs.declared.value.Value.{Value}
use Rattle.npm_texts.specs.WhiteSpace.{trimmed}
use Rattle.npm_trees.specs.LeftOut.{AreLeftOut, IsLeftOut}
use Rattle.npm_trees.specs.Meeting.{IsAnswered, IsMet, IsMetFor, any, asks_for_any}
use Rattle.npm_trees.specs.Places.{IsIn, IsSeen, Sees, above, here, nowhere, up_of}
use Rattle.npm_trees.specs.Reaching.{AreReached, AsksFor, IsReached, IsTop, Leads, dependency, further, link_of, top}
use Rattle.npm_trees.specs.Reaching as Ways
use Rattle.npm_trees.specs.Trees.{IsTree}
use Rattle.npm_trees.specs.Whole.{IsInFolder, IsWhole, MayStand}
use Rattle.npm_trees.specs.declared.tree.Ask.{Ask}
use Rattle.npm_trees.specs.declared.tree.Document.{Document}
use Rattle.npm_trees.specs.declared.tree.Kind.{Kind}
use Rattle.npm_trees.specs.declared.tree.Kind.TheVariants.{Needed, Optional}
use Rattle.npm_trees.specs.declared.tree.Place.{Place}
use Rattle.npm_trees.specs.declared.tree.Stands.TheVariants.{Package, Top}
use Rattle.npm_trees.specs.declared.tree.Tree.{Tree}

abbrev at : {X : Type 0} → X → Bor X
at x = record { ref_ptr = (0, 0); now = x }

-- ---- the tree: the root depends on `a`, which depends on `b`, and by choice on `z`, which is left out

-- a document that has a version 1.0.0
abbrev versions : Data
versions = object (member (codes "versions") (object (member (codes "1.0.0") (object no_members) no_members)) no_members)

abbrev root : Value → Place
root value = record { name = at (codes "r"); up = None; stands = Top (at (codes "")) (at value); rules = 0 }

abbrev package_in : (name version : List ℕ) → (document up : ℕ) → Place
package_in name version document up =
    record { name = at name; up = Some up; stands = Package document (at version); rules = 0 }

abbrev documents : Value → List Document
documents value = record { name = at (codes "a"); value = at value } ∷ record { name = at (codes "b"); value = at value } ∷ []

abbrev a_place : Place
a_place = package_in (codes "a") (codes "1.0.0") 0 0

abbrev b_place : Place
b_place = package_in (codes "b") (codes "1.0.0") 1 1

abbrev places : Value → List Place
places value = root value ∷ a_place ∷ b_place ∷ []

-- any version of this name
abbrev ask : (from : ℕ) → (name : List ℕ) → Kind → Ask
ask from name kind =
    record { from = from; name = at name; kind = kind; spec = at (codes "*"); rules = 0; bundled = false; workspace = None }

abbrev asks : List Ask
asks = ask 0 (codes "a") Needed ∷ ask 1 (codes "b") Needed ∷ ask 0 (codes "z") Optional ∷ []

-- the dependency of the root alone
abbrev only_a : List Ask
only_a = ask 0 (codes "a") Needed ∷ []

-- what `*` asks for
any_text : asks_for_any (trimmed (codes "*")) ≡ true
unfolding trimmed trim_start trim_end chars encode
any_text = refl

module _ (value : Value) where
  -- ---- it is whole

  folder_of : (folder : ℕ) (name : List ℕ) (number : ℕ) → IsIn (places value) folder name number → number ≡ suc folder
  folder_of folder name zero is =
      let same : root value ≡ is.place = cc is.there in
      let up : None ≡ is.place.up = ap (λ (p : Place). p.up) same in absurd (cc (up, is.up))
  folder_of folder name (suc zero) is =
      let same : a_place ≡ is.place = cc is.there in
      let up : Some 0 ≡ is.place.up = ap (λ (p : Place). p.up) same in
      let of_root : 0 ≡ folder = cc (up, is.up) in ap suc of_root
  folder_of folder name (suc (suc zero)) is =
      let same : b_place ≡ is.place = cc is.there in
      let up : Some 1 ≡ is.place.up = ap (λ (p : Place). p.up) same in
      let of_a : 1 ≡ folder = cc (up, is.up) in ap suc of_a
  folder_of folder name (suc (suc (suc number))) is = absurd (cc is.there)

  its_folders : (number : ℕ) (place : Place) → slice_get (places value) number ≡ Some place → IsInFolder (places value) number place
  its_folders zero place there =
      let same : root value ≡ place = cc there in subst (IsInFolder (places value) 0) same (refl, refl)
  its_folders (suc zero) place there =
      let same : a_place ≡ place = cc there in subst (IsInFolder (places value) 1) same (omega arith, refl)
  its_folders (suc (suc zero)) place there =
      let same : b_place ≡ place = cc there in subst (IsInFolder (places value) 2) same (omega arith, refl)
  its_folders (suc (suc (suc number))) place there = absurd (cc there)

  module _ (is : view value ≡ versions) where
    its_contents : (number : ℕ) (place : Place) → slice_get (places value) number ≡ Some place
        → MayStand (places value) (documents value) number place place.stands
    its_contents zero place there =
        let same : root value ≡ place = cc there in
        subst (λ (p : Place). MayStand (places value) (documents value) 0 p p.stands) same tt
    its_contents (suc zero) place there =
        let same : a_place ≡ place = cc there in
        subst (λ (p : Place). MayStand (places value) (documents value) 1 p p.stands) same (rw is refl)
    its_contents (suc (suc zero)) place there =
        let same : b_place ≡ place = cc there in
        subst (λ (p : Place). MayStand (places value) (documents value) 2 p p.stands) same (rw is refl)
    its_contents (suc (suc (suc number))) place there = absurd (cc there)

    its_askers : (k : ℕ) (d : Ask) → k < 3 → (get_or asks k d).from < 3
    its_askers zero d below = omega arith
    its_askers (suc zero) d below = omega arith
    its_askers (suc (suc zero)) d below = omega arith
    its_askers (suc (suc (suc k))) d below = absurd (omega arith)

    pub it_is_whole : IsWhole (places value) (documents value) asks
    it_is_whole = record {
      root = omega arith;
      folders = its_folders;
      contents = its_contents;
      distinct = λ folder name one other in_it there_too.
          let first = folder_of folder name one in_it in
          let second = folder_of folder name other there_too in cc (first, second);
      askers = its_askers;
    }

  -- ---- each dependency is met

  a_in : IsIn (places value) 0 (codes "a") 1
  a_in = record { place = a_place; there = refl; up = refl; named = refl }

  b_in : IsIn (places value) 1 (codes "b") 2
  b_in = record { place = b_place; there = refl; up = refl; named = refl }

  its_names : (folder : ℕ) (name : List ℕ) (number : ℕ) → IsIn (places value) folder name number → (codes "a" ≡ name) ⊎ (codes "b" ≡ name)
  its_names folder name zero is = let never = folder_of folder name 0 is in absurd (omega arith)
  its_names folder name (suc zero) is =
      let same : a_place ≡ is.place = cc is.there in
      let named : codes "a" ≡ is.place.name.now = ap (λ (p : Place). p.name.now) same in inl (named ∙ is.named)
  its_names folder name (suc (suc zero)) is =
      let same : b_place ≡ is.place = cc is.there in
      let named : codes "b" ≡ is.place.name.now = ap (λ (p : Place). p.name.now) same in inr (named ∙ is.named)
  its_names folder name (suc (suc (suc number))) is = absurd (cc is.there)

  -- no place has another name
  module _ (name : List ℕ) (no_a : bytes_eq (codes "a") name ≡ false) (no_b : bytes_eq (codes "b") name ≡ false) where
    none_named : (folder number : ℕ) → IsIn (places value) folder name number → ⊥
    none_named folder number is = elim (its_names folder name number is) [
      | inl a ↦ let never : false ≡ true = sym no_a ∙ ap (bytes_eq (codes "a")) (sym a) in cc never
      | inr b ↦ let never : false ≡ true = sym no_b ∙ ap (bytes_eq (codes "b")) (sym b) in cc never
    ]

    not_seen : (folder : ℕ) (found : Option ℕ) → IsSeen (places value) name folder found → found ≡ None
    not_seen _ _ (here folder number is) = absurd (none_named folder number is)
    not_seen _ _ (above folder up found none next rest) = not_seen up found rest
    not_seen _ _ (nowhere folder none end) = refl

  z_is_not_seen : IsSeen (places value) (codes "z") 0 None
  z_is_not_seen = nowhere 0 (none_named (codes "z") refl refl 0) refl

  its_answers : (k : ℕ) (d : Ask) → k < 3 → (get_or asks k d).bundled ≡ false → IsMetFor (places value) (get_or asks k d)
  its_answers zero d below free = record {
    outside = λ peer. cc peer;
    found = Some 1;
    seen = here 0 1 a_in;
    answered = (refl, any any_text);
  }
  its_answers (suc zero) d below free = record {
    outside = λ peer. cc peer;
    found = Some 2;
    seen = here 1 2 b_in;
    answered = (refl, any any_text);
  }
  its_answers (suc (suc zero)) d below free = record {
    outside = λ peer. cc peer;
    found = None;
    seen = z_is_not_seen;
    answered = refl;
  }
  its_answers (suc (suc (suc k))) d below free = absurd (omega arith)

  pub it_is_met : IsMet (places value) asks
  it_is_met = its_answers

  -- ---- each place is reached

  a_is_reached : IsReached (places value) (documents value) asks 1
  a_is_reached = further 0 1 (top 0 refl) (dependency (ask 0 (codes "a") Needed) (0, omega arith, refl) refl refl (here 0 1 a_in) refl)

  b_is_reached : IsReached (places value) (documents value) asks 2
  b_is_reached = further 1 2 a_is_reached (dependency (ask 1 (codes "b") Needed) (1, omega arith, refl) refl refl (here 1 2 b_in) refl)

  pub it_is_reached : AreReached (places value) (documents value) asks
  it_is_reached zero place there = top 0 refl
  it_is_reached (suc zero) place there = a_is_reached
  it_is_reached (suc (suc zero)) place there = b_is_reached
  it_is_reached (suc (suc (suc number))) place there = absurd (cc there)

  -- ---- it is told what is left out

  z_is_left_out : IsLeftOut (places value) (ask 0 (codes "z") Optional)
  z_is_left_out = record { optional = refl; unbundled = refl; unseen = z_is_not_seen }

  told_at : (k number : ℕ) → k < 1 → get_or (2 ∷ []) k number ≡ number → 2 ≡ number
  told_at zero number below is = is
  told_at (suc k) number below is = absurd (omega arith)

  told : (number : ℕ) → Contains (2 ∷ []) number → 2 ≡ number
  told number there = told_at there.0 number there.1 there.2

  pub it_is_told : AreLeftOut (places value) asks (2 ∷ [])
  it_is_told zero = ((λ there. let never = told 0 there in absurd (omega arith)), (λ is. absurd (cc is.optional)))
  it_is_told (suc zero) = ((λ there. let never = told 1 there in absurd (omega arith)), (λ is. absurd (cc is.optional)))
  it_is_told (suc (suc zero)) = ((λ there. z_is_left_out), (λ is. (0, omega arith, refl)))
  it_is_told (suc (suc (suc number))) =
      ((λ there. let never = told (suc (suc (suc number))) there in absurd (omega arith)), (λ is. absurd is))

  pub it_is_a_tree : view value ≡ versions → (tree : Tree) → tree.places.items ≡ places value → tree.asks.items ≡ asks
      → tree.left_out.items ≡ 2 ∷ [] → IsTree tree (documents value)
  it_is_a_tree is tree its_places its_asks its_left_out = record {
    whole = rw (its_places, its_asks) (it_is_whole is);
    met = rw (its_places, its_asks) it_is_met;
    reached = rw (its_places, its_asks) it_is_reached;
    left_out = rw (its_places, its_asks, its_left_out) it_is_told;
  }

  -- ---- what is no tree

  -- a version that the document does not have
  pub another_version : view value ≡ versions
      → ¬ IsWhole (root value ∷ package_in (codes "a") (codes "2.0.0") 0 0 ∷ []) (documents value) []
  another_version is whole =
      let never : false ≡ true = rw is at (whole.contents 1 (package_in (codes "a") (codes "2.0.0") 0 0) refl) in cc never

  -- a dependency on what is not there
  no_answer : (found : Option ℕ) → IsSeen (places value) (codes "c") 1 found → IsAnswered (places value) (ask 1 (codes "c") Needed) found → ⊥
  no_answer None seen answered = cc answered
  no_answer (Some number) seen answered = cc (not_seen (codes "c") refl refl 1 (Some number) seen)

  pub a_missing_package : ¬ IsMet (places value) (ask 1 (codes "c") Needed ∷ [])
  a_missing_package met =
      let one = met 0 (ask 1 (codes "c") Needed) (omega arith) refl in no_answer one.found one.seen one.answered

  -- a package that nothing depends on: without the dependency of `a`, the root leads to `a` alone
  from_root : (name : List ℕ) (folder : ℕ) (found : Option ℕ) → IsSeen (places value) name folder found → folder ≡ 0 → (to : ℕ)
      → found ≡ Some to → to ≡ 1
  from_root name _ _ (here folder number is) of_root to same = let next = folder_of folder name number is in cc
  from_root name _ _ (above folder up found none next rest) of_root to same = absurd (cc (rw of_root at next))
  from_root name _ _ (nowhere folder none end) of_root to same = absurd (cc same)

  up_below : (number to : ℕ) → up_of (places value) number ≡ Some to → to < 2
  up_below zero to is = absurd (cc is)
  up_below (suc zero) to is = let same : 0 ≡ to = cc is in omega arith
  up_below (suc (suc zero)) to is = let same : 1 ≡ to = cc is in omega arith
  up_below (suc (suc (suc number))) to is = absurd (cc is)

  no_link : (number to : ℕ) → link_of (places value) number ≡ Some to → ⊥
  no_link zero to is = cc is
  no_link (suc zero) to is = cc is
  no_link (suc (suc zero)) to is = cc is
  no_link (suc (suc (suc number))) to is = cc is

  a_asks : (k : ℕ) (one : Ask) → k < 1 → get_or only_a k one ≡ one → (to : ℕ) → Sees (places value) one (Some to) → to ≡ 1
  a_asks zero one below is to seen =
      let seen_by_it : IsSeen (places value) (codes "a") 0 (Some to) = subst (λ (o : Ask). Sees (places value) o (Some to)) (sym is) seen in
      from_root (codes "a") 0 (Some to) seen_by_it refl to refl
  a_asks (suc k) one below is to seen = absurd (omega arith)

  leads_below : (number to : ℕ) → Leads (places value) (documents value) only_a number to → to < 2
  leads_below number to (Ways.folder is) = up_below number to is
  leads_below number to (Ways.link is) = absurd (no_link number to is)
  leads_below number to (dependency one there from free seen named) = let same = a_asks there.0 one there.1 there.2 to seen in omega arith

  top_below : (number : ℕ) → IsTop (places value) number → number < 2
  top_below zero is = omega arith
  top_below (suc zero) is = omega arith
  top_below (suc (suc zero)) is = absurd (cc is)
  top_below (suc (suc (suc number))) is = absurd is

  below_two : (number : ℕ) → IsReached (places value) (documents value) only_a number → number < 2
  below_two _ (top number is) = top_below number is
  below_two _ (further number to reached leads) = leads_below number to leads

  pub what_nothing_depends_on : ¬ AreReached (places value) (documents value) only_a
  what_nothing_depends_on all = let never = below_two 2 (all 2 b_place refl) in omega arith

  -- an optional dependency that is left out and not told
  pub what_is_not_told : ¬ AreLeftOut (places value) asks []
  what_is_not_told are = let never = (are 2).1 z_is_left_out in omega (arith, never.1)

  -- ---- aliases: `npm:b@*` asks for `b` under another name

  pub an_alias_asks_for_its_target :
      AsksFor (places value) (documents value) (record (ask 0 (codes "a") Needed) { spec = at (codes "npm:b@*") }) 2
  an_alias_asks_for_its_target = refl

  pub and_for_no_other :
      ¬ AsksFor (places value) (documents value) (record (ask 0 (codes "a") Needed) { spec = at (codes "npm:b@*") }) 1
  and_for_no_other asks_for = let never : false ≡ true = ap (λ name. option_map_or (bytes_eq (codes "b")) name false) asks_for in cc never
