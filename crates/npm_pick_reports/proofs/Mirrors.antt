-- Packages of a mirror, and dependencies of a lock file, one after another.
use Rattle.std.proofs.Common.{◌≡◌, ◌∙◌, ◌↔◌, IfErr, IsErrAnd, IsTrue, Global, Ok, Err, Result, String, append-nil, false, get_or, inl, inr, length, map, not, refl, string_bytes, subst, sym, take, true, ℕ, ◌+◌, ◌<◌, List, [], ◌∷◌, ◌++◌, Bool, drop}
use Rattle.std.specs.Prelude.{cond, filter}
use Rattle.std.proofs.lemmas.List.{drop_more, map-append}
use Rattle.std.proofs.lemmas.List.Elements.{All-push, Contains-append_cases, Contains-append_left, Contains-append_right, filter-append}
use Rattle.std.specs.List.{All, Contains}
use Rattle.npm_packages.specs.Edges.{edge_value}
use Rattle.npm_packages.specs.declared.edges.Edge.{Edge}
use Rattle.npm_pick.specs.Kept.{IsInOrder}
use Rattle.npm_pick.specs.Lemmas.Gathering.{seen_more}
use Rattle.npm_pick.specs.declared.options.Options.{Options}
use Rattle.npm_texts.specs.RegistrySpec.{RegistrySpecValue}
use Rattle.npm_pick_reports.specs.Asks.{AreAsksOfEdge, AreAsksOfEdges, AskValue}
use Rattle.npm_pick_reports.specs.Loading.{IsLoadFailure, Loads, Needed}
use Rattle.npm_pick_reports.specs.Mirror.{AreTextsOf, AreWithInstalled, IsPackage, IsPackageFor, PackageValue, package_value, texts_for}
use Rattle.npm_pick_reports.specs.declared.mirror.KeptPackage.{KeptPackage}
use Rattle.npm_pick_reports.specs.declared.run_error.RunError.{RunError}
use Rattle.npm_pick_reports.specs.declared.run_error.RunError.TheVariants as RunErrors

-- ---- packages

-- the texts of a name are those of its requests
texts_like : (requests : List RegistrySpecValue) (name : List ℕ) (came texts : List (List ℕ))
    → came ≡ texts_for name requests → ((text : List ℕ) → Contains texts text ↔ Contains came text)
    → AreTextsOf requests name texts
texts_like requests name came texts is same text = rw is at (same text)

module _ (Gives : Loads) (options : Options) (all : Bool) (requests installed : List RegistrySpecValue) where
  -- a package of these texts and versions
  pub is_package : (one : PackageValue) (name : List ℕ) (came texts found versions : List (List ℕ)) → one.name ≡ name
      → came ≡ texts_for name requests → ((text : List ℕ) → Contains texts text ↔ Contains came text)
      → found ≡ texts_for name installed → ((text : List ℕ) → Contains versions text ↔ Contains found text)
      → IsPackageFor Gives options all name texts versions one → IsPackage Gives options all requests installed one
  is_package one name came texts found versions same of_name asked of_installed had is =
      record {
        texts = texts;
        versions = versions;
        asked = subst (λ (n : List ℕ). AreTextsOf requests n texts) (sym same) (texts_like requests name came texts of_name asked);
        found = subst (λ (n : List ℕ). AreTextsOf installed n versions) (sym same)
            (texts_like installed name found versions of_installed had);
        is = subst (λ (n : List ℕ). IsPackageFor Gives options all n texts versions one) (sym same) is;
      }

  -- one package more
  pub package_more : (old new : List KeptPackage) (one : KeptPackage) → new ≡ old ++ (one ∷ [])
      → IsPackage Gives options all requests installed (package_value one)
      → All (IsPackage Gives options all requests installed) (map package_value old)
      → All (IsPackage Gives options all requests installed) (map package_value new)
  package_more old new one is found held = rw (is, map-append package_value old (one ∷ []))
      (All-push (IsPackage Gives options all requests installed) (map package_value old) (package_value one) held found)

-- its name is the next one
pub name_more : (names : List (String Global)) (i : ℕ) (item : String Global) (old new : List KeptPackage) (one : KeptPackage)
    → i < length names → item ≡ get_or names i item → new ≡ old ++ (one ∷ []) → string_bytes one.name ≡ string_bytes item
    → map (λ (p : PackageValue). p.name) (map package_value old) ≡ map string_bytes (take i names)
    → map (λ (p : PackageValue). p.name) (map package_value new) ≡ map string_bytes (take (i + 1) names)
name_more names i item old new one small here is same held = rw (
  is,
  map-append package_value old (one ∷ []),
  map-append (λ (p : PackageValue). p.name) (map package_value old) (package_value one ∷ []),
  seen_more string_bytes names i item small here,
  held,
  same,
) refl

-- the keys in order are the versions that are picked and those that are installed
pub with_both : (all picked installed keys : List (List ℕ)) → all ≡ picked ++ installed → IsInOrder keys
    → ((key : List ℕ) → Contains keys key ↔ Contains all key) → AreWithInstalled picked installed keys
with_both all picked installed keys is ordered same = record {
  ordered = ordered;
  exact = λ key. (
    (λ there. Contains-append_cases picked installed key (rw is at ((same key).0 there))),
    (λ either. (same key).1 (rw is (elim either [
      | inl one ↦ Contains-append_left picked installed key one
      | inr one ↦ Contains-append_right picked installed key one
    ]))),
  );
}

-- one installed version more, if it passes a test, or not
module _ (test : List ℕ → Bool) (versions : List (String Global)) (i : ℕ) (item : String Global) (old : List (List ℕ))
    (small : i < length versions) (here : item ≡ get_or versions i item)
    (held : old ≡ filter test (map string_bytes (take i versions))) where
  next : (passes : Bool) → test (string_bytes item) ≡ passes
      → filter test (map string_bytes (take (i + 1) versions)) ≡ old ++ cond passes (string_bytes item ∷ []) []
  next passes is = rw (
    seen_more string_bytes versions i item small here,
    filter-append test (map string_bytes (take i versions)) (string_bytes item ∷ []),
    held,
    is,
  ) refl

  pub passed_more : (new : List (List ℕ)) → test (string_bytes item) ≡ true → new ≡ old ++ (string_bytes item ∷ [])
      → new ≡ filter test (map string_bytes (take (i + 1) versions))
  passed_more new is more = more ∙ sym (next true is)

  pub failed_more : test (string_bytes item) ≡ false → old ≡ filter test (map string_bytes (take (i + 1) versions))
  failed_more is = sym (next false is ∙ append-nil old)

-- ---- dependencies of a lock file

-- the edges from this one on
pub edges_from : (edges : List Edge) (i : ℕ) (none : Edge) (here later : List AskValue) → i < length edges
    → AreAsksOfEdge (edge_value (get_or edges i none)) here → AreAsksOfEdges (map edge_value (drop (i + 1) edges)) later
    → AreAsksOfEdges (map edge_value (drop i edges)) (here ++ later)
edges_from edges i none here later small is are = rw (drop_more edges i none small) (here, later, is, are, refl)

-- ---- facts as values

pub not_is : {P : Type 0} (b : Bool) → IsTrue b ↔ P → IsTrue (not b) ↔ ¬ P
not_is true is = ((λ never. cc never), (λ no. absurd (no (is.0 refl))))
not_is false is = ((λ _. λ p. cc (is.1 p)), (λ _. refl))

pub no_truth : (b : Bool) → b ≡ false → IsTrue b → ⊥
no_truth b is holds = cc (is, holds)

-- ---- failures

-- what holds of an error holds where the error is passed on
pub passed_on : {T E : Type 0} (result : Result T E) (P Q : E → Type 0) → IsErrAnd result P
    → ((error : E) → P error → Q error) → IfErr result Q
passed_on (Ok x) P Q is then = tt
passed_on (Err error) P Q is then = then error is

-- a document that one part needs is needed for the whole
pub needed_too : (Gives : Loads) (Part Whole : Needed) (error : RunError) → ((name : List ℕ) → Part name → Whole name)
    → IsLoadFailure Part Gives error → IsLoadFailure Whole Gives error
needed_too Gives Part Whole RunErrors.Memory to is = tt
needed_too Gives Part Whole RunErrors.Write to is = is
needed_too Gives Part Whole (RunErrors.NoLock fault) to is = is
needed_too Gives Part Whole (RunErrors.Load error) to is = (is.0, to is.0 is.1, is.2)
