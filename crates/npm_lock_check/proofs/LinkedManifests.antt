-- Manifests of linked folders, one more at a time.
use Rattle.std.proofs.Common.{◌≡◌, ◌↔◌, ◌∙◌, ◌++◌, ℕ, ◌+◌, ◌<◌, List, [], ◌∷◌, Option, Some, None, Result, Ok, Err, ap}
use Rattle.std.proofs.Common.{Bool, append_assoc, drop, get_or, if◌then◌else◌, inl, inr, length, map, refl, sym, true}
use Rattle.std.proofs.Common.{IfErr, IfOk}
use Rattle.std.proofs.lemmas.List.{drop_more}
use Rattle.serde_json.specs.Data.{Data}
use Rattle.serde_json.specs.View.{view}
use Rattle.serde_json.specs.declared.value.Value.{Value}
use Rattle.npm_lock.specs.Mismatches.{AreMismatches, manifest_fault}
use Rattle.npm_packages.specs.declared.fault.CheckError.{CheckError}
use Rattle.npm_packages.specs.declared.fault.CheckError.TheVariants.{Refused}
use Rattle.npm_packages.specs.declared.fault.Fault.{Fault}
use Rattle.npm_lock.specs.declared.mismatch.Mismatch.{Mismatch}
use Rattle.npm_manifest_files.specs.Linked.{LinkedValue, linked_value, loaded_value}
use Rattle.npm_lock_check.specs.Check.{linked_fault}
use Rattle.npm_lock_check.specs.Private.Refusals.{AreLinkedRefused, IsOneRefused}
use Rattle.npm_lock_check.specs.Report.{AreAllMismatches, AreLeftMismatches, AreLoaded, IsNotLoaded, has_packages}
use Rattle.npm_lock_check.specs.Report.{is_compared}
use Rattle.npm_manifest_files.specs.declared.linked.Linked.{Linked}
use Rattle.npm_manifest_files.specs.declared.linked.Loaded.{Loaded}
use Rattle.npm_manifest_files.specs.declared.load_error.LoadError.{LoadError}
use Rattle.npm_lock_check.specs.declared.checks.run_error.RunError.{RunError}

-- a manifest that is not refused has no fault
pub no_fault : {T : Type 0} (found : Option Fault) (result : Result T CheckError) (value : T)
    → ((fault : Fault) → (result ≡ Err (Refused fault)) ↔ (found ≡ Some fault)) → result ≡ Ok value → found ≡ None
no_fault None result value refused is = refl
no_fault (Some fault) result value refused is =
    let never : Ok value ≡ Err (Refused fault) = sym is ∙ (refused fault).1 refl in cc never

module _ (all : List Linked) (i : ℕ) (one : Linked) (small : i < length all) (is : one ≡ get_or all i one) where
  -- it is the first of those that are left
  left : drop i all ≡ one ∷ drop (i + 1) all
  left = drop_more all i one small ∙ ap (λ x. x ∷ drop (i + 1) all) (sym is)

  -- the mismatches of one manifest more
  pub mismatches_more : (lock : Data) (done more start here : List Mismatch)
      → AreMismatches lock (linked_value one).folder (linked_value one).manifest here → more ≡ done ++ here
      → ((rest : List Mismatch) → AreAllMismatches lock (map linked_value (drop i all)) rest
      → (list : List Mismatch) × AreAllMismatches lock (map linked_value all) list × (done ++ rest ≡ start ++ list))
      → (rest : List Mismatch) → AreAllMismatches lock (map linked_value (drop (i + 1) all)) rest
      → (list : List Mismatch) × AreAllMismatches lock (map linked_value all) list × (more ++ rest ≡ start ++ list)
  mismatches_more lock done more start here are is_more held rest later =
      let whole : AreAllMismatches lock (map linked_value (drop i all)) (here ++ rest) =
      rw left (here, rest, are, later, refl) in
      let made = held (here ++ rest) whole in
      (made.0, made.1, ap (λ list. list ++ rest) is_more ∙ append_assoc done here rest ∙ made.2)

  -- a manifest without a fault is passed
  pub fault_passed : manifest_fault (linked_value one).manifest ≡ None
      → linked_fault (map linked_value (drop i all)) ≡ linked_fault (map linked_value (drop (i + 1) all))
  fault_passed none = rw (left, none) refl

  -- the first manifest with a fault
  pub fault_found : (fault : Fault) → manifest_fault (linked_value one).manifest ≡ Some fault
      → linked_fault (map linked_value (drop i all))
      ≡ Some (record { folder = (linked_value one).folder; fault = fault })
  fault_found fault some = rw (left, some) refl

  -- the manifest that is refused is the first with a fault, or memory ran out
  pub first_refused : (error : RunError) → linked_fault (map linked_value all) ≡ linked_fault (map linked_value (drop i all))
      → IsOneRefused (linked_value one) error → AreLinkedRefused (map linked_value all) error
  first_refused error sound (inl (name, fault, same, text, told)) = inl (
    name,
    fault,
    same,
    sound ∙ fault_found fault told
        ∙ ap (λ folder. Some (record { folder = folder; fault = fault })) (sym text),
  )
  first_refused error sound (inr memory) = inr memory

-- the mismatches of manifests that are compared
pub left_of : (lock : Data) (manifests : List LinkedValue) (is_ignored : Bool) (all list : List Mismatch)
    → has_packages lock ≡ true → AreAllMismatches lock manifests all → list ≡ (if is_ignored then [] else all)
    → AreLeftMismatches lock manifests is_ignored list
left_of lock manifests is_ignored all list has are is = rw has (all, are, is)

-- ---- manifests that are loaded

module _ (Gives : Value → Result Loaded LoadError → Type 0) (lock : Value) (manifest : Option Data)
    (is : is_compared (view lock) manifest ≡ true) where
  pub are_loaded : (result : Result Loaded LoadError) → Gives lock result
      → IfOk result (λ made. AreLoaded Gives lock manifest (loaded_value made))
  are_loaded (Ok made) gives = rw is (made, gives, refl)
  are_loaded (Err error) gives = tt

  pub are_not_loaded : (result : Result Loaded LoadError) → Gives lock result
      → IfErr result (λ error. IsNotLoaded Gives lock manifest error)
  are_not_loaded (Ok made) gives = tt
  are_not_loaded (Err error) gives = (is, gives)
