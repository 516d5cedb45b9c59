-- Manifests that are read, those of one folder more at a time.
use Rattle.std.proofs.Common.{◌≡◌, ◌+◌, ◌<◌, ◌∷◌, ℕ, List, Result, Ok, drop, get_or, length, map}
use Rattle.std.proofs.lemmas.List.{drop_more}
use denote.Ref.{Bor}
use Rattle.npm_manifest_files.specs.Linked.{AreRead, AreReadAfter, LoadedValue, one_more, with_found}
use Rattle.npm_manifest_files.specs.declared.linked.Found.{Found}
use Rattle.npm_manifest_files.specs.declared.load_error.LoadError.{LoadError}

module _ (Gives : (folder : List ℕ) → Result Found LoadError → Type 0) (all : List (Bor (List ℕ))) (i : ℕ)
    (none : Bor (List ℕ)) (small : i < length all) (before : LoadedValue)
    (held : (after : LoadedValue) → AreReadAfter Gives before (map (λ folder. folder.now) (drop i all)) after
    → AreRead Gives (map (λ folder. folder.now) all) after) where
  abbrev one : Bor (List ℕ)
  one = get_or all i none

  first_left : drop i all ≡ one ∷ drop (i + 1) all
  first_left = drop_more all i none small

  -- the manifest of one folder more
  pub found_more : (found : Found) (more : LoadedValue) → Gives one.now (Ok found) → more ≡ with_found one.now found before
      → (after : LoadedValue) → AreReadAfter Gives more (map (λ folder. folder.now) (drop (i + 1) all)) after
      → AreRead Gives (map (λ folder. folder.now) all) after
  found_more found more gives is after later =
      let left : AreReadAfter Gives before (map (λ folder. folder.now) (drop i all)) after =
      rw first_left
      (one_more before one.now (map (λ folder. folder.now) (drop (i + 1) all)) found after gives (rw (← is) later)) in
      held after left
