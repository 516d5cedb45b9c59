-- The texts of dependencies, one dependency more at a time.
use Rattle.std.proofs.Common.{◌≡◌, ◌++◌, ℕ, List, [], ◌∷◌, Bool, true, false, cond, Some, None}
use Rattle.std.proofs.Common.{append-nil, bytes_eq, filter, refl}
use Rattle.std.proofs.lemmas.List.Elements.{filter-append}
use Rattle.std.specs.List.{AllZip}
use Rattle.npm_packages.specs.Dependents.{AreTextsFor, IsEdgeText, leads_to}
use Rattle.npm_packages.specs.Edges.{EdgeValue}

-- one pair more at the end
zip-more : {A B : Type 0} (R : A → B → Type 0) (xs : List A) (ys : List B) (x : A) (y : B) → AllZip R xs ys → R x y
    → AllZip R (xs ++ (x ∷ [])) (ys ++ (y ∷ []))
zip-more R [] [] x y all is = (is, tt)
zip-more R [] (y ∷ ys) x z all is = absurd all
zip-more R (x ∷ xs) [] z y all is = absurd all
zip-more R (x ∷ xs) (y ∷ ys) z w all is = (all.0, zip-more R xs ys z w all.1 is)

module _ (folder : List ℕ) (edges : List EdgeValue) (edge : EdgeValue) (texts : List (List ℕ)) where
  -- the dependency leads to the folder, or it does not
  passed : leads_to folder edge ≡ false → AreTextsFor folder edges texts → AreTextsFor folder (edges ++ (edge ∷ [])) texts
  passed not_there are = rw (filter-append (leads_to folder) edges (edge ∷ []), not_there, append-nil) are

  added : (text : List ℕ) → leads_to folder edge ≡ true → IsEdgeText edge text → AreTextsFor folder edges texts
      → AreTextsFor folder (edges ++ (edge ∷ [])) (texts ++ (text ∷ []))
  added text there is are = rw (filter-append (leads_to folder) edges (edge ∷ []), there)
      (zip-more IsEdgeText (filter (leads_to folder) edges) texts edge text are is)

  -- one text more, if the dependency leads to this folder
  pub one_text : (to text : List ℕ) → edge.to ≡ Some to → IsEdgeText edge text → AreTextsFor folder edges texts
      → AreTextsFor folder (edges ++ (edge ∷ [])) (cond (bytes_eq to folder) (texts ++ (text ∷ [])) texts)
  one_text to text to_is is are = by_folder (bytes_eq to folder) refl where
    by_folder : (same : Bool) → bytes_eq to folder ≡ same
        → AreTextsFor folder (edges ++ (edge ∷ [])) (cond same (texts ++ (text ∷ [])) texts)
    by_folder true same = added text (rw (to_is, same) refl) is are
    by_folder false same = passed (rw (to_is, same) refl) are

  -- no text more, if no package is found
  pub no_text : edge.to ≡ None → AreTextsFor folder edges texts → AreTextsFor folder (edges ++ (edge ∷ [])) texts
  no_text none are = passed (rw none refl) are
