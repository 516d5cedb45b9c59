-- What steps rule out is not selected.
use Rattle.std.proofs.Common.{◌≡◌, ◌≢◌, ◌<◌, ◌∙◌, ◌==◌, ℕ, Bool, not, true, false, List, [], Option, Some, None, All, Contains, get_or, inl, inr, refl, ap, sym, subst, arith}
use Rattle.std.proofs.lemmas.Bool.Decides.{Decides-eqb}
use Rattle.std.proofs.lemmas.List.Elements.{All-contains, All-nil}
use Rattle.version_solving.specs.declared.certificate.Term.{Term}
use Rattle.version_solving.specs.declared.certificate.Values.{Values}
use Rattle.version_solving.specs.declared.demand.Demand.{Demand}
use Rattle.version_solving.specs.declared.documents.Documents.{Documents}
use Rattle.version_solving.specs.Documents.{problem_of}
use Rattle.version_solving.specs.Solving.{Fits, Holds, Problem, Selection}
use Rattle.version_solving.specs.Private.Values.{AreForbidden, AreOthersMet, IsBarredBy, IsExcluded, IsGone, IsHeld, IsHopeless, IsMet, IsSilent, Spares, against, has, is_out}

-- a selection that fits fits without the demands of the root
pub fits_any : (root : List Demand) (documents : Documents) (s : Selection) → Fits (problem_of root documents) s → Fits (problem_of [] documents) s
fits_any root documents s fits = record {
  existing = fits.existing;
  root = All-nil (Holds (problem_of [] documents) s);
  candidates = fits.candidates;
}

-- ---- one value

pub spared_not : (rows : List Values) (s : Selection) → Spares rows s → (name : ℕ) (v : Option ℕ) → s name ≡ v → is_out rows name v ≡ true → ⊥
spared_not rows s spares name v is out =
    let kept : is_out rows name v ≡ false = subst (λ u. is_out rows name u ≡ false) is (spares name) in
    let no : true ≡ false = sym out ∙ kept in cc

pub holds_not : (p : Problem) (s : Selection) (d : Demand) (v : Option ℕ) → s d.name ≡ v → Holds p s d → against p d v ≡ true → ⊥
holds_not p s d None is holds fails =
    let limits : d.needed ≡ false = rw is at holds in
    let no : true ≡ false = sym fails ∙ limits in cc
holds_not p s d (Some c) is holds fails =
    let allowed : p.allows d.range c ≡ true = rw is at holds in
    let no : false ≡ true = sym (ap not allowed) ∙ fails in cc

module _ (p : Problem) (s : Selection) (fits : Fits p s) where
  pub barred_not : (asker c : ℕ) → s asker ≡ Some c → (name : ℕ) (v : Option ℕ) → s name ≡ v → IsBarredBy p (p.demands asker c) name v → ⊥
  barred_not asker c asks name v is bars =
      let holds = All-contains (Holds p s) (p.demands asker c) bars.demand (fits.candidates asker c asks) bars.inside in
      holds_not p s bars.demand v (ap s bars.named ∙ is) holds bars.fails

  hopeless_not : (name c : ℕ) (d : Demand) → s name ≡ Some c → Holds p s d → IsHopeless p name c d → ⊥
  hopeless_not name c d is holds (inl own) =
      holds_not p s d (Some c) (ap s own.0 ∙ is) holds (ap not own.1)
  hopeless_not name c d is holds (inr missing) = by_value (s d.name) refl where
    by_value : (v : Option ℕ) → s d.name ≡ v → ⊥
    by_value None none = holds_not p s d None none holds missing.0
    by_value (Some other) some =
        let small : other < p.count d.name = fits.existing d.name other some in
        let none : p.count d.name ≡ 0 = missing.1 in omega arith

-- ---- steps

module _ (p : Problem) (rows : List Values) where
  pub forward : (asker name : ℕ) (value : Option ℕ) → is_out rows asker None ≡ true
      → ((c : ℕ) → c < p.count asker → IsSilent p rows asker c name value) → IsExcluded p rows name value
  forward asker name value free each s fits spares is = by_value (s asker) refl where
    by_case : (c : ℕ) → s asker ≡ Some c → IsSilent p rows asker c name value → ⊥
    by_case c asks (inl out) = spared_not rows s spares asker (Some c) asks out
    by_case c asks (inr bars) = barred_not p s fits asker c asks name value is bars

    by_value : (v : Option ℕ) → s asker ≡ v → ⊥
    by_value None asks = spared_not rows s spares asker None asks free
    by_value (Some c) asks = by_case c asks (each c (fits.existing asker c asks))

  pub backward : (asker c name : ℕ) → IsGone p rows (p.demands asker c) name None
      → ((v : ℕ) → v < p.count name → IsGone p rows (p.demands asker c) name (Some v)) → IsExcluded p rows asker (Some c)
  backward asker c name none each s fits spares asks = by_value (s name) refl where
    by_case : (v : Option ℕ) → s name ≡ v → IsGone p rows (p.demands asker c) name v → ⊥
    by_case v is (inl out) = spared_not rows s spares name v is out
    by_case v is (inr bars) = barred_not p s fits asker c asks name v is bars

    by_value : (v : Option ℕ) → s name ≡ v → ⊥
    by_value None is = by_case None is none
    by_value (Some v) is = by_case (Some v) is (each v (fits.existing name v is))

  pub own : (name c : ℕ) (d : Demand) → Contains (p.demands name c) d → IsHopeless p name c d → IsExcluded p rows name (Some c)
  own name c d inside hopeless s fits spares is =
      hopeless_not p s fits name c d is (All-contains (Holds p s) (p.demands name c) d (fits.candidates name c is) inside) hopeless

  pub held : (t : Term) → IsHeld rows t None → ((c : ℕ) → c < p.count t.name → IsHeld rows t (Some c))
      → (s : Selection) → Fits p s → Spares rows s → IsMet s t
  held t none each s fits spares = by_value (s t.name) refl where
    by_case : (v : Option ℕ) → s t.name ≡ v → IsHeld rows t v → has t.values (s t.name) ≡ true
    by_case v is (inl out) = absurd (spared_not rows s spares t.name v is out)
    by_case v is (inr there) = ap (has t.values) is ∙ there

    by_value : (v : Option ℕ) → s t.name ≡ v → has t.values (s t.name) ≡ true
    by_value None is = by_case None is none
    by_value (Some c) is = by_case (Some c) is (each c (fits.existing t.name c is))

-- a set with all values of a name
pub full : (p : Problem) (set : Values) (name : ℕ) → set.none ≡ true → ((c : ℕ) → c < p.count name → has set (Some c) ≡ true)
    → (s : Selection) → Fits p s → has set (s name) ≡ true
full p set name none each s fits = by_value (s name) refl where
  by_value : (v : Option ℕ) → s name ≡ v → has set (s name) ≡ true
  by_value None is = ap (has set) is ∙ none
  by_value (Some c) is = ap (has set) is ∙ each c (fits.existing name c is)

-- ---- lessons

pub learnt : (p q : Problem) (rows : List Values) (terms : List Term) (name : ℕ) (value : Option ℕ)
    → ((s : Selection) → Fits p s → Fits q s) → AreForbidden p terms → AreOthersMet q rows name terms
    → All (λ (t : Term). t.name ≡ name → has t.values value ≡ true) terms → IsExcluded p rows name value
learnt p q rows terms name value weaker forbidden others own s fits spares is = forbidden s fits met where
  met : All (IsMet s) terms
  met k d small = by_kind (get_or terms k d) (others s (weaker s fits) spares k d small) (own k d small) where
    by_name : (t : Term) → (t.name ≢ name → IsMet s t) → (t.name ≡ name → has t.values value ≡ true) → (b : Bool) → (t.name == name) ≡ b → IsMet s t
    by_name t other same true eq =
        let named : t.name ≡ name = (Decides-eqb t.name name).0 eq in
        ap (has t.values) (ap s named ∙ is) ∙ same named
    by_name t other same false eq = other (λ named.
        let yes : (t.name == name) ≡ true = (Decides-eqb t.name name).1 named in
        let no : true ≡ false = sym yes ∙ eq in cc)

    by_kind : (t : Term) → (t.name ≢ name → IsMet s t) → (t.name ≡ name → has t.values value ≡ true) → IsMet s t
    by_kind t other same = by_name t other same (t.name == name) refl
