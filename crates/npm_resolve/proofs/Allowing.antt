-- What a meaning allows.
use Rattle.std.proofs.Common.{◌≡◌, ◌↔◌, ◌∙◌, List, ℕ, Bool, IsTrue, bytes_eq, codes, false, inl, inr, sym, true}
use Rattle.std.proofs.lemmas.Slice.Eq.{bytes_eq-Decides}
use Rattle.npm_texts.specs.Admission.{Admits, of_dependencies}
use Rattle.npm_resolve.specs.Meanings.{IsAdmitted, MeaningValue, inside, nothing, only}
use Rattle.npm_resolve.specs.declared.candidates.candidate.Candidate.{Candidate}

module _ (value : MeaningValue) (c : Candidate) (b : Bool) where
  pub only_is : (key : List ℕ) → value ≡ only key → b ≡ bytes_eq key c.key.now → IsTrue b ↔ IsAdmitted value c
  only_is key is eq = rw is (
    (λ equal. sym ((bytes_eq-Decides key c.key.now).0 (sym eq ∙ equal))),
    (λ same. eq ∙ (bytes_eq-Decides key c.key.now).1 (sym same)),
  )

  pub inside_is : (R : Type 0) (text : List ℕ) → (IsTrue b ↔ R) → value ≡ inside text → bytes_eq text (codes "*") ≡ false
      → (R ↔ Admits of_dependencies text c.version) → IsTrue b ↔ IsAdmitted value c
  inside_is R text says is other means = rw is (
    (λ said. inr (means.0 (says.0 said))),
    (λ held. elim held [ inl any ↦ absurd (cc (any.0, other)) | inr admits ↦ says.1 (means.1 admits) ]),
  )

  pub any_is : (R : Type 0) (text : List ℕ) → (IsTrue b ↔ R) → value ≡ inside text → c.is_default ≡ false
      → (R ↔ Admits of_dependencies text c.version) → IsTrue b ↔ IsAdmitted value c
  any_is R text says is other means = rw is (
    (λ said. inr (means.0 (says.0 said))),
    (λ held. elim held [ inl any ↦ absurd (cc (any.1, other)) | inr admits ↦ says.1 (means.1 admits) ]),
  )

  pub default_is : (text : List ℕ) → value ≡ inside text → bytes_eq text (codes "*") ≡ true → c.is_default ≡ true
      → b ≡ true → IsTrue b ↔ IsAdmitted value c
  default_is text is any default true_is = rw is ((λ _. inl (any, default)), (λ _. true_is))

  pub none_is : value ≡ nothing → b ≡ false → IsTrue b ↔ IsAdmitted value c
  none_is is false_is = rw is ((λ true_is. cc (true_is, false_is)), (λ held. absurd held))
