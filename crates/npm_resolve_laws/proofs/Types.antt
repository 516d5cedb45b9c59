-- Types that definitions of `npm_resolve` speak of, and that only that crate can name.
use Rattle.npm_resolve.specs.Answers.{IsResolution}
use Rattle.npm_resolve.specs.Instance.{key_of}

abbrev Domain {ℓ} : {A : Type 0} {B : Type ℓ} → (A → B) → Type 0
Domain {A} f = A

-- a problem, and the texts that its numbers stand for
abbrev pub Posed : Type 0
Posed = Domain IsResolution

-- a name and its candidates
abbrev pub Offer : Type 0
Offer = Domain key_of
