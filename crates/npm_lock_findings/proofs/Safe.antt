-- What is added safely, one after the other.
use Rattle.std.proofs.Common.{◌≡◌, ◌<◌, ◌+◌, ◌++◌, ◌∙◌, ℕ, List, [], ◌∷◌, Err, Ok, OnOk, Result, ap, append_assoc, append-nil, get_or}
use Rattle.std.proofs.Common.{length, map, refl, subst, sym, take}
use Rattle.std.proofs.lemmas.List.{map-append, take_more}
use Rattle.npm_lock_findings.specs.Forms.{IsSafe, IsShown, IsWritten, PieceValue, escape, itself, nothing}
use Rattle.npm_lock_findings.specs.Private.Adding.{Adds}
use Rattle.npm_lock_findings.specs.declared.forms.piece.Form.{Form}

both : (form : Form) (a b : List ℕ) → IsSafe form a → IsSafe form b → IsSafe form (a ++ b)
both form _ b nothing y = y
both form _ b (itself byte rest plain x) y = itself byte (rest ++ b) plain (both form rest b x y)
both form _ b (escape one rest is x) y =
    subst (IsSafe form) (sym (append_assoc one rest b)) (escape one (rest ++ b) is (both form rest b x y))

pub none : (form : Form) (out : List ℕ) → Adds form out out
none form out = ([], nothing, sym (append-nil out))

pub more : (form : Form) (old here new : List ℕ) → Adds form old here → Adds form here new → Adds form old new
more form old here new a b = (
  a.0 ++ b.0,
  both form a.0 b.0 a.1 b.1,
  b.2 ∙ ap (λ l. l ++ b.0) a.2 ∙ append_assoc old a.0 b.0,
)

pub then_more : {T E : Type 0} (form : Form) (old here new : List ℕ) (r : Result T E) → Adds form old here
    → OnOk r (Adds form here new) → OnOk r (Adds form old new)
then_more form old here new (Ok x) a b = more form old here new a b
then_more form old here new (Err e) a b = tt

one_more : (form : Form) (pieces : List PieceValue) (one : PieceValue) (text shown : List ℕ) → IsWritten form pieces text
    → IsShown form one shown → IsWritten form (pieces ++ (one ∷ [])) (text ++ shown)
one_more form [] one text shown is last = (shown, [], last, refl, rw is (sym (append-nil shown)))
one_more form (first ∷ pieces) one text shown is last = (
  is.0,
  is.1 ++ shown,
  is.2,
  one_more form pieces one is.1 shown is.3 last,
  ap (λ l. l ++ shown) is.4 ∙ append_assoc is.0 is.1 shown,
)

pub piece_more : {P : Type 0} (of : P → PieceValue) (form : Form) (pieces : List P) (i : ℕ) (d : P) (start out new : List ℕ)
    → i < length pieces → ((text : List ℕ) × IsWritten form (map of (take i pieces)) text × (out ≡ start ++ text))
    → ((shown : List ℕ) × IsShown form (of (get_or pieces i d)) shown × (new ≡ out ++ shown))
    → (text : List ℕ) × IsWritten form (map of (take (i + 1) pieces)) text × (new ≡ start ++ text)
piece_more of form pieces i d start out new small before here = (
  before.0 ++ here.0,
  rw (take_more pieces i d small, map-append of (take i pieces) (get_or pieces i d ∷ []))
      (one_more form (map of (take i pieces)) (of (get_or pieces i d)) before.0 here.0 before.1 here.1),
  here.2 ∙ ap (λ l. l ++ here.0) before.2 ∙ append_assoc start before.0 here.0,
)
