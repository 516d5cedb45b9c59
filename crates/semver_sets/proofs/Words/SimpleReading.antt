-- Words of every kind but the hyphen: the reader reads exactly these texts.
use native.Mathlib.Omega.{arith}
use Rattle.std.proofs.Common.{◌≡◌, ℕ, List, [], ◌∷◌, ◌++◌, Option, Some, None, refl, sym, ap, ◌∙◌}
use Rattle.std.proofs.Common.{append_assoc}
use Rattle.std.proofs.lemmas.Bool.{and_parts}
use Rattle.std.proofs.lemmas.Option.{same_Some}
use Rattle.std.specs.Prelude.{◌==◌}
use Rattle.semver_texts.specs.Characters.{AreAll, BeginsWithNo, caret, greater_sign, is_blank, tilde}
use Rattle.semver_sets.specs.Comparator.{Comparator}
use Rattle.semver_sets.specs.Division.{IsSimpleText, by_caret, by_operator, by_tilde, plain}
use Rattle.semver_texts.specs.Characters.{IsCleanEnd}
use Rattle.semver_sets.specs.Operators.{operator_text}
use Rattle.semver_sets.specs.PartialText.{IsLed, IsPartialText, Partial}
use Rattle.semver_sets.specs.TildeRanges.{with_tilde, with_tilde_greater}
use Rattle.semver_texts.specs.Reading.{rest_of}
use Rattle.semver_sets.specs.Private.WordReading.{Lead, ReadPartial, Word, caret_lead, lead_comparator, no_lead}
use Rattle.semver_sets.specs.Private.WordReading.{operator, read_lead, read_partial, read_simple, said}
use Rattle.semver_sets.specs.Private.WordReading.{tilde_greater_lead, tilde_lead, up_to_clean}
use Rattle.semver_sets.proofs.Texts.CleanEnds.{up_to_clean-takes}
use Rattle.semver_sets.proofs.Words.LeadReading.{IsFollowed, StandsBefore, lead-caret, lead-none, lead-operator}
use Rattle.semver_sets.proofs.Words.LeadReading.{lead-takes, lead-tilde, lead-tilde_greater}
use Rattle.semver_sets.proofs.Words.PartialReading.{partial-again, partial-no, partial-takes, partial-unblanked}
use Rattle.semver_texts.specs.Lemmas.Public.{blank-cases, no-append, rest_of-all}

-- a text of a word with a clean end after it begins the text
pub record TakesSimple (text : List ℕ) (comparator : Option Comparator) (rest : List ℕ) : Type 0 where
  pub taken : List ℕ
  pub whole : text ≡ taken ++ rest
  pub read : IsSimpleText taken comparator
  pub clean : IsCleanEnd rest

-- a lead, blanks and a partial
led-taken : (lead text operand rest : List ℕ) (p : Partial) → IsFollowed lead text (operand ++ rest)
    → IsPartialText operand p → (taken : List ℕ) × (text ≡ taken ++ rest) × IsLed lead taken p
led-taken lead text operand rest p f h = (
  lead ++ (f.blanks ++ operand),
  f.whole ∙ simp append_assoc,
  record { blanks = f.blanks; operand = operand; whole = refl; blank = f.blank; read = h },
)

-- a lead and a partial are such a text
simple-taken : (lead : Lead) (text operand rest : List ℕ) (p : Partial) → StandsBefore lead text (operand ++ rest)
    → IsPartialText operand p → IsCleanEnd rest → TakesSimple text (lead_comparator lead p) rest
simple-taken no_lead text operand rest p f h clean = grind arith
simple-taken (operator o) text operand rest p f h clean = grind
    (arith, led-taken (operator_text o) text operand rest p f h)
simple-taken tilde_lead text operand rest p f h clean =
    let t = led-taken (tilde ∷ []) text operand rest p f h in
    record { taken = t.0; whole = t.1; read = by_tilde (with_tilde p t.2 refl); clean = clean }
simple-taken tilde_greater_lead text operand rest p f h clean =
    let t = led-taken (tilde ∷ (f.0 ++ (greater_sign ∷ []))) text operand rest p f.2 h in
    record { taken = t.0; whole = t.1; read = by_tilde (with_tilde_greater f.0 p f.1 t.2 refl); clean = clean }
simple-taken caret_lead text operand rest p f h clean = grind (arith, led-taken (caret ∷ []) text operand rest p f h)

-- so is what they are read as
said-taken : (lead : Lead) (text behind : List ℕ) (read : ReadPartial) (c : Option Comparator) (rest : List ℕ)
    → StandsBefore lead text behind → up_to_clean (read_partial behind) ≡ read → said lead read ≡ Some (c, rest)
    → TakesSimple text c rest
said-taken lead text behind None c rest f r h = cc h
said-taken lead text behind (Some p) c rest f r h =
    let e = same_Some (lead_comparator lead p.0, p.1) (c, rest) h in
    let u = up_to_clean-takes (read_partial behind) p r in grind (arith, partial-takes behind p.0 p.1 u.0, simple-taken)

-- the text before the rest is such a text with a clean end
pub simple-takes : (text : List ℕ) (c : Option Comparator) (rest : List ℕ) → read_simple text ≡ Some (c, rest)
    → TakesSimple text c rest
unfolding read_simple
simple-takes text c rest h = grind (arith, said-taken, lead-takes text)

-- ---- such a text is read

-- no blank is a `=`
blanks-no_equals : (blanks : List ℕ) → AreAll is_blank blanks → BeginsWithNo (λ b. b == 61) blanks
blanks-no_equals blanks h1 = grind (arith, blank-cases, and_parts)

-- after a lead and its blanks the partial is read
record ReadsLed (lead text rest : List ℕ) (p : Partial) : Type 0 where
  pub behind : List ℕ
  pub whole : text ++ rest ≡ lead ++ behind
  pub read : read_partial (rest_of is_blank behind) ≡ Some (p, rest)
  pub no_equals : BeginsWithNo (λ b. b == 61) behind

-- a partial after a lead is read
led-reads : (lead text rest : List ℕ) (p : Partial) → IsLed lead text p → IsCleanEnd rest → ReadsLed lead text rest p
led-reads lead text rest p h clean =
    let e = partial-again h.operand rest p h.read clean in
    record {
      behind = h.blanks ++ (h.operand ++ rest);
      whole = ap (λ (l : List ℕ). l ++ rest) h.whole ∙ simp append_assoc;
      read = ap read_partial (rest_of-all is_blank h.blanks (h.operand ++ rest) h.blank)
          ∙ partial-unblanked (h.operand ++ rest) (p, rest) e;
      no_equals = no-append (λ b. b == 61) h.blanks (h.operand ++ rest) (blanks-no_equals h.blanks h.blank)
          (partial-no 61 (h.operand ++ rest) (p, rest) refl e);
    }

-- a lead and a partial up to a clean end
simple-read : (text : List ℕ) (lead : Lead) (operand rest : List ℕ) (p : Partial) → read_lead text ≡ (lead, operand)
    → read_partial operand ≡ Some (p, rest) → IsCleanEnd rest → read_simple text ≡ Some (lead_comparator lead p, rest)
unfolding read_simple
simple-read text lead operand rest p l r clean = grind arith

-- such a text with a clean end is read
pub simple-again : (text rest : List ℕ) (c : Option Comparator) → IsSimpleText text c → IsCleanEnd rest
    → read_simple (text ++ rest) ≡ Some (c, rest)
simple-again text rest c (by_operator h) clean =
    let r = led-reads (operator_text h.operator) text rest h.partial h.written clean in
    rw (r.whole, h.says) (simple-read (operator_text h.operator ++ r.behind) (operator h.operator)
    (rest_of is_blank r.behind) rest h.partial (lead-operator h.operator r.behind r.no_equals) r.read clean)
simple-again text rest c (plain h) clean =
    let e = partial-again text rest h.partial h.written clean in
    let none = lead-none (text ++ rest) (h.partial, rest) e in
    rw h.says (simple-read (text ++ rest) no_lead (text ++ rest) rest h.partial none e clean)
simple-again text rest c (by_tilde (with_tilde p h says)) clean =
    let r = led-reads (tilde ∷ []) text rest p h clean in
    rw (r.whole, says) (simple-read (tilde ∷ r.behind) tilde_lead (rest_of is_blank r.behind) rest p
    (lead-tilde r.behind (partial-no greater_sign (rest_of is_blank r.behind) (p, rest) refl r.read)) r.read clean)
simple-again text rest c (by_tilde (with_tilde_greater blanks p all h says)) clean =
    let r = led-reads (tilde ∷ (blanks ++ (greater_sign ∷ []))) text rest p h clean in
    let whole : text ++ rest ≡ tilde ∷ (blanks ++ (greater_sign ∷ r.behind)) =
    r.whole ∙ ap (λ (l : List ℕ). tilde ∷ l) (append_assoc blanks (greater_sign ∷ []) r.behind) in
    rw (whole, says) (simple-read (tilde ∷ (blanks ++ (greater_sign ∷ r.behind))) tilde_greater_lead
    (rest_of is_blank r.behind) rest p (lead-tilde_greater blanks r.behind all) r.read clean)
simple-again text rest c (by_caret h) clean =
    let r = led-reads (caret ∷ []) text rest h.partial h.written clean in
    rw (r.whole, h.says) (simple-read (caret ∷ r.behind) caret_lead (rest_of is_blank r.behind) rest h.partial
    (lead-caret r.behind) r.read clean)

-- such a text is one comparator
pub one_simple : (text : List ℕ) (c d : Option Comparator) → IsSimpleText text c → IsSimpleText text d → c ≡ d
one_simple text c d h g =
    ap (λ (w : Word). w.0) (same_Some (c, []) (d, []) (sym (simple-again text [] c h tt) ∙ simple-again text [] d g tt))
