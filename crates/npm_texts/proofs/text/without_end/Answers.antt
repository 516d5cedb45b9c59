-- What `strip_suffix` gives, or the whole text.
use Rattle.std.proofs.Common.{◌≡◌, ◌∙◌, ◌+◌, ◌-◌, ℕ, List, true, false, Option, Some, None, ap, arith, length, refl}
use Rattle.std.proofs.Common.{take}
use Rattle.std.specs.List.{ends_with}
use Rattle.std.specs.Option.{MatchOption}
use Rattle.std.specs.Prelude.{nat_eq}
use Rattle.std.specs.Str.Pattern.{FindsTextSuffix}
use denote.Ref.{Bor}
use Rattle.std.proofs.lemmas.Str.Pattern.{ends_text}
use Rattle.npm_texts.specs.Texts.{without_end}
use Rattle.npm_texts.proofs.text.without_end.Goals as goal

stripped : (end text given : List ℕ) (r : Option (Bor (List ℕ)))
    → MatchOption r (FindsTextSuffix end text None)
    (λ x. (n : ℕ) × FindsTextSuffix end text (Some n) × (x.now ≡ take (length text - n) text)
    × (length x.now + n ≡ length text))
    → MatchOption r (given ≡ text) (λ x. given ≡ x.now) → given ≡ without_end end text
stripped end text given None none is =
    let no : false ≡ ends_with nat_eq text end = ends_text false end text none in rw (← no) is
stripped end text given (Some x) some is =
    let yes : true ≡ ends_with nat_eq text end =
    ends_text true end text (some.0, some.1, omega (arith, some.3), rw (ap (λ n. length text - n) some.1.0) some.1.2) in
    rw (← yes) (is ∙ some.2 ∙ ap (λ n. take (length text - n) text) some.1.0)

pub returns-in-Some : goal.returns-in-Some
returns-in-Some c = stripped c.args.end.now c.args.text.now c.in-Some.front.now c.strip_suffix.result
    c.strip_suffix.ensures.cases (rw c.in-Some.is refl)

pub returns-in-None : goal.returns-in-None
returns-in-None c = stripped c.args.end.now c.args.text.now c.args.text.now c.strip_suffix.result
    c.strip_suffix.ensures.cases (rw c.in-None.is refl)
