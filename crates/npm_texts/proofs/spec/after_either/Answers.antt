-- The first byte is one of the two, or neither.
use Rattle.std.proofs.Common.{◌≡◌, ◌≢◌, ◌==◌, ℕ, List, [], ◌∷◌, Bool, true, false, Option, Some, None}
use Rattle.std.proofs.Common.{ap, eq-eqb, eqb→eq, option_map, refl}
use Rattle.std.specs.Option.{MatchOption}
use denote.Ref.{Bor}
use Rattle.std.proofs.lemmas.Str.Pattern.{strip_prefix_char}
use Rattle.npm_texts.specs.RangeText.{past_either}
use Rattle.npm_texts.proofs.spec.after_either.Goals as goal

-- what `strip_prefix` of a character gives
abbrev Strips : (c : ℕ) (text : List ℕ) → Option (Bor (List ℕ)) → Type 0
Strips c text r = MatchOption r ((rest : List ℕ) → text ≢ c ∷ rest) (λ x. text ≡ c ∷ x.now)

unlike : (b c : ℕ) (mark : Bool) → (b == c) ≡ mark → b ≢ c → (b == c) ≡ false
unlike b c true is differ = absurd (differ (eqb→eq b c (rw is tt)))
unlike b c false is differ = is

second : (c d : ℕ) (text rest : List ℕ) (mark : Bool) → (d == c) ≡ mark → text ≡ d ∷ rest
    → Some rest ≡ past_either c d text
second c d text rest true is here = rw (here, is) refl
second c d text rest false is here = let same : (d == d) ≡ true = eq-eqb d d refl in rw (here, is, same) refl

neither : (c d : ℕ) (text : List ℕ) → ((rest : List ℕ) → text ≢ c ∷ rest) → ((rest : List ℕ) → text ≢ d ∷ rest)
    → None ≡ past_either c d text
neither c d [] no_c no_d = refl
neither c d (b ∷ bs) no_c no_d =
    let one : (b == c) ≡ false = unlike b c (b == c) refl (λ e. no_c bs (ap (λ x. x ∷ bs) e)) in
    let other : (b == d) ≡ false = unlike b d (b == d) refl (λ e. no_d bs (ap (λ x. x ∷ bs) e)) in
    rw (one, other) refl

by_second : (c d : ℕ) (text : List ℕ) (r : Option (Bor (List ℕ))) → ((rest : List ℕ) → text ≢ c ∷ rest)
    → Strips d text r → option_map (λ x. x.now) r ≡ past_either c d text
by_second c d text None no_c strips = neither c d text no_c strips
by_second c d text (Some x) no_c strips = second c d text x.now (d == c) refl strips

pub returns-in-None : goal.returns-in-None
returns-in-None c =
    let strips = strip_prefix_char c.args.character c.args.text.now c.strip_prefix.result c.strip_prefix.ensures.cases
    c.requires.1 in
    by_second c.args.character c.args.other c.args.text.now c.strip_prefix-in-None.result (rw c.in-None.is at strips)
    (strip_prefix_char c.args.other c.args.text.now c.strip_prefix-in-None.result c.strip_prefix-in-None.ensures.cases
    c.requires.3)
