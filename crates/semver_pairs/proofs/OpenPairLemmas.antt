-- The pair that is not wholly read.
use Rattle.std.proofs.Common.{◌≡◌, ℕ, List, [], ◌∷◌, ◌++◌, true, false, ap, refl, subst, sym, ◌∙◌, append_assoc}
use Rattle.std.specs.Str.Lines.{strip_carriage_return}
use Rattle.semver_texts.specs.Characters.{newline}
use Rattle.semver_pairs.specs.declared.open_pair.OpenPair.{OpenPair}
use Rattle.semver_pairs.specs.Pairs.{pairs_read}
use Rattle.semver_pairs.specs.Private.OpenPair.{IsOpen, open_bytes}
use Rattle.semver_pairs.specs.Private.Splitting.{BeginsWithLine, BeginsWithPair, HasNoNewline}
use Rattle.std.proofs.Common.{Bool, if◌then◌else◌}
use Rattle.semver_pairs.proofs.LineLemmas.{line-some, no_newline-append}
use Rattle.semver_pairs.proofs.PairLemmas.{one_line-from, pairs-no_newline, pairs-one_line}

-- two lists without a newline, one behind the other
pub behind : (all one other : List ℕ) → all ≡ one ++ other → HasNoNewline one → HasNoNewline other → HasNoNewline all
behind all one other is none none' = subst HasNoNewline (sym is) (no_newline-append one other none none')

-- a range line that is ended, and the version line that more bytes end
pub begins : (old bytes range version_old version line rest : List ℕ) → HasNoNewline range → HasNoNewline version_old
    → old ≡ range ++ (newline ∷ version_old) → version ≡ version_old ++ line → BeginsWithLine bytes line rest
    → BeginsWithPair (old ++ bytes) range (strip_carriage_return version) rest
begins old bytes range version_old version line rest one none is both split = record {
  others = version ++ (newline ∷ rest);
  line = version;
  first = record {
    one_line = one;
    split = ap (λ (l : List ℕ). l ++ bytes) is ∙ append_assoc range (newline ∷ version_old) bytes
        ∙ ap (λ (l : List ℕ). range ++ (newline ∷ l))
        (ap (λ (l : List ℕ). version_old ++ l) split.split ∙ sym (append_assoc version_old line (newline ∷ rest))
        ∙ ap (λ (l : List ℕ). l ++ (newline ∷ rest)) (sym both));
  };
  second = record { one_line = behind version version_old line both none split.one_line; split = refl };
  stripped = refl;
}

-- the bytes of a pair whose range line is ended
pub open_ended : (pair : OpenPair) → pair.is_range_ended ≡ true
    → open_bytes pair ≡ pair.range.items ++ (newline ∷ pair.version.items)
open_ended pair ended = rw ended refl

-- more bytes of the version line are more bytes of the pair
pub version_more : (range version more new : List ℕ) (is_ended : Bool) → is_ended ≡ true → new ≡ version ++ more
    → (if is_ended then range ++ (newline ∷ new) else range)
    ≡ (if is_ended then range ++ (newline ∷ version) else range) ++ more
version_more range version more new is_ended ended is =
    rw (ended, is) (sym (append_assoc range (newline ∷ version) more))

-- an open pair is no complete pair
pub open_none : {pair : OpenPair} → IsOpen pair → pairs_read false (open_bytes pair) ≡ []
open_none {pair = pair} lines = by_end pair.range.items pair.version.items pair.is_range_ended lines.range lines.version
  where
    by_end : (range version : List ℕ) (is_ended : Bool) → HasNoNewline range → HasNoNewline version
        → pairs_read false (if is_ended then range ++ (newline ∷ version) else range) ≡ []
    by_end range version true one none = pairs-one_line range version one none
    by_end range version false one none = pairs-no_newline range one

pub ruleset open_pair = (behind, begins, line-some, one_line-from)
