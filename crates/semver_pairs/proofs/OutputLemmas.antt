-- What was read and written, and what waits.
use Rattle.std.proofs.Common.{◌≡◌, ◌≢◌, ◌↔◌, ℕ, ◌<◌, List, [], ◌++◌, length, take, drop, true, false, Option, arith}
use Rattle.std.proofs.Common.{ap, refl, subst, sym, ◌∙◌}
use Rattle.std.proofs.Common.{append_assoc, append-nil, take-append-drop}
use Rattle.std.specs.Io.KnownBytes.{Appends, IsAtEnd}
use Rattle.std.proofs.KnownBytes.{Appends-nil, Appends-trans, Consumes-nil}
use Rattle.semver_pairs.specs.GaugeValue.{GaugeValue, HasFailed, HasReportedEnd}
use Rattle.semver_pairs.specs.Output.{AreAnswers, BeginsAnswers, Exchanges, HasEnded, IsOutputBeforeEnd}
use Rattle.semver_pairs.specs.Output.{IsOutputPrefix}
use Rattle.semver_pairs.specs.Pairs.{pairs_read}
use Rattle.semver_pairs.specs.Private.Answering.{AnswersUpTo, Moves}
use Rattle.semver_pairs.proofs.AnswerLemmas.{answers-exist}
use Rattle.semver_pairs.proofs.PairLemmas.{answers-all}

-- ---- output that waits

pub moves-none : {contents : Option (List ℕ)} {waiting : List ℕ} → Moves contents contents waiting [] waiting
moves-none {contents = contents} {waiting = waiting} =
    record { written = []; put = Appends-nil contents; all = append-nil waiting }

-- added output waits too
pub moves-hold : {contents : Option (List ℕ)} {waiting added : List ℕ}
    → Moves contents contents waiting added (waiting ++ added)
moves-hold {contents = contents} = record { written = []; put = Appends-nil contents; all = refl }

pub moves-trans : {old mid new : Option (List ℕ)} {waiting one held other left : List ℕ}
    → Moves old mid waiting one held → Moves mid new held other left → Moves old new waiting (one ++ other) left
moves-trans {old = old} {mid = mid} {new = new} {waiting = waiting} {one = one} {held = held} {other = other} {left =
    left} first second = record {
      written = first.written ++ second.written;
      put = Appends-trans old mid new first.written second.written first.put second.put;
      all = sym (append_assoc waiting one other) ∙ ap (λ (l : List ℕ). l ++ other) first.all
          ∙ append_assoc first.written held other ∙ ap (λ (l : List ℕ). first.written ++ l) second.all
          ∙ sym (append_assoc first.written second.written left);
    }

-- some of what waits was written, before more is added
pub moves-part : {old new : Option (List ℕ)} {waiting added : List ℕ} (count : ℕ) → Appends old new (take count waiting)
    → Moves old new waiting added (drop count waiting ++ added)
moves-part {waiting = waiting} {added = added} count part = record {
  written = take count waiting;
  put = part;
  all = ap (λ (l : List ℕ). l ++ added) (sym (take-append-drop count waiting))
      ∙ append_assoc (take count waiting) (drop count waiting) added;
}

-- all of it was
pub moves-all : {old new : Option (List ℕ)} {waiting added : List ℕ} → Appends old new waiting
    → Moves old new waiting added added
moves-all {waiting = waiting} all = record { written = waiting; put = all; all = refl }

-- ---- reading and writing

-- nothing was read, and nothing was written
pub exchanges-nothing : (Ended : Type 0) {remaining contents : Option (List ℕ)}
    → Exchanges (IsOutputPrefix Ended) remaining remaining contents contents
exchanges-nothing Ended {remaining = remaining} {contents = contents} = record {
  read = [];
  written = [];
  taken = Consumes-nil remaining;
  put = Appends-nil contents;
  together = (false, λ is_end. cc is_end, ([], refl));
}

pub exchanges-none_back : {remaining contents : Option (List ℕ)}
    → Exchanges IsOutputBeforeEnd remaining remaining contents contents
exchanges-none_back {remaining = remaining} {contents = contents} = record {
  read = [];
  written = [];
  taken = Consumes-nil remaining;
  put = Appends-nil contents;
  together = refl;
}

-- the output for all complete pairs
pub before_end : {read rest added : List ℕ} → AnswersUpTo read rest added → pairs_read false rest ≡ []
    → IsOutputBeforeEnd read added
before_end {read = read} {rest = rest} {added = added} up_to none =
    let nothing : AreAnswers (pairs_read false rest) [] = subst (λ pairs. AreAnswers pairs []) (sym none) refl in
    subst (AreAnswers (pairs_read false read)) (append-nil added) (answers-all false [] up_to nothing)

-- some of them
pub begins-some : {read rest added : List ℕ} (written left : List ℕ) → AnswersUpTo read rest added
    → added ≡ written ++ left → BeginsAnswers (pairs_read false read) written
begins-some {read = read} {rest = rest} {added = added} written left up_to is =
    let some = answers-exist (pairs_read false rest) in
    let all : AreAnswers (pairs_read false read) (added ++ some.0) = answers-all false some.0 up_to some.1 in (
      left ++ some.0,
      subst (AreAnswers (pairs_read false read))
          (ap (λ (l : List ℕ). l ++ some.0) is ∙ append_assoc written left some.0) all,
    )

-- the two truths differ
pub false_not_true : {P : Type 0} → false ≡ true → P
false_not_true is = cc is

-- a read gave no byte although there was room
pub has_ended : {R : Type 0} (remaining : R → Option (List ℕ)) (gauge : GaugeValue R) (piece : List ℕ) (count : ℕ)
    → count ≡ 0 → 0 < length piece → (HasReportedEnd gauge ↔ ((count ≡ 0) × (piece ≢ [])))
    → (count ≡ 0 → 0 < length piece → IsAtEnd (remaining gauge.inner)) → ¬ HasFailed gauge → HasEnded remaining gauge
has_ended remaining gauge piece count no_byte room told at_end unfailed = (
  told.1 (no_byte, λ empty. let none : length piece ≡ 0 = ap length empty in omega arith),
  at_end no_byte room,
  unfailed,
)
