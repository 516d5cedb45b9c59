use Rattle.std.proofs.Common.{◌≡◌, ℕ, List, [], ◌++◌, true, sym}
use Rattle.std.proofs.lemmas.Result.{on_ok_weaker}
use Rattle.semver_pairs.specs.Private.OpenPair.{IsOpen}
use Rattle.semver_pairs.specs.Private.Splitting.{HasNoNewline}
use Rattle.semver_pairs.proofs.OutputLemmas.{false_not_true}
use Rattle.semver_pairs.proofs.PairLemmas.{one_line-from}
use Rattle.semver_pairs.proofs.open_pair.OpenPair.begin.Goals as goal

-- a line that was added to nothing
line_alone : (all before line : List ℕ) → before ≡ [] → all ≡ before ++ line → HasNoNewline line → HasNoNewline all
line_alone all before line none is one = rw (is, none) one

pub returns-in_ok-append-in-Some-clause-lines : goal.returns-in_ok-append-in-Some-clause-lines
returns-in_ok-append-in-Some-clause-lines c =
    let split = c.in-Some.ensures.split in
    let version = c.append-in-Some.new.text in
    on_ok_weaker {Q = IsOpen record { range = c.append.new.text; is_range_ended = true; version = version }}
    c.append-in-Some.result (λ more. record {
      range = line_alone _ _ _ c.clear.ensures.items c.in_ok-append-in-Some.ensures.appended split.one_line;
      version = line_alone _ _ _ c.clear-2.ensures.items more (one_line-from split c.requires);
      none_yet = λ is. false_not_true (sym is);
    }) c.append-in-Some.ensures.appended
