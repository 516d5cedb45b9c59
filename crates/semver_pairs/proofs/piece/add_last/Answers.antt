use Rattle.std.proofs.Common.{◌≡◌, true, refl}
use Rattle.std.proofs.lemmas.Result.{MatchResult-weaker}
use Rattle.semver_pairs.proofs.FailureLemmas.{on_err, tells-on, write-tells}
use Rattle.semver_pairs.proofs.MoveLemmas.{last_pair}
use Rattle.semver_pairs.proofs.RunLemmas.{last_lone, last_lone_part, last_pair_part}
use Rattle.semver_pairs.proofs.piece.add_last.Goals as goal

pub returns-in_err-put : goal.returns-in_err-put
returns-in_err-put g c =
    let part = rw c.requires.written at c.in_err-put.ensures.part in
    let some = last_lone_part c.requires.lines c.requires.some
    (λ whole. let told : c.has_version.result ≡ true = c.has_version.ensures.1 whole in
    cc (told, c.if-not-has_version.true)) part in record {
      answers = on_err _ _ c.from_residual.ensures.0 some;
      failure = tells-on _ _ _ c.from_residual.ensures.1
          (write-tells _ c.in_err-put.ensures.only (c.in_err-put.ensures.write.0 refl));
    }

pub returns-then-not-has_version : goal.returns-then-not-has_version
returns-then-not-has_version g c =
    let moves = rw c.requires.written at c.in_ok-put.ensures.put in record {
      answers = last_lone c.requires.lines c.requires.some
          (λ whole. let told : c.has_version.result ≡ true = c.has_version.ensures.1 whole in
          cc (told, c.if-not-has_version.true)) moves;
      failure = λ failed. cc (c.in_ok-put.ensures.write.1 failed);
    }

pub returns : goal.returns
returns g c =
    let whole = c.has_version.ensures.0 c.if-not-has_version.false in
    let answers = rw (c.range.ensures, c.version.ensures, c.requires.written) at c.answer_one.ensures.answers in
    record {
      answers = MatchResult-weaker _ answers (λ x one. last_pair c.requires.lines whole.0 whole.1 one)
          (λ e some. last_pair_part c.requires.lines whole some);
      failure = c.answer_one.ensures.failure;
    }
