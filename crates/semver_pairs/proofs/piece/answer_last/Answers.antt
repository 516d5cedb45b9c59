use Rattle.std.proofs.Common.{◌≡◌, true, refl}
use Rattle.semver_pairs.proofs.FailureLemmas.{on_err, tells-on, write-tells}
use Rattle.semver_pairs.proofs.RunLemmas.{last_none, last_written, last_written_part}
use Rattle.semver_pairs.proofs.piece.answer_last.Goals as goal

pub returns-then-is_empty : goal.returns-then-is_empty
returns-then-is_empty g c = record {
  answers = last_none c.args.kept.now (c.is_empty.ensures.0 c.if-is_empty.true);
  failure = c.requires.unfailed;
}

pub add_last-requires : goal.add_last-requires
add_last-requires g c = record {
  lines = c.requires.lines;
  some = λ none. let told : c.is_empty.result ≡ true = c.is_empty.ensures.1 none in cc (told, c.if-is_empty.false);
  written = c.requires.written;
  unfailed = c.requires.unfailed;
}

pub returns-in_err-add_last : goal.returns-in_err-add_last
returns-in_err-add_last g c = record {
  answers = on_err _ _ c.from_residual.ensures.0 c.in_err-add_last.ensures.answers;
  failure = tells-on _ _ _ c.from_residual.ensures.1 c.in_err-add_last.ensures.failure;
}

pub returns-in_err-flush : goal.returns-in_err-flush
returns-in_err-flush g c =
    let some = last_written_part c.in_ok-add_last.ensures.answers c.in_err-flush.ensures.part in record {
      answers = on_err _ _ c.from_residual-in_err-flush.ensures.0 some;
      failure = tells-on _ _ _ c.from_residual-in_err-flush.ensures.1
          (write-tells _ c.in_err-flush.ensures.only (c.in_err-flush.ensures.write.0 refl));
    }

pub returns : goal.returns
returns g c = record {
  answers = last_written c.in_ok-add_last.ensures.answers c.in_ok-flush.ensures.all;
  failure = λ failed. cc (c.in_ok-flush.ensures.write.1 failed);
}
