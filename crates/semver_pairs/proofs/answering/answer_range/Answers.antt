use Rattle.std.proofs.Common.{◌≡◌, ◌∙◌, IsUtf8, inl, subst, sym}
use Rattle.std.specs.Str.Lines.{strip_carriage_return}
use Rattle.semver_pairs.proofs.MoveLemmas.{range_stop}
use Rattle.semver_pairs.proofs.answering.answer_range.Goals as goal

pub text_of-requires : goal.text_of-requires
text_of-requires g c = λ is. c.without_return.ensures.ascii (c.requires.ascii is).0

-- no text, and so no range
pub answer_versions-requires : goal.answer_versions-requires
answer_versions-requires g c = record {
  one_line = c.requires.one_line;
  range = inl (λ text. c.in_default.ensures.none (subst IsUtf8 (sym c.without_return.ensures.line) text));
  ascii = λ is. let all = c.requires.ascii is in (all.1, all.2);
  unfailed = c.requires.unfailed;
}

pub answer_versions-requires-in-Err-2-clause-one_line : goal.answer_versions-requires-in-Err-2-clause-one_line
answer_versions-requires-in-Err-2-clause-one_line g c = c.requires.one_line

pub answer_versions-requires-in-Err-2-clause-ascii : goal.answer_versions-requires-in-Err-2-clause-ascii
answer_versions-requires-in-Err-2-clause-ascii g c = λ is. let all = c.requires.ascii is in (all.1, all.2)

pub answer_versions-requires-in-Err-2-clause-unfailed : goal.answer_versions-requires-in-Err-2-clause-unfailed
answer_versions-requires-in-Err-2-clause-unfailed g c = c.requires.unfailed

pub answer_versions-requires-in-Ok : goal.answer_versions-requires-in-Ok
answer_versions-requires-in-Ok g c =
    let line : c.in-Some.text.now ≡ strip_carriage_return c.args.pair.now.range.now =
    c.in-Some.ensures.text.0 ∙ c.without_return.ensures.line in record {
      one_line = c.requires.one_line;
      range = (
        (
          subst IsUtf8 c.without_return.ensures.line c.in-Some.ensures.text.1,
          rw line at (rw c.in-Ok.is at c.parse.ensures.accepted),
        ),
        rw line at (rw c.in-Ok.is at c.parse.ensures.means),
      );
      ascii = λ is. let all = c.requires.ascii is in (all.1, all.2);
      unfailed = c.requires.unfailed;
    }

pub returns-in_default : goal.returns-in_default
returns-in_default g c = let given = c.answer_versions.ensures in record {
  answers = given.answers;
  fewer = given.fewer;
  ascii = given.ascii;
  failure = given.failure;
}

-- no memory for the range
pub returns-in-Err : goal.returns-in-Err
returns-in-Err g c = record { answers = range_stop; fewer = tt; ascii = tt; failure = c.requires.unfailed }

pub returns-in-Err-2 : goal.returns-in-Err-2
returns-in-Err-2 g c = let given = c.answer_versions-in-Err-2.ensures in record {
  answers = given.answers;
  fewer = given.fewer;
  ascii = given.ascii;
  failure = given.failure;
}

pub returns : goal.returns
returns g c = let given = c.answer_versions-in-Ok.ensures in record {
  answers = given.answers;
  fewer = given.fewer;
  ascii = given.ascii;
  failure = given.failure;
}
