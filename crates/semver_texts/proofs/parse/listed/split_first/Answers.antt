use native.Mathlib.Omega.{arith}
use Rattle.std.proofs.Common.{◌∙◌, rules}
use Rattle.semver_texts.specs.Private.ListedViews.{is_inner}
use Rattle.semver_texts.specs.Lemmas.Texts.ListedTexts.{listed-ends, split-alone, split-before, split-shorter}
use Rattle.semver_texts.proofs.parse.listed.split_first.Goals as goal

pub returns-in-empty-clause-split : goal.returns-in-empty-clause-split
returns-in-empty-clause-split c =
    let e = listed-ends c.args.text.now c.requires.listed c.requires.some in
    split-alone c.args.text.now _ _ c.requires.listed c.requires.some
    (c.split.ensures.prefix is_inner (search rules) ∙ e.prefix)
    (c.split.ensures.rest is_inner (search rules) ∙ e.rest) c.in-empty.len_below

pub returns-in-len1-up-clause-split : goal.returns-in-len1-up-clause-split
returns-in-len1-up-clause-split c =
    let e = listed-ends c.args.text.now c.requires.listed c.requires.some in
    split-before c.args.text.now _ _ c.requires.listed c.requires.some
    (c.split.ensures.prefix is_inner (search rules) ∙ e.prefix)
    (c.split.ensures.rest is_inner (search rules) ∙ e.rest) c.in-len1-up.len_at_least

pub returns-in-len1-up-clause-shorter : goal.returns-in-len1-up-clause-shorter
returns-in-len1-up-clause-shorter c = grind (arith, listed-ends, split-shorter)
