-- One more text is in one of the sets.
use Rattle.std.proofs.Common.{◌∙◌, sym}
use Rattle.std.proofs.lemmas.Result.{on_ok_weaker}
use Rattle.npm_lock.proofs.StarPatterns.{folder_more, star_more, tree_more}
use Rattle.npm_lock.proofs.patterns.Patterns.add.Goals as goal

pub returns-in_ok-add_base-clause-matched : goal.returns-in_ok-add_base-clause-matched
returns-in_ok-add_base-clause-matched c = on_ok_weaker c.add_text.result (λ more read folder.
    tree_more c.args.pattern.now c.args.self.now.trees c.add_text.new.texts folder read
    (sym c.ends_with.ensures ∙ c.if-ends_with.true) (rw c.stem_of-stem.ensures at (c.in_ok-add_base.ensures folder))
    (rw c.stem_of-stem.ensures at more)) c.add_text.ensures

pub returns-then-ends_with-2-clause-matched : goal.returns-then-ends_with-2-clause-matched
returns-then-ends_with-2-clause-matched c = on_ok_weaker c.add_text-then-ends_with-2.result (λ more read folder.
    star_more c.args.pattern.now c.args.self.now.stars c.add_text-then-ends_with-2.new.texts folder read
    (sym c.ends_with.ensures ∙ c.if-ends_with.false) (sym c.ends_with-else-ends_with.ensures ∙ c.if-ends_with-2.true)
    (rw c.stem_of-stem.ensures at more)) c.add_text-then-ends_with-2.ensures

pub returns-else-ends_with-2-clause-matched : goal.returns-else-ends_with-2-clause-matched
returns-else-ends_with-2-clause-matched c = on_ok_weaker c.add_text-else-ends_with-2.result (λ more read folder.
    folder_more c.args.pattern.now c.args.self.now.folders c.add_text-else-ends_with-2.new.texts folder
    (sym c.ends_with.ensures ∙ c.if-ends_with.false) (sym c.ends_with-else-ends_with.ensures ∙ c.if-ends_with-2.false)
    (more folder)) c.add_text-else-ends_with-2.ensures
