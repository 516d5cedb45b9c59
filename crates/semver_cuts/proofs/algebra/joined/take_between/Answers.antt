use Rattle.std.proofs.Common.{ap, arith, set, ◌∙◌}
use Rattle.std.proofs.lemmas.List.{length-set}
use borrow.Author.Rules.{rules, scaled_Fits}
use Rattle.semver_cuts.specs.Cut.{cut_cmp}
use Rattle.semver_cuts.specs.Ends.{span_between}
use Rattle.semver_cuts.proofs.Joining.TakenEnds.{end-at, end-kept, end-read, end-unset}
use Rattle.semver_cuts.proofs.algebra.joined.take_between.Goals as goal

pub offset_bounds-spans-begins : goal.offset_bounds-spans-begins
offset_bounds-spans-begins g c = scaled_Fits c.args.begins _ _ c.requires.begins (search rules)

pub bounds-spans-begins : goal.bounds-spans-begins
bounds-spans-begins g c = c.requires.begins

pub offset_bounds-spans-ends : goal.offset_bounds-spans-ends
offset_bounds-spans-ends g c = scaled_Fits c.args.ends _ _ c.requires.ends (search rules)

pub bounds-spans-ends : goal.bounds-spans-ends
bounds-spans-ends g c =
    omega (arith, length-set c.args.spans.now c.args.begins c.take_lower-lower.new.self, c.requires.ends)

pub between-requires : goal.between-requires
between-requires g c =
    let spans = c.args.spans.now in
    let begins = c.args.begins in
    let lower = c.take_lower-lower.ensures.taken
    ∙ end-at (λ s. s.lower) spans begins c.index-spans-begins.result c.requires.begins in
    let upper = c.take_upper-upper.ensures.taken
    ∙ end-read (λ s. s.upper) spans begins c.args.ends c.take_lower-lower.new.self c.index-spans-begins.result
    c.index-spans-ends.result c.requires.begins c.requires.ends (ap (λ s. s.upper) c.take_lower-lower.ensures.left) in
    (λ i. cut_cmp g.T.Ord.cmp (lower i) (upper i)) ∙ c.requires.rising

pub returns-clause-span : goal.returns-clause-span
returns-clause-span g c =
    let spans = c.args.spans.now in
    let begins = c.args.begins in
    let lower = c.take_lower-lower.ensures.taken
    ∙ end-at (λ s. s.lower) spans begins c.index-spans-begins.result c.requires.begins in
    let upper = c.take_upper-upper.ensures.taken
    ∙ end-read (λ s. s.upper) spans begins c.args.ends c.take_lower-lower.new.self c.index-spans-begins.result
    c.index-spans-ends.result c.requires.begins c.requires.ends (ap (λ s. s.upper) c.take_lower-lower.ensures.left) in
    c.between.ensures ∙ (λ i. span_between (lower i) (upper i))

pub returns-clause-lowers : goal.returns-clause-lowers
returns-clause-lowers g c = λ k apart.
    let left = set c.args.spans.now c.args.begins c.take_lower-lower.new.self in
    end-kept (λ s. s.lower) left c.args.ends k c.take_upper-upper.new.self c.index-spans-ends.result
    (omega (arith, length-set c.args.spans.now c.args.begins c.take_lower-lower.new.self, c.requires.ends))
    (ap (λ s. s.lower) c.take_upper-upper.ensures.left)
    ∙ end-unset (λ s. s.lower) c.args.spans.now c.args.begins k c.take_lower-lower.new.self apart

pub returns-clause-uppers : goal.returns-clause-uppers
returns-clause-uppers g c = λ k apart.
    let left = set c.args.spans.now c.args.begins c.take_lower-lower.new.self in
    end-unset (λ s. s.upper) left c.args.ends k c.take_upper-upper.new.self apart
    ∙ end-kept (λ s. s.upper) c.args.spans.now c.args.begins k c.take_lower-lower.new.self c.index-spans-begins.result
    c.requires.begins (ap (λ s. s.upper) c.take_lower-lower.ensures.left)
