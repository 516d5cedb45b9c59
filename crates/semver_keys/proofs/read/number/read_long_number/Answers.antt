use Rattle.std.proofs.Common.{◌∙◌, arith, ap, drop, sym}
use Rattle.semver_keys.proofs.NumberReading.{long-read, none-above, none-padded, none-short, none-small, part-bytes}
use Rattle.semver_keys.proofs.read.number.read_long_number.Goals as goal

pub returns-then-count-gt8-clause-none : goal.returns-then-count-gt8-clause-none
returns-then-count-gt8-clause-none c = none-above _ _ (omega arith)

pub returns-in_default-clause-none : goal.returns-in_default-clause-none
returns-in_default-clause-none c = none-short _ _ (omega arith) (omega (arith, c.in_default.ensures.cases))

pub returns-then-n-lt-SHORT_NUMBERS-clause-none : goal.returns-then-n-lt-SHORT_NUMBERS-clause-none
returns-then-n-lt-SHORT_NUMBERS-clause-none c = none-small c.number_of-n.result _ _ (omega arith)
    (part-bytes _ _ _ _ _ c.from.ensures c.in-Some.ensures.cases.1 c.in-Some.ensures.cases.3 c.number_of-n.ensures.fits
    c.number_of-n.ensures.bytes) (omega arith)

pub returns-then-byte_count-count-clause-none : goal.returns-then-byte_count-count-clause-none
returns-then-byte_count-count-clause-none c = none-padded c.number_of-n.result _ _ (omega arith)
    (part-bytes _ _ _ _ _ c.from.ensures c.in-Some.ensures.cases.1 c.in-Some.ensures.cases.3 c.number_of-n.ensures.fits
    c.number_of-n.ensures.bytes) (λ e. c.if-byte_count-count.true (c.byte_count.ensures.count ∙ e))

pub returns-clause-read : goal.returns-clause-read
returns-clause-read c = long-read c.number_of-n.result _ _ _ (omega arith) (omega arith)
    (part-bytes _ _ _ _ _ c.from.ensures c.in-Some.ensures.cases.1 c.in-Some.ensures.cases.3 c.number_of-n.ensures.fits
    c.number_of-n.ensures.bytes)
    (c.in-Some.ensures.cases.2 ∙ ap (λ k. drop k c.args.rest.now) c.from.ensures) (omega arith)
    (sym c.byte_count.ensures.count ∙ c.if-byte_count-count.false)
