use Rattle.std.proofs.Common.{rules, tests}
use Rattle.std.proofs.lemmas.Iterator.Adapters.{YieldsList-from_bytes}
use Rattle.std.proofs.lemmas.Iterator.Search.{all_from_yields_List}
use Rattle.npm_lock.specs.Private.RangeBytes.{is_range_byte}
use Rattle.npm_lock.proofs.verdict.has_range_bytes_alone.Goals as goal

pub returns : goal.returns
returns c = all_from_yields_List is_range_byte _ _ _ c.all.ensures.ran (YieldsList-from_bytes c.args.spec.now cc)
    (λ x b q k. search (rules, tests))
