use Rattle.std.proofs.Common.{arith}
use Rattle.npm_sets.proofs.Full.FullMeaning.{full-text}
use Rattle.npm_sets.proofs.read.full.read_full.Goals as goal

pub returns : goal.returns
returns c =
    full-text c.args.options c.args.text.now c.split_mark-lead.result.1.now c.in_ok-major.rest.now
    c.in_ok-minor.rest.now c.split_mark-lead.result.0 c.full_form.result c.in_ok-major.major c.in_ok-minor.minor
    c.in_ok-patch.patch c.split_mark-lead.ensures (omega arith) (c.in_ok-major.ensures.read c.args.options.loose) (c.in_ok-minor.ensures.read c.args.options.loose)
    (c.in_ok-patch.ensures.read c.args.options.loose) c.full_form.ensures c.if-options.false (record {
      major_limit = c.in_ok-major.ensures.limit;
      minor_limit = c.in_ok-minor.ensures.limit;
      patch_limit = c.in_ok-patch.ensures.limit;
    })
