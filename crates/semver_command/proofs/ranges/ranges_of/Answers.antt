-- One range more.
use Rattle.semver_command.specs.Ranges.{IsAdmittedBy, IsIn, text_value}
use Rattle.semver_command.proofs.AllTexts.{all_done, all_more}
use Rattle.semver_command.proofs.ranges.ranges_of.Goals as goal

pub loop-text-preserved : goal.loop-text-preserved
loop-text-preserved c = λ v. all_more (λ range. IsIn c.args.options.include_prerelease range v)
    (λ text. IsAdmittedBy c.args.options text v) text_value c.args.texts.now c.loop-text.text-index _
    c.loop-text.ranges.items c.push.new.self.items c.in_ok-range_of.field-0 c.loop-text-test.true
    (c.in_ok-range_of.ensures v) c.in_ok-push.ensures.items (c.loop-text.invariant v)

pub returns : goal.returns
returns c = λ v. all_done (λ range. IsIn c.args.options.include_prerelease range v)
    (λ text. IsAdmittedBy c.args.options text v) text_value c.args.texts.now c.loop-text.text-index
    c.loop-text.ranges.items c.loop-text-test.false (c.loop-text.invariant v)
