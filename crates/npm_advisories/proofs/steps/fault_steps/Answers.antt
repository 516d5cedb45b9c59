-- What refuses a lock file refuses it with any advisories.
use Rattle.serde_json.specs.View.{view}
use Rattle.npm_advisories.proofs.steps.fault_steps.Goals as goal

pub returns-in-Err : goal.returns-in-Err
returns-in-Err c = λ today. c.in-Err.ensures.refused today (view c.args.file.now)
