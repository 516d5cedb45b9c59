-- The findings are those of the packages of the file, whose index and rules are these.
use Rattle.std.proofs.Common.{Result, Ok, Err, IfOk}
use Rattle.std.proofs.lemmas.Result.{IfOk-weaker}
use Rattle.serde_json.specs.View.{members_view, view}
use Rattle.npm_packages.specs.PackageValue.{packages_data}
use Rattle.npm_lock.proofs.MoreFindings.{checked_by}
use Rattle.npm_lock.proofs.lock_file.check_sound_lock.Goals as goal

both_facts : {X E : Type 0} (r : Result X E) (P Q : X → Type 0) → IfOk r P → IfOk r Q → IfOk r (λ x. P x × Q x)
both_facts (Ok x) P Q p q = (p, q)
both_facts (Err e) P Q p q = tt

pub problems_of-requires-clause-index : goal.problems_of-requires-clause-index
problems_of-requires-clause-index c = c.index.ensures (packages_data c.packages.result) c.packages.ensures

pub problems_of-requires-clause-rules : goal.problems_of-requires-clause-rules
problems_of-requires-clause-rules c = c.rules.ensures (packages_data c.packages.result) c.packages.ensures

pub returns : goal.returns
returns c =
    IfOk-weaker c.problems_of.result _ _ (λ problems facts. checked_by (view c.args.lock.now)
    (members_view c.packages.result.members.now.entries) _ problems c.packages.ensures facts.0 facts.1)
    (both_facts c.problems_of.result _ _ c.problems_of.ensures.ascending c.problems_of.ensures.found)
