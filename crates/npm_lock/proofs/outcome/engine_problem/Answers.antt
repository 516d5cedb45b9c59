use Rattle.std.proofs.Common.{◌≡◌, ◌∙◌, ℕ, List, None, Option, Some, ap, option_map, refl, sym}
use Rattle.node_semver.specs.Versions.{VersionValue, version_text}
use Rattle.serde_json.specs.Data.{Data}
use Rattle.serde_json.specs.View.{view}
use Rattle.npm_lock.specs.Findings.{IsNodeOutcome}
use Rattle.npm_lock.specs.Outcomes.{admitted, dependency_of, engine, engine_edge, engine_of, unsaid}
use Rattle.npm_lock.specs.declared.problem.Kind.TheVariants.{Engine}
use Rattle.npm_lock.proofs.ProblemTexts.{moved}
use Rattle.npm_lock.proofs.outcome.engine_problem.Goals as goal

says_nothing : (node : Option VersionValue) (folder : List ℕ) (member : Data) → engine_of member ≡ None
    → IsNodeOutcome node folder member None
says_nothing None folder member is = refl
says_nothing (Some node) folder member is = unsaid is

pub returns-in_default : goal.returns-in_default
returns-in_default c = rw c.in_default.is refl

pub returns-in_default-engine_of : goal.returns-in_default-engine_of
returns-in_default-engine_of c = says_nothing _ _ _
    (sym c.engine_of.ensures ∙ ap (option_map (λ t. t.now)) c.in_default-engine_of.is)

pub returns-then-branch : goal.returns-then-branch
returns-then-branch c = rw c.in-Some.is (admitted c.in-Some-engine_of.spec.now (sym c.in-Some-engine_of.ensures)
    (c.in_ok-is_contained.ensures.0 c.if-branch.true))

pub returns : goal.returns
returns c =
    let outcome = engine c.in-Some-engine_of.spec.now (sym c.in-Some-engine_of.ensures)
    (λ admits. cc (c.in_ok-is_contained.ensures.1 admits, c.if-branch.false)) in
    let version : c.as_str.result.now ≡ version_text c.in-Some.node.now = c.as_str.ensures.value ∙ c.in_ok-version.ensures.ok in
    let folder = c.args.asker.folder.now in
    let member = view c.args.asker.member.now in
    let edge = c.engine_edge-edge.ensures
    ∙ ap (λ text. engine_edge folder c.in-Some-engine_of.spec.now (Some text)) version in
    moved (λ problem. IsNodeOutcome (option_map (λ version. version.now) c.args.node) folder member (Some problem)) Engine _ _
    (c.in_ok-dependency.ensures ∙ ap (dependency_of member) edge) (rw c.in-Some.is outcome)
