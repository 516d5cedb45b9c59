-- A step rules out what no selection that fits has; a choice is the next one, and the best that is left.
use Rattle.std.proofs.Common.{◌≡◌, ◌∙◌, None, ap, is_none, reverse, rules, subst, sym, true}
use Rattle.version_solving.specs.Documents.{problem_of}
use Rattle.version_solving.specs.Solving.{next_name}
use Rattle.version_solving.specs.declared.replay.Path.{Path}
use Rattle.version_solving.specs.declared.ruled.Ruled.{Ruled}
use Rattle.version_solving.specs.Private.Paths.{AreRuled, IsPath, made}
use Rattle.version_solving.proofs.OpenDemands.{none_from}
use Rattle.version_solving.proofs.Replaying.{done}
use Rattle.version_solving.proofs.replay.replayed.Goals as goal
use Rattle.version_solving.proofs.replay.replayed.Goals.{in-Step+in_ok-_is_over-in-Step, in-Choose+in_ok-choose-in-Choose+else-not-branch}

pub loop-one-preserved : goal.loop-one-preserved
loop-one-preserved c =
    let p = problem_of c.args.root.now c.args.documents.now in
    elim c.match-one.branch [
      | in-Step+in_ok-_is_over-in-Step w ↦ record {
        path = subst (IsPath p) (sym w.path-is) c.loop-one.invariant.path;
        ruled = subst (λ (x : Path). AreRuled p (made x) c.match-one.ruled.rows.items) (sym w.path-is)
            (subst (λ (r : Ruled). AreRuled p (made c.loop-one.path) r.rows.items) (sym w.ruled-is)
            (λ s fits keeps. w.in_ok-_is_over-in-Step.ensures.keeps s fits (c.loop-one.invariant.ruled s fits keeps)));
      }
      | in-Choose+in_ok-choose-in-Choose+else-not-branch w ↦ record {
        path = subst (IsPath p) (sym w.path-is) (w.in_ok-choose-in-Choose.ensures.path w.if-not-branch.false);
        ruled = subst (λ (x : Path). AreRuled p (made x) c.match-one.ruled.rows.items) (sym w.path-is)
            (subst (λ (r : Ruled). AreRuled p (made w.choose.new.path) r.rows.items) (sym w.ruled-is)
            (w.in_ok-choose-in-Choose.ensures.ruled w.if-not-branch.false));
      }
    ]

pub returns-then-is_allowed : goal.returns-then-is_allowed
returns-then-is_allowed c =
    let p = problem_of c.args.root.now c.args.documents.now in
    let free : is_none c.next.result ≡ true = search rules in
    let none : next_name p (made c.next.new.self) ≡ None =
    ap (λ cs. next_name p (reverse cs)) c.next.ensures.choices
    ∙ (sym c.next.ensures.name ∙ none_from c.next.result free) in
    done p c.next.new.self c.next.ensures.path none (c.is_allowed.ensures c.if-is_allowed.true)
