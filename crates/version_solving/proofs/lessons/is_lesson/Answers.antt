use Rattle.std.proofs.Common.{All, subst, sym}
use Rattle.std.proofs.lemmas.Result.{IfOk-weaker}
use Rattle.version_solving.specs.Private.Values.{IsMet}
use Rattle.version_solving.proofs.lessons.is_lesson.Goals as goal

pub returns : goal.returns
returns c = IfOk-weaker c.apply_all.result _ _
    (λ is over yes s fits met. over yes s fits (c.in_ok-ruled.ensures s (subst (All (IsMet s)) (sym c.deref.ensures.value) met))) c.apply_all.ensures
