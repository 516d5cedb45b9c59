-- Ranges of the same cuts admit the same versions.
use native.Mathlib.Omega.{arith}
use Rattle.std.proofs.Common.{◌≡◌, ◌↔◌, List, [], ◌∷◌, inl, inr}
use Rattle.std.specs.declared.cmp.Ordering.TheVariants.{Equal}
use Rattle.semver_cuts.specs.declared.cut.Cut.{Cut}
use Rattle.semver_cuts.specs.declared.cut.Cut.TheVariants.{Before}
use Rattle.semver_cuts.specs.Cut.{cut_cmp}
use Rattle.semver_cuts.specs.Ends.{AreSameEnds, Ends}
use Rattle.semver_cuts.specs.Lemmas.CutOrder.{equal-by_kind}
use Rattle.semver_cuts.specs.Lemmas.Ends.{same_ends-back, same_ends-in_span}
use Rattle.semver_texts.specs.Comparison.{version_cmp}
use Rattle.semver_texts.specs.Lemmas.Public.{Equal-version, version_total}
use Rattle.semver_sets.specs.Meaning.{HasOpenEnd, Opens, RangeAdmits, SetAdmits}
use Rattle.semver_sets.specs.RangeEquality.{AreSameCuts}
use Rattle.semver_texts.specs.Version.{HasSameTriple, IsPrerelease, VersionValue}

-- versions that are the same but for the build open the same triple
opened-same : (p q v : VersionValue) → version_cmp p q ≡ Equal → IsPrerelease p × HasSameTriple p v
    → IsPrerelease q × HasSameTriple q v
opened-same p q v e opened = grind (arith, Equal-version)

-- and so do equal cuts
opens-same : (c d : Cut VersionValue) (v : VersionValue) → cut_cmp version_cmp c d ≡ Equal → Opens c v → Opens d v
opens-same c d v = grind (arith, equal-by_kind, opened-same)

open_end-same : (one other : Ends VersionValue) (v : VersionValue) → AreSameEnds version_cmp one other
    → HasOpenEnd v one → HasOpenEnd v other
open_end-same one other v h1 h2 = grind (arith, opens-same)

set-admits : (one other : Ends VersionValue) (v : VersionValue) → AreSameEnds version_cmp one other
    → SetAdmits one v → SetAdmits other v
set-admits one other v same admits = record {
  inside = same_ends-in_span version_total one other (Before v) same admits.inside;
  opened = λ pre. open_end-same one other v same (admits.opened pre);
}

admits-onward : (one other : List (Ends VersionValue)) → AreSameCuts one other → (v : VersionValue)
    → RangeAdmits one v → RangeAdmits other v
admits-onward [] other same v admits = absurd admits
admits-onward (s ∷ one) [] same v admits = absurd same
admits-onward (s ∷ one) (t ∷ other) same v (inl here) = inl (set-admits s t v same.0 here)
admits-onward (s ∷ one) (t ∷ other) same v (inr there) = inr (admits-onward one other same.1 v there)

same-back : (one other : List (Ends VersionValue)) → AreSameCuts one other → AreSameCuts other one
same-back [] [] same = tt
same-back [] (t ∷ other) same = absurd same
same-back (s ∷ one) [] same = absurd same
same-back (s ∷ one) (t ∷ other) same = (same_ends-back version_total s t same.0, same-back one other same.1)

-- ranges of the same cuts admit the same versions
pub same-admit : (one other : List (Ends VersionValue)) → AreSameCuts one other → (v : VersionValue)
    → RangeAdmits one v ↔ RangeAdmits other v
same-admit one other same v = grind (arith, admits-onward, same-back)
