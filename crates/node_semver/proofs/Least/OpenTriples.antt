-- An end that opens a version's triple opens it for each version of that triple.
use native.Mathlib.Omega.{arith}
use Rattle.semver_cuts.specs.declared.cut.Cut.{Cut}
use Rattle.semver_cuts.specs.Ends.{Ends}
use Rattle.semver_sets.specs.Meaning.{HasOpenEnd, Opens}
use Rattle.semver_texts.specs.Version.{HasSameTriple, VersionValue}

triple-along : (u v w : VersionValue) → HasSameTriple u v → HasSameTriple v w → HasSameTriple u w
triple-along u v w one other = grind arith

opens-in_triple : (c : Cut VersionValue) (v w : VersionValue) → HasSameTriple v w → Opens c v → Opens c w
opens-in_triple c v w h1 h2 = grind (arith, triple-along)

pub open_end-in_triple : (set : Ends VersionValue) (v w : VersionValue) → HasSameTriple v w → HasOpenEnd v set
    → HasOpenEnd w set
open_end-in_triple set v w h1 h2 = grind (arith, opens-in_triple)
