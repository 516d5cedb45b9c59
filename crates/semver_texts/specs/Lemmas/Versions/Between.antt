-- Versions between two of one triple are of that triple.
use Rattle.std.proofs.Common.{◌⊎◌, sym, arith}
use Rattle.semver_texts.specs.Order.{IsBelow, IsSame}
use Rattle.semver_texts.specs.Version.{HasSameTriple, IsPrerelease, VersionValue}

-- a version between two of one triple is of that triple
pub triple-between : (u v w : VersionValue) → IsBelow u v ⊎ IsSame u v → IsBelow v w ⊎ IsSame v w → HasSameTriple u w
    → HasSameTriple v w
triple-between u v w h k t = grind arith

-- a version of a prerelease's triple that is at most the prerelease is a prerelease too
pub prerelease-below : (v w : VersionValue) → IsBelow v w ⊎ IsSame v w → HasSameTriple v w → IsPrerelease w
    → IsPrerelease v
prerelease-below v w h3 t p = grind arith

pub triple-back : (v w : VersionValue) → HasSameTriple v w → HasSameTriple w v
triple-back v w t = record { major = sym t.major; minor = sym t.minor; patch = sym t.patch }
