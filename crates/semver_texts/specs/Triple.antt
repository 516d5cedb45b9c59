-- The three numbers of a version and their order: SemVer 2.0.0, section 11.
use Rattle.std.specs.Ordering.{nat_cmp, on, then_cmp}
use Rattle.std.specs.declared.cmp.Ordering.{Ordering}
use Rattle.semver_texts.specs.Version.{VersionValue}
use Rattle.semver_texts.specs.declared.triple.Triple.{Triple}

-- the triple of a version: 1, 2 and 3 of `1.2.3-rc.4`
abbrev pub triple_of : VersionValue → Triple
triple_of v = record { major = v.major; minor = v.minor; patch = v.patch }

-- by major, then by minor, then by patch
abbrev pub triple_cmp : Triple → Triple → Ordering
triple_cmp = then_cmp (on (λ (t : Triple). t.major) nat_cmp)
    (then_cmp (on (λ (t : Triple). t.minor) nat_cmp) (on (λ (t : Triple). t.patch) nat_cmp))
