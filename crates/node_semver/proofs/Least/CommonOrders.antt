-- What two ranges both admit, in either order.
use Rattle.std.proofs.Common.{List}
use Rattle.semver_cuts.specs.Ends.{Ends}
use Rattle.semver_texts.specs.Version.{VersionValue}
use Rattle.node_semver.specs.Least.{AdmitNoneInCommon, BothAdmit, IsLeastCommon}

turned : (sets others : List (Ends VersionValue)) (v : VersionValue) → BothAdmit sets others v
    → BothAdmit others sets v
turned sets others v both = record { one = both.other; other = both.one }

pub least-turned : (sets others : List (Ends VersionValue)) (v : VersionValue) → IsLeastCommon sets others v
    → IsLeastCommon others sets v
least-turned sets others v least = record {
  wanted = turned sets others v least.wanted;
  none_below = λ w both. least.none_below w (turned others sets w both);
}

pub none-turned : (sets others : List (Ends VersionValue)) → AdmitNoneInCommon sets others
    → AdmitNoneInCommon others sets
none-turned sets others none v both = none v (turned others sets v both)
