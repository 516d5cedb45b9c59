use Rattle.semver_sets.specs.Lemmas.Merging.{loses-nothing, merged-admits}
use Rattle.semver_sets.proofs.laws.merging_loses_nothing.Goals as goal

pub returns : goal.returns
returns c = record {
  opened = λ comparators set v is. loses-nothing comparators set is v;
  admits = λ comparators set v is. merged-admits comparators set is v;
}
