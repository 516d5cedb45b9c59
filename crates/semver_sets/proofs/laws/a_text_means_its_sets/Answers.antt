use Rattle.semver_sets.proofs.Ranges.RangeBounds.{text-bounded}
use Rattle.semver_sets.proofs.Sets.SetLemmas.{empty-from_refused, refused-from_empty, text-admits}
use Rattle.semver_sets.proofs.laws.a_text_means_its_sets.Goals as goal

pub returns : goal.returns
returns c = λ text sets are. record {
  refused = (empty-from_refused text sets are, refused-from_empty text sets are);
  admits = text-admits text sets are;
  holds = text-bounded text sets are;
}
