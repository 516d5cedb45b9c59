-- The candidates of a document, each with its release.
use Rattle.std.proofs.Common.{◌≡◌, ◌∷◌, ◌++◌, List, Some, subst}
use Rattle.std.proofs.lemmas.List.Elements.{All-from_recursion, recursion_from_All}
use Rattle.std.proofs.lemmas.List.Sorted.{All-permutation}
use Rattle.std.specs.List.{AllByRecursion}
use Rattle.serde_json.specs.Data.{Data}
use Rattle.npm_pick.specs.Packument.{Release, manifest_of, releases_in, versions_of}
use Rattle.npm_resolve.specs.Candidates.{AreCandidates, AreListed, IsCandidate, IsEligible}
use Rattle.npm_resolve.specs.declared.candidates.candidate.Candidate.{Candidate}
use Rattle.npm_resolve.specs.declared.candidates.options.Options.{Options}
use Rattle.npm_resolve_laws.specs.Alike.{HasKeysOnce}
use Rattle.npm_resolve_laws.proofs.Listing.{IsListedAt, listed_at, of_each}

-- a candidate has a release, which its key finds
pub record IsKnown (p : Data) (o : Options) (c : Candidate) : Type 0 where
  pub release : Release
  pub there : manifest_of p release.key ≡ Some release.manifest
  pub is : IsCandidate p o release c

module _ (p : Data) (o : Options) (cs : List Candidate) (are : AreCandidates p o cs) where
  -- a fact of all candidates, before they are sorted
  pub carried : (P : Candidate → Type 0) → AllByRecursion P are.all → AllByRecursion P cs
  carried P all = recursion_from_All P cs (All-permutation P are.all cs are.same (All-from_recursion P are.all all))

  pub known : HasKeysOnce p → AllByRecursion (IsKnown p o) cs
  known once = carried (IsKnown p o) (of_each p o (λ (r : Release). manifest_of p r.key ≡ Some r.manifest) (IsKnown p o)
      (λ r c there is. record { release = r; there = there; is = is }) (releases_in (versions_of p)) are.all are.listed once)

  -- a fact of all releases of the document is one of the candidates
  pub of_releases : (Q : Release → Type 0) (P : Candidate → Type 0) → ((r : Release) (c : Candidate) → Q r → IsCandidate p o r c → P c)
      → AllByRecursion Q (releases_in (versions_of p)) → AllByRecursion P cs
  of_releases Q P f all = carried P (of_each p o Q P f (releases_in (versions_of p)) are.all are.listed all)

  pub listed_there : (r : Release) (before after : List Release) → releases_in (versions_of p) ≡ before ++ r ∷ after
      → IsEligible p o r.key → IsListedAt p o before after r are.all
  listed_there r before after parts fit =
      listed_at p o before after r are.all (subst (λ l. AreListed p o l are.all) parts are.listed) fit
