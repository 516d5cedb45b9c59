-- What the definitions say of small manifests and documents, and of the order of candidates.
use Rattle.std.proofs.Common.{◌≡◌, ◌≤◌, ◌<◌, ◌∙◌, ◌∷◌, Bool, List, [], None, Ordering, ap, codes, false, get_or, length, not, refl, sym, true, ℕ}
use Rattle.std.proofs.lemmas.List.Sorted.{ranks_by, sorted_far}
use Rattle.std.specs.List.Sorted.{IsSorted}
use Rattle.std.specs.Option.{option_map_or}
use Rattle.std.specs.Ordering.{bool_cmp, is_lt, ordering_then}
use Rattle.std.specs.declared.cmp.Ordering.TheVariants.{Less}
use Rattle.node_semver.specs.Versions.{version_cmp}
use Rattle.serde_json.specs.Data.{Data, boolean, member, no_members, object, string}
use Rattle.npm_pick.specs.Rank.{Rank, rank_cmp}
use Rattle.npm_packages.specs.Asked.{asked_of}
use Rattle.npm_packages.specs.Overrides.{rule_in}
use Rattle.npm_resolve.specs.Asks.{RulesValue, asks_by, asks_on, is_root}
use Rattle.npm_resolve.specs.Candidates.{AreCandidates}
use Rattle.npm_resolve.specs.Preference.{candidate_order, is_sound, lowest_order, version_preference}
use Rattle.npm_resolve.specs.Private.Orders.{candidate_total}
use Rattle.npm_resolve.specs.declared.candidates.candidate.Candidate.{Candidate}
use Rattle.npm_resolve.specs.declared.candidates.options.Omits.{Omits}
use Rattle.npm_resolve.specs.declared.candidates.options.Options.{Options}
use Rattle.npm_resolve.specs.declared.candidates.owner.Owner.{Owner}
use Rattle.npm_resolve.specs.declared.candidates.owner.Owner.TheVariants.{Root, Version}
use Rattle.npm_resolve.specs.declared.candidates.owner.Reach.TheVariants.{Dependencies, Peers}

-- ---- the order of candidates

-- the rank that a pick gives the version, without versions to avoid, staged versions, and versions of npm
abbrev rank_of : Candidate → Rank
rank_of c = record {
  is_avoided = false;
  is_restricted = false;
  is_staged = false;
  is_deprecated = c.is_deprecated;
  fits = c.fits;
  version = c.version;
}

pub versions_are_in_the_order_of_their_ranks : (a b : Candidate) → version_preference a b ≡ rank_cmp (rank_of a) (rank_of b)
versions_are_in_the_order_of_their_ranks a b = refl

same : (a : Bool) (v : Ordering) → ordering_then (bool_cmp a a) v ≡ v
same false v = refl
same true v = refl

pub the_lower_version_is_first : (a b : Candidate) → a.is_deprecated ≡ b.is_deprecated → a.fits ≡ b.fits
    → version_cmp a.version b.version ≡ Less → lowest_order a b ≡ Less
the_lower_version_is_first a b alike fits lower = rw (alike, fits) (same (is_sound b) _ ∙ same b.fits _ ∙ same (not b.is_deprecated) _) ∙ lower

-- Of two candidates that the tag does not tell apart, the later one has no higher rank. So the first one that a meaning admits has the highest
-- rank of those that it admits, unless it is the version of the tag.
pub a_later_candidate_has_no_higher_rank : (packument : Data) (options : Options) (candidates : List Candidate)
    → AreCandidates packument options candidates → options.is_lowest ≡ false → (i j : ℕ) (d : Candidate) → i ≤ j → j < length candidates
    → (get_or candidates i d).is_default ≡ (get_or candidates j d).is_default
    → is_lt (rank_cmp (rank_of (get_or candidates i d)) (rank_of (get_or candidates j d))) ≡ false
a_later_candidate_has_no_higher_rank packument options candidates are greatest i j d before inside alike =
    let sorted : IsSorted candidate_order candidates = rw greatest at are.sorted in
    let later : is_lt (ordering_then (bool_cmp (get_or candidates i d).is_default (get_or candidates j d).is_default)
    (version_preference (get_or candidates i d) (get_or candidates j d))) ≡ false =
    sorted_far (λ x y. is_lt (candidate_order x y)) (ranks_by candidate_total (λ (c : Candidate). c)) candidates sorted i j d before inside in
    ap is_lt (sym (same (get_or candidates j d).is_default _)) ∙ (rw alike at later)

-- ---- what is asked: `{"dependencies": {"a": "^1"}, "peerDependencies": {"a": "^2", "b": "^3", "c": "^4"},
-- "peerDependenciesMeta": {"c": {"optional": true}}}`

abbrev manifest : Data
manifest = object (member (codes "dependencies") (object (member (codes "a") (string (codes "^1")) no_members))
    (member (codes "peerDependencies") (object (member (codes "a") (string (codes "^2")) (member (codes "b") (string (codes "^3"))
    (member (codes "c") (string (codes "^4")) no_members))))
    (member (codes "peerDependenciesMeta") (object (member (codes "c") (object (member (codes "optional") (boolean true) no_members))
    no_members)) no_members)))

abbrev no_rules : RulesValue
no_rules name = None

abbrev nothing : Omits
nothing = record { dev = false; optional = false; peer = false }

pub a_dependency_counts_before_a_peer : asks_on manifest Root no_rules nothing (codes "a")
    ≡ record { name = codes "a"; spec = codes "^1"; needed = true } ∷ []
a_dependency_counts_before_a_peer = refl

pub a_version_asks_for_no_dependency : asks_on manifest (Version Peers) no_rules nothing (codes "a") ≡ []
a_version_asks_for_no_dependency = refl

pub an_optional_peer_only_limits : asks_on manifest (Version Peers) no_rules nothing (codes "c")
    ≡ record { name = codes "c"; spec = codes "^4"; needed = false } ∷ []
an_optional_peer_only_limits = refl

-- ---- what a version asks for whose dependencies count: `{"devDependencies": {"a": "^1"}, "optionalDependencies": {"b": "^2"},
-- "dependencies": {"b": "^3", "c": "^4"}}`

abbrev bundled : Data
bundled = object (member (codes "devDependencies") (object (member (codes "a") (string (codes "^1")) no_members))
    (member (codes "optionalDependencies") (object (member (codes "b") (string (codes "^2")) no_members))
    (member (codes "dependencies") (object (member (codes "b") (string (codes "^3")) (member (codes "c") (string (codes "^4")) no_members)))
    no_members)))

pub an_optional_dependency_of_a_version_only_limits : asks_on bundled (Version Dependencies) no_rules nothing (codes "b")
    ≡ record { name = codes "b"; spec = codes "^2"; needed = false } ∷ []
an_optional_dependency_of_a_version_only_limits = refl

pub development_of_a_version_never_counts : asks_on bundled (Version Dependencies) no_rules nothing (codes "a") ≡ []
development_of_a_version_never_counts = refl

-- ---- what `overrides` change

pub a_rule_counts_for_a_version : asks_on bundled (Version Dependencies)
    (rule_in (object (member (codes "overrides") (object (member (codes "c") (string (codes "npm:d@1")) no_members)) no_members))) nothing (codes "c")
    ≡ record { name = codes "c"; spec = codes "npm:d@1"; needed = true } ∷ []
a_rule_counts_for_a_version = refl

pub without_a_rule_nothing_changes : (asker : Data) (owner : Owner) (rules : RulesValue) (omits : Omits) (name : List ℕ)
    → rules name ≡ None → asks_on asker owner rules omits name
    ≡ option_map_or (asks_by owner omits name) (asked_of asker (not (is_root owner)) name) []
without_a_rule_nothing_changes asker owner rules omits name none = rw none refl
