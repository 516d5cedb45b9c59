-- Worked rows of the definitions: members of documents, times and ranks.
use Rattle.std.proofs.Common.{◌≡◌, ℕ, List, [], ◌∷◌, Bool, true, false, Some, None, codes, refl}
use Rattle.std.specs.declared.cmp.Ordering.TheVariants.{Equal, Less}
use Rattle.serde_json.specs.Data.{Data, boolean, member, no_members, null, object, string}
use Rattle.node_semver.specs.Versions.{release}
use Rattle.npm_pick.specs.Packument.{candidate_of, candidates_of, is_restricted, is_staged, manifest_of, tagged}
use Rattle.npm_pick.specs.Rank.{Rank, rank_cmp}
use Rattle.npm_pick.specs.Times.{is_in_time, is_published}

-- ---- members

-- `{"dist-tags": {"latest": "1.2.3"}, "versions": {"1.2.3": {}, "no": null}}`
abbrev document : Data
document = object (member (codes "dist-tags")
    (object (member (codes "latest") (string (codes "1.2.3")) no_members))
    (member (codes "versions")
    (object (member (codes "1.2.3") (object no_members) (member (codes "no") null no_members))) no_members))

pub a_tag_names_a_key : tagged document (codes "latest") ≡ Some (codes "1.2.3")
a_tag_names_a_key = refl

pub there_is_no_other_tag : tagged document (codes "next") ≡ None
there_is_no_other_tag = refl

pub each_key_is_a_candidate : candidates_of false document
    ≡ record { key = codes "1.2.3"; manifest = object no_members } ∷ record { key = codes "no"; manifest = null } ∷ []
each_key_is_a_candidate = refl

pub a_key_has_a_manifest : manifest_of document (codes "no") ≡ Some null
a_key_has_a_manifest = refl

pub nothing_has_no_candidates : candidates_of true null ≡ []
nothing_has_no_candidates = refl

-- `{"policyRestrictions": {"versions": {"1.0.0": null}}, "stagedVersions": {"versions": {"2.0.0": true}}}`
abbrev listed : (key : List ℕ) → Data → Data
listed key value = object (member (codes "versions") (object (member key value no_members)) no_members)

abbrev guarded : Data
guarded = object (member (codes "policyRestrictions") (listed (codes "1.0.0") null)
    (member (codes "stagedVersions") (listed (codes "2.0.0") (boolean true)) no_members))

pub staged_versions_come_first : candidates_of true guarded
    ≡ record { key = codes "2.0.0"; manifest = boolean true } ∷ record { key = codes "1.0.0"; manifest = null } ∷ []
staged_versions_come_first = refl

pub without_the_option_none_is_staged : is_staged false guarded (codes "2.0.0") ≡ false
without_the_option_none_is_staged = refl

pub a_staged_version_is_a_candidate : candidate_of true guarded (codes "2.0.0") ≡ Some (boolean true)
a_staged_version_is_a_candidate = refl

pub what_stands_there_does_not_count : is_restricted guarded (codes "1.0.0") ≡ true
what_stands_there_does_not_count = refl

-- ---- times

pub without_a_time_it_is_published : is_published None document (codes "1.2.3") ≡ true
without_a_time_it_is_published = refl

pub null_counts_as_no_time : is_in_time None null ≡ true
null_counts_as_no_time = refl

pub an_object_is_in_no_time : is_in_time None (object no_members) ≡ false
an_object_is_in_no_time = refl

-- ---- ranks

abbrev ranked : (is_avoided is_deprecated fits : Bool) → (major : ℕ) → Rank
ranked is_avoided is_deprecated fits major = record {
  is_avoided = is_avoided;
  is_restricted = false;
  is_staged = false;
  is_deprecated = is_deprecated;
  fits = fits;
  version = release major 0 0;
}

pub the_greater_version_counts : rank_cmp (ranked false false true 1) (ranked false false true 2) ≡ Less
the_greater_version_counts = refl

pub equal_versions_have_one_rank : rank_cmp (ranked false false true 1) (ranked false false true 1) ≡ Equal
equal_versions_have_one_rank = refl

pub not_deprecated_counts_more : rank_cmp (ranked false true true 2) (ranked false false true 1) ≡ Less
not_deprecated_counts_more = refl

pub fitting_counts_more_than_not_deprecated : rank_cmp (ranked false false false 2) (ranked false true true 1) ≡ Less
fitting_counts_more_than_not_deprecated = refl

pub not_avoided_counts_most : rank_cmp (ranked true false true 2) (ranked false true false 1) ≡ Less
not_avoided_counts_most = refl

abbrev guarded_rank : (is_avoided is_restricted is_staged is_deprecated : Bool) → Rank
guarded_rank is_avoided is_restricted is_staged is_deprecated = record {
  is_avoided = is_avoided;
  is_restricted = is_restricted;
  is_staged = is_staged;
  is_deprecated = is_deprecated;
  fits = true;
  version = release 1 0 0;
}

pub not_avoided_counts_more_than_not_restricted :
    rank_cmp (guarded_rank true false false false) (guarded_rank false true true true) ≡ Less
not_avoided_counts_more_than_not_restricted = refl

pub not_restricted_counts_more_than_not_staged :
    rank_cmp (guarded_rank false true false false) (guarded_rank false false true true) ≡ Less
not_restricted_counts_more_than_not_staged = refl

pub not_staged_counts_more_than_not_deprecated :
    rank_cmp (guarded_rank false false true false) (guarded_rank false false false true) ≡ Less
not_staged_counts_more_than_not_deprecated = refl
