-- Where a pick and the candidates of a document differ.
use Rattle.std.proofs.Common.{◌≡◌, false, codes, Ok, refl, slice_index, subst, true}
use lib.Utf8.{encode}
use Rattle.std.specs.Char.{is_ascii_digit}
use Rattle.std.specs.Str.{chars}
use Rattle.serde_json.specs.Data.{Data, boolean, member, no_members, object, string}
use Rattle.node_semver.specs.Versions.{VersionValue}
use Rattle.npm_texts.specs.InstalledVersions.{IsInstalledVersion, bare}
use Rattle.npm_pick.specs.Pick.{IsPickedByTag}
use Rattle.npm_pick.specs.Pick as Picks
use Rattle.npm_pick.specs.declared.options.Options as Picking
use Rattle.npm_resolve.specs.Candidates.{IsEligible}
use Rattle.npm_resolve.specs.declared.candidates.options.Options.{Options}
use Rattle.npm_resolve_laws.specs.Alike.{HasKeysOnce}

-- ---- a key that is no version: `{"dist-tags": {"next": "no"}, "versions": {"no": {}}}`

abbrev odd : Data
odd = object (member (codes "dist-tags") (object (member (codes "next") (string (codes "no")) no_members))
    (member (codes "versions") (object (member (codes "no") (object no_members) no_members)) no_members))

bare_no : bare (codes "no") ≡ codes "no"
unfolding bare chars encode
bare_no = refl

no_is_no_version : (v : VersionValue) → ¬ IsInstalledVersion (codes "no") v
no_is_no_version v is =
    let digit : is_ascii_digit (slice_index (codes "no") 0) ≡ true =
    subst (λ text. is_ascii_digit (slice_index text 0) ≡ true) bare_no is.digit in cc digit

pub a_tag_picks_a_key_that_is_no_version : (picking : Picking.Options)
    → IsPickedByTag odd picking (codes "next") (Ok (Picks.inside (codes "no") (object no_members) false))
a_tag_picks_a_key_that_is_no_version picking = Picks.named (codes "no") (Ok (Picks.inside (codes "no") (object no_members) false)) refl refl
    (Picks.there (object no_members) false refl refl ((λ said. cc said), (λ avoided. absurd (no_is_no_version avoided.0 avoided.1))))

pub it_is_no_candidate : (options : Options) → IsEligible odd options (codes "no") → ⊥
it_is_no_candidate options fit = no_is_no_version fit.version fit.read

-- ---- a key that is there twice: `{"versions": {"1.0.0": {"deprecated": true}, "1.0.0": {}}}`

abbrev twice : Data
twice = object (member (codes "versions") (object (member (codes "1.0.0") (object (member (codes "deprecated") (boolean true) no_members))
    (member (codes "1.0.0") (object no_members) no_members))) no_members)

pub a_key_finds_the_first_of_two : HasKeysOnce twice → ⊥
a_key_finds_the_first_of_two once = cc once.1.0

pub a_key_that_is_there_once_is_found : HasKeysOnce odd
a_key_that_is_there_once_is_found = (refl, tt)
