-- The version of the default tag: when it is picked, and when it is the first candidate.
use Rattle.std.proofs.Common.{◌≡◌, ◌∙◌, ◌&&◌, ℕ, List, Bool, true, false, None, Option, Some, bytes_eq, inl, inr, not, refl, sym}
use Rattle.std.proofs.lemmas.Slice.Eq.{bytes_eq-Decides}
use Rattle.std.specs.Option.{option_map_or}
use Rattle.serde_json.specs.Data.{Data}
use Rattle.npm_texts.specs.Admission.{Admits, of_dependencies}
use Rattle.npm_pick.specs.Packument.{Release, manifest_of, tagged}
use Rattle.npm_pick.specs.Pick.{HasNoDefault, IsDefault, IsInRange}
use Rattle.npm_pick.specs.declared.options.Options as Picking
use Rattle.npm_resolve.specs.Candidates.{IsCandidate, is_tagged}
use Rattle.npm_resolve.specs.Meanings.{IsAdmitted, inside}
use Rattle.npm_resolve.specs.declared.candidates.candidate.Candidate.{Candidate}
use Rattle.npm_resolve.specs.declared.candidates.options.Options.{Options}
use Rattle.npm_resolve_laws.specs.Alike.{AreAlike}
use Rattle.npm_resolve_laws.proofs.Ranking.{fits_means, not_avoided, not_staged}

named_by : (named : Option (List ℕ)) (key : List ℕ) → option_map_or (λ named. bytes_eq named key) named false ≡ true → named ≡ Some key
named_by None key is = cc is
named_by (Some named) key is = rw ((bytes_eq-Decides named key).0 is) refl

pub names : (named : Option (List ℕ)) (key : List ℕ) → named ≡ Some key → option_map_or (λ named. bytes_eq named key) named false ≡ true
names named key is = rw is ((bytes_eq-Decides key key).1 refl)

all_three : (deprecated fits tagged : Bool) → ((not deprecated && fits) && tagged) ≡ true
    → (deprecated ≡ false) × (fits ≡ true) × (tagged ≡ true)
all_three true fits tagged is = cc is
all_three false true tagged is = (refl, refl, is)
all_three false false tagged is = cc is

module _ (p : Data) (o : Options) (picking : Picking.Options) (alike : AreAlike o picking) where
  module _ (r : Release) (c : Candidate) (is : IsCandidate p o r c) where
    parts : c.is_default ≡ true → (c.is_deprecated ≡ false) × (c.fits ≡ true) × (is_tagged p o.default_tag.now r.key ≡ true)
    parts default = all_three c.is_deprecated c.fits (is_tagged p o.default_tag.now r.key) (sym is.default ∙ default)

    -- the tag names the key of the default
    pub is_named : c.is_default ≡ true → tagged p picking.default_tag.now ≡ Some r.key
    is_named default = rw alike.tag (named_by (tagged p o.default_tag.now) r.key (parts default).2)

    in_range : (range : List ℕ) → IsAdmitted (inside range) c → IsInRange range r.key
    in_range range (inl star) = inl star.0
    in_range range (inr admits) = inr (c.version, is.read, admits)

    -- a default that is admitted is picked
    pub is_default : (range : List ℕ) → manifest_of p r.key ≡ Some r.manifest → c.is_default ≡ true → IsAdmitted (inside range) c
        → IsDefault p picking range r.key r.manifest
    is_default range there default admitted = record {
      tag = is_named default;
      there = there;
      suitable = record {
        admitted = in_range range admitted;
        published = rw alike.before is.published;
        kept = λ avoided. not_avoided p o picking alike avoided.0 avoided.2;
        allowed = is.allowed;
        whole = not_staged p o picking alike r.key;
        lasting = sym is.deprecated ∙ (parts default).0;
        fitting = (fits_means p o picking alike range r c is).0 (parts default).1;
      };
    }

    -- where none is picked, none that is admitted is the default, and the range admits each of them
    pub never_default : (range : List ℕ) → manifest_of p r.key ≡ Some r.manifest → HasNoDefault p picking range
        → IsAdmitted (inside range) c → (c.is_default ≡ false) × Admits of_dependencies range c.version
    never_default range there none admitted = (other, in_set admitted) where
      off : (b : Bool) → c.is_default ≡ b → c.is_default ≡ false
      off true default = absurd (none r.key r.manifest (is_default range there default admitted))
      off false default = default

      other : c.is_default ≡ false
      other = off c.is_default refl

      in_set : IsAdmitted (inside range) c → Admits of_dependencies range c.version
      in_set (inl star) = cc (star.1, other)
      in_set (inr admits) = admits
