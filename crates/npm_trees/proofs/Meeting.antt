-- What meets a dependency.
use Rattle.std.proofs.Common.{◌≡◌, ◌↔◌, ℕ, List, Bool, Option, None, Some, false, true}
use Rattle.std.specs.Option.{IsSomeAnd}
use Rattle.semver_versions.specs.Lemmas.Public.{one_reading}
use Rattle.node_semver.specs.Versions.{VersionValue}
use Rattle.npm_texts.specs.Admission.{Admits, IsNoRange, of_dependencies}
use Rattle.npm_texts.specs.InstalledVersions.{IsInstalledVersion, bare}
use Rattle.npm_texts.specs.RegistrySpec.{RegistrySpecValue, registry_spec}
use Rattle.npm_texts.specs.SpecGrammar.{is_tag}
use Rattle.npm_trees.specs.Places.{is_package, start_of}
use Rattle.npm_trees.specs.Meeting.{IsAnswered, IsMetFor, IsSpecMet, IsTextMet, any, asks_for_any, inside, tag, version_of}
use Rattle.npm_trees.specs.Private.Folders.{IsOnlySeen}
use Rattle.npm_trees.specs.Private.Meeting.{IsAdmitted, IsLocal}
use Rattle.npm_trees.specs.declared.tree.Ask.{Ask}
use Rattle.npm_trees.specs.declared.tree.Place.{Place}

-- ---- one dependency

pub local_fails : (places : List Place) (ask : Ask) → IsLocal places ask → IsMetFor places ask → ⊥
local_fails places ask local met = met.outside local.peer local.number local.there

module _ (places : List Place) (ask : Ask) (found : Option ℕ) (only : IsOnlySeen places ask.name.now (start_of places ask) found)
    (outside : IsLocal places ask → ⊥) where
  pub answered_is_met : IsAnswered places ask found ↔ IsMetFor places ask
  answered_is_met = (
    (λ answered. record {
      outside = λ peer number there. outside (record { peer = peer; number = number; there = there });
      found = found;
      seen = only.seen;
      answered = answered;
    }),
    (λ met. rw (only.only met.found met.seen) at met.answered),
  )

-- ---- specs

some_and : {X : Type 0} (P : X → Type 0) (o : Option X) (x : X) → o ≡ Some x → P x ↔ IsSomeAnd o P
some_and P o x is = rw is ((λ p. p), (λ p. p))

-- a spec by its request
pub spec_is : (places : List Place) (ask : Ask) (place : Place) (request : RegistrySpecValue)
    → registry_spec ask.name.now ask.spec.now ≡ Some request → (version : Option (List ℕ)) (is_registered : Bool)
    → version ≡ version_of places place.stands → is_registered ≡ is_package place.stands
    → IsTextMet request.text version is_registered ↔ IsSpecMet places ask place
spec_is places ask place request is version is_registered of_version of_package = rw (of_version, of_package)
    (some_and (λ (r : RegistrySpecValue). IsTextMet r.text (version_of places place.stands) (is_package place.stands)) _ request is)

-- ---- texts

pub no_range : (text : List ℕ) (v : VersionValue) → IsNoRange of_dependencies text → Admits of_dependencies text v → ⊥
no_range text v none admits = rw none at admits

pub one_version : (text : List ℕ) (v w : VersionValue) → IsInstalledVersion text v → IsInstalledVersion text w → v ≡ w
one_version text v w one other = one_reading (bare text) v w one.read other.read

module _ (text : List ℕ) (version : Option (List ℕ)) where
  pub nothing_admitted : version ≡ None → IsAdmitted text version → ⊥
  nothing_admitted none is = cc (none, is.is)

  module _ (written : List ℕ) (there : version ≡ Some written) where
    pub unread : ((v : VersionValue) → ¬ IsInstalledVersion written v) → IsAdmitted text version → ⊥
    unread never is = let same : is.written ≡ written = cc (is.is, there) in never is.v (rw same at is.read)

    pub read_admits : (v : VersionValue) → IsInstalledVersion written v → Admits of_dependencies text v ↔ IsAdmitted text version
    read_admits v read = (
      (λ admits. record { written = written; v = v; is = there; read = read; admits = admits }),
      (λ is.
          let same : is.written ≡ written = cc (is.is, there) in
          let equal = one_version written is.v v (rw same at is.read) read in
          rw equal at is.admits),
    )

  module _ (is_registered : Bool) (some : asks_for_any text ≡ false) where
    pub by_range : ¬ IsNoRange of_dependencies text → IsAdmitted text version ↔ IsTextMet text version is_registered
    by_range good = (λ is. inside is.written is.v is.is is.read is.admits, back) where
      back : IsTextMet text version is_registered → IsAdmitted text version
      back (any is) = absurd (cc (is, some))
      back (inside written v is read admits) = record { written = written; v = v; is = is; read = read; admits = admits }
      back (tag none is registered) = absurd (good none)

    pub by_tag : IsNoRange of_dependencies text → ((is_registered ≡ true) × (is_tag text ≡ true)) ↔ IsTextMet text version is_registered
    by_tag none = (λ both. tag none both.1 both.0, back) where
      back : IsTextMet text version is_registered → (is_registered ≡ true) × (is_tag text ≡ true)
      back (any is) = absurd (cc (is, some))
      back (inside written v is read admits) = absurd (no_range text v none admits)
      back (tag _ is registered) = (registered, is)
