-- What a spec allows may stand for it.
use Rattle.std.proofs.Common.{◌≡◌, ◌∙◌, ℕ, ℤ, List, Option, ap, codes, inl, inr, refl, subst, sym, true}
use Rattle.std.proofs.lemmas.Slice.Eq.{bytes_eq-Decides}
use Rattle.std.specs.Str.{chars, trim_end, trim_start}
use lib.Utf8.{encode}
use Rattle.serde_json.specs.Data.{Data}
use Rattle.node_semver.specs.Versions.{VersionValue, version_text, without_build}
use Rattle.semver_cuts.specs.Ends.{Ends}
use Rattle.semver_sets.specs.RangeSets.{IsRangeValue}
use Rattle.npm_sets.specs.NpmReadingBack.{NpmReadsBack}
use Rattle.npm_sets.specs.declared.options.NpmOptions.{NpmOptions}
use Rattle.semver_versions.specs.Lemmas.Public.{one_reading}
use Rattle.npm_texts.specs.Admission.{Admits, IsNoRange, of_dependencies}
use Rattle.npm_texts.specs.InstalledVersions.{IsInstalledVersion, bare}
use Rattle.npm_texts.specs.RegistrySpec.{IsRegistrySpec, RegistrySpecValue}
use Rattle.npm_texts.specs.RegistrySpec as Registered
use Rattle.npm_texts.specs.SpecGrammar.{filled, in_registry}
use Rattle.npm_texts.specs.WhiteSpace.{trimmed}
use Rattle.npm_lock.specs.Verdict.{asks_for_any}
use Rattle.npm_resolve.specs.Meanings.{IsAdmitted, IsMeaning, IsMeaningByText, MeaningValue}
use Rattle.npm_resolve.specs.Meanings as Meanings
use Rattle.npm_resolve.specs.declared.candidates.candidate.Candidate.{Candidate}
use Rattle.npm_resolve_laws.specs.Met.{IsKept}
use Rattle.npm_resolve_laws.specs.Met as Meeting
use Rattle.npm_resolve_laws.specs.Ordinary.{IsOrdinarySpec}
use Rattle.npm_resolve_laws.proofs.Edges.{OneSpec, read_range}
use Rattle.npm_resolve_laws.proofs.Versions.{version_admitted, version_is_a_range}

-- the text that the registry is asked for is the range
text_is : (one_spec : OneSpec) (name spec : List ℕ) (request : RegistrySpecValue) (ordinary : IsOrdinarySpec name spec)
    → IsRegistrySpec name spec request → filled request.text ≡ ordinary.range
text_is one_spec name spec _ ordinary (Registered.of_name text plain is) =
    ap (λ t. filled (trimmed t)) (ap read_range (one_spec spec (in_registry text) (in_registry ordinary.range) is ordinary.written)) ∙ ordinary.tidy
text_is one_spec name spec _ ordinary (Registered.of_alias aliased text alias is) =
    ap (λ t. filled (trimmed t)) (ap read_range (one_spec spec (in_registry text) (in_registry ordinary.range) is ordinary.written)) ∙ ordinary.tidy

star_is_any : asks_for_any (codes "*") ≡ true
unfolding trim_start trim_end chars encode
star_is_any = refl

-- what prints of ranges are read as
abbrev pub ReadBack : Type 0
ReadBack = (options : NpmOptions) (sets : List (Ends VersionValue)) → IsRangeValue sets → NpmReadsBack options sets

module _ (read_back : ReadBack) (name spec : List ℕ) (ordinary : IsOrdinarySpec name spec) (c : Candidate) (read : IsInstalledVersion c.key.now c.version) where
  abbrev range : List ℕ
  range = ordinary.range

  -- the range admits whatever the key is read as
  each : Admits of_dependencies range c.version → (w : VersionValue) → IsInstalledVersion c.key.now w → Admits of_dependencies range w
  each admits w is = subst (λ (v : VersionValue). Admits of_dependencies range v) (one_reading (bare c.key.now) c.version w read.read is.read) admits

  kept_in : ¬ IsNoRange of_dependencies range → IsAdmitted (Meanings.inside range) c → IsKept c.key.now spec
  kept_in some (inl star) = Meeting.any range ordinary.written
      (subst (λ (t : List ℕ). asks_for_any t ≡ true) (sym ((bytes_eq-Decides range (codes "*")).0 star.0)) star_is_any)
  kept_in some (inr admits) = Meeting.inside range c.version ordinary.written some read (each admits)

  kept_exactly : (v : VersionValue) → IsInstalledVersion range v → c.key.now ≡ version_text (without_build v) → IsKept c.key.now spec
  kept_exactly v is key =
      let exact = ordinary.exact v is in
      let same : c.key.now ≡ range = key ∙ sym exact.printed in
      Meeting.inside range c.version ordinary.written
      (version_is_a_range v read_back (bare range) range is.read exact.printed exact.short) read
      (λ w is_w. subst (λ (x : VersionValue). Admits of_dependencies range x)
      (one_reading (bare range) v w is.read (subst (λ (t : List ℕ). IsInstalledVersion t w) same is_w).read)
      (version_admitted v read_back (bare range) range is.read exact.printed exact.short))

  kept_by_text : (packument : Data) (before : Option ℤ) (meaning : MeaningValue) → IsMeaningByText packument before range meaning
      → IsAdmitted meaning c → IsKept c.key.now spec
  kept_by_text packument before _ (Meanings.of_version v is) admitted = kept_exactly v is admitted
  kept_by_text packument before _ (Meanings.of_range none some) admitted = kept_in some admitted
  kept_by_text packument before meaning (Meanings.of_tag _ none bad tag is) admitted = Meeting.tag range ordinary.written bad (ordinary.tag bad)
  kept_by_text packument before _ (Meanings.refused none bad tag) admitted = absurd admitted

pub kept : ReadBack → (one_spec : OneSpec) (packument : Data) (before : Option ℤ) (name spec : List ℕ) (request : RegistrySpecValue)
    (meaning : MeaningValue) (c : Candidate) → IsRegistrySpec name spec request → IsOrdinarySpec name spec
    → IsMeaning packument before request.text meaning → IsAdmitted meaning c → IsInstalledVersion c.key.now c.version
    → IsKept c.key.now spec
kept read_back one_spec packument before name spec request meaning c asked ordinary (Meanings.by_text _ plain by) admitted read =
    kept_by_text read_back name spec ordinary c read packument before meaning
    (subst (λ (t : List ℕ). IsMeaningByText packument before t meaning) (text_is one_spec name spec request ordinary asked) by) admitted
kept read_back one_spec packument before name spec request _ c asked ordinary (Meanings.elsewhere other) admitted read = absurd admitted
