-- Texts that are read as one version or as no range, and texts that compare as equal.
use Rattle.std.proofs.Common.{◌≡◌, ◌∙◌, ℕ, List, Equal, ap, is_eq, sym}
use Rattle.std.proofs.lemmas.Map.Text.{is_eq-slice_cmp}
use Rattle.std.proofs.lemmas.Slice.Eq.{bytes_eq-Decides}
use Rattle.std.specs.Cmp.Lexicographic.{slice_cmp}
use Rattle.std.specs.Ordering.{nat_cmp}
use Rattle.semver_versions.specs.Lemmas.Public.{one_reading}
use Rattle.node_semver.specs.Versions.{VersionValue}
use Rattle.npm_semver.specs.NpmRanges.{NpmOptions}
use Rattle.npm_texts.specs.Admission.{Admits, IsNoRange}
use Rattle.npm_texts.specs.InstalledVersions.{IsInstalledVersion, bare}

pub one_version : (key : List ℕ) (v w : VersionValue) → IsInstalledVersion key v → IsInstalledVersion key w → v ≡ w
one_version key v w h g = one_reading (bare key) v w h.read g.read

pub no_range : (options : NpmOptions) (text : List ℕ) (v : VersionValue) → IsNoRange options text
    → ¬ Admits options text v
no_range options text v none admits = rw none at admits

pub exact : (x y : List ℕ) → slice_cmp nat_cmp x y ≡ Equal → x ≡ y
exact x y equal = (bytes_eq-Decides x y).0 (sym (is_eq-slice_cmp x y) ∙ ap is_eq equal)
