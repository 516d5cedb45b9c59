-- The report of a lock file.
use Rattle.std.specs.Prelude.{◌≡◌, ◌&&◌, ◌||◌, ℕ, List, [], ◌∷◌, ◌++◌, Bool, Option, Some, None, filter}
use Rattle.std.specs.Prelude.{if◌then◌else◌}
use Rattle.std.specs.Prelude.{codes, is_some, length, map, not, option_and_then, option_map}
use Rattle.std.specs.Prelude.{string_bytes, true, Result, Ok, Err}
use Rattle.std.specs.Bool.{MatchBool}
use Rattle.std.specs.List.{filter_map}
use Rattle.serde_json.specs.Data.{Data}
use Rattle.serde_json.specs.Find.{get}
use Rattle.serde_json.specs.View.{view}
use Rattle.serde_json.specs.declared.value.Value.{Value}
use Rattle.toml_datetime.specs.declared.datetime.Date.{Date}
use Rattle.node_semver.specs.Versions.{VersionValue}
use Rattle.npm_lock.specs.Findings as Findings
use Rattle.npm_lock.specs.FoundWorkspaces.{workspace_problem}
use Rattle.npm_lock.specs.ManifestPlace.{with_manifest, without_overrides}
use Rattle.npm_lock.specs.Mismatches.{AreMismatches}
use Rattle.npm_lock.specs.OtherFolders.{IsFirstAnotherOf}
use Rattle.npm_lock.specs.Outcomes.{DependencyValue, ProblemValue, dependency_value, problem_value}
use Rattle.npm_lock.specs.Sources.{source_value, suspicious_sources}
use Rattle.npm_lock.specs.VersionOne.{converted, is_version_one}
use Rattle.npm_lock.specs.declared.mismatch.Mismatch.{Mismatch}
use Rattle.npm_lock.specs.declared.problem.Problem.{Problem}
use Rattle.npm_lock.specs.declared.problem.Problems.{Problems}
use Rattle.npm_advisories.specs.Files.{advisories_of}
use Rattle.npm_advisories.specs.Audit.{FoundValue, InstalledValue, IsAudit}
use Rattle.npm_advisories.specs.LockFile.{AreInstalledOf}
use Rattle.npm_advisories.specs.declared.severity.Severity.{Severity}
use Rattle.npm_lock_reports.specs.Unread.{UnreadValue, root_of_file, unread_value}
use Rattle.npm_lock_reports.specs.declared.report.Report.{Report}
use Rattle.npm_lock_reports.specs.Count.{count_of}
use Rattle.npm_lock_reports.specs.LeftOut.{problems_kept, sources_kept, unchecked_kept}
use Rattle.npm_lock_reports.specs.Needed.{AreNeeded}
use Rattle.npm_lock_reports.specs.declared.omissions.Omissions.{Omissions}
use Rattle.npm_lock_reports.specs.Excepted.{excepted_value}
use Rattle.npm_lock_reports.specs.Exceptions.{ExceptionsValue, exceptions_value}
use Rattle.npm_lock_reports.specs.Counted.{CountedValue, counted_hits}
use Rattle.npm_lock_check.specs.Kinds.{KindsValue, has, kinds_value}
use Rattle.npm_manifest_files.specs.Linked.{LinkedValue, LoadedValue, WorkspaceValue, loaded_value, nothing_loaded}
use Rattle.npm_lock_check.specs.declared.checks.format.Format.{Format}
use Rattle.npm_manifest_files.specs.declared.linked.Loaded.{Loaded}
use Rattle.npm_manifest_files.specs.declared.load_error.LoadError.{LoadError}
use Rattle.npm_lock_check.specs.declared.checks.wanted.Wanted.{Wanted}

-- The settings of a check: the manifest of the root, whether mismatches count for the status, the advisories, the day on which they are
-- asked, the least severity of those that count, and the exceptions; the groups of packages that are left out; the version of Node that each
-- package is checked with, the kinds of problems that are left out, whether all that is suspicious in where packages come from counts, and
-- from which registries they may come, whether what is not checked counts for the status and is listed, the format, and the path of the
-- folder in which npm finds the lock file, which is empty if it is not known.
pub record WantedValue : Type 0 where
  pub manifest : Option Data
  pub exact : Bool
  pub advisories : Option Data
  pub today : Date
  pub level : Severity
  pub exceptions : Option ExceptionsValue
  pub omissions : Omissions
  pub node : Option VersionValue
  pub ignored : KindsValue
  pub sources : Bool
  pub registries : List (List ℕ)
  pub strict : Bool
  pub unchecked : Bool
  pub format : Format
  pub project : List ℕ

-- what a contract sees of it
abbrev pub wanted_value : Wanted → WantedValue
wanted_value wanted = record {
  manifest = option_map (λ manifest. view manifest.now) wanted.manifest;
  exact = wanted.exact;
  advisories = option_map (λ file. view file.now) wanted.advisories;
  today = wanted.today;
  level = wanted.level;
  exceptions = option_map exceptions_value wanted.exceptions;
  omissions = wanted.omissions;
  node = option_map (λ version. version.now) wanted.node;
  ignored = kinds_value wanted.ignored;
  sources = wanted.sources;
  registries = map string_bytes wanted.registries.now;
  strict = wanted.strict;
  unchecked = wanted.unchecked;
  format = wanted.format;
  project = wanted.project.now;
}

-- ---- the manifests

-- the lock file has `packages`, as one of version 2 or 3 has; one of version 1 has none, and no specs of its root
abbrev pub has_packages : (lock : Data) → Bool
has_packages lock = is_some (get (codes "packages") lock)

-- a manifest and such a lock file are compared
abbrev pub is_compared : (lock : Data) → (manifest : Option Data) → Bool
is_compared lock manifest = is_some manifest && has_packages lock

-- What loading the manifests of linked folders gave for the lock file, if it is compared. Otherwise there are none.
abbrev pub AreLoaded : (Gives : Value → Result Loaded LoadError → Type 0) → (lock : Value)
    → (manifest : Option Data) → LoadedValue → Type 0
AreLoaded Gives lock manifest loaded = MatchBool (is_compared (view lock) manifest)
    ((made : Loaded) × Gives lock (Ok made) × (loaded ≡ loaded_value made)) (loaded ≡ nothing_loaded)

-- loading them failed
abbrev pub IsNotLoaded : (Gives : Value → Result Loaded LoadError → Type 0) → (lock : Value)
    → (manifest : Option Data) → LoadError → Type 0
IsNotLoaded Gives lock manifest error = (is_compared (view lock) manifest ≡ true) × Gives lock (Err error)

-- The lock file as npm reads it beside this manifest of the root. `overrides` stand in that alone, so without one there are none.
abbrev pub as_read : (manifest : Option Data) → (lock : Data) → Data
as_read None lock = without_overrides lock
as_read (Some manifest) lock = lock

-- all manifests beside a lock file: that of the root first, and then those of linked folders
abbrev pub manifests_of : (manifest : Option Data) → (linked : List LinkedValue) → List LinkedValue
manifests_of None linked = []
manifests_of (Some manifest) linked = record { folder = []; manifest = manifest } ∷ linked

-- the lock file with each manifest in the place of its package; one without `packages` stays as it is
abbrev pub placed : (lock : Data) → (manifests : List LinkedValue) → Data
placed lock [] = lock
placed lock (one ∷ others) = placed (with_manifest one.folder one.manifest lock) others

-- the mismatches of each manifest with the package in its folder, of one manifest after another
abbrev pub AreAllMismatches : (lock : Data) → (manifests : List LinkedValue) → List Mismatch → Type 0
AreAllMismatches lock [] list = list ≡ []
AreAllMismatches lock (one ∷ others) list = (here : List Mismatch) × (later : List Mismatch)
    × AreMismatches lock one.folder one.manifest here × AreAllMismatches lock others later × (list ≡ here ++ later)

-- the mismatches of the manifests, if they are compared, or none if their kind is left out
abbrev pub AreLeftMismatches : (lock : Data) → (manifests : List LinkedValue) → (is_ignored : Bool) → List Mismatch
    → Type 0
AreLeftMismatches lock manifests is_ignored list = MatchBool (has_packages lock)
    ((all : List Mismatch) × AreAllMismatches lock manifests all × (list ≡ (if is_ignored then [] else all)))
    (list ≡ [])

-- ---- the problems and the advisories

-- the lock file that is checked: with the manifests in their places, and converted if it is of version 1
abbrev pub checked_lock : (lock : Data) → (manifest : Option Data) → (linked : List LinkedValue) → Data
checked_lock lock manifest linked = converted (placed lock (manifests_of manifest linked)) manifest

-- the lock file has the root, `""` of `packages`, which says what the project depends on. A hidden lock file,
-- `node_modules/.package-lock.json`, has none
abbrev pub has_root : (lock : Data) → Bool
has_root lock = is_some (option_and_then (get []) (get (codes "packages") lock))

-- what was not looked at, and last what the root depends on, if the lock file that is checked has none
abbrev pub all_unread : (lock : Data) → List UnreadValue → List UnreadValue
all_unread lock unread = if has_root lock then unread else unread ++ (root_of_file ∷ [])

-- the problems of the workspaces that were found on disk, in their order
abbrev pub workspace_problems : (lock : Data) → List WorkspaceValue → List ProblemValue
workspace_problems lock workspaces = filter_map (λ one. workspace_problem lock one.name one.folder) workspaces

-- The problems of workspaces first, and then those of the lock file in their order, without those of ignored kinds and those of
-- packages and dependencies that are left out; the dependencies that are not checked, without those that are left out; and the counts
-- of all of the lock file.
pub record AreLeft (lock : Data) (workspaces : List WorkspaceValue) (wanted : WantedValue) (problems : Problems)
    : Type 0 where
  pub first : List Problem
  pub of_workspaces : map problem_value first ≡ workspace_problems lock workspaces
  pub all : Problems
  pub found : Findings.IsChecked lock wanted.node all
  pub left : problems.list.items ≡ problems_kept wanted.omissions lock
      (filter (λ problem. not (has wanted.ignored problem.kind)) (first ++ all.list.items))
  pub packages : problems.packages ≡ all.packages
  pub dependencies : problems.dependencies ≡ all.dependencies
  pub unchecked : problems.unchecked.items ≡ unchecked_kept wanted.omissions lock all.unchecked.items

-- the installed packages that an advisory hits which is not less severe than the level: what `audit_lock` finds
abbrev pub AreHit : (today : Date) → (lock : Data) → (advisories : Option Data) → (level : Severity) → List FoundValue → Type 0
AreHit today lock None level found = found ≡ []
AreHit today lock (Some file) level found = (installed : List InstalledValue) × AreInstalledOf lock installed
    × IsAudit level (advisories_of today file) installed found

-- what counts of them, and what is excepted
abbrev pub AreCounted : (lock : Data) → WantedValue → CountedValue → Type 0
AreCounted lock wanted counted = (all : List FoundValue) × AreHit wanted.today lock wanted.advisories wanted.level all
    × (counted ≡ counted_hits wanted.omissions wanted.exceptions lock all)

-- The groups by which a needed package may be left out. `requires` of a file of version 1 have optional dependencies too, so that what is
-- needed is not known of these.
abbrev pub told_omissions : (lock : Data) → Omissions → Omissions
told_omissions lock omissions = record {
  dev = omissions.dev;
  optional = omissions.optional && not (is_version_one lock);
}

-- what is needed, but left out, if a group is
abbrev pub AreNeededIf : Omissions → (lock : Data) → List DependencyValue → Type 0
AreNeededIf omissions lock list = MatchBool (omissions.dev || omissions.optional) (AreNeeded omissions lock list) (list ≡ [])

-- ---- all of it

-- npm reads no member as another folder of the project; the mismatches of the manifests, what was not looked at, the problems of the lock file
-- that is checked, the packages of it that are hit, what is excepted, what is suspicious in where packages come from, what is needed
-- and left out, and how many packages are left out
pub record IsReportOf (lock : Data) (loaded : LoadedValue) (wanted : WantedValue) (report : Report)
    (found : List FoundValue) : Type 0 where
  pub own : IsFirstAnotherOf (checked_lock lock wanted.manifest loaded.linked) wanted.project None
  pub compared : report.compared ≡ is_compared lock wanted.manifest
  pub mismatches : AreLeftMismatches lock (manifests_of wanted.manifest loaded.linked) wanted.ignored.group
      report.mismatches.items
  pub exact : report.exact ≡ wanted.exact
  pub strict : report.strict ≡ wanted.strict
  pub unread : map unread_value report.unread.items
      ≡ all_unread (checked_lock lock wanted.manifest loaded.linked) loaded.unread
  pub problems : AreLeft (checked_lock lock wanted.manifest loaded.linked) loaded.workspaces wanted report.problems
  pub hit : AreCounted (checked_lock lock wanted.manifest loaded.linked) wanted
      (record { found = found; excepted = map excepted_value report.excepted.items })
  pub sources : map source_value report.sources.items ≡ sources_kept wanted.omissions
      (checked_lock lock wanted.manifest loaded.linked) wanted.sources (suspicious_sources wanted.registries lock)
  pub needed : AreNeededIf (told_omissions lock wanted.omissions) (checked_lock lock wanted.manifest loaded.linked)
      (map dependency_value report.needed.items)
  pub audited : report.audited ≡ is_some wanted.advisories
  pub hits : report.hits ≡ length found
  pub omitted : report.omitted ≡ count_of wanted.omissions (checked_lock lock wanted.manifest loaded.linked)
  pub listed : report.listed ≡ wanted.unchecked
