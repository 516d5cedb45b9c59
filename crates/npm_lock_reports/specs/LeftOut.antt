-- What is found of the packages and of the dependencies that are not left out.
use Rattle.std.specs.Prelude.{◌&&◌, ◌||◌, Bool, List, false, filter, not, true}
use Rattle.serde_json.specs.Data.{Data}
use Rattle.npm_advisories.specs.Audit.{FoundValue}
use Rattle.npm_lock.specs.Outcomes.{dependency_value}
use Rattle.npm_lock.specs.Sources.{SourceValue}
use Rattle.npm_lock.specs.declared.problem.Problem.{Problem}
use Rattle.npm_lock.specs.declared.problem.Unchecked.{Unchecked}
use Rattle.npm_lock.specs.declared.source.SourceKind.{SourceKind}
use Rattle.npm_lock.specs.declared.source.SourceKind.TheVariants.{OtherVersion}
use Rattle.npm_lock_reports.specs.Omissions.{is_left_out, is_omitted_at}
use Rattle.npm_lock_reports.specs.declared.omissions.Omissions.{Omissions}

-- the problems of a lock file that are kept, in their order
abbrev pub problems_kept : Omissions → (lock : Data) → List Problem → List Problem
problems_kept omissions lock problems =
    filter (λ problem. not (is_left_out omissions lock (dependency_value problem.dependency))) problems

-- the same of the dependencies that are not checked
abbrev pub unchecked_kept : Omissions → (lock : Data) → List Unchecked → List Unchecked
unchecked_kept omissions lock all =
    filter (λ unchecked. not (is_left_out omissions lock (dependency_value unchecked.dependency))) all

-- and of the packages that advisories hit
abbrev pub hits_kept : Omissions → (lock : Data) → List FoundValue → List FoundValue
hits_kept omissions lock found = filter (λ one. not (is_omitted_at omissions lock one.folder)) found

-- npm installs another version than the file says: so much is certain, whatever one asks of a source
abbrev pub is_certain : SourceKind → Bool
is_certain OtherVersion = true
is_certain _ = false

-- and of the suspicious sources, of which the others count only if they are asked for
abbrev pub sources_kept : Omissions → (lock : Data) → (is_asked : Bool) → List SourceValue → List SourceValue
sources_kept omissions lock is_asked sources = filter
    (λ source. (is_asked || is_certain source.kind) && not (is_omitted_at omissions lock source.folder)) sources
