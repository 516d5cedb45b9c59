-- Which candidate comes first where a lock file has a version for the name: npm's "package-lock.json", "packages".
use Rattle.std.specs.Prelude.{◌≡◌, ◌++◌, ℕ, List, [], None, Option, Some, bytes_eq, filter, not, option_and_then}
use Rattle.serde_json.specs.Data.{Data}
use Rattle.serde_json.specs.Find.{get}
use Rattle.npm_packages.specs.Folders.{place_in}
use Rattle.npm_packages.specs.Packages.{version_of}
use Rattle.npm_packages.specs.PackageValue.{packages_data}
use Rattle.npm_resolve.specs.Candidates.{AreCandidates}
use Rattle.npm_resolve.specs.declared.candidates.candidate.Candidate.{Candidate}
use Rattle.npm_resolve.specs.declared.candidates.options.Options.{Options}

-- The version that a lock file has for a name: that of the package at `node_modules/NAME`, which is the root's own. One that is nested in
-- another package does not count.
abbrev pub locked_at : (packages : Data) → (name : List ℕ) → Option (List ℕ)
locked_at packages name = option_and_then version_of (get (place_in [] name) packages)

-- the version that the lock file of the options has for a name, if there is a lock file
abbrev pub locked_of : Options → (name : List ℕ) → Option (List ℕ)
locked_of options name = option_and_then (λ lock. locked_at (packages_data lock) name) options.lock

-- the candidate with this key first, if there is one, and then the others in their order
abbrev pub key_first : (key : List ℕ) → List Candidate → List Candidate
key_first key candidates = filter (λ (c : Candidate). bytes_eq c.key.now key) candidates
    ++ filter (λ (c : Candidate). not (bytes_eq c.key.now key)) candidates

abbrev pub locked_first : (locked : Option (List ℕ)) → List Candidate → List Candidate
locked_first None candidates = candidates
locked_first (Some key) candidates = key_first key candidates

-- The candidates of a document for a name: the locked one first, and then as they are preferred
pub record AreOffered (name : List ℕ) (packument : Data) (options : Options) (candidates : List Candidate) : Type 0 where
  pub preferred : List Candidate
  pub are : AreCandidates packument options preferred
  pub ordered : candidates ≡ locked_first (locked_of options name) preferred
