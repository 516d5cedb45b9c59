-- Kinds of problems.
use Rattle.std.specs.Prelude.{ℕ, List, Bool, bytes_eq, map}
use Rattle.std.specs.List.{list_any}
use Rattle.npm_lock.specs.Outcomes.{kind_text}
use Rattle.npm_lock.specs.declared.problem.Kind.{Kind}
use Rattle.npm_lock_check.specs.declared.checks.kinds.Kinds.{Kinds}

-- what a manifest and the lock file do not ask alike, and the words of other kinds
pub record KindsValue : Type 0 where
  pub group : Bool
  pub words : List (List ℕ)

-- what a contract sees of them
abbrev pub kinds_value : Kinds → KindsValue
kinds_value kinds = record { group = kinds.group; words = map (λ word. word.now) kinds.words.now }

-- a word is one of these
abbrev pub is_among : (words : List (List ℕ)) → (wanted : List ℕ) → Bool
is_among words wanted = list_any (λ word. bytes_eq word wanted) words

-- whether the kind is one of them
abbrev pub has : KindsValue → Kind → Bool
has kinds kind = is_among kinds.words (kind_text kind)
