-- Workspaces that were found on disk, one more at a time.
use Rattle.std.proofs.Common.{◌≡◌, ◌∙◌, ◌++◌, ℕ, ◌+◌, ◌<◌, List, [], ◌∷◌, Some, None, ap, append_assoc, drop}
use Rattle.std.proofs.Common.{get_or, length, map, refl, sym}
use Rattle.std.proofs.lemmas.List.{drop_more, map-append}
use Rattle.serde_json.specs.Data.{Data}
use Rattle.npm_lock.specs.FoundWorkspaces.{workspace_problem}
use Rattle.npm_lock.specs.Outcomes.{ProblemValue, problem_value}
use Rattle.npm_lock.specs.declared.problem.Problem.{Problem}
use Rattle.npm_manifest_files.specs.Linked.{workspace_value}
use Rattle.npm_lock_check.specs.Report.{workspace_problems}
use Rattle.npm_manifest_files.specs.declared.linked.Workspace.{Workspace}

module _ (lock : Data) (all : List Workspace) (i : ℕ) (one : Workspace) (small : i < length all)
    (is : one ≡ get_or all i one) where
  abbrev rest : List ProblemValue
  rest = workspace_problems lock (map workspace_value (drop (i + 1) all))

  -- it is the first of those that are left
  left : drop i all ≡ one ∷ drop (i + 1) all
  left = drop_more all i one small ∙ ap (λ x. x ∷ drop (i + 1) all) (sym is)

  -- the problems of those that are left, if it has one
  some_left : (problem : ProblemValue)
      → workspace_problem lock (workspace_value one).name (workspace_value one).folder ≡ Some problem
      → workspace_problems lock (map workspace_value (drop i all)) ≡ problem ∷ rest
  some_left problem some = rw (left, some) refl

  none_left : workspace_problem lock (workspace_value one).name (workspace_value one).folder ≡ None
      → workspace_problems lock (map workspace_value (drop i all)) ≡ rest
  none_left none = rw (left, none) refl

  module _ (done : List Problem) (whole : List ProblemValue)
      (held : map problem_value done ++ workspace_problems lock (map workspace_value (drop i all)) ≡ whole) where
    pub problem_more : (more : List Problem) (problem : Problem)
        → workspace_problem lock (workspace_value one).name (workspace_value one).folder ≡ Some (problem_value problem)
        → more ≡ done ++ (problem ∷ []) → map problem_value more ++ rest ≡ whole
    problem_more more problem some is_more =
        ap (λ list. map problem_value list ++ rest) is_more
        ∙ ap (λ list. list ++ rest) (map-append problem_value done (problem ∷ []))
        ∙ append_assoc (map problem_value done) (problem_value problem ∷ []) rest
        ∙ ap (λ list. map problem_value done ++ list) (sym (some_left (problem_value problem) some)) ∙ held

    pub none_more : workspace_problem lock (workspace_value one).name (workspace_value one).folder ≡ None
        → map problem_value done ++ rest ≡ whole
    none_more none = ap (λ list. map problem_value done ++ list) (sym (none_left none)) ∙ held
