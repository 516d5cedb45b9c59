-- The parts of a path, some of which may lead up.
use Rattle.std.specs.Prelude.{ℕ, ◌+◌, ◌==◌, ◌&&◌, List, Bool, if◌then◌else◌, not}
use Rattle.std.specs.List.{list_all}
use Rattle.npm_packages.specs.Folders.{below_up, ends_in_modules, is_step}

-- Each part leads one folder down, apart from each `..` at the start if it may lead up. The last one is no `node_modules`.
abbrev pub are_steps : (may_lead_up : Bool) → (parts : List (List ℕ)) → Bool
are_steps may_lead_up parts =
    list_all is_step (if may_lead_up then below_up parts else parts) && not (ends_in_modules parts)

-- how many bytes come before a name in the `node_modules` of a folder of this length: `node_modules/`, after the folder and a `/`
abbrev pub before_name : (size : ℕ) → ℕ
before_name size = if size == 0 then 13 else size + 14
