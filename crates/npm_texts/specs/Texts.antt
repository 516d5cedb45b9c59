-- A text without its start or its end.
use Rattle.std.specs.Prelude.{◌-◌, ℕ, List, if◌then◌else◌, Option, Some, None, drop, length, nat_eq, take}
use Rattle.std.specs.List.{ends_with, starts_with}

-- the text without this end, or the whole of it if it does not end so: `a/` of `a/*` without `*`
abbrev pub without_end : (end text : List ℕ) → List ℕ
without_end end text = if ends_with nat_eq text end then take (length text - length end) text else text

-- the text after this start, if it begins so: `b` of `a/b` after `a/`
abbrev pub rest_after : (start text : List ℕ) → Option (List ℕ)
rest_after start text = if starts_with nat_eq text start then Some (drop (length start) text) else None
