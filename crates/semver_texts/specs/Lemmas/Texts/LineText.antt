-- The text of a line from a place on, with nothing past its end.
use Rattle.std.proofs.Common.{◌≡◌, ◌∙◌, ◌≤◌, ℕ, List, ◌++◌, append-nil, ap, drop, length}
use Rattle.std.proofs.lemmas.List.{drop_all}

pub whole_text : (line text : List ℕ) → length line ≤ 176 → text ++ drop 176 line ≡ text
whole_text line text short = ap (λ (l : List ℕ). text ++ l) (drop_all 176 line short) ∙ append-nil text
