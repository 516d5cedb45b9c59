-- A text is divided at its first `/`.
use Rattle.std.proofs.Common.{◌≡◌, ◌<◌, ℕ, List, None, Option, Some, arith, length, lit<, option_map, refl}
use Rattle.std.proofs.lemmas.Bool.{le-ltb, lt-ltb}
use Rattle.std.specs.List.{after_first, before_first, position_or_len}
use Rattle.std.specs.Option.{MatchOption}
use denote.Ref.{Bor}
use Rattle.npm_texts.specs.SpecGrammar.{is_slash}
use Rattle.npm_lock_reports.specs.Projects.{part_values, parts_of}
use Rattle.npm_lock_reports.proofs.workspace.parts_of.Goals as goal

divided : (word : List ℕ) (r : Option (Bor (List ℕ) × Bor (List ℕ)))
    → MatchOption r (position_or_len is_slash word ≡ length word)
    (λ x. (x.0.now ≡ before_first is_slash word) × (x.1.now ≡ after_first is_slash word)
    × (position_or_len is_slash word < length word))
    → option_map part_values r ≡ parts_of word
divided word None none = rw (le-ltb (position_or_len is_slash word) (length word) (omega (arith, none))) refl
divided word (Some x) some = rw (some.0, some.1, lt-ltb (position_or_len is_slash word) (length word) some.2) refl

pub returns : goal.returns
returns c = divided c.args.text.now c.split_once.result (c.split_once.ensures.byte (lit< tt) (λ w o is. is))
