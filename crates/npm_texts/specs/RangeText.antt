-- The grammar of specs as functions, step by step. The law `specs_are_those_of_the_grammar` says that they give what the
-- grammar says, so a reader of `SpecGrammar` need not read them.
use Rattle.std.specs.Prelude.{◌==◌, ◌||◌, ◌&&◌, not, ℕ, List, [], ◌∷◌, Bool, if◌then◌else◌, Option, Some, None, codes}
use Rattle.std.specs.Prelude.{is_none, is_some, length, nat_eq, option_and_then, reverse, unwrap_or}
use Rattle.std.specs.Char.{is_ascii_alphabetic, to_ascii_lowercase}
use Rattle.std.specs.List.{after_first, before_first, ends_with, list_all, list_any, position_or_len, starts_with}
use Rattle.std.specs.Option.{option_map_or}
use Rattle.npm_texts.specs.Texts.{rest_after}
pub use Rattle.npm_texts.specs.SpecGrammar.{SpecValue, in_registry, location, refused, spec_value}
pub use Rattle.npm_texts.specs.SpecGrammar.{at_sign, colon, filled, is_any, is_at_sign, is_colon, is_slash, is_tag, is_tag_byte}

-- ---- URLs, repositories, files and folders

-- a byte or more, and each a letter
abbrev pub all_letters : List ℕ → Bool
all_letters text = not (length text == 0) && list_all is_ascii_alphabetic text

-- what comes before the `:` of a URL or of a repository
abbrev pub begins_url : List ℕ → Bool
begins_url text = all_letters (unwrap_or (rest_after (codes "git+") text) text)
    || ends_with nat_eq text (codes "@gist.github.com")

-- a text that begins as a URL: `github:a`, and not `^1 || a:b`
abbrev pub has_scheme : List ℕ → Bool
has_scheme text =
    not (position_or_len is_colon text == length text) && begins_url (before_first is_colon text)

-- the text after its first byte, if that is this letter, small or capital
abbrev pub past_letter : (letter : ℕ) → List ℕ → Option (List ℕ)
past_letter letter [] = None
past_letter letter (b ∷ text) = if to_ascii_lowercase b == letter then Some text else None

-- the text after its first byte, if that is any one but a line end
abbrev pub past_any : List ℕ → Option (List ℕ)
past_any [] = None
past_any (b ∷ text) = if is_any b then Some text else None

-- the text after these letters, one after the other, each small or capital
abbrev pub past_letters : (letters : List ℕ) → List ℕ → Option (List ℕ)
past_letters [] text = Some text
past_letters (letter ∷ letters) text = option_and_then (past_letters letters) (past_letter letter text)

-- read from the last byte on, what comes before `.tgz`, before `.tar`, and before `.tar.gz`
abbrev pub before_tgz : List ℕ → Option (List ℕ)
before_tgz = past_letters (codes "zgt.")

abbrev pub before_tar : List ℕ → Option (List ℕ)
before_tar = past_letters (codes "rat.")

abbrev pub before_tar_gz : List ℕ → Option (List ℕ)
before_tar_gz back = option_and_then before_tar (option_and_then past_any (past_letters (codes "zg") back))

-- a text that ends as an archive: `a.tgz`
abbrev pub ends_archive : List ℕ → Bool
ends_archive text = is_some (before_tgz (reverse text)) || is_some (before_tar (reverse text))
    || is_some (before_tar_gz (reverse text))

-- `IsLocation` of the grammar
abbrev pub is_elsewhere : List ℕ → Bool
is_elsewhere text = starts_with nat_eq text (codes ".") || list_any is_slash text || has_scheme text || ends_archive text

-- ---- targets of aliases

-- one byte or more, of which names are made
abbrev pub can_be_name : List ℕ → Bool
can_be_name text = not (length text == 0) && list_all is_tag_byte text

-- the text after the first `@`, or the other text if there is none: `a@^1` gives `^1`, and `a@` gives `*`
abbrev pub range_after : (target other : List ℕ) → List ℕ
range_after target other =
    if position_or_len is_at_sign target == length target then other else filled (after_first is_at_sign target)

-- the range of a target without a scope
abbrev pub unscoped_range : (target : List ℕ) → List ℕ
unscoped_range target = range_after target (if can_be_name target then codes "*" else target)

-- the range of a target: `^1` of `a@^1` and of `@s/a@^1`, and `*` of `@s/a`
abbrev pub target_range : (target : List ℕ) → List ℕ
target_range target = option_map_or (λ scoped. range_after scoped (codes "*")) (rest_after (codes "@") target)
    (unscoped_range target)

-- the name of a target without a scope
abbrev pub unscoped_name : (target : List ℕ) → Option (List ℕ)
unscoped_name target = if position_or_len is_at_sign target == length target
    then (if can_be_name target then Some target else None) else Some (before_first is_at_sign target)

-- the name of a target: `a` of `a@^1`, `@s/a` of `@s/a@^1`, and none of `^1`
abbrev pub target_name : (target : List ℕ) → Option (List ℕ)
target_name target = option_map_or (λ scoped. Some (at_sign ∷ before_first is_at_sign scoped)) (rest_after (codes "@") target)
    (unscoped_name target)

-- ---- aliases

-- the text after its first byte, if that is one of these two
abbrev pub past_either : (byte other : ℕ) → List ℕ → Option (List ℕ)
past_either byte other [] = None
past_either byte other (b ∷ text) = if (b == byte) || (b == other) then Some text else None

-- the letters of `npm:`, small and capital
abbrev pub letter_n : ℕ
letter_n = 110

abbrev pub capital_n : ℕ
capital_n = 78

abbrev pub letter_p : ℕ
letter_p = 112

abbrev pub capital_p : ℕ
capital_p = 80

abbrev pub letter_m : ℕ
letter_m = 109

abbrev pub capital_m : ℕ
capital_m = 77

-- the target of an alias
abbrev pub alias_target : (spec : List ℕ) → Option (List ℕ)
alias_target spec = option_and_then (past_either colon colon) (option_and_then (past_either letter_m capital_m)
    (option_and_then (past_either letter_p capital_p) (past_either letter_n capital_n spec)))

-- the name of the package that a spec is an alias of: `IsAliasOf` of the grammar
abbrev pub aliased_name : (spec : List ℕ) → Option (List ℕ)
aliased_name spec = option_and_then
    (λ target. if is_elsewhere (target_range target) then None else target_name target) (alias_target spec)

-- ---- specs

-- what an alias of this range is
abbrev pub alias_value : (range : List ℕ) → SpecValue
alias_value range = if is_elsewhere range then refused else in_registry range

-- what any other spec is
abbrev pub other_value : (spec : List ℕ) → SpecValue
other_value spec = if is_elsewhere spec then location else in_registry (filled spec)

-- the text is neither an alias nor a location: a version, a range, a tag, or what is none of them
abbrev pub is_plain : (spec : List ℕ) → Bool
is_plain spec = is_none (alias_target spec) && not (is_elsewhere spec)

-- what a spec is: `IsSpec` of the grammar
abbrev pub spec_of : (spec : List ℕ) → SpecValue
spec_of spec = option_map_or (λ target. alias_value (target_range target)) (alias_target spec) (other_value spec)
