-- Lists of patterns: what the functions say of a folder is what the grammar of patterns says.
use Rattle.std.proofs.Common.{◌≡◌, ◌∙◌, ◌↔◌, ◌∷◌, ℕ, List, [], Bool, true, false, Option, Some, None, IsSomeAnd, IsTrue, ap, codes}
use Rattle.std.proofs.Common.{if◌then◌else◌, inl, inr, not, option_map, refl, sym}
use Rattle.std.proofs.lemmas.Bool.{and_from, and_parts, cases_Bool, not-false, not-true, or_cases, or_from, or_left, or_parts, or_right}
use Rattle.std.specs.Option.{option_map_or}
use Rattle.serde_json.specs.Data.{Data, Items, item, no_items}
use Rattle.serde_json.specs.Find.{as_str}
use Rattle.npm_lock.specs.PatternGrammar.{IsLiteral, IsRead, Matches, parts_of, turns}
use Rattle.npm_lock.specs.Private.PatternSteps.{by_patterns, has_matched, has_unknown, has_unread, is_literal, is_matched, is_read, is_such}
use Rattle.npm_lock.specs.Private.PatternSteps.{read_patterns}
use Rattle.npm_lock.specs.Private.Patterns.{is_rest}
use Rattle.npm_lock.specs.Workspaces.{AreLiteral, ArePatternsOfRoot, AreRead, IsByPatterns, MatchesOne, all_read, no_list, none_matches}
use Rattle.npm_lock.specs.Workspaces.{one_matches, pattern_of, patterns_of, some_unread, texts_of, unread}
use Rattle.npm_lock.specs.declared.workspace.Workspace.TheVariants.{Is, IsNot}
use Rattle.npm_lock.proofs.Globs.Dots.{rest-again, rest-takes}
use Rattle.npm_lock.proofs.Globs.Forms.{form-again, form-takes, read-again, read-takes}
use Rattle.npm_lock.proofs.Globs.Matching.{matched-again, matched-takes}

-- ---- one value of the list

-- the pattern of a text, if there is one
abbrev in_parts : Option (List ℕ) → Option (List (List ℕ))
in_parts text = option_map (λ (t : List ℕ). parts_of (pattern_of t)) text

abbrev such : (List ℕ → Bool) → Option (List ℕ) → Bool
such test text = option_map_or (λ (t : List ℕ). test (pattern_of t)) text false

value-read : (text : Option (List ℕ)) → such is_read text ≡ true → IsSomeAnd (in_parts text) IsRead
value-read None h = cc h
value-read (Some text) h = read-again (pattern_of text) (form-takes (pattern_of text) h)

read-value : (text : Option (List ℕ)) → IsSomeAnd (in_parts text) IsRead → such is_read text ≡ true
read-value None read = absurd read
read-value (Some text) read = form-again (pattern_of text) (read-takes (pattern_of text) read)

value-literal : (text : Option (List ℕ)) → such is_literal text ≡ true → IsSomeAnd (in_parts text) IsLiteral
value-literal None h = cc h
value-literal (Some text) h =
    let parts = and_parts (is_read (pattern_of text)) (not (turns (parts_of (pattern_of text)))) h in
    record {
      read = value-read (Some text) parts.0;
      straight = not-true (turns (parts_of (pattern_of text))) parts.1;
    }

literal-value : (text : Option (List ℕ)) → IsSomeAnd (in_parts text) IsLiteral → such is_literal text ≡ true
literal-value None literal = absurd literal
literal-value (Some text) literal = and_from (is_read (pattern_of text)) (not (turns (parts_of (pattern_of text))))
    (read-value (Some text) literal.read) (ap not literal.straight)

-- a pattern that matches the paths that it says is read
pub literal_read : (value : Data) → is_such is_literal value ≡ true → is_such is_read value ≡ true
literal_read value h = by_text (as_str value) h where
  by_text : (text : Option (List ℕ)) → such is_literal text ≡ true → such is_read text ≡ true
  by_text None h = h
  by_text (Some text) h = (and_parts (is_read (pattern_of text)) (not (turns (parts_of (pattern_of text)))) h).0

module _ (folder : List ℕ) where
  -- the folder matches the pattern
  abbrev IsOf : List (List ℕ) → Type 0
  IsOf pattern = Matches pattern (parts_of folder)

  value-matches : (text : Option (List ℕ)) → IsSomeAnd (in_parts text) IsLiteral → such (is_matched folder) text ≡ true
      → IsSomeAnd (in_parts text) IsOf
  value-matches None read h = cc h
  value-matches (Some text) read h = matched-takes (pattern_of text) folder (read-takes (pattern_of text) read.read) h

  matches-value : (text : Option (List ℕ)) → IsSomeAnd (in_parts text) IsLiteral → IsSomeAnd (in_parts text) IsOf
      → such (is_matched folder) text ≡ true
  matches-value None read matches = absurd read
  matches-value (Some text) read matches =
      matched-again (pattern_of text) folder (read-takes (pattern_of text) read.read) matches

-- ---- all values

all-takes : (items : Items) → has_unread items ≡ false → AreRead items
all-takes no_items h = tt
all-takes (item value others) h =
    let parts = or_parts (not (is_such is_read value)) (has_unread others) h in
    (value-read (as_str value) (not-false (is_such is_read value) parts.0), all-takes others parts.1)

all-again : (items : Items) → AreRead items → has_unread items ≡ false
all-again no_items read = refl
all-again (item value others) read =
    or_from (not (is_such is_read value)) (has_unread others) (ap not (read-value (as_str value) read.0))
    (all-again others read.1)

literal-takes : (items : Items) → has_unknown items ≡ false → AreLiteral items
literal-takes no_items h = tt
literal-takes (item value others) h =
    let parts = or_parts (not (is_such is_literal value)) (has_unknown others) h in
    (value-literal (as_str value) (not-false (is_such is_literal value) parts.0), literal-takes others parts.1)

literal-again : (items : Items) → AreLiteral items → has_unknown items ≡ false
literal-again no_items literal = refl
literal-again (item value others) literal =
    or_from (not (is_such is_literal value)) (has_unknown others) (ap not (literal-value (as_str value) literal.0))
    (literal-again others literal.1)

one-takes : (folder : List ℕ) (items : Items) → AreLiteral items → has_matched folder items ≡ true → MatchesOne folder items
one-takes folder no_items read h = cc h
one-takes folder (item value others) read h = elim (or_cases (is_such (is_matched folder) value) (has_matched folder others) h) [
  | inl this ↦ inl (value-matches folder (as_str value) read.0 this)
  | inr later ↦ inr (one-takes folder others read.1 later)
]

one-again : (folder : List ℕ) (items : Items) → AreLiteral items → MatchesOne folder items → has_matched folder items ≡ true
one-again folder no_items read one = absurd one
one-again folder (item value others) read (inl this) =
    or_left (is_such (is_matched folder) value) (has_matched folder others)
    (matches-value folder (as_str value) read.0 this)
one-again folder (item value others) read (inr later) =
    or_right (is_such (is_matched folder) value) (has_matched folder others) (one-again folder others read.1 later)

read-written : (folder : List ℕ) (items : Items) → has_unknown items ≡ false
    → IsByPatterns folder items (if has_matched folder items then Is else IsNot)
read-written folder items read = elim (cases_Bool (has_matched folder items)) [
  | inl is ↦ rw is (one_matches (literal-takes items read) (one-takes folder items (literal-takes items read) is))
  | inr is_not ↦
      rw is_not (none_matches (literal-takes items read)
      (λ one. cc (one-again folder items (literal-takes items read) one, is_not)))
]

pub by-written : (folder : List ℕ) (items : Items) → IsByPatterns folder items (by_patterns folder items)
by-written folder items = elim (cases_Bool (has_unknown items)) [
  | inl is ↦ rw is (unread (λ read. cc (literal-again items read, is)))
  | inr read ↦ rw read (read-written folder items read)
]

-- ---- the patterns of the root

root-by : (root : Data) (patterns : Option Items) → patterns_of root ≡ patterns
    → ArePatternsOfRoot root (option_map_or (λ (items : Items). if has_unread items then None else Some (texts_of items))
    patterns (Some []))
root-by root None is = no_list is
root-by root (Some items) is = elim (cases_Bool (has_unread items)) [
  | inl not_read ↦ rw not_read (some_unread items is (λ read. cc (all-again items read, not_read)))
  | inr read ↦ rw read (all_read items is (all-takes items read))
]

pub root-written : (root : Data) → ArePatternsOfRoot root (read_patterns root)
root-written root = root-by root (patterns_of root) refl

-- ---- the name of a folder

pub part-is : (rest : List ℕ) (result : Bool) → result ≡ is_rest false rest
    → IsTrue result ↔ Matches (codes "*" ∷ []) (parts_of rest)
part-is rest result is = ((λ h. rest-again false rest (sym is ∙ h)), (λ matches. is ∙ rest-takes false rest matches))
