-- How severe an advisory is: npm's "npm audit", "audit-level".
use Rattle.std.specs.Prelude.{◌||◌, ℕ, List, map, Bool, true, false, if◌then◌else◌, nat_le, bytes_eq, codes}
use Rattle.std.specs.Char.{to_ascii_lowercase}
use Rattle.npm_advisories.specs.declared.severity.Severity.{Severity}
use Rattle.npm_advisories.specs.declared.severity.Severity.TheVariants.{Critical, High, Info, Low, Moderate, Unknown}

-- the word, with letters of either case: `High` and `HIGH` are the word `high`
abbrev pub is_word : (word text : List ℕ) → Bool
is_word word text = bytes_eq (map to_ascii_lowercase text) (map to_ascii_lowercase word)

-- the severity that a text names; `severe` names none
abbrev pub severity_of_text : (text : List ℕ) → Severity
severity_of_text text =
    if is_word (codes "info") text then Info
    else (if is_word (codes "low") text then Low
    else (if is_word (codes "moderate") text then Moderate
    else (if is_word (codes "high") text then High
    else (if is_word (codes "critical") text then Critical else Unknown))))

-- the word for it
abbrev pub word_of : Severity → List ℕ
word_of Unknown = codes "unknown"
word_of Info = codes "info"
word_of Low = codes "low"
word_of Moderate = codes "moderate"
word_of High = codes "high"
word_of Critical = codes "critical"

-- the order of severities
abbrev pub rank : Severity → ℕ
rank Unknown = 0
rank Info = 1
rank Low = 2
rank Moderate = 3
rank High = 4
rank Critical = 5

-- it is not known how severe the advisory is
abbrev pub is_unknown : Severity → Bool
is_unknown Unknown = true
is_unknown Info = false
is_unknown Low = false
is_unknown Moderate = false
is_unknown High = false
is_unknown Critical = false

-- the severity is that of the level, or above it, or unknown
abbrev pub is_at_least : (level severity : Severity) → Bool
is_at_least level severity = is_unknown severity || nat_le (rank level) (rank severity)
