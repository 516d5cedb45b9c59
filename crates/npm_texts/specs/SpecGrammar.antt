-- The grammar of specs: npm's "package.json", "dependencies", and `npm-package-arg`.
--
--     spec     = "npm:" target | location | range
--     target   = name "@" range | name | range
--     location = "." text | text "/" text | scheme ":" text | text archive
--     scheme   = letters | "git+" letters | text "@gist.github.com"
--     archive  = ".tgz" | ".tar" any "gz" | ".tar"
--
-- The first form that fits counts. The letters of an archive may be capitals. An empty range is `*`. Each other text is a
-- range here: this grammar does not say which texts are ranges, which are tags, and which are neither.
use Rattle.std.specs.Prelude.{◌≡◌, ◌≢◌, ◌==◌, ◌||◌, ◌⊎◌, ℕ, Bool, true, false, List, [], ◌∷◌, ◌++◌, Option, Some, None}
use Rattle.std.specs.Prelude.{◌&&◌, codes, map, nat_lt, not}
use Rattle.std.specs.Char.{is_ascii_alphabetic, is_ascii_alphanumeric, to_ascii_lowercase}
use Rattle.std.specs.List.{list_all, list_any}
use Rattle.std.specs.Path.{slash}
use Rattle.std.specs.Str.{trim}
use Rattle.semver_texts.specs.Characters.{carriage_return, newline}
use Rattle.npm_texts.specs.declared.spec.Spec.{Spec}
use Rattle.npm_texts.specs.declared.spec.Spec.TheVariants as Specs

-- what a spec is: a range or a tag of a registry; a URL, a repository, a file or a folder; or what npm refuses
pub data SpecValue : Type 0 where
  in_registry : (range : List ℕ) → SpecValue
  location : SpecValue
  refused : SpecValue

-- what a contract sees of it
abbrev pub spec_value : Spec → SpecValue
spec_value (Specs.Text range) = in_registry range.now
spec_value Specs.Location = location
spec_value Specs.Refused = refused

-- ---- bytes

-- before a scope, and between a name and its range
abbrev pub at_sign : ℕ
at_sign = 64

-- after the scheme of a URL, and after the `npm` of an alias
abbrev pub colon : ℕ
colon = 58

abbrev pub is_at_sign : ℕ → Bool
is_at_sign b = b == at_sign

abbrev pub is_colon : ℕ → Bool
is_colon b = b == colon

abbrev pub is_slash : ℕ → Bool
is_slash b = b == slash

-- letters, digits and `-_.!~*'()`, of which tags and names are made
abbrev pub is_tag_byte : ℕ → Bool
is_tag_byte b = is_ascii_alphanumeric b || list_any (λ c. b == c) (codes "-_.!~*'()")

-- the text has such a byte, or none
abbrev pub Has : (ℕ → Bool) → List ℕ → Type 0
Has test text = list_any test text ≡ true

abbrev pub HasNo : (ℕ → Bool) → List ℕ → Type 0
HasNo test text = list_any test text ≡ false

-- one byte or more, and each is such
abbrev pub AreSome : (ℕ → Bool) → List ℕ → Type 0
AreSome test text = (text ≢ []) × (list_all test text ≡ true)

-- ---- URLs, repositories, files and folders

-- What comes before the `:` of a URL or of a repository: `https` or `github`, `git+ssh`, and `git@gist.github.com`. Of the
-- hosts that npm knows, this one alone has repositories without a slash.
pub data IsScheme (text : List ℕ) : Type 0 where
  letters : AreSome is_ascii_alphabetic text → IsScheme text
  git : (protocol : List ℕ) → text ≡ codes "git+" ++ protocol → AreSome is_ascii_alphabetic protocol → IsScheme text
  gist : (user : List ℕ) → text ≡ user ++ codes "@gist.github.com" → HasNo is_colon text → IsScheme text

-- what does for the second dot of `.tar.gz`: any character of ASCII that ends no line
abbrev pub is_any : ℕ → Bool
is_any b = nat_lt b 128 && not (b == newline) && not (b == carriage_return)

-- the end of the name of an archive: `.tgz`, `.tar`, and `.tar.gz`, as in `.TGZ` and `.tar-gz`
pub data IsArchiveEnd (end : List ℕ) : Type 0 where
  tgz : map to_ascii_lowercase end ≡ codes ".tgz" → IsArchiveEnd end
  tar : map to_ascii_lowercase end ≡ codes ".tar" → IsArchiveEnd end
  tar_gz : (start gz : List ℕ) (b : ℕ) → end ≡ start ++ (b ∷ gz) → map to_ascii_lowercase start ≡ codes ".tar"
      → is_any b ≡ true → map to_ascii_lowercase gz ≡ codes "gz" → IsArchiveEnd end

-- a URL, a repository, a file or a folder: `./a`, `a/b`, `github:a`, and `a-1.0.0.tgz`
pub data IsLocation (text : List ℕ) : Type 0 where
  from_dot : (rest : List ℕ) → text ≡ codes "." ++ rest → IsLocation text
  with_slash : Has is_slash text → IsLocation text
  url : (scheme rest : List ℕ) → text ≡ scheme ++ (codes ":" ++ rest) → IsScheme scheme → IsLocation text
  archive : (start end : List ℕ) → text ≡ start ++ end → IsArchiveEnd end → IsLocation text

-- ---- ranges and tags

-- a range, which is `*` if nothing is written
abbrev pub filled : List ℕ → List ℕ
filled [] = codes "*"
filled (b ∷ text) = b ∷ text

-- a text that may be a tag: `latest`, `next-11`. White space around it does not count.
abbrev pub is_tag : List ℕ → Bool
is_tag text = list_all is_tag_byte (trim text)

-- ---- aliases

-- the text is `npm:`, with letters of either case, and this target: `a@^1` in `npm:a@^1`
pub record IsAlias (text target : List ℕ) : Type 0 where
  pub scheme : List ℕ
  pub whole : text ≡ scheme ++ target
  pub npm : map to_ascii_lowercase scheme ≡ codes "npm:"

-- a name that stands alone: `a`, or with a scope `@s/a`
pub data IsName (text : List ℕ) : Type 0 where
  plain : AreSome is_tag_byte text → IsName text
  scoped : (rest : List ℕ) → text ≡ codes "@" ++ rest → HasNo is_at_sign rest → IsName text

-- The name and the range of a target: `a` and `^1` of `a@^1`, `@s/a` and `*` of `@s/a`. A text that can be no name, such
-- as `^1`, is a range without a name. An `@` at the start is part of the name.
pub data IsTarget (text : List ℕ) : (name : Option (List ℕ)) → (range : List ℕ) → Type 0 where
  both : (b : ℕ) (name range : List ℕ) → text ≡ b ∷ (name ++ (codes "@" ++ range)) → HasNo is_at_sign name
      → IsTarget text (Some (b ∷ name)) (filled range)
  name_alone : IsName text → IsTarget text (Some text) (codes "*")
  range_alone : ¬ IsName text → HasNo is_at_sign text → IsTarget text None text

-- ---- specs

-- The text is this. An alias of what is in no registry is refused: `npm:a@github:b/c`.
pub data IsSpec (text : List ℕ) : SpecValue → Type 0 where
  alias : (target : List ℕ) (name : Option (List ℕ)) (range : List ℕ) → IsAlias text target → IsTarget target name range
      → ¬ IsLocation range → IsSpec text (in_registry range)
  refused_alias : (target : List ℕ) (name : Option (List ℕ)) (range : List ℕ) → IsAlias text target
      → IsTarget target name range → IsLocation range → IsSpec text refused
  elsewhere : ((target : List ℕ) → ¬ IsAlias text target) → IsLocation text → IsSpec text location
  from_registry : ((target : List ℕ) → ¬ IsAlias text target) → ¬ IsLocation text → IsSpec text (in_registry (filled text))

-- the text is an alias of this package: `a` of `npm:a@^1`, but of none `npm:^1` and `npm:a@github:b/c`
pub record IsAliasOf (text name : List ℕ) : Type 0 where
  pub target : List ℕ
  pub range : List ℕ
  pub aliased : IsAlias text target
  pub named : IsTarget target (Some name) range
  pub registered : ¬ IsLocation range
