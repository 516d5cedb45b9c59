-- Advisories, and how npm's form writes them: npm's "npm audit", "Bulk Advisory Endpoint".
use Rattle.std.specs.Prelude.{ℕ, List, [], ◌∷◌, ◌++◌, Option, option_and_then, option_map, unwrap_or, codes, bytes_eq}
use Rattle.std.specs.Prelude.{filter, true}
use Rattle.std.specs.Option.{option_map_or}
use Rattle.serde_json.specs.Data.{Data, Items, Members, item, member, no_items, no_members, null, string}
use Rattle.serde_json.specs.View.{items_view, view}
use Rattle.serde_json.specs.Find.{as_array, as_str, get}
use Rattle.npm_texts.specs.Texts.{rest_after}
use Rattle.npm_semver.specs.NpmRanges.{NpmOptions, NpmTextAdmits, with_plain_spaces}
use Rattle.node_semver.specs.Versions.{VersionValue}
use Rattle.npm_advisories.specs.OsvRanges.{EventValue, IsInOsv}
use Rattle.npm_advisories.specs.Severities.{severity_of_text}
use Rattle.npm_advisories.specs.declared.advisory.About.{About}
use Rattle.npm_advisories.specs.declared.known.Aliases.{Aliases}
use Rattle.npm_advisories.specs.declared.known.Aliases.TheVariants.{Address, Listed}
use Rattle.npm_advisories.specs.declared.severity.Severity.{Severity}
use Rattle.npm_advisories.specs.declared.severity.Severity.TheVariants.{Unknown}

-- a text as an item, if there is one
abbrev pub alias_item : Option (List ℕ) → Items
alias_item text = option_map_or (λ text. item (string text) no_items) text no_items

-- what an advisory says of itself: `id` is a number or a text
pub record AboutValue : Type 0 where
  pub id : Data
  pub severity : Severity
  pub title : Option (List ℕ)
  pub url : Option (List ℕ)
  pub aliases : Items

-- the strings among these are its aliases
abbrev pub aliases_items : Aliases → Items
aliases_items (Address text) = alias_item (option_map (λ text. text.now) text)
aliases_items (Listed values) = items_view values.now

-- what an advisory says of itself, as a contract sees it
abbrev pub about_value : About → AboutValue
about_value about = record {
  id = view about.id.now;
  severity = about.severity;
  title = option_map (λ text. text.now) about.title;
  url = option_map (λ text. text.now) about.url;
  aliases = aliases_items about.aliases;
}

-- the versions that an advisory is about: a range text in npm's form; the events of ranges, and versions, in OSV's
pub data Affected : Type 0 where
  range_text : (text : List ℕ) → Affected
  in_osv : (ranges : List (List EventValue)) (versions : List (List ℕ)) → Affected

-- an advisory about some versions of the package with this name
pub record AdvisoryValue : Type 0 where
  pub name : List ℕ
  pub about : AboutValue
  pub affected : Affected

-- ---- which versions an advisory affects

-- npm reads the range text of an advisory in loose form, and asks it with prereleases included
abbrev pub advisory_options : NpmOptions
advisory_options = record { loose = true; include_prerelease = true }

-- the version is one that the advisory is about: `<4.17.21` affects 4.17.20 and 4.17.21-rc.1
abbrev pub Affects : Affected → VersionValue → Type 0
Affects (range_text text) v = NpmTextAdmits advisory_options (with_plain_spaces text) v
Affects (in_osv ranges versions) v = IsInOsv ranges versions v

-- ---- the members of an advisory

-- a member that is a string
abbrev pub text_of : (key : List ℕ) → (entry : Data) → Option (List ℕ)
text_of key entry = option_and_then as_str (get key entry)

-- its severity; `Unknown` if no word is there, or another one than npm's
abbrev pub severity_of_option : Option (List ℕ) → Severity
severity_of_option text = option_map_or severity_of_text text Unknown

-- the id in an address on GitHub: `GHSA-jf85-cpcp-j695` in `https://github.com/advisories/GHSA-jf85-cpcp-j695`
abbrev pub id_in_url : (url : Option (List ℕ)) → Option (List ℕ)
id_in_url url = option_and_then (rest_after (codes "https://github.com/advisories/")) url

-- `id`, `severity`, `title` and `url` of an advisory in npm's form, and the id in its `url`
abbrev pub npm_about : (entry : Data) → AboutValue
npm_about entry = record {
  id = unwrap_or (get (codes "id") entry) null;
  severity = severity_of_option (text_of (codes "severity") entry);
  title = text_of (codes "title") entry;
  url = text_of (codes "url") entry;
  aliases = alias_item (id_in_url (text_of (codes "url") entry));
}

-- the range text of an advisory in npm's form: all versions if none is there, or `null`
abbrev pub npm_range_text : (entry : Data) → List ℕ
npm_range_text entry = unwrap_or (text_of (codes "vulnerable_versions") entry) (codes "*")

-- an advisory in npm's form, about the package with this name
abbrev pub npm_advisory : (name : List ℕ) → (entry : Data) → AdvisoryValue
npm_advisory name entry = record {
  name = name;
  about = npm_about entry;
  affected = range_text (npm_range_text entry);
}

-- ---- all of a file

-- those of a list about the package with this name
abbrev pub npm_list : (name : List ℕ) → Items → List AdvisoryValue
npm_list name no_items = []
npm_list name (item entry others) = npm_advisory name entry ∷ npm_list name others

-- those of an object that has a list for each name: `{"a": [{"id": 1, "vulnerable_versions": "<1.2.3"}]}`
abbrev pub npm_members : Members → List AdvisoryValue
npm_members no_members = []
npm_members (member name list others) = option_map_or (npm_list name) (as_array list) [] ++ npm_members others

-- those about the package with this name
abbrev pub about_name : (name : List ℕ) → List AdvisoryValue → List AdvisoryValue
about_name name advisories = filter (λ advisory. bytes_eq advisory.name name) advisories
