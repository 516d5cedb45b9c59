-- The problem that manifests and documents pose: the demands of version_solving in the words of npm.
use Rattle.std.specs.Prelude.{◌≡◌, ◌↔◌, ◌++◌, ◌||◌, ℕ, ℤ, List, [], Bool, IsTrue, Option, Some, None, MatchOption, bytes_eq, false, map, slice_get, string_bytes, true}
use Rattle.std.specs.List.{All, AllZip, Contains}
use Rattle.std.specs.Option.{option_map_or}
use Rattle.serde_json.specs.View.{view}
use Rattle.serde_json.specs.declared.value.Value.{Value}
use Rattle.version_solving.specs.declared.demand.Demand.{Demand}
use Rattle.version_solving.specs.declared.documents.Range.{Range}
use Rattle.version_solving.specs.Naming.{AreDemandsOf, ArePackagesOf}
use Rattle.version_solving.specs.declared.ask.Ask.{Ask}
use Rattle.version_solving.specs.declared.ask.Asker.{Asker}
use Rattle.version_solving.specs.declared.ask.Listed.{Listed}
use Rattle.version_solving.specs.declared.wanted.Wanted.{Wanted}
use Rattle.npm_texts.specs.RegistrySpec.{RegistrySpecValue, registry_spec}
use Rattle.npm_resolve.specs.Asks.{AreAsks, AskValue, RulesValue, ask_value}
use Rattle.npm_resolve.specs.Locked.{AreOffered}
use Rattle.npm_resolve.specs.Meanings.{IsAdmitted, IsMeaning, MeaningValue, nothing}
use Rattle.npm_resolve.specs.declared.candidates.candidate.Candidate.{Candidate}
use Rattle.npm_resolve.specs.declared.candidates.options.Omits.{Omits}
use Rattle.npm_resolve.specs.declared.candidates.options.Options.{Options}
use Rattle.npm_resolve.specs.declared.candidates.owner.Owner.TheVariants.{Version}
use Rattle.npm_resolve.specs.declared.candidates.owner.Reach.{Reach}
use Rattle.npm_resolve.specs.Optional.{root_demands}
use Rattle.npm_resolve.specs.Rules.{rules_of}
use Rattle.npm_resolve.specs.Wishes.{AreWishes}
use Rattle.npm_resolve.specs.declared.documents.Document.{Document}
use Rattle.npm_resolve.specs.declared.instance.Offer.{Offer}
use Rattle.npm_resolve.specs.declared.posed.Posed.{Posed}

-- ---- candidates

-- The candidates of a name are the versions of its document that can be chosen, the locked one and then the best first.
pub record IsOffer (options : Options) (document : Document) (offer : Offer) : Type 0 where
  pub name : offer.name.now ≡ string_bytes document.name
  pub of_package : offer.package.now ≡ string_bytes document.package
  pub packument : offer.packument.now ≡ document.packument
  pub candidates : AreOffered (string_bytes document.name) (view document.packument) options offer.candidates.items

-- The key of a candidate. What is posed has no candidate that is not there.
abbrev pub key_of : Offer → (candidate : ℕ) → List ℕ
key_of offer candidate = option_map_or (λ found. found.key.now) (slice_get offer.candidates.items candidate) []

-- A candidate asks for its peers, and for its dependencies too if they count.
abbrev pub IsAsker : Reach → RulesValue → Omits → Candidate → Asker → Type 0
IsAsker reach rules omits candidate asker = (left_out : List AskValue)
    × AreAsks (view candidate.manifest.now) (Version reach) rules omits (map ask_value asker.asks.items) left_out

abbrev pub AreListed : Reach → RulesValue → Omits → List Candidate → List Asker → Type 0
AreListed reach rules omits = AllZip (IsAsker reach rules omits)

pub record IsListedFor (reach : Reach) (rules : RulesValue) (omits : Omits) (offer : Offer) (listed : Listed) : Type 0 where
  pub name : listed.name.now ≡ offer.name.now
  pub askers : AreListed reach rules omits offer.candidates.items listed.candidates.items

-- ---- ranges

-- A spec for this package is met by versions of the package of the name. A spec that is no alias is for the name itself, and then npm
-- asks only for the version: `vite ^7` is met by `"vite": "npm:rolldown-vite@^7"`.
abbrev pub is_for : (of_package : List ℕ) → Offer → Bool
is_for of_package offer = bytes_eq of_package offer.package.now || bytes_eq of_package offer.name.now

-- What a spec means for a name: what its text means for the package of the name. An alias of another package allows nothing.
pub data IsMeaningFor (before : Option ℤ) (offer : Offer) (spec : List ℕ) : MeaningValue → Type 0 where
  by_text : (request : RegistrySpecValue) (meaning : MeaningValue) → registry_spec offer.name.now spec ≡ Some request
      → is_for request.name offer ≡ true → IsMeaning (view offer.packument.now) before request.text meaning
      → IsMeaningFor before offer spec meaning
  of_another : (request : RegistrySpecValue) → registry_spec offer.name.now spec ≡ Some request
      → is_for request.name offer ≡ false → IsMeaningFor before offer spec nothing
  of_none : registry_spec offer.name.now spec ≡ None → IsMeaningFor before offer spec nothing

-- The candidates that the meaning admits are allowed.
abbrev pub AreAllowed : MeaningValue → List Candidate → List Bool → Type 0
AreAllowed meaning = AllZip (λ (candidate : Candidate) (allowed : Bool). IsTrue allowed ↔ IsAdmitted meaning candidate)

-- The range allows the candidates that the spec's meaning admits.
pub record IsAllowed (before : Option ℤ) (spec : List ℕ) (range : Range) (offer : Offer) : Type 0 where
  pub meaning : MeaningValue
  pub is : IsMeaningFor before offer spec meaning
  pub each : AreAllowed meaning offer.candidates.items range.allowed.items

-- The same by the number of the name. A name without a document has no candidates.
abbrev pub IsRangeFor : (before : Option ℤ) → List Offer → Wanted → Range → Type 0
IsRangeFor before offers wanted range = MatchOption (slice_get offers wanted.name) (range.allowed.items ≡ [])
    (IsAllowed before wanted.spec.now range)

abbrev pub AreRanges : (before : Option ℤ) → List Offer → List Wanted → List Range → Type 0
AreRanges before offers = AllZip (IsRangeFor before offers)

-- ---- names without a document

abbrev pub HasNone : Listed → Type 0
HasNone one = one.candidates.items ≡ []

-- The list has the name.
abbrev pub IsNamed : List Listed → (name : List ℕ) → Type 0
IsNamed names name = (one : Listed) × Contains names one × (one.name.now ≡ name)

abbrev pub IsAskNamed : List Listed → Ask → Type 0
IsAskNamed names ask = IsNamed names ask.name.now

abbrev pub AreAskersNamed : List Listed → List Asker → Type 0
AreAskersNamed names = All (λ (asker : Asker). All (IsAskNamed names) asker.asks.items)

-- These names, which have no candidates, and those that are listed are all that are asked for.
pub record AreAbsent (wishes : List Ask) (listed absent : List Listed) : Type 0 where
  pub none : All HasNone absent
  pub of_root : All (IsAskNamed (listed ++ absent)) wishes
  pub of_candidates : All (λ (one : Listed). AreAskersNamed (listed ++ absent) one.candidates.items) listed

-- ---- all of it

-- This is the problem that the manifests of a root and the documents pose. The names are those of the documents, and behind them others
-- that are asked for. An optional dependency of the root that no version meets only limits.
pub record IsInstance (manifests : List Value) (documents : List Document) (options : Options) (reach : Reach) (omits : Omits)
    (posed : Posed)
    : Type 0 where
  pub left_out : List AskValue
  pub asked : AreWishes (rules_of manifests) omits manifests (map ask_value posed.wishes.items) left_out
  pub offered : AllZip (IsOffer options) documents posed.offers.items
  pub listed : List Listed
  pub are_listed : AllZip (IsListedFor reach (rules_of manifests) omits) posed.offers.items listed
  pub absent : List Listed
  pub are_absent : AreAbsent posed.wishes.items listed absent
  pub named : posed.names.items ≡ listed ++ absent
  pub demands : List Demand
  pub demanded : AreDemandsOf posed.names.items posed.ranges.items posed.wishes.items demands
  pub root : posed.root.items ≡ root_demands manifests posed.names.items posed.documents.ranges.items demands
  pub packages : ArePackagesOf posed.names.items posed.ranges.items posed.names.items posed.documents.packages.items
  pub allowed : AreRanges options.before posed.offers.items posed.ranges.items posed.documents.ranges.items
