-- What is picked for a text is the first candidate that the text's meaning admits.
use Rattle.std.proofs.Common.{◌≡◌, ◌∙◌, ℕ, List, Bool, true, false, Ok, Result, Some, ap, refl, subst, sym}
use Rattle.semver_cuts.specs.Lemmas.Lists.{all-always, all_map}
use Rattle.serde_json.specs.Data.{Data}
use Rattle.node_semver.specs.Versions.{version_text, without_build}
use Rattle.npm_texts.specs.Admission.{IsNoRange, of_dependencies}
use Rattle.npm_texts.specs.RangeText.{filled}
use Rattle.npm_pick.specs.Lemmas.Readings.{one_version}
use Rattle.npm_pick.specs.Packument.{Release, candidates_of, is_restricted, tagged}
use Rattle.npm_pick.specs.Pick.{HasNoDefault, IsChosen, IsPicked, IsPickedAt, IsPickedByTag, IsPickedByText, IsPickedFor, IsPickedIn, PickedValue, allowed}
use Rattle.npm_pick.specs.Pick as Picks
use Rattle.npm_pick.specs.Rank.{IsRankOf, Rank}
use Rattle.npm_pick.specs.Times.{is_published}
use Rattle.npm_pick.specs.Wanted.{up_to}
use Rattle.npm_pick.specs.declared.error.PickError.{PickError}
use Rattle.npm_pick.specs.declared.options.Options as Picking
use Rattle.npm_resolve.specs.Candidates.{AreCandidates}
use Rattle.npm_resolve.specs.Meanings.{IsMeaning, IsMeaningByText, IsMeaningOfTag, MeaningValue, inside, nothing, only}
use Rattle.npm_resolve.specs.Meanings as Meanings
use Rattle.npm_resolve.specs.declared.candidates.candidate.Candidate.{Candidate}
use Rattle.npm_resolve.specs.declared.candidates.options.Options.{Options}
use Rattle.npm_resolve_laws.specs.Alike.{AreAlike, HasKeysOnce}
use Rattle.npm_resolve_laws.specs.Firsts.{AdmitsNone, AgreesWith}
use Rattle.npm_resolve_laws.proofs.ByDefault.{default_first}
use Rattle.npm_resolve_laws.proofs.ByKey.{absent_none, key_first, late_none, restricted_none}
use Rattle.npm_resolve_laws.proofs.ByRank.{IsUnranked, none_first, rank_first, restricted_first}

module _ (p : Data) (o : Options) (picking : Picking.Options) (alike : AreAlike o picking) (once : HasKeysOnce p)
    (cs : List Candidate) (are : AreCandidates p o cs) where
  -- ---- one key

  by_key : (key : List ℕ) (answer : Result PickedValue PickError) → IsPickedAt p picking key answer
      → AgreesWith (only key) cs (allowed p answer)
  by_key key _ (Picks.there manifest is_avoided published there avoided) = by_policy (is_restricted p key) refl where
    by_policy : (b : Bool) → is_restricted p key ≡ b → AgreesWith (only key) cs (allowed p (Ok (Picks.inside key manifest is_avoided)))
    by_policy true restricted = rw restricted (restricted_none p o picking alike once cs are key restricted)
    by_policy false free = rw free (λ read. key_first p o picking alike once cs are key manifest there published free read is_avoided)
  by_key key _ (Picks.late late) = late_none p o picking alike once cs are key late
  by_key key _ (Picks.absent absent) = absent_none p o picking alike once cs are key absent

  -- ---- a range

  by_range : (range : List ℕ) (answer : Result PickedValue PickError) → IsPickedIn p picking range answer
      → AgreesWith (inside range) cs (allowed p answer)
  by_range range _ (Picks.by_default key manifest is) =
      rw is.suitable.allowed (λ read. default_first p o picking alike once cs are range key manifest is read)
  by_range range _ (Picks.by_rank best rank none is) = by_policy (is_restricted p best.key) refl where
    by_policy : (b : Bool) → is_restricted p best.key ≡ b
        → AgreesWith (inside range) cs (allowed p (Ok (Picks.inside best.key best.manifest rank.is_avoided)))
    by_policy true restricted = rw restricted (restricted_first p o picking alike once cs are range none best rank is restricted)
    by_policy false free = rw free (λ read. rank_first p o picking alike once cs are range none best rank is free read)
  by_range range _ (Picks.empty none late) = none_first p o picking alike once cs are range none
      (all_map (λ (r : Release). is_published picking.before p r.key ≡ false) (IsUnranked p o picking alike once cs are range none)
      (λ r is rank has free. cc (is, has.published)) (candidates_of picking.include_staged p) late)
  by_range range _ (Picks.none none some unranked) = none_first p o picking alike once cs are range none
      (all_map (λ (r : Release). (rank : Rank) → ¬ IsRankOf p picking range r rank) (IsUnranked p o picking alike once cs are range none)
      (λ r is rank has free. is rank has) (candidates_of picking.include_staged p) unranked)

  -- ---- a tag

  no_meaning : AdmitsNone nothing cs
  no_meaning = all-always (λ (c : Candidate). ¬ ⊥) (λ c never. never) cs

  same_time : (key : List ℕ) → is_published picking.before p key ≡ is_published o.before p key
  same_time key = ap (λ before. is_published before p key) alike.before

  -- a tag names one key
  module _ (tag key other : List ℕ) (one : tagged p tag ≡ Some key) (two : tagged p tag ≡ Some other) where
    same_key : other ≡ key
    same_key = let same : Some other ≡ Some key = sym two ∙ one in cc same

    not_both : is_published o.before p key ≡ true → is_published picking.before p other ≡ false → ⊥
    not_both published late = cc (published, same_time key, rw same_key at late)

    not_either : is_published o.before p key ≡ false → is_published picking.before p other ≡ true → ⊥
    not_either late published = cc (late, same_time key, rw same_key at published)

  by_tag : (tag : List ℕ) (meaning : MeaningValue) (answer : Result PickedValue PickError) → IsMeaningOfTag p o.before tag meaning
      → IsPickedByTag p picking tag answer → AgreesWith meaning cs (allowed p answer)
  by_tag tag _ answer (Meanings.named key one published) (Picks.named other _ two published_too at) =
      by_key key answer (subst (λ k. IsPickedAt p picking k answer) (same_key tag key other one two) at)
  by_tag tag _ answer (Meanings.named key one published) (Picks.earlier other _ two late some at) =
      absurd (not_both tag key other one two published late)
  by_tag tag _ _ (Meanings.named key one published) (Picks.odd other two late bad) = absurd (not_both tag key other one two published late)
  by_tag tag _ _ (Meanings.named key one published) (Picks.no_tag none) = cc (one, none)
  by_tag tag _ answer (Meanings.earlier key one late some) (Picks.named other _ two published at) =
      absurd (not_either tag key other one two late published)
  by_tag tag _ answer (Meanings.earlier key one late some) (Picks.earlier other _ two late_too some_too at) =
      by_range (up_to key) answer (subst (λ k. IsPickedIn p picking (up_to k) answer) (same_key tag key other one two) at)
  by_tag tag _ _ (Meanings.earlier key one late some) (Picks.odd other two late_too bad) =
      absurd (some (subst (λ k. IsNoRange of_dependencies (up_to k)) (same_key tag key other one two) bad))
  by_tag tag _ _ (Meanings.earlier key one late some) (Picks.no_tag none) = cc (one, none)
  by_tag tag _ answer (Meanings.odd key one late bad) (Picks.named other _ two published at) =
      absurd (not_either tag key other one two late published)
  by_tag tag _ answer (Meanings.odd key one late bad) (Picks.earlier other _ two late_too some at) =
      absurd (some (subst (λ k. IsNoRange of_dependencies (up_to k)) (sym (same_key tag key other one two)) bad))
  by_tag tag _ _ (Meanings.odd key one late bad) (Picks.odd other two late_too bad_too) = no_meaning
  by_tag tag _ _ (Meanings.odd key one late bad) (Picks.no_tag none) = no_meaning
  by_tag tag _ answer (Meanings.no_tag none) (Picks.named other _ two published at) = cc (two, none)
  by_tag tag _ answer (Meanings.no_tag none) (Picks.earlier other _ two late some at) = cc (two, none)
  by_tag tag _ _ (Meanings.no_tag none) (Picks.odd other two late bad) = no_meaning
  by_tag tag _ _ (Meanings.no_tag none) (Picks.no_tag none_too) = no_meaning

  -- ---- a text

  by_text : (text : List ℕ) (meaning : MeaningValue) (answer : Result PickedValue PickError) → IsMeaningByText p o.before text meaning
      → IsPickedByText p picking text answer → AgreesWith meaning cs (allowed p answer)
  by_text text _ answer (Meanings.of_version v is) (Picks.version w _ is_too at) =
      by_key (version_text (without_build v)) answer
      (subst (λ u. IsPickedAt p picking (version_text (without_build u)) answer) (one_version text w v is_too is) at)
  by_text text _ answer (Meanings.of_version v is) (Picks.range _ none some at) = absurd (none v is)
  by_text text _ answer (Meanings.of_version v is) (Picks.tag _ none bad tag at) = absurd (none v is)
  by_text text _ _ (Meanings.of_version v is) (Picks.refused none bad other) = absurd (none v is)
  by_text text _ answer (Meanings.of_range none some) (Picks.version w _ is at) = absurd (none w is)
  by_text text _ answer (Meanings.of_range none some) (Picks.range _ none_too some_too at) = by_range text answer at
  by_text text _ answer (Meanings.of_range none some) (Picks.tag _ none_too bad tag at) = absurd (some bad)
  by_text text _ _ (Meanings.of_range none some) (Picks.refused none_too bad other) = absurd (some bad)
  by_text text meaning answer (Meanings.of_tag _ none bad tag of_tag) (Picks.version w _ is at) = absurd (none w is)
  by_text text meaning answer (Meanings.of_tag _ none bad tag of_tag) (Picks.range _ none_too some at) = absurd (some bad)
  by_text text meaning answer (Meanings.of_tag _ none bad tag of_tag) (Picks.tag _ none_too bad_too tag_too at) =
      by_tag text meaning answer of_tag at
  by_text text meaning _ (Meanings.of_tag _ none bad tag of_tag) (Picks.refused none_too bad_too other) = absurd (cc (tag, other))
  by_text text _ answer (Meanings.refused none bad other) (Picks.version w _ is at) = absurd (none w is)
  by_text text _ answer (Meanings.refused none bad other) (Picks.range _ none_too some at) = absurd (some bad)
  by_text text _ answer (Meanings.refused none bad other) (Picks.tag _ none_too bad_too tag at) = absurd (cc (tag, other))
  by_text text _ _ (Meanings.refused none bad other) (Picks.refused none_too bad_too other_too) = no_meaning

  by_spec : (text : List ℕ) (meaning : MeaningValue) (answer : Result PickedValue PickError) → IsMeaning p o.before text meaning
      → IsPickedFor p picking (filled text) answer → AgreesWith meaning cs (allowed p answer)
  by_spec text meaning answer (Meanings.by_text _ plain means) (Picks.by_text _ plain_too at) = by_text (filled text) meaning answer means at
  by_spec text meaning _ (Meanings.by_text _ plain means) (Picks.elsewhere other) = absurd (cc (plain, other))
  by_spec text _ answer (Meanings.elsewhere other) (Picks.by_text _ plain at) = absurd (cc (plain, other))
  by_spec text _ _ (Meanings.elsewhere other) (Picks.elsewhere other_too) = no_meaning

  pub agrees : (text : List ℕ) (meaning : MeaningValue) (answer : Result PickedValue PickError) → IsMeaning p o.before text meaning
      → IsPicked p picking (filled text) answer → AgreesWith meaning cs answer
  agrees text meaning answer means is =
      let so : IsPickedFor p picking (filled text) is.chosen = subst (λ b. IsChosen b p picking (filled text) is.chosen) alike.lenient is.so in
      subst (AgreesWith meaning cs) (sym is.permitted) (by_spec text meaning is.chosen means so)
