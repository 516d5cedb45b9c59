-- A version that is written as it is printed is a range that admits it.
use Rattle.std.proofs.Common.{◌≡◌, ◌∙◌, ◌≤◌, ℕ, List, [], ◌∷◌, true, false, Ordering, Less, Equal, Greater, ap, arith, cond, inl, inr, is_eq, length, refl, subst, sym}
use Rattle.std.specs.Ordering.{ordering_then}
use Rattle.semver_cuts.specs.declared.cut.Cut.{Cut}
use Rattle.semver_cuts.specs.declared.cut.Cut.TheVariants as Cuts
use Rattle.semver_cuts.specs.Cut.{cut_cmp}
use Rattle.semver_cuts.specs.Ends.{AreSameEnds, Ends, IsInSpan}
use Rattle.semver_cuts.specs.SpanLists.{AnyByRecursion}
use Rattle.semver_cuts.specs.Lemmas.Ends.{same_ends-back, same_ends-in_span}
use Rattle.semver_cuts.specs.Lemmas.TwoSpans.{holds-below}
use Rattle.semver_texts.specs.Comparison.{version_cmp}
use Rattle.semver_texts.specs.Lemmas.Public.{Equal-version, prerelease-read, version-Equal, version_total}
use Rattle.semver_texts.specs.Order.{IsSame}
use Rattle.semver_texts.specs.Print.{version_text}
use Rattle.semver_texts.specs.Version.{IsPrerelease, VersionValue, without_build}
use Rattle.semver_texts.specs.VersionText.{IsVersionText}
use Rattle.semver_texts.specs.declared.TheConstants.{MAX_LENGTH}
use Rattle.semver_sets.specs.Comparator.{Comparator, exactly}
use Rattle.semver_sets.specs.Lemmas.Merging.{merged-admits, merged-gives, one-set}
use Rattle.semver_sets.specs.Meaning.{Admit, Opens, SetAdmits}
use Rattle.semver_sets.specs.Merging.{AreSetsOf, IsSetOf}
use Rattle.semver_sets.specs.Merging as Merging
use Rattle.semver_sets.specs.RangeEquality.{AreSameCuts}
use Rattle.semver_sets.specs.RangePrint.{both_text, range_text}
use Rattle.semver_sets.specs.RangeSets.{IsRangeEnd, IsRangeValue}
use Rattle.npm_sets.specs.NpmMeaning.{NpmAdmit, alternatives_of}
use Rattle.npm_sets.specs.NpmReadingBack.{HasNpmPrint, IsNpmReadAsEqual, NpmReadsBack}
use Rattle.npm_sets.specs.Rows.{no_versions}
use Rattle.npm_sets.specs.Spaces.{with_plain_spaces}
use Rattle.npm_sets.specs.declared.options.NpmOptions.{NpmOptions}
use Rattle.npm_texts.specs.Admission.{Admits, IsNoRange, of_dependencies}

-- ---- alternatives have sets

with_one : (comparators : List Comparator) (alternatives : List (List Comparator)) (set : Ends VersionValue) → IsSetOf comparators set
    → (sets : List (Ends VersionValue)) → AreSetsOf alternatives sets → (o : Ordering) → cut_cmp version_cmp set.lower set.upper ≡ o
    → (all : List (Ends VersionValue)) × AreSetsOf (comparators ∷ alternatives) all
with_one comparators alternatives set is sets are Less below = (
  set ∷ sets,
  Merging.one_more comparators alternatives set sets
      ((merged-gives comparators set is).1 ((holds-below version_total set).1 below)) is are,
)
with_one comparators alternatives set is sets are Equal other = (
  sets,
  Merging.no_more comparators alternatives sets (λ gives.
      let below = (holds-below version_total set).0 ((merged-gives comparators set is).0 gives) in
      let off : Less ≡ Equal = sym below ∙ other in (cc off)) are,
)
with_one comparators alternatives set is sets are Greater other = (
  sets,
  Merging.no_more comparators alternatives sets (λ gives.
      let below = (holds-below version_total set).0 ((merged-gives comparators set is).0 gives) in
      let off : Less ≡ Greater = sym below ∙ other in (cc off)) are,
)

merged : (alternatives : List (List Comparator)) → (sets : List (Ends VersionValue)) × AreSetsOf alternatives sets
merged [] = ([], Merging.none)
merged ([] ∷ alternatives) =
    let more = merged alternatives in (more.0, Merging.no_more [] alternatives more.0 (λ gives. gives.some refl) more.1)
merged ((c ∷ comparators) ∷ alternatives) =
    let more = merged alternatives in
    let set = one-set (c ∷ comparators) (λ is. cc is) in
    with_one (c ∷ comparators) alternatives set.0 set.1 more.0 more.1 (cut_cmp version_cmp set.0.lower set.0.upper) refl

admitted_by : (alternatives : List (List Comparator)) (sets : List (Ends VersionValue)) → AreSetsOf alternatives sets
    → (set : Ends VersionValue) (rest : List (Ends VersionValue)) → sets ≡ set ∷ rest → (v : VersionValue) → SetAdmits set v
    → AnyByRecursion (λ comparators. NpmAdmit false comparators v) alternatives
admitted_by _ _ Merging.none set rest is v admits = absurd (cc is)
admitted_by _ _ (Merging.one_more comparators alternatives one sets gives of more) set rest is v admits =
    let same : one ≡ set = cc is in
    let all : Admit comparators v = (merged-admits comparators one of v).1 (subst (λ (s : Ends VersionValue). SetAdmits s v) (sym same) admits) in
    inl (record { some = gives.some; inside = all.inside; opened = λ off pre. all.opened pre })
admitted_by _ _ (Merging.no_more comparators alternatives sets none more) set rest is v admits =
    inr (admitted_by alternatives sets more set rest is v admits)

-- ---- the set of one version

then_greater : (r : Ordering) → ordering_then r Greater ≡ Equal → ⊥
then_greater Less is = cc is
then_greater Equal is = cc is
then_greater Greater is = cc is

module _ (v : VersionValue) where
  abbrev u : VersionValue
  u = without_build v

  alike : version_cmp u v ≡ Equal
  alike = version-Equal u v (record { triple = record { major = refl; minor = refl; patch = refl }; pre_release = refl })

  alike_back : version_cmp v u ≡ Equal
  alike_back = version-Equal v u (record { triple = record { major = refl; minor = refl; patch = refl }; pre_release = refl })

  itself : version_cmp u u ≡ Equal
  itself = version-Equal u u (record { triple = record { major = refl; minor = refl; patch = refl }; pre_release = refl })

  opened_by : (set : Ends VersionValue) → cut_cmp version_cmp set.lower (Cuts.Before u) ≡ Equal → IsPrerelease v → Opens set.lower v
  opened_by set same pre = by_cut set.lower same where
    by_cut : (c : Cut VersionValue) → cut_cmp version_cmp c (Cuts.Before u) ≡ Equal → Opens c v
    by_cut Cuts.Start is = absurd (cc is)
    by_cut (Cuts.Before p) is =
        let of : IsSame p u = Equal-version p u is in
        (λ none. pre (sym of.pre_release ∙ none), record { major = of.triple.major; minor = of.triple.minor; patch = of.triple.patch })
    by_cut (Cuts.After p) is = absurd (then_greater (version_cmp p u) is)
    by_cut Cuts.End is = absurd (cc is)

  inside_own : IsInSpan version_cmp (exactly u) (Cuts.Before v)
  inside_own = record { lower = inr alike; upper = ap (λ (o : Ordering). ordering_then o Less) alike_back }

  set_admits : (set : Ends VersionValue) → AreSameEnds version_cmp set (exactly u) → SetAdmits set v
  set_admits set same = record {
    inside = same_ends-in_span version_total (exactly u) set (Cuts.Before v) (same_ends-back version_total set (exactly u) same) inside_own;
    opened = λ pre. inl (opened_by set same.lower pre);
  }

  module _ (read_back : (options : NpmOptions) (sets : List (Ends VersionValue)) → IsRangeValue sets → NpmReadsBack options sets)
      (text written : List ℕ) (read : IsVersionText text v) (printed : written ≡ version_text u) (short : length written ≤ MAX_LENGTH) where
    range_end : IsRangeEnd u
    range_end =
        let parts = read.fields.read in
        let major = parts.major_text.limit in
        let minor = parts.minor_text.limit in
        let patch = parts.patch_text.limit in record {
          major = omega (arith, major);
          minor = omega (arith, minor);
          patch = omega (arith, patch);
          pre_release = prerelease-read parts.extras_text.prefix v.pre_release parts.extras_text.first;
          build = tt;
        }

    value : IsRangeValue (exactly u ∷ [])
    value = record {
      some = λ is. cc is;
      each = (
        record {
          holds = (holds-below version_total (exactly u)).1 (ap (λ (o : Ordering). ordering_then o Less) itself);
          lower = range_end;
          upper = range_end;
        },
        tt,
      );
    }

    has_print : HasNpmPrint true u
    has_print =
        let parts = read.fields.read in record {
          numbers = record { major = parts.major_text.limit; minor = parts.minor_text.limit; patch = parts.patch_text.limit };
          short = subst (λ (t : List ℕ). length t ≤ MAX_LENGTH) printed short;
          strict = λ off. absurd (cc off);
        }

    text_is : range_text (exactly u ∷ []) ≡ written
    text_is = ap (λ (o : Ordering). cond (is_eq o) (version_text u) (both_text (Cuts.Before u) (Cuts.After u))) itself ∙ sym printed

    as_equal : IsNpmReadAsEqual of_dependencies written (exactly u ∷ [])
    as_equal = subst (λ (t : List ℕ). IsNpmReadAsEqual of_dependencies t (exactly u ∷ [])) text_is
        (read_back of_dependencies (exactly u ∷ []) value (record { lower = has_print; upper = has_print }, tt))

    by_sets : (sets : List (Ends VersionValue)) → AreSetsOf (alternatives_of of_dependencies (with_plain_spaces written)) sets
        → Admits of_dependencies written v
    by_sets [] are =
        let same : AreSameCuts (no_versions ∷ []) (exactly u ∷ []) = as_equal.equal (no_versions ∷ []) (inr (are, refl)) in
        absurd (cc same.0.lower)
    by_sets (set ∷ rest) are =
        let same : AreSameCuts (set ∷ rest) (exactly u ∷ []) = as_equal.equal (set ∷ rest) (inl (are, λ none. cc none)) in
        admitted_by (alternatives_of of_dependencies (with_plain_spaces written)) (set ∷ rest) are set rest refl v (set_admits set same.0)

    pub version_admitted : Admits of_dependencies written v
    version_admitted =
        let sets = merged (alternatives_of of_dependencies (with_plain_spaces written)) in by_sets sets.0 sets.1

    pub version_is_a_range : ¬ IsNoRange of_dependencies written
    version_is_a_range = as_equal.accepted
