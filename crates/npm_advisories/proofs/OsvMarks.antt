-- The marks of a range are those of its events, and the versions between them are the same.
use Rattle.std.proofs.Common.{◌≡◌, ◌↔◌, ◌∙◌, ◌++◌, ◌∷◌, [], ℕ, List, ap, arith, codes, inl, inr, refl, subst, sym}
use Rattle.std.specs.List.{Contains}
use Rattle.std.proofs.lemmas.List.Elements.{Contains-append_cases, Contains-append_left, Contains-append_right}
use Rattle.std.proofs.lemmas.List.Elements.{Contains-push, Contains-push_cases}
use Rattle.semver_cuts.specs.Ends.{Ends}
use Rattle.semver_cuts.specs.Lemmas.Lists.{any-either, any-left, any-right}
use Rattle.semver_versions.specs.Error.{context}
use Rattle.semver_versions.specs.Lemmas.Public.{computed, is-computed, one_reading, version-no_fault}
use Rattle.node_semver.specs.Cuts.{After, Before, Cut}
use Rattle.node_semver.specs.Ranges.{AnyByRecursion, IsRangeCut}
use Rattle.node_semver.specs.Versions.{IsVersionText, VersionValue}
use Rattle.npm_advisories.specs.OsvRanges.{Begins, EndsAt, EventValue, Introduces, IsBeforeLimits, IsBetween}
use Rattle.npm_advisories.specs.OsvRanges.{IsInEvents, IsIntroducedAt, Lasts, LimitsAt, fixed, introduced}
use Rattle.npm_advisories.specs.OsvRanges.{last_affected, limit}
use Rattle.npm_advisories.specs.Lemmas.Spans.{Have}
use Rattle.npm_advisories.specs.Private.OsvReading.{AreCuts, AreGoingOn, AreMarks, AreRangeMarks, HasRangeCuts}
use Rattle.npm_advisories.specs.Private.OsvReading.{IsBetweenMarks, IsMark, IsMarked}
use Rattle.npm_advisories.specs.declared.osv.marks.Mark.{Mark}
use Rattle.npm_advisories.specs.declared.osv.marks.Mark.TheVariants.{Ended, Introduced, Limited}
use Rattle.npm_advisories.specs.declared.osv.marks.Marks.{Marks}
use Rattle.npm_advisories.specs.Lemmas.Versions.{version-end}

-- ---- the cut of an event

-- `0` and `*` are the texts of no version
no-zero : (v : VersionValue) → ¬ IsVersionText (codes "0") v
unfolding computed
no-zero v is = version-no_fault (codes "0") v (context (codes "version")) 1 is
    (is-computed (codes "0") (context (codes "version")) 1 refl)

no-star : (v : VersionValue) → ¬ IsVersionText (codes "*") v
unfolding computed
no-star v is = version-no_fault (codes "*") v (context (codes "version")) 0 is
    (is-computed (codes "*") (context (codes "version")) 0 refl)

module _ (c d : Cut VersionValue) where
  introduced-once : (event : EventValue) → Introduces event c → Introduces event d → c ≡ d
  introduced-once (introduced text) (inl one) (inl other) = one.1 ∙ sym other.1
  introduced-once (introduced text) (inl one) (inr other) =
      absurd (no-zero other.0 (subst (λ t. IsVersionText t other.0) one.0 other.1))
  introduced-once (introduced text) (inr one) (inl other) =
      absurd (no-zero one.0 (subst (λ t. IsVersionText t one.0) other.0 one.1))
  introduced-once (introduced text) (inr one) (inr other) =
      one.2 ∙ ap Before (one_reading text one.0 other.0 one.1 other.1) ∙ sym other.2
  introduced-once (fixed text) one other = absurd one
  introduced-once (last_affected text) one other = absurd one
  introduced-once (limit text) one other = absurd one

  ended-once : (event : EventValue) → EndsAt event c → EndsAt event d → c ≡ d
  ended-once (introduced text) one other = absurd one
  ended-once (fixed text) one other =
      one.2 ∙ ap Before (one_reading text one.0 other.0 one.1 other.1) ∙ sym other.2
  ended-once (last_affected text) one other =
      one.2 ∙ ap After (one_reading text one.0 other.0 one.1 other.1) ∙ sym other.2
  ended-once (limit text) one other = absurd one

  limited-once : (event : EventValue) → LimitsAt event c → LimitsAt event d → c ≡ d
  limited-once (introduced text) one other = absurd one
  limited-once (fixed text) one other = absurd one
  limited-once (last_affected text) one other = absurd one
  limited-once (limit text) (inl one) (inl other) = one.1 ∙ sym other.1
  limited-once (limit text) (inl one) (inr other) =
      absurd (no-star other.0 (subst (λ t. IsVersionText t other.0) one.0 other.1))
  limited-once (limit text) (inr one) (inl other) =
      absurd (no-star one.0 (subst (λ t. IsVersionText t one.0) other.0 one.1))
  limited-once (limit text) (inr one) (inr other) =
      one.2 ∙ ap Before (one_reading text one.0 other.0 one.1 other.1) ∙ sym other.2

  -- an event is of one kind
  introduced-ended : (event : EventValue) → Introduces event c → ¬ EndsAt event d
  introduced-ended (introduced text) one other = other
  introduced-ended (fixed text) one other = one
  introduced-ended (last_affected text) one other = one
  introduced-ended (limit text) one other = one

  introduced-limited : (event : EventValue) → Introduces event c → ¬ LimitsAt event d
  introduced-limited (introduced text) one other = other
  introduced-limited (fixed text) one other = one
  introduced-limited (last_affected text) one other = one
  introduced-limited (limit text) one other = one

  ended-limited : (event : EventValue) → EndsAt event c → ¬ LimitsAt event d
  ended-limited (introduced text) one other = one
  ended-limited (fixed text) one other = other
  ended-limited (last_affected text) one other = other
  ended-limited (limit text) one other = one

-- the cut before the version of a text can be an end of a range
pub introduced_read : (text : List ℕ) (v : VersionValue) → IsVersionText text v
    → Introduces (introduced text) (Before v) × IsRangeCut (Before v)
introduced_read text v read = (inr (v, read, refl), version-end text v read)

pub limit_read : (text : List ℕ) (v : VersionValue) → IsVersionText text v
    → LimitsAt (limit text) (Before v) × IsRangeCut (Before v)
limit_read text v read = (inr (v, read, refl), version-end text v read)

-- ---- the cuts of events

module _ (Is : EventValue → Cut VersionValue → Type 0) where
  pub cuts-none : AreCuts Is [] []
  cuts-none = record {
    same = λ cut. (λ some. absurd some, λ has. absurd (omega (arith, has.1)));
    each = λ cut has. absurd (omega (arith, has.1));
  }

  module _ (events : List EventValue) (event : EventValue) (cuts : List (Cut VersionValue)) (are : AreCuts Is events cuts)
    where
      -- an event of this kind
      cuts-more : (cut : Cut VersionValue) → Is event cut → IsRangeCut cut
          → ((other : Cut VersionValue) → Is event other → cut ≡ other) → AreCuts Is (events ++ event ∷ []) (cuts ++ cut ∷ [])
      cuts-more cut is holds once = record {
        same = λ c. (
          λ some. elim (any-either (λ e. Is e c) events (event ∷ []) some) [
            | inl before ↦ Contains-append_left cuts (cut ∷ []) c ((are.same c).0 before)
            | inr here ↦ elim here [
              | inl here ↦ subst (Contains (cuts ++ cut ∷ [])) (once c here) (Contains-push cuts cut)
              | inr none ↦ absurd none
            ]
          ],
          λ has. elim (Contains-push_cases cuts cut c has) [
            | inl before ↦ any-left (λ e. Is e c) events (event ∷ []) ((are.same c).1 before)
            | inr here ↦ any-right (λ e. Is e c) events (event ∷ []) (inl (subst (Is event) here is))
          ],
        );
        each = λ c has. elim (Contains-push_cases cuts cut c has) [
          | inl before ↦ are.each c before
          | inr here ↦ subst IsRangeCut here holds
        ];
      }

      -- one of another kind
      cuts-same : ((other : Cut VersionValue) → ¬ Is event other) → AreCuts Is (events ++ event ∷ []) cuts
      cuts-same not = record {
        same = λ c. (
          λ some. elim (any-either (λ e. Is e c) events (event ∷ []) some) [
            | inl before ↦ (are.same c).0 before
            | inr here ↦ elim here [
              | inl here ↦ absurd (not c here)
              | inr none ↦ absurd none
            ]
          ],
          λ has. any-left (λ e. Is e c) events (event ∷ []) ((are.same c).1 has),
        );
        each = are.each;
      }

pub marks-none : (marks : Marks) → marks.starts.items ≡ [] → marks.ends.items ≡ [] → marks.limits.items ≡ []
    → AreMarks [] marks
marks-none marks starts ends limits = record {
  starts = rw starts (cuts-none Introduces);
  ends = rw ends (cuts-none EndsAt);
  limits = rw limits (cuts-none LimitsAt);
}

pub marks-more : (events : List EventValue) (event : EventValue) (mark : Mark) (old new : Marks) → IsMark event mark
    → IsMarked mark old new → AreMarks events old → AreMarks (events ++ event ∷ []) new
marks-more events event (Introduced cut) old new is added are = record {
  starts = subst (AreCuts Introduces (events ++ event ∷ [])) (sym added.0)
      (cuts-more Introduces events event old.starts.items are.starts cut is.0 is.1
      (λ other here. introduced-once cut other event is.0 here));
  ends = subst (AreCuts EndsAt (events ++ event ∷ [])) (sym added.1)
      (cuts-same EndsAt events event old.ends.items are.ends (λ other here. introduced-ended cut other event is.0 here));
  limits = subst (AreCuts LimitsAt (events ++ event ∷ [])) (sym added.2)
      (cuts-same LimitsAt events event old.limits.items are.limits
      (λ other here. introduced-limited cut other event is.0 here));
}
marks-more events event (Ended cut) old new is added are = record {
  starts = subst (AreCuts Introduces (events ++ event ∷ [])) (sym added.0)
      (cuts-same Introduces events event old.starts.items are.starts
      (λ other here. introduced-ended other cut event here is.0));
  ends = subst (AreCuts EndsAt (events ++ event ∷ [])) (sym added.1)
      (cuts-more EndsAt events event old.ends.items are.ends cut is.0 is.1
      (λ other here. ended-once cut other event is.0 here));
  limits = subst (AreCuts LimitsAt (events ++ event ∷ [])) (sym added.2)
      (cuts-same LimitsAt events event old.limits.items are.limits
      (λ other here. ended-limited cut other event is.0 here));
}
marks-more events event (Limited cut) old new is added are = record {
  starts = subst (AreCuts Introduces (events ++ event ∷ [])) (sym added.0)
      (cuts-same Introduces events event old.starts.items are.starts
      (λ other here. introduced-limited other cut event here is.0));
  ends = subst (AreCuts EndsAt (events ++ event ∷ [])) (sym added.1)
      (cuts-same EndsAt events event old.ends.items are.ends (λ other here. ended-limited other cut event here is.0));
  limits = subst (AreCuts LimitsAt (events ++ event ∷ [])) (sym added.2)
      (cuts-more LimitsAt events event old.limits.items are.limits cut is.0 is.1
      (λ other here. limited-once cut other event is.0 here));
}

pub marks-cuts : (events : List EventValue) (marks : Marks) → AreRangeMarks events marks → HasRangeCuts marks
marks-cuts events marks are = record { starts = are.cuts; ends = are.ends.each; limits = are.limits.each }

-- the cuts of the events, and those where faults go on
pub marks-going : (events : List EventValue) (old new : Marks) (more : List (Cut VersionValue)) → AreMarks events old
    → AreGoingOn events more → new.starts.items ≡ old.starts.items ++ more → new.ends.items ≡ old.ends.items
    → new.limits.items ≡ old.limits.items → AreRangeMarks events new
marks-going events old new more are going starts ends limits = record {
  starts = λ cut. rw starts (
    λ is. elim is [
      | inl at ↦ Contains-append_left old.starts.items more cut ((are.starts.same cut).0 at)
      | inr behind ↦ Contains-append_right old.starts.items more cut ((going.same cut).0 behind)
    ],
    λ has. elim (Contains-append_cases old.starts.items more cut has) [
      | inl before ↦ inl ((are.starts.same cut).1 before)
      | inr later ↦ inr ((going.same cut).1 later)
    ],
  );
  ends = rw ends are.ends;
  limits = rw limits are.limits;
  cuts = λ cut. rw starts (λ has. elim (Contains-append_cases old.starts.items more cut has) [
    | inl before ↦ are.starts.each cut before
    | inr later ↦ going.each cut later
  ]);
}

-- ---- the versions between them

module _ (I J E F L M : Cut VersionValue → Type 0) (more : (c : Cut VersionValue) → I c → J c)
    (ends : (c : Cut VersionValue) → E c ↔ F c) (limits : (c : Cut VersionValue) → L c ↔ M c) where
  lasts-along : (from to : Cut VersionValue) → Lasts E from to → Lasts F from to
  lasts-along from to lasts = λ end is later. lasts end ((ends end).1 is) later

  begins-along : (cut : Cut VersionValue) → Begins I E cut → Begins J F cut
  begins-along cut (inl here) = inl (more cut here)
  begins-along cut (inr again) = inr (
    again.0,
    record {
      introduced = more (Before again.0) again.1.introduced;
      end = again.1.end;
      ended = (ends again.1.end).0 again.1.ended;
      later = again.1.later;
      here = again.1.here;
      reached = record {
        from = again.1.reached.from;
        introduced = more again.1.reached.from again.1.reached.introduced;
        before = again.1.reached.before;
        lasts = lasts-along again.1.reached.from (Before again.0) again.1.reached.lasts;
      };
    },
    again.2,
  )

  limits-along : (v : VersionValue) → IsBeforeLimits L v → IsBeforeLimits M v
  limits-along v (inl none) = inl (λ cut is. none cut ((limits cut).1 is))
  limits-along v (inr some) = inr (some.0, (limits some.0).0 some.1, some.2)

  pub between-along : (v : VersionValue) → IsBetween I E L v → IsBetween J F M v
  between-along v is = record {
    from = is.from;
    begins = begins-along is.from is.begins;
    reached = is.reached;
    lasts = lasts-along is.from (Before v) is.lasts;
    limited = limits-along v is.limited;
  }

turned : {A B : Type 0} → A ↔ B → B ↔ A
turned same = (same.1, same.0)

-- the versions between the marks are those of the events
pub marks-same : (events : List EventValue) (marks : Marks) → AreRangeMarks events marks → (v : VersionValue)
    → IsBetweenMarks marks v ↔ IsInEvents events v
marks-same events marks are v =
    let I : Cut VersionValue → Type 0 = IsIntroducedAt events in
    let E : Cut VersionValue → Type 0 = λ cut. AnyByRecursion (λ event. EndsAt event cut) events in
    let L : Cut VersionValue → Type 0 = λ cut. AnyByRecursion (λ event. LimitsAt event cut) events in (
      between-along (Contains marks.starts.items) I (Contains marks.ends.items) E (Contains marks.limits.items) L
          (λ c has. (are.starts c).1 has) (λ c. turned (are.ends.same c)) (λ c. turned (are.limits.same c)) v,
      between-along I (Contains marks.starts.items) E (Contains marks.ends.items) L (Contains marks.limits.items)
          (λ c has. (are.starts c).0 has) are.ends.same are.limits.same v,
    )

-- the spans of all marks have the versions of the events
pub have-events : (events : List EventValue) (marks : Marks) → AreRangeMarks events marks
    → (spans : List (Ends VersionValue)) → Have spans (IsBetweenMarks marks)
    → Have spans (λ v. AnyByRecursion (λ one. IsInEvents one v) (events ∷ []))
have-events events marks are spans have = record {
  each = have.each;
  exact = λ v. (
    λ contains. inl ((marks-same events marks are v).0 ((have.exact v).0 contains)),
    λ some. elim some [
      | inl here ↦ (have.exact v).1 ((marks-same events marks are v).1 here)
      | inr none ↦ absurd none
    ],
  );
}
