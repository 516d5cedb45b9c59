-- The number of joined spans is the number of spans whose lower end no earlier span has, and that no span reaches.
use Rattle.std.proofs.Common.{◌≡◌, ℕ, ◌+◌, List, [], ◌∷◌, ◌++◌, Bool, true, false, not, ◌&&◌, ◌||◌, if◌then◌else◌}
use Rattle.std.proofs.Common.{Ordering, Equal, length, refl, arith}
use Rattle.std.specs.List.{AllByRecursion}
use Rattle.std.specs.Ordering.{is_eq}
use Rattle.std.specs.Cmp.{IsTotalOrder}
use Rattle.std.proofs.lemmas.Bool.{or_left, or_right}
use Rattle.std.proofs.lemmas.Cmp.{eq_by_cmp_equiv}
use Rattle.semver_cuts.specs.declared.cut.Cut.{Cut}
use Rattle.semver_cuts.specs.Cut.{cut_cmp}
use Rattle.semver_cuts.specs.SpanLists.{IsInSome}
use Rattle.semver_cuts.specs.Ends.{Ends}
use Rattle.semver_cuts.specs.Joined.{AreJoined, AreMerged, AreRising}
use Rattle.semver_cuts.specs.Difference.{IsFirstAt}
use Rattle.semver_cuts.specs.Starts.{begins_at, count_of_starts, count_of_starts_from, reaches}
use Rattle.semver_cuts.specs.Lemmas.Apart.{apart-above, merged-tail}
use Rattle.semver_cuts.specs.Lemmas.CutOrder.{cut_total}
use Rattle.semver_cuts.specs.Lemmas.Ends.{cut_cmp-equal_back, cut_cmp-equal_right}
use Rattle.semver_cuts.specs.Lemmas.Ends.{cut_cmp-refl}
use Rattle.semver_cuts.proofs.Joining.Starts.{begins-above, begins-or_reached, equal-from}
use Rattle.semver_cuts.proofs.Walks.{first-cut}

-- ---- the number of later spans that are the first to begin where they do, at a cut that passes a test

module _ {T : Type 0} (cmp : T → T → Ordering) where
  count_first : (Cut T → Bool) → List (Ends T) → List (Ends T) → ℕ
  count_first test earlier [] = 0
  count_first test earlier (span ∷ later) =
      (if not (begins_at cmp earlier span.lower) && test span.lower then 1 else 0)
      + count_first test (earlier ++ span ∷ []) later

  same-count : (all : List (Ends T)) (test : Cut T → Bool) (earlier later : List (Ends T))
      → AllByRecursion (λ (s : Ends T). not (reaches cmp all s.lower) ≡ test s.lower) later
      → count_of_starts_from cmp all earlier later ≡ count_first test earlier later
  unfolding count_first
  same-count all test earlier [] same = refl
  same-count all test earlier (span ∷ later) same = λ i.
      (if not (begins_at cmp earlier span.lower) && same.0 i then 1 else 0)
      + same-count all test (earlier ++ span ∷ []) later same.1 i

  add-none : (b : Bool) (n : ℕ) → n ≡ 0 → (if b && false then 1 else 0) + n ≡ 0
  add-none b n h1 = grind arith

  none-counted : (earlier later : List (Ends T)) → count_first (λ cut. false) earlier later ≡ 0
  unfolding count_first
  none-counted earlier [] = refl
  none-counted earlier (span ∷ later) = grind (arith, add-none, none-counted (earlier ++ span ∷ []) later)

  add-either : (b p q : Bool) (k m n : ℕ) → (p ≡ true → q ≡ true → ⊥) → k ≡ m + n
      → (if b && (p || q) then 1 else 0) + k ≡ ((if b && p then 1 else 0) + m) + ((if b && q then 1 else 0) + n)
  add-either b p q k m n h1 h2 = grind arith

  -- no cut passes both of two tests
  either-counted : (p q : Cut T → Bool) → ((c : Cut T) → p c ≡ true → q c ≡ true → ⊥)
      → (earlier later : List (Ends T))
      → count_first (λ cut. p cut || q cut) earlier later ≡ count_first p earlier later + count_first q earlier later
  unfolding count_first
  either-counted p q h earlier [] = refl
  either-counted p q h earlier (span ∷ later) =
      let rest = either-counted p q h (earlier ++ span ∷ []) later in grind (arith, add-either)

  or-false : (a : Bool) → (a || false) ≡ a
  or-false a = grind arith

  or-assoc : (a b c : Bool) → (a || (b || c)) ≡ ((a || b) || c)
  or-assoc a b c = grind arith

  begins-push : (cut : Cut T) (spans : List (Ends T)) (span : Ends T)
      → begins_at cmp (spans ++ span ∷ []) cut ≡ (begins_at cmp spans cut || is_eq (cut_cmp cmp span.lower cut))
  begins-push cut [] span = or-false (is_eq (cut_cmp cmp span.lower cut))
  begins-push cut (one ∷ spans) span = grind (arith, begins-push cut spans span, or-assoc)

  begins-middle : (cut : Cut T) (before after : List (Ends T)) (span : Ends T)
      → is_eq (cut_cmp cmp span.lower cut) ≡ true → begins_at cmp (before ++ span ∷ after) cut ≡ true
  begins-middle cut [] after span h = or_left (is_eq (cut_cmp cmp span.lower cut)) (begins_at cmp after cut) h
  begins-middle cut (one ∷ before) after span h = grind (arith, or_right, begins-middle cut before after span h)

  add-one : (begun b e later : Bool) (n : ℕ) → (e ≡ true → b ≡ begun)
      → n ≡ (if begun || e then 0 else (if later then 1 else 0))
      → (if not b && e then 1 else 0) + n ≡ (if begun then 0 else (if e || later then 1 else 0))
  add-one begun b e later n h1 h2 = grind arith

module _ {T : Type 0} {cmp : T → T → Ordering} (o : IsTotalOrder cmp) where
  turned : (c d : Cut T) → is_eq (cut_cmp cmp c d) ≡ is_eq (cut_cmp cmp d c)
  turned c d = (eq_by_cmp_equiv (cut_total o)).symm c d

  begins-same : (c d : Cut T) → cut_cmp cmp c d ≡ Equal → (spans : List (Ends T))
      → begins_at cmp spans c ≡ begins_at cmp spans d
  begins-same c d e [] = refl
  begins-same c d e (span ∷ spans) = λ i. is_eq (cut_cmp-equal_right o c d span.lower e i) || begins-same c d e spans i

  nothing : (b : Bool) (n : ℕ) → n ≡ 0 → n ≡ (if b then 0 else 0)
  nothing b n h1 = grind arith

  -- of the later spans that begin at one cut, the first is counted, if no earlier one does
  one-counted : (cut : Cut T) (earlier later : List (Ends T))
      → count_first cmp (λ c. is_eq (cut_cmp cmp cut c)) earlier later
      ≡ (if begins_at cmp earlier cut then 0 else (if begins_at cmp later cut then 1 else 0))
  unfolding count_first
  one-counted cut earlier [] = nothing (begins_at cmp earlier cut) 0 refl
  one-counted cut earlier (span ∷ later) =
      let rest = one-counted cut (earlier ++ span ∷ []) later in
      grind (arith, turned, add-one cmp, begins-same, equal-from o, begins-push cmp)

  firsts-counted : (spans joined : List (Ends T)) → AreMerged cmp joined
      → AllByRecursion (λ (span : Ends T). IsFirstAt cmp (λ (s : Ends T). s.lower) spans span.lower) joined
      → count_first cmp (begins_at cmp joined) [] spans ≡ length joined
  firsts-counted spans [] are firsts = none-counted cmp [] spans
  firsts-counted spans (first ∷ joined) are firsts =
      let above = apart-above o first joined are.apart are.rising.1 in
      let here = begins-middle cmp first.lower firsts.0.before firsts.0.after firsts.0.span in
      let others = firsts-counted spans joined (merged-tail cmp first joined are) firsts.1 in
      let one = one-counted first.lower [] spans in
      let more = either-counted cmp (λ c. is_eq (cut_cmp cmp first.lower c)) (begins_at cmp joined)
      (λ c same there. grind (
        arith,
        are.rising.0,
        begins-above o first.upper c joined above there,
        equal-from o,
        cut_cmp-equal_back o,
      )) [] spans in
      grind (arith, more, one, others, here, firsts.0.parts, firsts.0.end_of, cut_cmp-refl o)

  all-in : (spans part : List (Ends T)) (P : Cut T → Type 0)
      → ((c : Cut T) → IsInSome cmp part c → IsInSome cmp spans c)
      → AreRising cmp part → ((c : Cut T) → IsInSome cmp spans c → P c)
      → AllByRecursion (λ (s : Ends T). P s.lower) part
  all-in spans [] P within rising holds = tt
  all-in spans (span ∷ part) P within rising holds = grind (arith, first-cut o span, all-in spans part P)

  -- the number of joined spans
  pub starts-counted : (spans joined : List (Ends T)) → AreRising cmp spans → AreJoined cmp spans joined
      → length joined ≡ count_of_starts cmp spans
  starts-counted spans joined rising are =
      let same = all-in spans spans (λ c. not (reaches cmp spans c) ≡ begins_at cmp joined c) (λ c is. is) rising
      (begins-or_reached o spans joined rising are) in
      grind (
        arith,
        same-count cmp spans (begins_at cmp joined) [] spans same,
        firsts-counted spans joined are.merged
            are.lowers,
      )
