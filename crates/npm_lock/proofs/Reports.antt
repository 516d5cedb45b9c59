-- How a report grows by findings.
use Rattle.std.proofs.Common.{◌≡◌, ℕ, ◌+◌, List, [], ◌∷◌, ◌++◌, Bool, cond}
use Rattle.std.proofs.Common.{Option, Some, None, append_assoc, append-nil, arith, map, map-id, option_map, refl}
use Rattle.std.proofs.lemmas.List.{map-append}
use Rattle.std.proofs.lemmas.List.Elements.{filter_map-append}
use Rattle.std.proofs.lemmas.List.Sums.{sum_by_push}
use Rattle.std.specs.List.{count_by, filter_map}
use Rattle.std.specs.Option.{option_to_list}
use Rattle.npm_lock.specs.Findings.{Finding, counted, is_dependency, is_package, problem_of, unchecked_of}
use Rattle.npm_lock.specs.Outcomes.{problem_value, unchecked_value}
use Rattle.npm_lock.specs.Private.Adding.{Adds}
use Rattle.npm_lock.specs.declared.problem.Problems.{Problems}

module _ {V : Type 0} (of : Finding → Option V) where
  as_list : (found : Finding) → (value : Option V) → of found ≡ value
      → filter_map of (found ∷ []) ≡ option_to_list value
  as_list found None is = rw is refl
  as_list found (Some value) is = rw is refl

  list_grows : (before : List Finding) (found : Finding) (old new : List V) → old ≡ filter_map of before
      → new ≡ old ++ option_to_list (of found) → new ≡ filter_map of (before ++ found ∷ [])
  list_grows before found old new held more =
      rw (filter_map-append of before (found ∷ []), as_list found (of found) refl, ← held) more

count_grows : (p : Finding → Bool) (before : List Finding) (found : Finding) (old new : ℕ)
    → old ≡ counted (count_by p before) → new ≡ counted (old + cond (p found) 1 0)
    → new ≡ counted (count_by p (before ++ found ∷ []))
count_grows p before found old new held more =
    let one = sum_by_push (λ x. cond (p x) 1 0) before found in
    rw one (omega (arith, held, more))

stays : (n c : ℕ) → n ≡ counted c → n ≡ counted (n + 0)
stays n c held = omega (arith, held)

-- the counts and the lists after one finding
pub grown : (old new : Problems) (found : Finding)
    → map problem_value new.list.items ≡ map problem_value old.list.items ++ option_to_list (problem_of found)
    → map unchecked_value new.unchecked.items
    ≡ map unchecked_value old.unchecked.items ++ option_to_list (unchecked_of found)
    → ((n : ℕ) → old.packages ≡ counted n → new.packages ≡ counted (old.packages + cond (is_package found) 1 0))
    → ((n : ℕ) → old.dependencies ≡ counted n
    → new.dependencies ≡ counted (old.dependencies + cond (is_dependency found) 1 0))
    → Adds old new (found ∷ [])
grown old new found list unchecked packages dependencies = λ before report. record {
  list = list_grows problem_of before found _ _ report.list list;
  unchecked = list_grows unchecked_of before found _ _ report.unchecked unchecked;
  packages = count_grows is_package before found _ _ report.packages (packages _ report.packages);
  dependencies = count_grows is_dependency before found _ _ report.dependencies (dependencies _ report.dependencies);
}

-- the list after one more value, or none
pub listed : {T V : Type 0} (value : T → V) (old new more : List T) (one : Option T)
    → map (λ x. x) more ≡ option_to_list one → new ≡ old ++ more
    → map value new ≡ map value old ++ option_to_list (option_map value one)
listed value old new more None is grows = rw (grows, ← map-id more, is) (map-append value old [])
listed value old new more (Some one) is grows = rw (grows, ← map-id more, is) (map-append value old (one ∷ []))

-- a list that is not changed
pub same_list : {T V : Type 0} (value : T → V) (old new : List T) → new ≡ old
    → map value new ≡ map value old ++ option_to_list None
same_list value old new same = rw (same, append-nil) refl

-- a count that is not changed
pub same_count : (old new : ℕ) → new ≡ old → (n : ℕ) → old ≡ counted n → new ≡ counted (old + 0)
same_count old new same n held = omega (arith, same, held)

pub adds_none : (problems : Problems) → Adds problems problems []
adds_none problems = λ before report. rw append-nil report

pub adds_both : (old between new : Problems) (here later : List Finding) → Adds old between here
    → Adds between new later → Adds old new (here ++ later)
adds_both old between new here later first second = λ before report.
    rw (← append_assoc before here later) (second (before ++ here) (first before report))
