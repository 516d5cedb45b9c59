-- One rule more is passed: the rules inside it are added behind all others.
use Rattle.std.proofs.Common.{◌≡◌, ◌∙◌, ◌+◌, ◌<◌, ◌≤◌, ◌++◌, ◌∷◌, ℕ, suc, List, [], ap, append_assoc, append-nil, arith, get_or}
use Rattle.std.proofs.Common.{length, length-append, map, sym, take, zero-add}
use Rattle.std.proofs.lemmas.List.{get_or-map, length-map, length-take-le, take-append-le, take_more}
use Rattle.serde_json.specs.Data.{Data}
use Rattle.npm_overrides.specs.Rules.{RuleValue, all_inside, rules_inside}

pub all_inside_last : (m : Data) (p : ℕ) (xs : List RuleValue) (x : RuleValue)
    → all_inside m p (xs ++ x ∷ []) ≡ all_inside m p xs ++ rules_inside m (p + length xs) x.inside
all_inside_last m p [] x =
    let e : p + length {A = RuleValue} [] ≡ p = omega arith in
    append-nil (rules_inside m p x.inside) ∙ ap (λ n. rules_inside m n x.inside) (sym e)
all_inside_last m p (y ∷ ys) x =
    let e : suc p + length ys ≡ p + length (y ∷ ys) = omega arith in
    let first = rules_inside m p y.inside in
    let others = all_inside m (suc p) ys in
    ap (λ zs. first ++ zs) (all_inside_last m (suc p) ys x)
    ∙ sym (append_assoc first others (rules_inside m (suc p + length ys) x.inside))
    ∙ ap (λ n. (first ++ others) ++ rules_inside m n x.inside) e

pub rules_passed : {R : Type 0} (seen : R → RuleValue) (m : Data) (at : ℕ) (old new : List R) (root : RuleValue) (rule : R)
    → at < length old → rule ≡ get_or old at rule → map seen new ≡ map seen old ++ rules_inside m at (seen rule).inside
    → map seen old ≡ root ∷ all_inside m 0 (take at (map seen old))
    → map seen new ≡ root ∷ all_inside m 0 (take (at + 1) (map seen new))
rules_passed seen m at old new root rule small is added whole =
    let vs = map seen old in
    let more = rules_inside m at (seen rule).inside in
    let same : length vs ≡ length old = length-map old seen in
    let lt : at < length vs = omega arith in
    let le : at + 1 ≤ length vs = omega arith in
    let at_most : at ≤ length vs = omega arith in
    let last : get_or vs at (seen rule) ≡ seen rule = get_or-map seen old at rule (seen rule) small ∙ ap seen (sym is) in
    let front : take (at + 1) (map seen new) ≡ take at vs ++ (seen rule ∷ []) =
    ap (take (at + 1)) added ∙ take-append-le (at + 1) vs more le ∙ take_more vs at (seen rule) lt
    ∙ ap (λ x. take at vs ++ (x ∷ [])) last in
    let place : 0 + length (take at vs) ≡ at = zero-add (length (take at vs)) ∙ length-take-le at vs at_most in
    let all : all_inside m 0 (take (at + 1) (map seen new)) ≡ all_inside m 0 (take at vs) ++ more =
    ap (all_inside m 0) front ∙ all_inside_last m 0 (take at vs) (seen rule)
    ∙ ap (λ n. all_inside m 0 (take at vs) ++ rules_inside m n (seen rule).inside) place in
    added ∙ ap (λ zs. zs ++ more) whole ∙ ap (λ zs. root ∷ zs) (sym all)

pub longer : {R : Type 0} (seen : R → RuleValue) (old new : List R) (at : ℕ) (more : List RuleValue) → at < length old
    → map seen new ≡ map seen old ++ more → at + 1 ≤ length new
longer seen old new at more small added =
    let olds : length (map seen old) ≡ length old = length-map old seen in
    let news : length (map seen new) ≡ length new = length-map new seen in
    let both : length (map seen new) ≡ length (map seen old) + length more = ap length added ∙ length-append (map seen old) more in
    omega arith
