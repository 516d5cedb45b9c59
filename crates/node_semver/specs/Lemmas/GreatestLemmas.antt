-- The best version of a list that is wanted, as one version more is looked at: the greatest, or the least.
use native.Mathlib.Omega.{arith}
use Rattle.std.proofs.lemmas.Grind.{common_steps}
use Rattle.std.proofs.Common.{◌≡◌, ◌↔◌, ◌+◌, ◌<◌, ◌∙◌, ℕ, List, [], ◌∷◌, ◌++◌, Option, Some, None, IfSome, IsNone}
use Rattle.std.proofs.Common.{Bool, length, get_or, map, take, refl, sym, ap, subst, inl, inr, Less}
use Rattle.std.proofs.Common.{append_assoc}
use Rattle.std.proofs.lemmas.List.{map-append, take_more}
use Rattle.std.specs.Cmp.{alike_right}
use Rattle.std.specs.Option.{option_map}
use Rattle.semver_cuts.specs.Lemmas.Lists.{all-append, all_map}
use Rattle.semver_texts.specs.Comparison.{version_cmp}
use Rattle.semver_texts.specs.Order.{IsBelow, IsSame}
use Rattle.semver_texts.specs.Version.{VersionValue}
use Rattle.semver_texts.specs.Lemmas.Public.{version-Equal, version-Less, version_total}
use Rattle.node_semver.specs.Greatest.{IsFirstBest, IsGreatestIn, IsLeastIn, IsNoneIn}
use Rattle.node_semver.specs.Lemmas.GreatestViews.{IsBestOrNone, IsBetterOf, Order, downward, order_of}

-- the premises of an order of versions: true of precedence, and of precedence reversed
pub record IsOrder (order : Order) : Type 0 where
  pub not_itself : (v : VersionValue) → ¬ (order v v ≡ Less)
  pub trans : (u v w : VersionValue) → order u v ≡ Less → order v w ≡ Less → order u w ≡ Less
  pub alike : (u v w : VersionValue) → order u v ≡ Less → IsSame w v → order u w ≡ Less

same-itself : (v : VersionValue) → IsSame v v
same-itself v = record { triple = record { major = refl; minor = refl; patch = refl }; pre_release = refl }

not-below_itself : (v : VersionValue) → ¬ (version_cmp v v ≡ Less)
not-below_itself v less = cc (less, version-Equal v v (same-itself v))

pub upward-order : IsOrder version_cmp
upward-order = grind (arith, not-below_itself, version_total, alike_right, version-Equal)

pub downward-order : IsOrder downward
downward-order = grind (arith, not-below_itself, version_total, version-Equal)

pub each-order : (upward : Bool) → IsOrder (order_of upward)
each-order upward = grind (arith, upward-order, downward-order)

module _ (order : Order) (is : IsOrder order) (Wanted : VersionValue → Type 0) where
  abbrev Best : List VersionValue → VersionValue → Type 0
  Best versions best =
      IsFirstBest (λ (v : VersionValue) (w : VersionValue). order w v ≡ Less) Wanted versions best

  -- no admitted version is better than this one
  abbrev NoneBetter : VersionValue → VersionValue → Type 0
  NoneBetter v w = Wanted w → ¬ (order v w ≡ Less)

  abbrev NoneSame : VersionValue → VersionValue → Type 0
  NoneSame v w = Wanted w → ¬ IsSame w v

  -- the first that is admitted
  abbrev pub take-first : (done : List VersionValue) (v : VersionValue) → IsNoneIn Wanted done → Wanted v
      → Best (done ++ v ∷ []) v
  take-first done v none admits = record {
    before = done;
    after = [];
    parts = refl;
    admitted = admits;
    none_better = all-append (NoneBetter v) done (v ∷ [])
        (all_map (λ (w : VersionValue). ¬ Wanted w) (NoneBetter v)
        (λ w not admitted. absurd (not admitted)) done none)
        ((λ _. is.not_itself v), tt);
    none_same = all_map (λ (w : VersionValue). ¬ Wanted w) (NoneSame v)
        (λ w not admitted. absurd (not admitted)) done none;
  }

  -- one that is better than the best so far
  abbrev pub take-better : (done : List VersionValue) (best v : VersionValue) → Best done best → order best v ≡ Less
      → Wanted v → Best (done ++ v ∷ []) v
  take-better done best v first better admits = record {
    before = done;
    after = [];
    parts = refl;
    admitted = admits;
    none_better = all-append (NoneBetter v) done (v ∷ [])
        (all_map (NoneBetter best) (NoneBetter v)
        (λ w none admitted beyond. none admitted (is.trans best v w better beyond)) done first.none_better)
        ((λ _. is.not_itself v), tt);
    none_same = all_map (NoneBetter best) (NoneSame v)
        (λ w none admitted same. none admitted (is.alike best v w better same)) done first.none_better;
  }

  -- one that is not admitted, or not better than the best so far
  abbrev pub keep-best : (done : List VersionValue) (best v : VersionValue) → Best done best
      → ¬ ((order best v ≡ Less) × Wanted v) → Best (done ++ v ∷ []) best
  keep-best done best v first not = record {
    before = first.before;
    after = first.after ++ v ∷ [];
    parts = ap (λ (l : List VersionValue). l ++ v ∷ []) first.parts
        ∙ append_assoc first.before (best ∷ first.after) (v ∷ []);
    admitted = first.admitted;
    none_better = all-append (NoneBetter best) done (v ∷ []) first.none_better
        ((λ admitted better. not (better, admitted)), tt);
    none_same = first.none_same;
  }

  more-best : (done : List VersionValue) (v : VersionValue) (best found : Option VersionValue)
      → IsBestOrNone order Wanted done best → IsBetterOf order Wanted best v found
      → IsBestOrNone order Wanted (done ++ v ∷ []) found
  more-best done v None found none (inl (better, admits, taken)) =
      subst (IsBestOrNone order Wanted (done ++ v ∷ [])) (sym taken) (take-first done v none admits)
  more-best done v None found none (inr (not, kept)) = grind (arith, all-append)
  more-best done v (Some best) found first (inl (better, admits, taken)) =
      subst (IsBestOrNone order Wanted (done ++ v ∷ [])) (sym taken) (take-better done best v first better admits)
  more-best done v (Some best) found first (inr (not, kept)) = grind (arith, common_steps)

  -- as a loop goes over the versions
  pub taken-best : {T : Type 0} (seen : T → VersionValue) (versions : List T) (k : ℕ) (v : T)
      (best found : Option VersionValue) → k < length versions → v ≡ get_or versions k v
      → IsBestOrNone order Wanted (map seen (take k versions)) best → IsBetterOf order Wanted best (seen v) found
      → IsBestOrNone order Wanted (map seen (take (k + 1) versions)) found
  taken-best seen versions k v best found h1 h2 h3 h4 = grind (arith, common_steps, take_more, map-append, more-best)

-- ---- the program's result

-- the best by precedence is the greatest
abbrev pub as-greatest : (Wanted : VersionValue → Type 0) (versions : List VersionValue) (v : VersionValue)
    → IsFirstBest (λ (w : VersionValue) (u : VersionValue). version_cmp u w ≡ Less) Wanted versions v
    → IsGreatestIn Wanted versions v
as-greatest Wanted versions v first = record {
  before = first.before;
  after = first.after;
  parts = first.parts;
  admitted = first.admitted;
  none_better = all_map (NoneBetter version_cmp upward-order Wanted v)
      (λ (w : VersionValue). Wanted w → ¬ IsBelow v w)
      (λ w none admitted below. none admitted (version-Less v w below)) versions first.none_better;
  none_same = first.none_same;
}

-- and by precedence turned round the least
abbrev pub as-least : (Wanted : VersionValue → Type 0) (versions : List VersionValue) (v : VersionValue)
    → IsFirstBest (λ (w : VersionValue) (u : VersionValue). downward u w ≡ Less) Wanted versions v
    → IsLeastIn Wanted versions v
as-least Wanted versions v first = record {
  before = first.before;
  after = first.after;
  parts = first.parts;
  admitted = first.admitted;
  none_better = all_map (NoneBetter downward downward-order Wanted v)
      (λ (w : VersionValue). Wanted w → ¬ IsBelow w v)
      (λ w none admitted below. none admitted (version-Less w v below)) versions first.none_better;
  none_same = first.none_same;
}

pub greatest-found : {R : Type 0} (r : Option R) (now : R → VersionValue) (Wanted : VersionValue → Type 0)
    (versions : List VersionValue) → IsBestOrNone version_cmp Wanted versions (option_map now r)
    → IfSome r (λ v. IsGreatestIn Wanted versions (now v))
greatest-found (Some v) now Wanted versions first = as-greatest Wanted versions (now v) first
greatest-found None now Wanted versions none = tt

pub least-found : {R : Type 0} (r : Option R) (now : R → VersionValue) (Wanted : VersionValue → Type 0)
    (versions : List VersionValue) → IsBestOrNone downward Wanted versions (option_map now r)
    → IfSome r (λ v. IsLeastIn Wanted versions (now v))
least-found (Some v) now Wanted versions first = as-least Wanted versions (now v) first
least-found None now Wanted versions none = tt

pub none-at : (Wanted : VersionValue → Type 0) (before after versions : List VersionValue) (v : VersionValue)
    → versions ≡ before ++ v ∷ after → Wanted v → ¬ IsNoneIn Wanted versions
none-at Wanted before after versions v parts admits none =
    turned-away before (subst (IsNoneIn Wanted) parts none)
  where
    turned-away : (l : List VersionValue) → ¬ IsNoneIn Wanted (l ++ v ∷ after)
    turned-away [] none = none.0 admits
    turned-away (w ∷ l) none = turned-away l none.1

pub none-found : {R : Type 0} (order : Order) (r : Option R) (now : R → VersionValue) (Wanted : VersionValue → Type 0)
    (versions : List VersionValue) → IsBestOrNone order Wanted versions (option_map now r)
    → IsNone r ↔ IsNoneIn Wanted versions
none-found order r now Wanted versions h1 = grind (arith, none-at)
