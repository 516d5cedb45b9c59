-- All versions that advisories are about, by names.
use Rattle.std.proofs.Common.{◌≡◌, ℕ, List, [], Bool, true, false, cond, Option, Some, None, IsSome, bytes_eq}
use Rattle.std.proofs.Common.{refl, subst}
use Rattle.std.proofs.lemmas.Slice.Eq.{bytes_eq-Decides}
use Rattle.std.specs.Option.{MatchOption}
use Rattle.npm_advisories.specs.Index.{at_name}
use Rattle.npm_advisories.specs.Private.Unions.{IsUnion}
use Rattle.npm_advisories.specs.declared.unions.Union.{Union}
use Rattle.npm_advisories.specs.declared.index.Index.{Index}

module _ (index : Index) where
  -- the union at a name, if there is one, is that of the advisories about this package
  abbrev pub IsUnionAt : (name : List ℕ) → Option Union → Type 0
  IsUnionAt name at = MatchOption at (Unit {0}) (IsUnion (at_name index name))

  abbrev pub IsKnownAt : (name : List ℕ) → Option Union → Type 0
  IsKnownAt name at = MatchOption at (at_name index name ≡ []) (IsUnion (at_name index name))

  -- one name more
  pub union-more : (here name : List ℕ) (union : Union) (old new : Option Union) → IsUnion (at_name index here) union
      → IsUnionAt name old → new ≡ cond (bytes_eq here name) (Some union) old → IsUnionAt name new
  union-more here name union old new is before e = rw e (by_test (bytes_eq here name) refl) where
    by_test : (same : Bool) → bytes_eq here name ≡ same → IsUnionAt name (cond same (Some union) old)
    by_test true same = subst (λ n. IsUnion (at_name index n) union) ((bytes_eq-Decides here name).0 same) is
    by_test false same = before

  -- and it is there
  pub union-here : (name : List ℕ) (union : Union) (old new : Option Union) → IsUnion (at_name index name) union
      → new ≡ cond (bytes_eq name name) (Some union) old → IsKnownAt name new
  union-here name union old new is e =
      rw (e, (bytes_eq-Decides name name).1 refl) is

  -- a union that is there is known
  pub known-some : (name : List ℕ) (at : Option Union) → IsSome at → IsUnionAt name at → IsKnownAt name at
  known-some name (Some union) some is = is
  known-some name None some is = absurd (cc some)

  -- and so is one that no advisories have
  pub known-none : (name : List ℕ) (at : Option Union) → at_name index name ≡ [] → IsUnionAt name at → IsKnownAt name at
  known-none name (Some union) none is = is
  known-none name None none is = none

  -- the facts of a union that is there, and the case that there is none
  pub known-union : (name : List ℕ) (at : Option Union) (union : Union) → at ≡ Some union → IsKnownAt name at
      → IsUnion (at_name index name) union
  known-union name at union is known = subst (IsKnownAt name) is known

  pub known-empty : (name : List ℕ) (at : Option Union) → at ≡ None → IsKnownAt name at → at_name index name ≡ []
  known-empty name at is known = subst (IsKnownAt name) is known
