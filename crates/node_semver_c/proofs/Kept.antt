-- `of` of any handle that owns its value: it keeps the pointer, and the right to free what lies there. `function` is
-- its MIR, and `ended` and `clauses` are its contract, over the handle and the type R that it owns. Assumes `Logic`.
use Rattle.std.proofs.Common.{◌≡◌, List, [], ◌∷◌, ◌++◌, refl, sym, subst}
use seplogic.Ra.Ura.{Ura}
use mir.Syntax.{Fn, Callee, seq, assign, return, place, field, copy, rv_opd, aggregate, ty_ptr}
use mir.Val.{Val, vptr, vstruct, vcons, vnil}
use base.Logic.{SProp, ent, emp, id⊢}
use base.Fml.{Fml, ftrue, fsep, fex}
use prog.Wp.{WpFn, Closed}
use prog.Model.{Model}
use types.Logic.{Logic}
use types.Kit.{‵, raw, ◌⊛◌, ◌$◌, ◌∵◌, !, qed, by, move, keep, drop, split, fsplit, fjoin, fpack, suffices, rewrite}
use types.Kit.{use0, feq_i}
use types.Run.{stop, fld, of_opd, no_more, and_then, returns, enter}
use types.ByLocal.{alloc_all, pass_all, free_all, look_at, get, get_in, sets}
use types.Part.{agg, sub, whole}
use contract.Monad.{fact, fact_i}
use contract.Running.{Running, tables}
use denote.Exit.{yes}
use denote.Memory.{lone}
use denote.RattleType.{RattleType, Valss, owns}
use denote.Signature.{types_at, plain}
use denote.Builtin.{RawPtr}
use denote.RawPtr.{Ptr, block_ptr}
use denote.Steps.{nothing}
use denote.Struct.Struct.{within}
use denote.Struct.Owning.{shape}
use denote.Triple.Clauses.{Ended, Clauses, closing}
use denote.Triple.Spec.{Meets}
use denote.Triple.Walked.{Stays, stay_dropped, walk_of, Goes-dropped}
use Rattle.std.specs.Prelude.{Option, Some}
use Rattle.std.specs.Box.Ownership.{box_owns}
use Rattle.std.specs.declared.alloc.Global.{Global}
use Rattle.std.specs.contracts.impls.GlobalAllocator.TheImpl.{ghosts}
use Rattle.std.specs.contracts.alloc.Global as heap
use Rattle.std.proofs.alloc.Global.TheLaws as heap_laws
use Rattle.std.proofs.raw_atomic.Walks.{proved_at, leaves}
use Rattle.node_semver_c.specs.Handles.{owns_held}
use Rattle.node_semver_c.proofs.OnePointer.{Handle, type_of, row_of, var}
use Rattle.node_semver_c.proofs.Values.{both, RawBox, raw_box_good, raw_box_out}

module _ (h : Handle) (R : RattleType) (value : h.D → Option R.Denot) where
  abbrev held : h.D → Fml
  held d = owns_held R (h.at d) (value d)

  abbrev H : RattleType
  H = row_of h held

  abbrev Given : RattleType
  Given = RawBox R heap.the_row heap_laws.the_row_laws ghosts

  abbrev function : Fn
  function = record {
    lifetimes = 0;
    outlives = [];
    ty_params = [];
    givens = 0;
    params = 1;
    locals = var (lone H.mir) ∷ var (lone Given.mir) ∷ var ty_ptr ∷ var ty_ptr ∷ [];
    body = seq (assign (place 2 []) (rv_opd (copy (place 1 (field 0 ∷ [])))))
        (seq (assign (place 3 []) (rv_opd (copy (place 2 []))))
        (seq (assign (place 0 []) (aggregate (copy (place 3 []) ∷ []))) return));
  }

  abbrev ended : Ended
  ended = record {
    signature = record {
      lifetimes = 0;
      outlives = [];
      params = plain (λ _. Given) ∷ [];
      result = plain (λ _. H);
    };
    kept = (yes, tt);
  }

  -- what a handle at the pointer p with the value o owns
  abbrev Own : List Val → Ptr → Option R.Denot → Fml
  Own vs p o =
      fsep (fex (Valss (RawPtr ∷ [])) (within (shape (type_of h held)) (p, tt) vs)) (owns_held R p o)

  module _ {M : Type 1} (𝓤 : Ura M) (𝓛 : Logic 𝓤) where
    abbrev clauses : Clauses 𝓤 ended
    clauses κs a = record {
      ghost = Unit {0};
      requires = λ _. emp 𝓤;
      ensures = λ _ r _. fact 𝓤 (value r ≡ Some a.0.value);
    }

    -- `made` is the handle of a pointer and a value
    pub of_meets : (made : Ptr → Option R.Denot → h.D)
        → ((p : Ptr) (o : Option R.Denot) → h.at (made p o) ≡ p)
        → ((p : Ptr) (o : Option R.Denot) → value (made p o) ≡ o)
        → (𝓜 : Model 𝓤 𝓛.H) (𝓡 : Running 𝓤 𝓛.H 𝓜) (k : Callee)
        → Closed 𝓤 𝓛.H (tables 𝓤 𝓛.H 𝓜 𝓡 𝓡.env).C (tables 𝓤 𝓛.H 𝓜 𝓡 𝓡.env).Λ k function
        → Meets 𝓛 ended.signature ((tables 𝓤 𝓛.H 𝓜 𝓡 𝓡.env).C k) (closing 𝓛 ended clauses)
    of_meets made at_is value_is 𝓜 𝓡 k unfolded =
        let 𝓣 = tables 𝓤 𝓛.H 𝓜 𝓡 𝓡.env in let Z : RattleType = heap.the_row in
        let LZ = heap_laws.the_row_laws in
        let hs : Stays ended.signature.params ended.kept = (stay_dropped (plain (λ _. Given)) yes, tt) in
        proved_at 𝓛 ended hs clauses 𝓜 𝓡 (
          Goes-dropped 𝓛 0 (plain (λ _. Given)) yes
              (λ κs x w. refl),
          tt,
        ) k function unfolded (λ z are.
        let v = z.0.3.0 in let Post : Val → SProp 𝓤 = (walk_of 𝓛 ended hs clauses).post z in let Run : List Val
        → SProp 𝓤 = λ ws. WpFn 𝓤 𝓛.H 𝓣.C 𝓣.Λ function ws Post in
        qed 𝓛 ((‵ ftrue ⊛ ‵ (owns (types_at ended.signature.params z.0.0) z.0.3 z.0.4)) ∷ raw
        ((clauses z.0.0 z.0.3).requires z.1) ∷ []) ∵ split ! $ drop ! $ fsplit ! $ raw_box_out R Z LZ ghosts ! v z.0.4.0
        (λ b o u e ws fits.
        let w : Val = both (vptr b o) u in let out : Val = vstruct (vcons (vptr b o) vnil) in
        let p : Ptr = block_ptr b o in let new : h.D = made p (Some v.value) in
        suffices ! (Run (w ∷ [])) (subst (λ (us : List Val). ent 𝓤 (Run (w ∷ [])) (Run us)) (sym (λ i. ws i ++ []))
        (id⊢ 𝓤 (Run (w ∷ [])))) $
        enter ! 𝓣.C 𝓣.Λ function (w ∷ []) Post $ alloc_all !
        (λ l. pass_all ! refl (raw_box_good R Z LZ ghosts b o u fits, tt) $
        sets ! (of_opd ! (get_in ! (fld ! refl (stop !)) (sub ! 0 refl (whole !)))) refl (tt, tt) $ sets !
        (of_opd ! (get ! refl)) refl (tt, tt) $
        sets ! (agg ! (and_then ! (get ! refl) (no_more !))) refl (tt, (tt, tt)) $ returns !
        (look_at ! 0 refl) $ free_all ! refl $ keep ! (0 ∷ []) $
        fpack ! Global (λ (a : Global). box_owns (ghosts.dealloc_token a) R p v.value) v.alloc $
        nothing ! $ feq_i ! (List Val) (vptr b o ∷ []) (vptr b o ∷ []) refl $ fjoin ! $ feq_i ! (List Val) (out ∷ [])
        (out ∷ []) refl $ fjoin ! $
        fpack ! (Valss (RawPtr ∷ [])) (within (shape (type_of h held)) (p, tt) (out ∷ []))
        (vptr b o ∷ [], tt) $ fjoin ! $
        rewrite ! 0 (λ (o : Option R.Denot). ‵ (Own (out ∷ []) p o)) (sym (value_is p (Some v.value))) refl $
        rewrite ! 0 (λ (p : Ptr). ‵ (Own (out ∷ []) p (value new))) (sym (at_is p (Some v.value))) refl $
        nothing ! $ nothing ! $ fjoin ! $ nothing ! $ use0 𝓛 (raw (fact 𝓤 (value new ≡ Some v.value)))
        (fact_i 𝓤 (value new ≡ Some v.value) (emp 𝓤) (value_is p (Some v.value))) $
        move ! (1 ∷ 2 ∷ 3 ∷ 0 ∷ []) $ by ! (leaves 𝓛 ended hs clauses z out new (tt, tt) (tt, tt)))))
