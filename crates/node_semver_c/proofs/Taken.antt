-- `into_raw_box` of any handle that owns its value: it hands the pointer over, with the right to free what lies there;
-- or nothing, where it is null. `function` is its MIR, and `ended` and `clauses` are its contract, over the handle and
-- the type R that it owns. Assumes `Logic`.
use Rattle.std.proofs.Common.{◌≡◌, List, [], ◌∷◌, ◌++◌, refl, sym, ap, ◌∙◌, subst}
use lib.Dec.{lit<}
use seplogic.Ra.Ura.{Ura}
use mir.Syntax.{Fn, Body, Callee, seq, assign, return, place, field, copy, rv_opd, aggregate, cond, skip, int, op2}
use mir.Syntax.{ptr_eq, w8, w64, ty_ptr, ty_bool}
use mir.Raw.{raw as bare}
use mir.Val.{Val, vptr, vnull, vstruct, vcons, vnil, of_list}
use base.Logic.{SProp, ent, emp, never, id⊢, fst∗}
use base.Fml.{Fml, ftrue}
use denote.Laws.{shows}
use denote.Memory.{lone}
use prog.Wp.{WpFn, Closed}
use prog.Model.{Model}
use types.Logic.{Logic, sem}
use types.Match.{live}
use types.Kit.{‵, raw, given, at_ret, ◌⊛◌, ◌$◌, ◌∵◌, !, qed, by, move, keep, drop, split, fsplit, fjoin, fpick}
use types.Kit.{suffices, learn, use0, use1}
use types.Run.{stop, fld, of_opd, bin, lit, no_more, and_then, first, branches, skips, exec, returns, returns_within}
use types.Run.{enter}
use types.ByLocal.{alloc_all, pass_all, free_all, look_at, get, get_in, sets, env}
use types.Part.{agg, sub, whole}
use contract.Monad.{fact, fact_i}
use contract.Running.{Running, tables}
use denote.Exit.{yes}
use denote.Param.Laws.{Laws}
use denote.RattleType.{RattleType, owns}
use denote.Signature.{types_at, plain}
use denote.RawPtr.{Ptr, Testable, block_ptr, null_ptr, ptr_val, in_a_block, tests_null}
use denote.Steps.{nothing, peeks}
use denote.Triple.Clauses.{Ended, Clauses, closing}
use denote.Triple.Spec.{Meets}
use denote.Triple.Walked.{Stays, stay_dropped, walk_of, Goes-dropped}
use Rattle.std.proofs.option.Made.{Some-of, none_of}
use Rattle.std.specs.contracts.option.Option as option
use Rattle.std.proofs.alloc.Calls.{handle_tells}
use Rattle.std.specs.Prelude.{MatchOption, Option, Some, None}
use Rattle.std.specs.Box.Ownership.{box_owns}
use Rattle.std.specs.contracts.impls.GlobalAllocator.TheImpl.{ghosts}
use Rattle.std.specs.contracts.alloc.Global as heap
use Rattle.std.proofs.alloc.Global.TheLaws as heap_laws
use Rattle.std.proofs.raw_atomic.Walks.{proved_at, leaves}
use Rattle.node_semver_c.specs.Handles.{owns_held}
use Rattle.node_semver_c.proofs.Held.{boxed_tested, either_held}
use Rattle.node_semver_c.proofs.OnePointer.{Handle, row_of, word_is, var}
use Rattle.node_semver_c.proofs.Values.{RawBox, both, al, raw_box_good, raw_box_in, some_good}

module _ (h : Handle) (R : RattleType) (value : h.D → Option R.Denot) where
  abbrev held : h.D → Fml
  held d = owns_held R (h.at d) (value d)

  abbrev H : RattleType
  H = row_of h held

  abbrev Z : RattleType
  Z = heap.the_row

  abbrev LZ : Laws Z
  LZ = heap_laws.the_row_laws

  abbrev L : RattleType
  L = RawBox R Z LZ ghosts

  abbrev after_test : Body
  after_test = seq (assign (place 3 []) (rv_opd (copy (place 1 (field 0 ∷ [])))))
      (seq (assign (place 5 []) (rv_opd (copy (place 3 []))))
      (seq (assign (place 6 []) (aggregate (copy (place 5 []) ∷ copy (place 2 []) ∷ [])))
      (seq (assign (place 0 []) (aggregate (int w8 1 ∷ copy (place 6 []) ∷ []))) return)))

  abbrev function : Fn
  function = record {
    lifetimes = 0;
    outlives = [];
    ty_params = [];
    givens = 0;
    params = 2;
    locals = var (lone (option.the_row L).mir) ∷ var (lone H.mir) ∷ var (lone Z.mir) ∷ var ty_ptr ∷ var ty_bool
        ∷ var ty_ptr ∷ var (lone L.mir) ∷ [];
    body = seq (assign (place 4 []) (op2 ptr_eq (copy (place 1 (field 0 ∷ []))) (int w64 0)))
        (seq (cond (copy (place 4 [])) (seq (assign (place 0 []) (aggregate (int w8 0 ∷ []))) return) skip)
        after_test);
  }

  abbrev ended : Ended
  ended = record {
    signature = record {
      lifetimes = 0;
      outlives = [];
      params = plain (λ _. H) ∷ plain (λ _. Z) ∷ [];
      result = plain (λ _. option.the_row L);
    };
    kept = (yes, (yes, tt));
  }

  module _ {M : Type 1} (𝓤 : Ura M) (𝓛 : Logic 𝓤) where
    abbrev clauses : Clauses 𝓤 ended
    clauses κs a = record {
      ghost = Unit {0};
      requires = λ _. emp 𝓤;
      ensures = λ _ r _. fact 𝓤 (MatchOption r (value a.0 ≡ None) (λ l. value a.0 ≡ Some l.value));
    }

    pub into_raw_box_meets : (𝓜 : Model 𝓤 𝓛.H) (𝓡 : Running 𝓤 𝓛.H 𝓜) (k : Callee)
        → Closed 𝓤 𝓛.H (tables 𝓤 𝓛.H 𝓜 𝓡 𝓡.env).C (tables 𝓤 𝓛.H 𝓜 𝓡 𝓡.env).Λ k function
        → Meets 𝓛 ended.signature ((tables 𝓤 𝓛.H 𝓜 𝓡 𝓡.env).C k) (closing 𝓛 ended clauses)
    into_raw_box_meets 𝓜 𝓡 k unfolded =
        let 𝓣 = tables 𝓤 𝓛.H 𝓜 𝓡 𝓡.env in let c = clauses in
        let hs : Stays ended.signature.params ended.kept =
        (stay_dropped (plain (λ _. H)) yes, (stay_dropped (plain (λ _. Z)) yes, tt)) in
        proved_at 𝓛 ended hs c 𝓜 𝓡 (
          Goes-dropped 𝓛 0 (plain (λ _. H)) yes (λ κs x w. refl),
          (Goes-dropped 𝓛 0 (plain (λ _. Z)) yes (λ κs x w. refl), tt),
        ) k function
        unfolded (λ z are.
        let v = z.0.3.0 in let a = z.0.3.1.0 in let Post : Val
        → SProp 𝓤 = (walk_of 𝓛 ended hs c).post z in let Run : List Val
        → SProp 𝓤 = λ ws. WpFn 𝓤 𝓛.H 𝓣.C 𝓣.Λ function ws Post in
        qed 𝓛 ((‵ ftrue ⊛ ‵ (owns (types_at ended.signature.params z.0.0) z.0.3 z.0.4)) ∷ raw
        ((c z.0.0 z.0.3).requires z.1) ∷ []) ∵ split ! $ drop ! $ fsplit ! $ move ! (1 ∷ []) $ fsplit ! $
        handle_tells (al R Z LZ ghosts) ! a z.0.4.1.0 (λ u ea fits. move ! (2 ∷ []) $
        peeks ! H _ (shows 𝓛 H) v z.0.4.0
        (λ is. fsplit ! $ drop ! $ either_held ! R (h.at v) (value v)
        -- empty: the pointer is null
        (λ none at. let w : Val = vstruct (vcons vnull vnil) in
        let first_is : z.0.4.0 ≡ w ∷ [] = word_is h held v z.0.4.0 is ∙ ap
        (λ (p : Ptr). vstruct (vcons (ptr_val p) vnil) ∷ []) at in
        suffices ! (Run (w ∷ u ∷ [])) (subst (λ (us : List Val). ent 𝓤 (Run (w ∷ u ∷ [])) (Run us))
        (sym (λ i. first_is i ++ (ea i ++ []))) (id⊢ 𝓤 (Run (w ∷ u ∷ [])))) $
        enter ! 𝓣.C 𝓣.Λ function (w ∷ u ∷ []) Post $ alloc_all !
        (λ l. pass_all ! refl ((tt, (record { fits = lit< tt }, tt)), (fits, tt)) $
        sets ! (bin ! (get_in ! (fld ! refl (stop !)) (sub ! 0 refl (whole !))) (lit ! tt)
        (tests_null null_ptr (lit< tt))) refl (tt, tt) $
        first ! $ branches ! (get ! refl)
        (λ t. sets ! (agg ! (and_then ! (lit ! tt) (no_more !))) refl (tt, (record { fits = lit< tt }, tt)) $
        returns_within ! Post refl (look_at ! 0 refl) $ free_all ! refl $
        use0 𝓛 (‵ ((option.the_row L).own_val None (live 0 (of_list []) ∷ []))) (none_of 𝓛 L) $ keep ! (0 ∷ []) $
        nothing ! $ nothing ! $ fjoin ! $ nothing ! $ fjoin ! $ nothing ! $ use0 𝓛 (raw (fact 𝓤 ((value v) ≡ None)))
        (fact_i 𝓤 ((value v) ≡ None) (emp 𝓤) none) $ move ! (1 ∷ 2 ∷ 3 ∷ 0 ∷ []) $
        by ! (leaves 𝓛 ended hs c z (live 0 (of_list [])) None (tt, (tt, tt)) (tt, (tt, tt))))
        (λ t. absurd t)))
        -- full: the pointer may be freed
        (λ x some. fpick ! (λ a'.
        in_a_block ! (h.at v) (λ p. box_owns (ghosts.dealloc_token a') R p x)
        (fst∗ 𝓤 (never 𝓤) (sem 𝓛 (ghosts.dealloc_token a' (bare (lone R.mir)) null_ptr))) (λ b o e.
        use1 𝓛 (given (Testable (block_ptr b o)) (‵ (box_owns (ghosts.dealloc_token a') R (block_ptr b o) x)))
        (boxed_tested 𝓛 R a' (block_ptr b o) x) $ learn ! (λ may.
        let w : Val = vstruct (vcons (vptr b o) vnil) in
        let first_is : z.0.4.0 ≡ w ∷ [] = word_is h held v z.0.4.0 is ∙ ap
        (λ (p : Ptr). vstruct (vcons (ptr_val p) vnil) ∷ []) e in
        suffices ! (Run (w ∷ u ∷ [])) (subst (λ (us : List Val). ent 𝓤 (Run (w ∷ u ∷ [])) (Run us))
        (sym (λ i. first_is i ++ (ea i ++ []))) (id⊢ 𝓤 (Run (w ∷ u ∷ [])))) $
        enter ! 𝓣.C 𝓣.Λ function (w ∷ u ∷ []) Post $ alloc_all ! (λ l. pass_all ! refl ((tt, (tt, tt)), (fits, tt)) $
        sets ! (bin ! (get_in ! (fld ! refl (stop !)) (sub ! 0 refl (whole !))) (lit ! tt)
        (tests_null (block_ptr b o) may)) refl (tt, tt) $
        first ! $ branches ! (get ! refl) (λ t. absurd t)
        (λ t. let En = env function.locals l in skips ! $ exec ! 𝓣.C 𝓣.Λ En after_test (at_ret En Post) $
        sets ! (of_opd ! (get_in ! (fld ! refl (stop !)) (sub ! 0 refl (whole !)))) refl (tt, tt) $ sets !
        (of_opd ! (get ! refl)) refl (tt, tt) $
        sets ! (agg ! (and_then ! (get ! refl) (and_then ! (get ! refl) (no_more !)))) refl
        (raw_box_good R Z LZ ghosts b o u fits) $
        sets ! (agg ! (and_then ! (lit ! tt) (and_then ! (get ! refl) (no_more !)))) refl
        (some_good R Z LZ ghosts b o u fits) $ returns ! (look_at ! 0 refl) $ free_all ! refl $ keep ! (0 ∷ 1 ∷ []) $
        use1 𝓛 (‵ (box_owns (ghosts.dealloc_token a) R (block_ptr b o) x)) (id⊢ 𝓤 _) $
        raw_box_in R Z LZ ghosts ! b o u a x $
        let made : L.Denot = record { at = block_ptr b o; alloc = a; value = x } in
        let out : Val = live 1 (of_list (both (vptr b o) u ∷ [])) in
        use1 𝓛 (‵ ((option.the_row L).own_val (Some made) (out ∷ []))) (Some-of 𝓛 L made (both (vptr b o) u)) $
        nothing ! $ nothing ! $ fjoin ! $ nothing ! $ fjoin ! $ nothing ! $ use0 𝓛 (raw (fact 𝓤 ((value v) ≡ Some x)))
        (fact_i 𝓤 ((value v) ≡ Some x) (emp 𝓤) some) $
        move ! (1 ∷ 2 ∷ 3 ∷ 0 ∷ []) $
        by ! (leaves 𝓛 ended hs c z out (Some made) (tt, (tt, tt)) (tt, (tt, tt))))))))))))
