-- `get` of any handle that borrows its value: it reads the pointer, and takes the shared borrow of what lies there.
-- `function` is its MIR, and `ended` and `clauses` are its contract, over the handle and the type R that it borrows.
-- Assumes `Logic`.
use mathlib.Core.Path.{◌≡◌, refl, sym, subst}
use Prim.Native.Nat.{ℕ}
use mathlib.Core.List.{List, [], ◌∷◌, ◌++◌}
use seplogic.Ra.Ura.{Ura}
use mir.Syntax.{Fn, Callee, seq, block, assign, return, place, field, deref, copy, rv_opd, addr_of, named, erased, imm}
use mir.Syntax.{ty_ptr, ty_ref}
use mir.Val.{Val, vptr}
use base.Logic.{SProp, ent, sep, emp, via, never, fst∗}
use base.Fml.{Lft, Share, Fml, ftrue, fsep, flft}
use prog.Wp.{Env, Calls, Loops, WpFn, Tables, Closed}
use prog.Model.{Model}
use types.Logic.{Logic, sem}
use contract.Monad.{fact}
use contract.Running.{Running, tables, tables_of}
use sound.WpLaws.{WpFn-mono}
use types.Kit.{⋆, ‵, ◌⊛◌, later, at_ret, ◌$◌, ◌∵◌, !, qed, by, move, keep, drop, use1, use2, split, join, rewrite}
use types.Kit.{fsplit, fjoin, fpick, feq_i, feq_l, suffices, frame, await, done}
use types.Run.{load, stop, fld, of_opd, addr, first, blocks, exec, returns, enter}
use types.ByLocal.{alloc_all, pass_all, free_all, look_at, get, through, sets, sets_last, env}
use types.Part.{whole, sub, look_in}
use types.Tokens.{shr_bor-open}
use denote.Exit.{yes}
use denote.Laws.{Copy}
use denote.RattleType.{RattleType, RowLaws, owns}
use denote.Copied.{told_Cuts, told_out, told_in}
use denote.Memory.{lone, pointee, shared_of, hidden_shr, cell_at, part_at}
use denote.RawPtr.{Ptr, in_a_block}
use denote.Ref.{Bor, ShrRef}
use denote.Builtin.{One, RefOf}
use denote.Signature.{plain}
use denote.Opens.{hide, unhide, Cuts-Halves}
use denote.SharingLaws.{contraction}
use denote.Steps.{nothing}
use denote.Struct.Lending.{lent_at, lent_at_shr_laws}
use denote.Struct.Struct.{Struct, struct_copy}
use denote.Struct.Owning.{shape, to}
use denote.Struct.Laws.{RawPtr-copy}
use denote.Triple.Clauses.{Ended, Clauses, closing}
use denote.Triple.Entry.{on_entry}
use denote.Triple.Spec.{Meets, triple_of}
use denote.Triple.Table.{entered}
use denote.Triple.Walked.{says, Stays, stay_dropped, walk_of, ends_at, Goes-dropped, walk_Meets}
use Rattle.std.proofs.VecSteps.Shapes.{after}
use Rattle.node_semver_c.specs.Handles.{borrows}
use Rattle.node_semver_c.proofs.Lent as lent
use Rattle.node_semver_c.proofs.OnePointer.{Handle, type_of, row_of, word, word_is, var}

module _ (h : Handle) (R : RattleType) (LR : RowLaws R) (one : One R.mir)
    (value : h.D → R.Denot) (life : h.D → ℕ) where
  abbrev heap : h.D → Fml
  heap d = borrows R (h.at d) (life d) (value d)

  abbrev H : RattleType
  H = row_of h heap

  abbrev function : Fn
  function = record {
    lifetimes = 1;
    outlives = [];
    ty_params = [];
    givens = 0;
    params = 1;
    locals = var (ty_ref (named 0) imm (pointee R.written)) ∷ var (ty_ref (named 0) imm (pointee H.written))
        ∷ var (ty_ref erased imm (pointee R.written)) ∷ var ty_ptr ∷ var ty_ptr ∷ [];
    body = seq (block (seq (assign (place 3 []) (rv_opd (copy (place 1 (deref (lone H.mir) ∷ field 0 ∷ [])))))
        (seq (assign (place 4 []) (rv_opd (copy (place 3 []))))
        (assign (place 2 []) (addr_of (place 4 (deref (lone R.mir) ∷ [])))))))
        (seq (assign (place 0 []) (rv_opd (copy (place 2 [])))) return);
  }

  abbrev ended : Ended
  ended = record {
    signature = record {
      lifetimes = 1;
      outlives = [];
      params = RefOf (0 ∷ []) tt (plain (λ _. H)) (λ _. tt) ∷ [];
      result = RefOf (0 ∷ []) tt (plain (λ _. R)) (λ _. one);
    };
    kept = (yes, tt);
  }

  abbrev clauses : {M : Type 1} (𝓤 : Ura M) → Clauses 𝓤 ended
  clauses 𝓤 κs a = record {
    ghost = Unit {0};
    requires = λ _. emp 𝓤;
    ensures = λ _ r _. fact 𝓤 (r.now ≡ value a.0.now);
  }

  abbrev stayed : Stays ended.signature.params ended.kept
  stayed = (stay_dropped (RefOf (0 ∷ []) tt (plain (λ _. H)) (λ _. tt)) yes, tt)

  abbrev words : h.D → List Val
  words d = word h heap (h.at d) ∷ []

  -- the pointer's own formula
  abbrev Data : h.D → List Val → Fml
  Data d = (Struct (shape (type_of h heap))).own_val (to (type_of h heap) d)

  module _ {M : Type 1} {𝓤 : Ura M} (𝓛 : Logic 𝓤) (C : Calls 𝓤 𝓛.H) (Λ : Loops 𝓤 𝓛.H) (κ : Lft) (q : Share)
      (rb ro : ℕ) (d : h.D) (us0 : List Val) where
    open 𝓛 use {A}

    abbrev c : Clauses 𝓤 ended
    c = clauses 𝓤

    abbrev lies : Lft → Fml
    lies = lent_at R (h.at d) (value d)

    abbrev Own : List Val → Fml
    Own = H.own_val d

    abbrev bound : (walk_of 𝓛 ended stayed c).Ghost
    bound = (((κ, tt), (q, tt), tt, (record { ref_ptr = (rb, ro); now = d }, tt), (us0, tt)), tt)

    abbrev Post : Val → SProp 𝓤
    Post = (walk_of 𝓛 ended stayed c).post bound

    abbrev laws : denote.Sharing.ShrLaws lies
    laws = lent_at_shr_laws R LR (h.at d) (value d)

    copies : Copy 𝓛 H
    copies = record {
      twice = λ x vs. qed 𝓛 (‵ (H.own_val x vs) ∷ []) ∵ fsplit ! $
          use1 𝓛 (‵ (Data x vs) ⊛ ‵ (Data x vs))
          ((struct_copy 𝓛 (shape (type_of h heap)) (RawPtr-copy.copies _ 𝓤 𝓛, tt)).twice
          (to (type_of h heap) x) vs) $ split ! $ move ! (2 ∷ []) $
          use1 𝓛 (‵ (heap x) ⊛ ‵ (heap x))
          (lent.heap_twice 𝓛 (lent_at R (h.at x) (value x))
          (lent_at_shr_laws R LR (h.at x) (value x)) (life x)) $ split ! $
          move ! (2 ∷ 0 ∷ []) $ fjoin ! $ move ! (2 ∷ 1 ∷ []) $ fjoin ! $ done !;
    }

    abbrev Rest : Share → Fml
    Rest s = fsep (cell_at s H.mir (words d) rb ro) (Data d (words d))

    back : (s : Share) → ent 𝓤 (sep 𝓤 (sem 𝓛 (Rest s)) (sem 𝓛 (heap d))) (sem 𝓛 (part_at H s d rb ro))
    back s = qed 𝓛 (‵ (Rest s) ∷ ‵ (heap d) ∷ []) ∵ fsplit ! $ move ! (1 ∷ 2 ∷ []) $ fjoin ! $ move !
        (1 ∷ 0 ∷ []) $ by ! (told_in 𝓛 H words (word_is h heap) s d rb ro (words d))

    exits : (r : Bor R.Denot) (v : Val) → r.now ≡ (value d)
        → ent 𝓤 (⋆ 𝓛 (‵ (flft κ q) ∷ ‵ ((ShrRef (named 0) κ R).own_val r (v ∷ [])) ∷ [])) (Post v)
    exits r v same =
        qed 𝓛 (‵ (flft κ q) ∷ ‵ ((ShrRef (named 0) κ R).own_val r (v ∷ [])) ∷ []) ∵
        suffices ! _ (ends_at 𝓛 ended stayed c bound v r (tt, tt) (tt, tt)) $ says ! same $
        nothing ! $ move ! (1 ∷ 0 ∷ []) $ join ! $ frame ! $ nothing ! $ nothing ! $ fjoin ! $ done !

    walk : ent 𝓤 (⋆ 𝓛 (‵ (hidden_shr H κ d rb ro) ∷ ‵ (flft κ q) ∷ []))
        (WpFn 𝓤 𝓛.H C Λ function (vptr rb ro ∷ []) Post)
    walk =
        let Cell = λ (s : Share) (p : Ptr). ‵ (cell_at s H.mir (word h heap p ∷ []) rb ro) in
        qed 𝓛 (‵ (hidden_shr H κ d rb ro) ∷ ‵ (flft κ q) ∷ []) ∵ enter ! C Λ function
        (vptr rb ro ∷ []) _ $ alloc_all ! (λ l. pass_all ! refl ((tt, tt), tt) $
        let En : Env 𝓤 𝓛.H = env (function).locals l in
        unhide ! $ shr_bor-open ! tt (Cuts-Halves 𝓛 (λ s. part_at H s d rb ro)
        (told_Cuts 𝓛 H words (word_is h heap) copies d rb ro)) (λ s. move ! (1 ∷ []) $
        use1 𝓛 (‵ (cell_at s H.mir (words d) rb ro) ⊛ ‵ (Own (words d)))
        (told_out 𝓛 H words (word_is h heap) s d rb ro) $ split ! $
        move ! (1 ∷ []) $ fsplit ! $ move ! (1 ∷ []) $ fsplit ! $ fpick ! (λ t.
        -- [a share of the token; the value; the pointer's formula; the cell; the open borrow]
        move ! (1 ∷ []) $ use1 𝓛 (‵ (lies ((life d) ∷ [])) ⊛ ‵ (lies ((life d) ∷ [])))
        (contraction 𝓛 lies laws ((life d) ∷ [])) $ split ! $
        in_a_block ! (h.at d) (λ p. lent_at R p (value d) ((life d) ∷ []))
        (fst∗ 𝓤 (never 𝓤) (sem 𝓛 (shared_of R (value d) 0 0 ((life d) ∷ [])))) (λ kb kc e. drop ! $
        move ! (3 ∷ []) $ rewrite ! 0 (λ (p : Ptr). Cell s p) e refl $ first ! $ blocks ! $
        sets ! (of_opd ! (load ! (through ! refl (fld ! refl (stop !)))
        (look_in ! 0 (sub ! 0 refl (whole !))))) refl (tt, tt) $
        sets ! (of_opd ! (get ! refl)) refl (tt, tt) $ sets_last ! (addr ! (through ! refl (stop !))) refl (tt, tt) $
        exec ! C Λ En (after 1 (function).body) (at_ret En Post) $ sets ! (of_opd ! (get ! refl)) refl (tt, tt) $
        rewrite ! 0 (λ (p : Ptr). Cell s p) (sym e) refl $ move ! (0 ∷ 3 ∷ []) $ fjoin ! $ move !
        (2 ∷ 1 ∷ []) $ fjoin ! $ move ! (1 ∷ 0 ∷ []) $ fjoin ! $ move ! (1 ∷ 0 ∷ []) $
        use2 𝓛 (later (‵ (lies κ) ⊛ ‵ (flft κ q)))
        (lent.lent_out 𝓛 lies laws (life d) κ q (part_at H s d rb ro) (Rest s) (back s) t) $ await ! tt $ split ! $
        rewrite ! 0 (λ (p : Ptr). ‵ (lent_at R p (value d) κ)) e refl $ fsplit ! $ drop ! $ hide ! $
        feq_i ! (List Val) (vptr kb kc ∷ []) (vptr kb kc ∷ []) refl $ fjoin ! $ move ! (1 ∷ 0 ∷ []) $
        returns ! (look_at ! 0 refl) $ free_all ! refl $ keep ! (0 ∷ 1 ∷ []) $ by !
        (exits (record { ref_ptr = (kb, kc); now = (value d) }) (vptr kb kc) refl)))))

    entry : ent 𝓤 (on_entry 𝓛 ended.signature (κ, tt) (q, tt) (record { ref_ptr = (rb, ro); now = d }, tt) (us0, tt))
        (WpFn 𝓤 𝓛.H C Λ function (us0 ++ []) Post)
    entry =
        qed 𝓛 ((‵ (flft κ q) ⊛ ‵ ftrue) ∷ ‵ (owns (ShrRef (named 0) κ H ∷ [])
        (record { ref_ptr = (rb, ro); now = d }, tt) (us0, tt)) ∷ []) ∵
        split ! $ move ! (2 ∷ []) $ fsplit ! $ fsplit ! $ feq_l ! (λ e0. keep ! (0 ∷ 2 ∷ []) $
        by ! (subst (λ (ws : List Val). ent 𝓤 (⋆ 𝓛 (‵ (hidden_shr H κ d rb ro) ∷ ‵ (flft κ q) ∷ []))
        (WpFn 𝓤 𝓛.H C Λ function (ws ++ []) Post)) (sym e0) walk))

  meets : {M : Type 1} {𝓤 : Ura M} (𝓛 : Logic 𝓤) (𝓣 : Tables 𝓤 𝓛.H)
      → Meets 𝓛 ended.signature (WpFn 𝓤 𝓛.H 𝓣.C 𝓣.Λ function) (closing 𝓛 ended (clauses 𝓤))
  meets {𝓤 = 𝓤} 𝓛 𝓣 =
      walk_Meets 𝓛 ended stayed (
        Goes-dropped 𝓛 1 (RefOf (0 ∷ []) tt (plain (λ _. H)) (λ _. tt)) yes
            (λ κs x f. refl),
        tt,
      ) (clauses 𝓤) (WpFn 𝓤 𝓛.H 𝓣.C 𝓣.Λ function)
      (WpFn-mono 𝓤 𝓛.H 𝓛.laws 𝓣 function)
      (λ z. via 𝓤 _ (fst∗ 𝓤 _ (emp 𝓤)) (entry 𝓛 𝓣.C 𝓣.Λ z.0.0.0 z.0.1.0 z.0.3.0.ref_ptr.0
      z.0.3.0.ref_ptr.1 z.0.3.0.now z.0.4.0))

  pub get_meets : {M : Type 1} (𝓤 : Ura M) (𝓛 : Logic 𝓤) (𝓜 : Model 𝓤 𝓛.H) (𝓡 : Running 𝓤 𝓛.H 𝓜) (k : Callee)
      → Closed 𝓤 𝓛.H (tables 𝓤 𝓛.H 𝓜 𝓡 𝓡.env).C (tables 𝓤 𝓛.H 𝓜 𝓡 𝓡.env).Λ k function
      → Meets 𝓛 ended.signature ((tables 𝓤 𝓛.H 𝓜 𝓡 𝓡.env).C k) (closing 𝓛 ended (clauses 𝓤))
  unfolding tables_of
  get_meets 𝓤 𝓛 𝓜 𝓡 k unfolded =
      entered 𝓤 𝓛.H (triple_of 𝓛 ended.signature (closing 𝓛 ended (clauses 𝓤)))
      (tables 𝓤 𝓛.H 𝓜 𝓡 𝓡.env).C (tables 𝓤 𝓛.H 𝓜 𝓡 𝓡.env).Λ k function unfolded
      (meets 𝓛 (tables_of 𝓤 𝓛.H 𝓜 (tables 𝓤 𝓛.H 𝓜 𝓡 𝓡.env)))
