-- `get` reads the pointer, and takes the shared borrow of what lies there, if it is not null. Assumes `Logic`.
use lib.Dec.{lit<}
use mathlib.Core.Path.{◌≡◌, refl, sym, subst}
use Prim.Native.Nat.{ℕ}
use mathlib.Core.List.{List, [], ◌∷◌, ◌++◌}
use seplogic.Ra.Ura.{Ura}
use mir.Syntax.{named}
use mir.Val.{Val, vptr, vstruct, vcons, vnil, of_list}
use base.Logic.{SProp, ent, sep, emp, via, never, fst∗}
use base.Fml.{Lft, Share, Fml, ftrue, fsep, flft}
use prog.Wp.{Env, Calls, Loops, WpFn, Tables}
use types.Logic.{Logic, sem}
use contract.Monad.{fact}
use contract.Running.{tables, tables_of}
use sound.WpLaws.{WpFn-mono}
use types.Kit.{⋆, ‵, ◌⊛◌, later, at_ret, ◌$◌, ◌∵◌, !, qed, by, move, keep, drop, use0, use1, use2, split, join, rewrite}
use types.Kit.{fsplit, fjoin, fpick, feq_i, feq_l, suffices, frame, await, done}
use types.Match.{live}
use types.Run.{load, stop, fld, of_opd, addr, bin, lit, no_more, and_then, first, branches, skips, blocks, exec}
use types.Run.{returns}
use types.Run.{returns_within, enter}
use types.ByLocal.{alloc_all, pass_all, free_all, look_at, get, through, sets, sets_last, env}
use types.Part.{agg, whole, sub, look_in}
use types.Tokens.{shr_bor-open, obor_close}
use denote.Exit.{yes}
use denote.Laws.{Copy}
use denote.RattleType.{RattleType, owns}
use denote.Copied.{told_Cuts, told_out, told_in}
use denote.Memory.{shared_of, hidden_shr, cell_at, part_at}
use denote.RawPtr.{Ptr, Testable, block_ptr, null_ptr, ptr_val, tests_null, in_a_block}
use denote.Ref.{Bor, ShrRef}
use denote.Builtin.{RefOf}
use denote.Signature.{plain}
use denote.Opens.{hide, unhide, Cuts-Halves}
use denote.SharingLaws.{contraction}
use denote.Steps.{nothing}
use denote.Struct.Lending.{lent_at, lent_at_shr_laws}
use denote.Struct.Struct.{Struct, struct_copy}
use denote.Struct.Owning.{shape, to}
use denote.Struct.Laws.{RawPtr-copy}
use denote.Triple.Clauses.{Clauses}
use denote.Triple.Entry.{on_entry}
use denote.Triple.Spec.{Meets, triple_of}
use denote.Triple.Table.{entered}
use denote.Triple.Walked.{says, Stays, stay_dropped, walk_of, ends_at, Goes-dropped, walk_Meets}
use Rattle.std.specs.Prelude.{MatchOption, Option, Some, None}
use Rattle.std.specs.contracts.option.Option as option
use Rattle.std.proofs.option.Made.{Some-of, none_of}
use Rattle.node_semver_c.specs.Handles.{borrows, borrows_held}
use Rattle.semver_versions.specs.contracts.version.Version as V
use Rattle.semver_versions.proofs.version.Version.TheLaws as V-laws
use Rattle.node_semver_c.specs.contracts.handle.optional.OptionalVersionRef as H
use Rattle.node_semver_c.proofs.handle.optional.OptionalVersionRef.TheLaws.{lowers}
use Rattle.node_semver_c.proofs.Lent as lent
use Rattle.node_semver_c.proofs.LentOrEmpty.{either_lent, held_twice, none_again, some_again}
use Rattle.node_semver_c.specs.contracts.handle.optional.OptionalVersionRef.get as f
use Rattle.node_semver_c.specs.contracts.handle.optional.OptionalVersionRef.get.Key.{name as #self}
use Rattle.node_semver_c.proofs.handle.optional.OptionalVersionRef.get.Statement.{statement}
use Rattle.node_semver_c.proofs.handle.optional.OptionalVersionRef.get.Code as code

abbrev stayed : Stays f.ended.signature.params f.ended.kept
stayed = (stay_dropped (RefOf (0 ∷ []) tt (plain (λ _. H.the_row)) (λ _. tt)) yes, tt)

abbrev word : H.the_row.Denot → List Val
word d = lowers.lowered d ∷ []

-- the pointer's own formula
abbrev Data : H.the_row.Denot → List Val → Fml
Data d = (Struct (shape H.the_type)).own_val (to H.the_type d)

module _ {M : Type 1} {𝓤 : Ura M} (𝓛 : Logic 𝓤) (mem : prog.Memory.Memory → SProp 𝓤)
    (run : prog.Routine.Routine → contract.Monad.Fun 𝓤) (C : Calls 𝓤 𝓛.H) (Λ : Loops 𝓤 𝓛.H) (κ : Lft) (q : Share)
    (rb ro : ℕ) (d : H.the_row.Denot) (us0 : List Val) where
  open 𝓛 use {A}

  abbrev c : Clauses 𝓤 f.ended
  c = f.clauses 𝓛 mem run

  abbrev lies : V.the_row.Denot → Lft → Fml
  lies x = lent_at V.the_row d.at x

  abbrev Own : List Val → Fml
  Own = H.the_row.own_val d

  abbrev Held : Fml
  Held = borrows_held V.the_row d.at d.life d.value

  abbrev Lent : RattleType
  Lent = ShrRef (named 0) κ V.the_row

  abbrev bound : (walk_of 𝓛 f.ended stayed c).Ghost
  bound = (((κ, tt), (q, tt), tt, (record { ref_ptr = (rb, ro); now = d }, tt), (us0, tt)), tt)

  abbrev Post : Val → SProp 𝓤
  Post = (walk_of 𝓛 f.ended stayed c).post bound

  abbrev laws : (x : V.the_row.Denot) → denote.Sharing.ShrLaws (lies x)
  laws x = lent_at_shr_laws V.the_row V-laws.the_row_laws.shr_laws d.at x

  copies : Copy 𝓛 H.the_row
  copies = record {
    twice = λ x vs. qed 𝓛 (‵ (H.the_row.own_val x vs) ∷ []) ∵ fsplit ! $
        use1 𝓛 (‵ (Data x vs) ⊛ ‵ (Data x vs))
        ((struct_copy 𝓛 (shape H.the_type) (RawPtr-copy.copies _ 𝓤 𝓛, tt)).twice
        (to H.the_type x) vs) $ split ! $ move ! (2 ∷ []) $
        use1 𝓛 (‵ (H.the_heap x) ⊛ ‵ (H.the_heap x))
        (held_twice 𝓛 V.the_row V-laws.the_row_laws.shr_laws x.at x.life x.value) $ split ! $
        move ! (2 ∷ 0 ∷ []) $ fjoin ! $ move ! (2 ∷ 1 ∷ []) $ fjoin ! $ done !;
  }

  abbrev Rest : Share → Fml
  Rest s = fsep (cell_at s H.the_row.mir (word d) rb ro) (Data d (word d))

  back : (s : Share) → ent 𝓤 (sep 𝓤 (sem 𝓛 (Rest s)) (sem 𝓛 (H.the_heap d))) (sem 𝓛 (part_at H.the_row s d rb ro))
  back s = qed 𝓛 (‵ (Rest s) ∷ ‵ (H.the_heap d) ∷ []) ∵ fsplit ! $ move ! (1 ∷ 2 ∷ []) $ fjoin ! $ move !
      (1 ∷ 0 ∷ []) $ by ! (told_in 𝓛 H.the_row word lowers.val_is s d rb ro (word d))

  back_full : (x : V.the_row.Denot) → d.value ≡ Some x → Testable d.at → (s : Share)
      → ent 𝓤 (sep 𝓤 (sem 𝓛 (Rest s)) (sem 𝓛 (borrows V.the_row d.at d.life x)))
      (sem 𝓛 (part_at H.the_row s d rb ro))
  back_full x some may s = qed 𝓛 (‵ (Rest s) ∷ ‵ (borrows V.the_row d.at d.life x) ∷ []) ∵ move ! (1 ∷ []) $
      use1 𝓛 (‵ Held) (some_again 𝓛 V.the_row V-laws.the_row_laws.shr_laws d.at d.life d.value x some may) $
      move ! (1 ∷ 0 ∷ []) $ by ! (back s)

  exits : (r : Option (Bor V.the_row.Denot)) (v : Val)
      → MatchOption r (d.value ≡ None) (λ (b : Bor V.the_row.Denot). d.value ≡ Some b.now)
      → ent 𝓤 (⋆ 𝓛 (‵ (flft κ q) ∷ ‵ ((option.the_row Lent).own_val r (v ∷ [])) ∷ [])) (Post v)
  exits r v same =
      qed 𝓛 (‵ (flft κ q) ∷ ‵ ((option.the_row Lent).own_val r (v ∷ [])) ∷ []) ∵
      suffices ! _ (ends_at 𝓛 f.ended stayed c bound v r (tt, tt) (tt, tt)) $ says ! same $
      nothing ! $ move ! (1 ∷ 0 ∷ []) $ join ! $ frame ! $ nothing ! $ nothing ! $ fjoin ! $ done !

  walk : ent 𝓤 (⋆ 𝓛 (‵ (hidden_shr H.the_row κ d rb ro) ∷ ‵ (flft κ q) ∷ []))
      (WpFn 𝓤 𝓛.H C Λ code.function (vptr rb ro ∷ []) Post)
  walk =
      let Cell = λ (s : Share) (p : Ptr). ‵ (cell_at s H.the_row.mir (vstruct (vcons (ptr_val p) vnil) ∷ []) rb ro) in
      qed 𝓛 (‵ (hidden_shr H.the_row κ d rb ro) ∷ ‵ (flft κ q) ∷ []) ∵ enter ! C Λ code.function
      (vptr rb ro ∷ []) _ $ alloc_all ! (λ l. pass_all ! refl ((tt, tt), tt) $
      let En : Env 𝓤 𝓛.H = env (code.function).locals l in
      unhide ! $ shr_bor-open ! tt (Cuts-Halves 𝓛 (λ s. part_at H.the_row s d rb ro)
      (told_Cuts 𝓛 H.the_row word lowers.val_is copies d rb ro)) (λ s. move ! (1 ∷ []) $
      use1 𝓛 (‵ (cell_at s H.the_row.mir (word d) rb ro) ⊛ ‵ (Own (word d)))
      (told_out 𝓛 H.the_row word lowers.val_is s d rb ro) $ split ! $
      move ! (1 ∷ []) $ fsplit ! $ move ! (1 ∷ []) $ either_lent ! V.the_row d.at d.life d.value
      -- empty: [the pointer's formula; the cell; the open borrow]
      (λ none at. move ! (1 ∷ []) $ rewrite ! 0 (λ (p : Ptr). Cell s p) at refl $
      sets ! (of_opd ! (load ! (through ! refl (fld ! refl (stop !)))
      (look_in ! 0 (sub ! 0 refl (whole !))))) refl (tt, record { fits = lit< tt }) $
      rewrite ! 0 (λ (p : Ptr). Cell s p) (sym at) refl $ move ! (0 ∷ 1 ∷ []) $ fjoin ! $ nothing ! $
      use1 𝓛 (‵ Held) (none_again 𝓛 V.the_row V-laws.the_row_laws.shr_laws d.at d.life d.value none at) $
      move ! (1 ∷ 0 ∷ []) $ use2 𝓛 (‵ (part_at H.the_row s d rb ro)) (back s) $
      move ! (1 ∷ 0 ∷ []) $ obor_close ! tt $ drop ! $
      sets ! (bin ! (get ! refl) (lit ! tt) (tests_null null_ptr (lit< tt))) refl (tt, tt) $
      first ! $ branches ! (get ! refl)
      (λ t. sets ! (agg ! (and_then ! (lit ! tt) (no_more !))) refl (tt, (record { fits = lit< tt }, tt)) $
      returns_within ! Post refl (look_at ! 0 refl) $ free_all ! refl $
      use0 𝓛 (‵ ((option.the_row Lent).own_val None (live 0 (of_list []) ∷ []))) (none_of 𝓛 Lent) $
      keep ! (1 ∷ 0 ∷ []) $ by ! (exits None (live 0 (of_list [])) none))
      (λ t. absurd t))
      -- full: [what a handle that borrows has; the pointer's formula; the cell; the open borrow]
      (λ x some may. fsplit ! $ fpick ! (λ t.
      move ! (1 ∷ []) $ use1 𝓛 (‵ (lies x (d.life ∷ [])) ⊛ ‵ (lies x (d.life ∷ [])))
      (contraction 𝓛 (lies x) (laws x) (d.life ∷ [])) $ split ! $
      in_a_block ! d.at (λ p. lent_at V.the_row p x (d.life ∷ []))
      (fst∗ 𝓤 (never 𝓤) (sem 𝓛 (shared_of V.the_row x 0 0 (d.life ∷ [])))) (λ kb kc e. drop ! $
      let v : Val = vptr kb kc in
      move ! (3 ∷ []) $ rewrite ! 0 (λ (p : Ptr). Cell s p) e refl $
      sets ! (of_opd ! (load ! (through ! refl (fld ! refl (stop !)))
      (look_in ! 0 (sub ! 0 refl (whole !))))) refl (tt, tt) $
      rewrite ! 0 (λ (p : Ptr). Cell s p) (sym e) refl $ move ! (0 ∷ 3 ∷ []) $ fjoin ! $ move !
      (2 ∷ 1 ∷ []) $ fjoin ! $ move ! (1 ∷ 0 ∷ []) $ fjoin ! $ move ! (1 ∷ 0 ∷ []) $
      use2 𝓛 (later (‵ (lies x κ) ⊛ ‵ (flft κ q)))
      (lent.lent_out 𝓛 (lies x) (laws x) d.life κ q (part_at H.the_row s d rb ro) (Rest s)
      (back_full x some may s) t) $ await ! tt $ split ! $
      rewrite ! 0 (λ (p : Ptr). ‵ (lent_at V.the_row p x κ)) e refl $ fsplit ! $ drop ! $ hide ! $
      feq_i ! (List Val) (v ∷ []) (v ∷ []) refl $ fjoin ! $
      let r : Bor V.the_row.Denot = record { ref_ptr = (kb, kc); now = x } in
      use1 𝓛 (‵ ((option.the_row Lent).own_val (Some r) (live 1 (of_list (v ∷ [])) ∷ []))) (Some-of 𝓛 Lent r v) $
      move ! (1 ∷ 0 ∷ []) $
      sets ! (bin ! (get ! refl) (lit ! tt) (tests_null (block_ptr kb kc) (subst Testable e may))) refl (tt, tt) $
      first ! $ branches ! (get ! refl) (λ t. absurd t)
      (λ t. skips ! $ exec ! C Λ En code.Mir.t-4 (at_ret En Post) $
      first ! $ blocks ! $ sets ! (of_opd ! (get ! refl)) refl (tt, tt) $
      sets ! (addr ! (through ! refl (stop !))) refl (tt, tt) $
      sets_last ! (agg ! (and_then ! (lit ! tt) (and_then ! (get ! refl) (no_more !)))) refl
      (tt, (record { fits = lit< tt }, (tt, tt))) $
      exec ! C Λ En code.Mir.t-5 (at_ret En Post) $
      sets ! (of_opd ! (get ! refl)) refl (tt, (record { fits = lit< tt }, (tt, tt))) $
      returns ! (look_at ! 0 refl) $ free_all ! refl $ keep ! (0 ∷ 1 ∷ []) $ by !
      (exits (Some r) (live 1 (of_list (v ∷ []))) some)))))))

  entry : ent 𝓤 (on_entry 𝓛 f.signature (κ, tt) (q, tt) (record { ref_ptr = (rb, ro); now = d }, tt) (us0, tt))
      (WpFn 𝓤 𝓛.H C Λ code.function (us0 ++ []) Post)
  entry =
      qed 𝓛 ((‵ (flft κ q) ⊛ ‵ ftrue) ∷ ‵ (owns (ShrRef (named 0) κ H.the_row ∷ [])
      (record { ref_ptr = (rb, ro); now = d }, tt) (us0, tt)) ∷ []) ∵
      split ! $ move ! (2 ∷ []) $ fsplit ! $ fsplit ! $ feq_l ! (λ e0. keep ! (0 ∷ 2 ∷ []) $
      by ! (subst (λ (ws : List Val). ent 𝓤 (⋆ 𝓛 (‵ (hidden_shr H.the_row κ d rb ro) ∷ ‵ (flft κ q) ∷ []))
      (WpFn 𝓤 𝓛.H C Λ code.function (ws ++ []) Post)) (sym e0) walk))

meets : {M : Type 1} {𝓤 : Ura M} (𝓛 : Logic 𝓤) (mem : prog.Memory.Memory → SProp 𝓤)
    (run : prog.Routine.Routine → contract.Monad.Fun 𝓤) (𝓣 : Tables 𝓤 𝓛.H)
    → Meets 𝓛 f.signature (WpFn 𝓤 𝓛.H 𝓣.C 𝓣.Λ code.function) (f.spec 𝓛 mem run)
meets {𝓤 = 𝓤} 𝓛 mem run 𝓣 =
    walk_Meets 𝓛 f.ended stayed (
      Goes-dropped 𝓛 1 (RefOf (0 ∷ []) tt (plain (λ _. H.the_row)) (λ _. tt)) yes
          (λ κs x f. refl),
      tt,
    ) (f.clauses 𝓛 mem run) (WpFn 𝓤 𝓛.H 𝓣.C 𝓣.Λ code.function)
    (WpFn-mono 𝓤 𝓛.H 𝓛.laws 𝓣 code.function)
    (λ z. via 𝓤 _ (fst∗ 𝓤 _ (emp 𝓤)) (entry 𝓛 mem run 𝓣.C 𝓣.Λ z.0.0.0 z.0.1.0 z.0.3.0.ref_ptr.0 z.0.3.0.ref_ptr.1
    z.0.3.0.now z.0.4.0))

pub get_spec : {M : Type 1} → statement M
unfolding tables_of
get_spec 𝓤 𝓛 𝓜 𝓡 wired =
    entered 𝓤 𝓛.H (triple_of 𝓛 f.signature (f.spec 𝓛 𝓜.mem 𝓡.returns))
    (tables 𝓤 𝓛.H 𝓜 𝓡 𝓡.env).C (tables 𝓤 𝓛.H 𝓜 𝓡 𝓡.env).Λ #self code.function (code.unfolded 𝓤 𝓛.H 𝓜 𝓡 wired)
    (meets 𝓛 𝓜.mem 𝓡.returns (tables_of 𝓤 𝓛.H 𝓜 (tables 𝓤 𝓛.H 𝓜 𝓡 𝓡.env)))
