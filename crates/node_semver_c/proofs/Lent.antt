-- What a `&` to a handle that borrows gives: the value behind its pointer, for as long as the `&`. Assumes `Logic`.
use Prim.Native.Nat.{ℕ}
use mathlib.Core.List.{[], ◌∷◌}
use seplogic.Ra.Ura.{Ura}
use base.Logic.{ent, sep, upd_i, id⊢}
use base.Share as half
use base.Fml.{Lft, Share, Fml, ftrue, fsep, fex, fseps, fwand, fupd, fdead, fbor, fobor, flft}
use contract.BorrowLft.{meet_⊑_left}
use types.Logic.{Logic, sem}
use types.Kit.{‵, ◌⊛◌, ◌$◌, ◌∵◌, !, qed, by, move, keep, use1, use2, split, fsplit, fsplit3, fjoin, fpick, fpack}
use types.Kit.{assume, suffices, updating, now, done}
use types.Tokens.{obor_alter, bor_fracture}
use denote.Sharing.{ShrLaws}
use denote.SharingLaws.{contraction}
use denote.Moves.{moves_from}
use denote.Steps.{nothing}

module _ {M : Type 1} {𝓤 : Ura M} (𝓛 : Logic 𝓤) (t : Lft → Fml) (L : ShrLaws t) (a : ℕ) where
  open 𝓛 use {H, A}

  abbrev pub Token : Fml
  Token = fex Share (λ s. flft (a ∷ []) s)

  abbrev pub Heap : Fml
  Heap = fsep Token (t (a ∷ []))

  pub heap_twice : ent 𝓤 (sem 𝓛 Heap) (sep 𝓤 (sem 𝓛 Heap) (sem 𝓛 Heap))
  heap_twice = qed 𝓛 (‵ Heap ∷ []) ∵ fsplit ! $ fpick ! (λ s.
      use1 𝓛 (‵ (flft (a ∷ []) (half.left s)) ⊛ ‵ (flft (a ∷ []) (half.right s)))
      (𝓛.lfts.lft_split (a ∷ []) s) $ split ! $
      fpack ! Share (λ r. flft (a ∷ []) r) (half.left s) $ move ! (1 ∷ []) $ fpack ! Share (λ r. flft (a ∷ []) r)
      (half.right s) $ move ! (2 ∷ []) $
      use1 𝓛 (‵ (t (a ∷ [])) ⊛ ‵ (t (a ∷ []))) (contraction 𝓛 t L (a ∷ [])) $ split ! $
      move ! (3 ∷ 0 ∷ []) $ fjoin ! $ move ! (2 ∷ 1 ∷ []) $ fjoin ! $ done !)

  -- if the borrowed part is the heap and something else, the other part is dropped for the lifetime, and the heap is
  -- available at it
  module _ (κ : Lft) (q : Share) (P Rest : Fml) (back : ent 𝓤 (sep 𝓤 (sem 𝓛 Rest) (sem 𝓛 Heap)) (sem 𝓛 P))
      (s : Share) where
    abbrev Again : Fml
    Again = fwand (fsep (fdead κ) (fseps (flft (a ∷ []) s ∷ []))) (fupd P)

    again : ent 𝓤 (sep 𝓤 (sem 𝓛 Rest) (sem 𝓛 (t (a ∷ [])))) (sem 𝓛 Again)
    unfolding fseps
    again = qed 𝓛 (‵ Rest ∷ ‵ (t (a ∷ [])) ∷ []) ∵ assume !
        (‵ (fsep (fdead κ) (fsep (flft (a ∷ []) s) ftrue))) $ suffices ! (sem 𝓛 P) (upd_i 𝓤 (sem 𝓛 P)) $
        fsplit3 ! $ keep ! (1 ∷ 3 ∷ 4 ∷ []) $ fpack ! Share (λ r. flft (a ∷ []) r) s $ move !
        (0 ∷ 2 ∷ []) $ fjoin ! $ move ! (1 ∷ 0 ∷ []) $ by ! back

    pub lent_out : ent 𝓤 (sep 𝓤 (A.obor κ q P) (sem 𝓛 (fsep Rest (fsep (flft (a ∷ []) s) (t (a ∷ []))))))
        (H.⇛ (sep 𝓤 (sem 𝓛 (t κ)) (A.lft κ q)))
    unfolding fseps
    lent_out = qed 𝓛 (‵ (fobor κ q P) ∷ ‵ (fsep Rest (fsep (flft (a ∷ []) s) (t (a ∷ [])))) ∷ []) ∵ updating ! $ move !
        (1 ∷ []) $ fsplit3 ! $ move ! (2 ∷ []) $
        use1 𝓛 (‵ (t (a ∷ [])) ⊛ ‵ (t (a ∷ []))) (contraction 𝓛 t L (a ∷ [])) $ split ! $ move ! (2 ∷ 0 ∷ []) $ use2 𝓛
        (‵ Again) again $
        nothing ! $ move ! (3 ∷ 0 ∷ []) $ fjoin ! $ move ! (3 ∷ 0 ∷ 1 ∷ []) $ obor_alter ! tt (flft (a ∷ []) s ∷ []) $
        use1 𝓛 (‵ (fbor κ (flft (a ∷ []) s)) ⊛ ‵ ftrue) (id⊢ 𝓤 _) $ split ! $ bor_fracture ! tt
        (λ r. flft (a ∷ []) r) s $ move ! (0 ∷ 3 ∷ []) $
        use2 𝓛 (‵ (t κ)) (moves_from 𝓛 t L κ (a ∷ []) (a ∷ []) (meet_⊑_left (a ∷ []) κ)) $ now ! $ keep !
        (0 ∷ 2 ∷ []) $ done !
