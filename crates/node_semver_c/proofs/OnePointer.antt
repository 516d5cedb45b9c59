-- A handle: a struct of one pointer whose ghost fields hold its value. The walks of handles are over any such struct,
-- and a handle's `Proof` cites them at its own. Assumes nothing.
use Rattle.std.proofs.Common.{◌≡◌, List, [], ◌∷◌}
use mir.Syntax.{Sym, Local, local, value_local, Ty}
use mir.Val.{Val, vstruct, vcons, vnil}
use base.Stored.{Coded}
use base.Fml.{Fml}
use denote.Laws.{Is}
use denote.RattleType.{RattleType}
use denote.RawPtr.{Ptr, ptr_val}
use denote.Struct.Field.{RawPtr-field}
use denote.Struct.Values.{Values}
use denote.Struct.Record.{Record}
use denote.Struct.Owning as owning
use denote.Struct.Owning.{Owning}
use denote.Struct.OwningLaws.{Tells-lowered}
use denote.Struct.Laws.{RawPtr-laws}

abbrev pub Data : Type 0
Data = Values (RawPtr-field ∷ [])

-- its parts, each of which the generated module of the struct has
pub record Handle : Type 2 where
  pub name : Sym
  pub D : Type 0
  pub at : D → Ptr
  pub Ghost : Data → Type 0
  pub ghosts : (d : D) → Ghost (at d, tt)
  pub make : (v : Data) → Ghost v → D
  pub eta : (d : D) → make (at d, tt) (ghosts d) ≡ d
  pub beta : (v : Data) (g : Ghost v) → (at (make v g), tt) ≡ v
  pub codes : (v : Data) → Coded (Ghost v)

module _ (h : Handle) (heap : h.D → Fml) where
  abbrev struct : Record
  struct = record {
    name = h.name;
    args = [];
    types = [];
    parts = RawPtr-field ∷ [];
    D = h.D;
    as_values = λ d. (h.at d, tt);
    Ghost = h.Ghost;
    ghosts = h.ghosts;
    make = h.make;
    eta = h.eta;
    beta = h.beta;
  }

  abbrev pub type_of : Owning
  type_of = owning.owning struct h.codes heap

  abbrev pub row_of : RattleType
  row_of = owning.row type_of

  abbrev pub word : Ptr → Val
  word p = vstruct (vcons (ptr_val p) vnil)

  -- a handle's machine value is its pointer
  pub word_is : (d : h.D) (vs : List Val) → Is row_of d vs → vs ≡ word (h.at d) ∷ []
  word_is = Tells-lowered type_of (RawPtr-laws, tt)

abbrev pub var : Ty → Local
var t = local t value_local
