-- What a contract sees of a gauge.
use Rattle.std.specs.Prelude.{◌≡◌, ◌≢◌, ℕ, List, [], Bool, IsTrue, ⊤, Result, Ok, Err}

-- the reader or writer in it, whether a call through it has failed, and whether the last read reported the end
pub record GaugeValue (T : Type 0) : Type 0 where
  pub inner : T
  pub failed : Bool
  pub ended : Bool

-- a call through the gauge has failed
abbrev pub HasFailed : {T : Type 0} → GaugeValue T → Type 0
HasFailed gauge = IsTrue gauge.failed

-- the last read through the gauge reported the end
abbrev pub HasReportedEnd : {T : Type 0} → GaugeValue T → Type 0
HasReportedEnd gauge = IsTrue gauge.ended

-- the write of this piece returned an error, or wrote no byte although there was one
abbrev pub IsFailedWrite : {E : Type 0} → List ℕ → Result ℕ E → Type 0
IsFailedWrite piece (Ok n) = (n ≡ 0) × (piece ≢ [])
IsFailedWrite piece (Err e) = ⊤

-- the read into this piece returned no byte although there was room
abbrev pub IsEnd : {E : Type 0} → List ℕ → Result ℕ E → Type 0
IsEnd piece (Ok n) = (n ≡ 0) × (piece ≢ [])
IsEnd piece (Err e) = ⊥
