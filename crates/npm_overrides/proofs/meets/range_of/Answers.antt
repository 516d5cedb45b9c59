-- A text is refused where the error is none of memory.
use Rattle.std.proofs.Common.{◌≡◌, true, ap, inl, inr}
use Rattle.node_semver.specs.Errors.{Refusal}
use Rattle.npm_overrides.proofs.meets.range_of.Goals as goal

pub returns-in-Ok-clause-some : goal.returns-in-Ok-clause-some
returns-in-Ok-clause-some c = record {
  is_range = rw c.in-Ok.is at c.parse_range.ensures.accepted;
  are = rw c.in-Ok.is at c.parse_range.ensures.sets;
}

pub returns-in-Err-2-clause-none : goal.returns-in-Err-2-clause-none
returns-in-Err-2-clause-none c = elim (rw c.in-Err.is at c.parse_range.ensures.refused) [
  | inl memory ↦
      let told : c.is_out_of_memory.result ≡ true =
      c.is_out_of_memory.ensures.1 (ap (λ (refusal : Refusal). refusal.kind) memory) in
      let no : ⊥ = cc (told, c.if-is_out_of_memory.false) in
      elim no [ ]
  | inr both ↦ both.1
]
