-- The version is the one that its text writes, and the result is whether the text of the range admits it.
use Rattle.std.proofs.Common.{inl, inr}
use Rattle.node_semver_callers.proofs.lock_file.still_fits.Goals as goal

pub returns-clause-fits : goal.returns-clause-fits
returns-clause-fits c =
    let means = c.in_ok-range.ensures.means _ in (
      _,
      c.in-Ok.ensures.found,
      (λ yes. means.0 (c.satisfies.ensures.0 yes), λ asked. c.satisfies.ensures.1 (means.1 asked)),
    )

-- the locked text is refused
pub returns-in-Err-clause-refused : goal.returns-in-Err-clause-refused
returns-in-Err-clause-refused c = elim c.in-Err.ensures.fault [
  | inl memory ↦ inl memory
  | inr fault ↦ inr (inl fault)
]
