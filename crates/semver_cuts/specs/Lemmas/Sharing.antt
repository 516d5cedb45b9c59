-- Cuts that two lists share.
use Rattle.std.specs.Prelude.{List}
use Rattle.std.specs.declared.cmp.Ordering.{Ordering}
use Rattle.semver_cuts.specs.Ends.{Ends}
use Rattle.semver_cuts.specs.Sharing.{ShareCut}

module _ {T : Type 0} (cmp : T → T → Ordering) where
  -- two lists share a cut either way round
  pub shares_cut-back : (ones others : List (Ends T)) → ShareCut cmp ones others → ShareCut cmp others ones
  shares_cut-back ones others shared = (shared.0, shared.2, shared.1)
