use Rattle.semver_cuts.proofs.algebra.walks.covers.Goals as goal

pub of_merged-requires : goal.of_merged-requires
of_merged-requires g c = c.requires.ones

pub of_merged-requires-2 : goal.of_merged-requires-2
of_merged-requires-2 g c = c.requires.others

pub returns : goal.returns
returns g c = rw (c.of_merged.ensures.list, c.of_merged-2.ensures.list) at c.covers.ensures
