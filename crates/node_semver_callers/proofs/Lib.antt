-- the versions that a range or a text admits, by the cuts before them
mod AdmittedCuts
-- the least version of a text
mod LeastOfText
-- the least version of two texts
mod LeastOfTexts
-- the texts that a closure keeps for a mirror
mod MirroredTexts
-- one version more of a list of which a range text hits some
mod MoreHits
-- the versions that texts write, and the newest of them
mod NewestOfTexts
-- what a range admits beyond the union of others
mod UnionHits
