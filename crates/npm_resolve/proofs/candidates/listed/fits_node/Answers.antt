-- What is asked of Node is that of the manifest.
use Rattle.npm_resolve.proofs.candidates.listed.fits_node.Goals as goal

pub returns : goal.returns
returns c = rw c.engine_of.ensures at c.fits.ensures
