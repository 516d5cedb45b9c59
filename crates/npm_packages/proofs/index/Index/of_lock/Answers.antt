-- The packages are by their folders, so what is above each is found.
use Rattle.npm_packages.specs.PackageValue.{packages_data}
use Rattle.npm_packages.proofs.Indexing.{by_folder}
use Rattle.npm_packages.proofs.index.Index.of_lock.Goals as goal

pub above_all-requires : goal.above_all-requires
above_all-requires c = by_folder (packages_data c.args.lock) c.in_ok-by_name.by_name c.in_ok-by_name.ensures
