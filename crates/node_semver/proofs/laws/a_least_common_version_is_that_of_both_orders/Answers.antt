use Rattle.node_semver.proofs.Least.CommonOrders.{least-turned, none-turned}
use Rattle.node_semver.proofs.laws.a_least_common_version_is_that_of_both_orders.Goals as goal

pub returns-clause-least : goal.returns-clause-least
returns-clause-least c = least-turned

pub returns-clause-none : goal.returns-clause-none
returns-clause-none c = none-turned
