use Rattle.list_laws.proofs.Orders.{in_order-map, in_order_filter, in_order_flat}
use Rattle.list_laws.proofs.laws.in_order_is_permuted.Goals as goal

pub returns-clause-made : goal.returns-clause-made
returns-clause-made g c before f xs = in_order_flat before f xs

pub returns-clause-kept : goal.returns-clause-kept
returns-clause-kept g c before test xs = in_order_filter before test xs

pub returns-clause-images : goal.returns-clause-images
returns-clause-images g c before f xs = in_order-map before f xs
