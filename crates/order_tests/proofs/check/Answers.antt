-- The days of an order that was read are those of its fields.
use Rattle.std.proofs.Common.{arith}
use Rattle.checking.proofs.Orders.{fits}
use Rattle.order_tests.proofs.check.Goals as goal

pub wrong_days-requires : goal.wrong_days-requires
wrong_days-requires c = (c.requires.2, omega (arith, (fits _ c.requires.1).trade_day))
