-- An item to stand where a list has none. Assumes nothing.
use mathlib.Core.Bool.{false}
use Rattle.rulebook.specs.declared.Item.{Item}
use Rattle.rulebook.specs.declared.Party.{Party}
use Rattle.rulebook.specs.declared.State.TheVariants.{Trade}

nobody : Party
nobody = record { member = 0; typ = 0; shareholder = 0 }

pub no_item : Item
no_item = record {
  security = 0;
  currency = 0;
  debited = nobody;
  credited = nobody;
  quantity = record { 0 = 0 };
  amount = record { 0 = 0 };
  trade_day = 0;
  settlement_day = 0;
  state = Trade 0;
  sent = false;
}
