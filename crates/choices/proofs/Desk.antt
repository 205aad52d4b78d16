-- The examples are computed. Assumes nothing.
use mathlib.Core.Path.{refl}
use Rattle.rulebook.specs.Ledger.{account_of, same_account}
use Rattle.rulebook.specs.Waiting.{is_trade}
use Rattle.rulebook.specs.Rows.{deliver_reference}
use Rattle.rulebook.specs.Shortfall.{seller, buyer, takes, brings, missing, debits_short, any_short}
use Rattle.rulebook.specs.Selection.{trades_in, count_left, drops, drop_last, rounds, dropping, fits, pass, passes, selection_in, full_selection}
use Rattle.rulebook.specs.Selection.{trades_left, same_trade, is_sent, due, entry_by, with_originals}
use Rattle.choices.specs.Mask.{mask_bits, chosen_by, masked, places_sent, same_bits, good_mask, lacking_alone, optimised}
use Rattle.choices.specs.Clearing.{paid_in, clears, amounts, verdict}
use Rattle.choices.specs.Desk.{party, item, pair, trade, of, has, alone, shown, three, seller7, chain, holders, four, payers, original, operation}
use Rattle.choices.specs.Desk.{together, seller10, only9, Desk}

pub desk : Desk
unfolding
    party item pair trade of has alone shown three seller7 chain holders four payers original operation together seller10 only9 deliver_reference account_of
    same_account is_trade due seller buyer takes brings missing debits_short any_short trades_in count_left drops drop_last rounds dropping fits pass passes
    selection_in full_selection trades_left same_trade is_sent entry_by with_originals mask_bits chosen_by masked places_sent same_bits good_mask lacking_alone
    optimised paid_in clears amounts verdict
desk = record {
  without_passes = refl;
  with_passes = refl;
  passed_on = refl;
  not_paid = refl;
  second_pass = refl;
  in_one_pass = refl;
  both_missing = refl;
  both_left = refl;
  both_in = refl;
  behind_it = refl;
  before_it = refl;
  masks = refl;
  by_mask = refl;
  by_none = refl;
  masks_together = refl;
  lacks_50 = refl;
  from_50 = refl;
  up_to_50 = refl;
  below_50 = refl;
}
