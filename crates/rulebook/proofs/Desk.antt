-- The desk checks, by computation. Assumes nothing.
use mathlib.Core.Path.{refl}
use Rattle.bits.specs.Bits.{number, bytes, leading, field}
use Rattle.rulebook.specs.TypeTable.{type_table, type_row}
use Rattle.rulebook.specs.AccountTypes.{is_free, alike, pledged_or_blocked, is_outside, listed, become, has_paper, is_paper, ends, wrong_types}
use Rattle.rulebook.specs.Field.{widths, places, ceiling}
use Rattle.rulebook.specs.Record.{fields_of, order_of, no_form, unused_not_zero, used_out_of_range, fields_in, read_refusal, read_of, record_of, write_refusal, written_of, area_written}
use Rattle.plain.specs.Lists.{sum_below}
use Rattle.rulebook.specs.Ledger.{fresh, put_day, put_holdings, put_waiting, account_of, same_account, counted, put_balance, put_cash, put_securities, put_outside, put_held, admitted, issued_of, held_of, outside_of, cash_total, put_rate, put_requests, put_request, request_account}
use Rattle.rulebook.specs.Movements.{credit, debit, credits, debits, recounted, booked}
use Rattle.rulebook.specs.Windows.{by_kind, cycle_minutes, all_run, office_end}
use Rattle.rulebook.specs.Rows.{posting_widths, notice_widths, posting_bytes, posting_in, posting_of, notice_bytes, deliver_reference, receive_reference, notice_of, posting_rows, row_bytes, rows_bytes}
use Rattle.rulebook.specs.Waiting.{item_of, is_deliver, is_receive, is_trade, own_reference, sides_of, sides, sender_of, sent_by, not_cancellable, with_state, with_sent, marked, both_marked, marking, cancelled, staying, unmarked}
use Rattle.rulebook.specs.Matching.{tolerance, agree, pairs_with, pair_of, arrive, shared_terms, same_terms}
use Rattle.rulebook.specs.Shortfall.{seller, buyer, takes, brings, missing, debits_short, any_short}
use Rattle.rulebook.specs.Selection.{trades_in, count_left, drops, drop_last, rounds, dropping, fits, pass, passes, selection_in, full_selection, trades_left, is_sent, due, entry_by, entries, selection}
use Rattle.rulebook.specs.Cycle.{legs, settled, not_settled, left_by, fixing, fixed, declined, offers}
use Rattle.rulebook.specs.Close.{close_kind, leaves, deleted_at_close, suspended_at_close, close_notice}
use Rattle.rulebook.specs.Forms.{counts, outcome, moving, silent, open_day, admit, deposit, withdraw, transfer, pay_in, pay_out, instruct, trade, cancel, cycle, confirm, decline, answer_cycle, close, forms, row_of, used, least, most, window_of, effect, set_rate, request_paper, end_request}
use Rattle.rulebook.specs.Refusals.{wrong_day, wrong_cycle, awaits_answer, nothing_sent, goes_back, outside_window, wrong_security, wrong_pair, wrong_parties, wrong_days, wrong_reference, wrong_cancel, cancels_sent, wrong_request, ends_too_soon, too_many_requests, too_little, over_ceiling, no_space, day_tests, order_tests, item_tests, request_tests, room_tests, refusals}
use Rattle.rulebook.specs.Answers.{refusal_of, all_refusals}
use Rattle.rulebook.specs.Call.{answer_number, refused, put_minute, accepted, order_call, read_call, call_of}
use Rattle.rulebook.specs.Calls.{result_of, record_in, calls_on, book_after, accepted_of, accepted_calls, sum, shares_of, last_asked, left_with, left_on_paper, withdrawals}
use Rattle.rulebook.specs.Desk.{Desk, party, nobody, order, opens, admits, deposits, withdraws, pledges, pays_in, delivers, receives, delivers_pounds, receives_pounds, sets_rate, runs, sells, many_delivers, closes, answers, cancels, cycles, day_end, asks_paper, ends_paper, send, calls, result, started, full, asked, next_day, in_custody, withdrawn, day_after, custody, waits, cycled, four_sold, awaiting, meanwhile}

pub desk : Desk
unfolding
    party nobody order opens admits deposits withdraws pledges pays_in delivers receives delivers_pounds receives_pounds sets_rate runs sells many_delivers
    closes answers cancels cycles day_end awaiting meanwhile asks_paper ends_paper send calls result started full asked next_day in_custody withdrawn
    day_after custody waits cycled four_sold number bytes leading field type_table type_row is_free alike pledged_or_blocked is_outside listed become has_paper is_paper
    ends wrong_types widths places fields_of order_of ceiling used least most no_form unused_not_zero used_out_of_range fields_in read_refusal read_of record_of
    write_refusal written_of area_written fresh put_day put_holdings put_waiting put_rate put_requests put_request request_account account_of same_account counted
    put_balance put_cash put_securities put_outside put_held admitted issued_of held_of outside_of sum_below cash_total credit debit credits debits recounted
    booked by_kind cycle_minutes all_run office_end posting_widths notice_widths posting_bytes posting_in posting_of notice_bytes deliver_reference
    receive_reference notice_of posting_rows row_bytes rows_bytes item_of is_deliver is_receive is_trade own_reference sides_of sides sender_of sent_by
    not_cancellable with_state with_sent marked both_marked marking cancelled staying unmarked tolerance shared_terms same_terms agree pairs_with pair_of
    arrive seller buyer takes brings missing debits_short any_short trades_in count_left drops drop_last rounds dropping fits pass passes
    selection_in full_selection trades_left is_sent due
    entry_by entries selection legs settled not_settled left_by fixing fixed
    declined offers close_kind leaves deleted_at_close suspended_at_close close_notice counts outcome moving silent open_day admit deposit withdraw transfer
    pay_in pay_out instruct trade cancel cycle confirm decline answer_cycle close set_rate request_paper end_request forms row_of window_of effect wrong_day
    wrong_cycle awaits_answer nothing_sent goes_back outside_window wrong_security wrong_pair wrong_parties wrong_days wrong_reference wrong_cancel cancels_sent
    wrong_request ends_too_soon too_many_requests too_little over_ceiling no_space day_tests order_tests item_tests request_tests room_tests refusals answer_number
    refusal_of all_refusals refused put_minute accepted order_call read_call call_of result_of record_in calls_on book_after accepted_of accepted_calls sum shares_of last_asked left_with
    left_on_paper withdrawals
desk = record {
  p1 = refl;
  p2 = refl;
  p3 = refl;
  p4 = refl;
  p5 = refl;
  p6 = refl;
  p7 = refl;
  p8 = refl;
  p9 = refl;
  p10 = refl;
  p11 = refl;
  p12 = refl;
  p13 = refl;
  p14 = refl;
  p15 = refl;
  p16 = refl;
  p17 = (refl, refl);
  p18 = refl;
  p19 = refl;
  p20 = (refl, refl, refl);
  p21 = refl;
  p22 = refl;
  p23 = (refl, refl);
  p24 = refl;
  p25 = (refl, refl);
  p26 = refl;
}
