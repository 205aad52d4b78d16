-- The example's five lines: the calls are computed. Assumes nothing.
use mathlib.Core.Path.{refl}
use Rattle.bits.specs.Bits.{number, bytes, leading, field}
use Rattle.rulebook.specs.TypeTable.{type_table, type_row}
use Rattle.rulebook.specs.AccountTypes.{is_free, alike, pledged_or_blocked, is_outside, listed, become, has_paper, is_paper, ends, wrong_types}
use Rattle.rulebook.specs.Field.{widths, places, ceiling}
use Rattle.rulebook.specs.Record.{fields_of, order_of, no_form, unused_not_zero, used_out_of_range, fields_in, read_refusal, read_of, record_of}
use Rattle.rulebook.specs.Ledger.{fresh, put_day, put_holdings, account_of, same_account, counted, put_balance, put_securities, put_outside, put_held, admitted, issued_of, outside_of, held_of}
use Rattle.rulebook.specs.Movements.{credit, debit, credits, debits, recounted, booked}
use Rattle.rulebook.specs.Windows.{by_kind, cycle_minutes, all_run, office_end}
use Rattle.rulebook.specs.Rows.{posting_widths, posting_bytes, posting_of, posting_rows, row_bytes, rows_bytes}
use Rattle.rulebook.specs.Waiting.{sender_of, sent_by, not_cancellable}
use Rattle.rulebook.specs.Shortfall.{takes, brings}
use Rattle.rulebook.specs.Cycle.{fixed, offers}
use Rattle.rulebook.specs.Forms.{counts, outcome, moving, silent, open_day, admit, deposit, withdraw, forms, row_of, used, least, most, window_of, effect}
use Rattle.rulebook.specs.Refusals.{wrong_day, wrong_cycle, awaits_answer, nothing_sent, goes_back, outside_window, wrong_security, wrong_pair, wrong_parties, wrong_days, wrong_reference, wrong_cancel, cancels_sent, wrong_request, ends_too_soon, too_many_requests, too_little, over_ceiling, no_space, day_tests, order_tests, item_tests, request_tests, room_tests, refusals}
use Rattle.rulebook.specs.Answers.{refusal_of, all_refusals}
use Rattle.rulebook.specs.Call.{answer_number, answer_rows, refused, put_minute, accepted, order_call, read_call, call_of}
use Rattle.rulebook.specs.Desk.{party, nobody, order, opens, admits, deposits, withdraws}
use Rattle.file.specs.Records.{parts, records_of}
use Rattle.text.specs.Text.{digits, decimal}
use Rattle.lines.specs.Lines.{answer_line, custody_line}
use Rattle.printing.specs.Printed.{answer_lines, book_after, custody_from, custody_lines, printed}
use Rattle.printing.specs.FiveLines.{example, FiveLines}

pub five_lines : FiveLines
unfolding
    FiveLines printed custody_lines custody_from custody_line answer_lines book_after example parts records_of answer_line answer_number answer_rows digits
    decimal party nobody order opens admits deposits withdraws number bytes leading field type_table type_row is_free alike pledged_or_blocked is_outside
    listed become has_paper is_paper ends wrong_types widths places fields_of order_of ceiling used least most no_form unused_not_zero used_out_of_range fields_in
    read_refusal read_of record_of fresh put_day put_holdings account_of same_account counted put_balance put_securities put_outside put_held admitted issued_of
    outside_of held_of credit debit credits debits recounted booked by_kind cycle_minutes all_run office_end posting_widths posting_bytes posting_of
    posting_rows row_bytes rows_bytes sender_of sent_by not_cancellable takes brings fixed offers counts outcome moving silent open_day
    admit deposit withdraw forms row_of window_of effect wrong_day wrong_cycle awaits_answer nothing_sent goes_back outside_window wrong_security wrong_pair
    wrong_parties wrong_days wrong_reference wrong_cancel cancels_sent wrong_request ends_too_soon too_many_requests too_little over_ceiling no_space day_tests
    order_tests item_tests request_tests room_tests refusals refusal_of all_refusals refused put_minute accepted order_call read_call call_of
five_lines = refl
