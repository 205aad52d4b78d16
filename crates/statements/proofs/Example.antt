-- The example's eight lines: the calls are computed. Assumes nothing.
use mathlib.Core.Path.{refl}
use Rattle.bits.specs.Bits.{number, bytes, leading, field}
use Rattle.rulebook.specs.TypeTable.{type_table, type_row}
use Rattle.rulebook.specs.AccountTypes.{is_free, alike, pledged_or_blocked, is_outside, listed, become, has_paper, is_paper, ends, wrong_types}
use Rattle.rulebook.specs.Field.{widths, places, ceiling}
use Rattle.rulebook.specs.Record.{fields_of, order_of, no_form, unused_not_zero, used_out_of_range, fields_in, read_refusal, read_of, record_of}
use Rattle.rulebook.specs.Ledger.{fresh, put_day, put_holdings, account_of, same_account, counted, put_balance, put_securities, put_outside, put_held, admitted, issued_of, outside_of, held_of}
use Rattle.rulebook.specs.Movements.{credit, debit, credits, debits, recounted, booked}
use Rattle.rulebook.specs.Windows.{by_kind, cycle_minutes, all_run, office_end}
use Rattle.rulebook.specs.Rows.{posting_widths, posting_bytes, posting_in, posting_of, posting_rows, row_bytes, rows_bytes}
use Rattle.rulebook.specs.Names.{currency_names, refusal_names, notice_names, name_from1}
use Rattle.rulebook.specs.Waiting.{sender_of, sent_by, not_cancellable}
use Rattle.rulebook.specs.Shortfall.{takes, brings}
use Rattle.rulebook.specs.Cycle.{fixed, offers}
use Rattle.rulebook.specs.Forms.{counts, outcome, moving, silent, open_day, admit, deposit, withdraw, forms, row_of, used, least, most, window_of, effect}
use Rattle.rulebook.specs.Refusals.{wrong_day, wrong_cycle, awaits_answer, nothing_sent, goes_back, outside_window, wrong_security, wrong_pair, wrong_parties, wrong_days, wrong_reference, wrong_cancel, cancels_sent, wrong_request, ends_too_soon, too_many_requests, too_little, over_ceiling, no_space, day_tests, order_tests, item_tests, request_tests, room_tests, refusals}
use Rattle.rulebook.specs.Answers.{refusal_of, all_refusals}
use Rattle.rulebook.specs.Call.{answer_rows, refused, put_minute, accepted, order_call, read_call, call_of}
use Rattle.rulebook.specs.Desk.{party, nobody, order, opens, admits, deposits, withdraws}
use Rattle.file.specs.Records.{parts, records_of}
use Rattle.text.specs.Text.{digits, decimal}
use Rattle.wording.specs.Fill.{is_sign, said, part, left, fill}
use Rattle.printing.specs.FiveLines.{example}
use Rattle.statement_lines.specs.Lines.{row_line, row_lines, refused_line, answer_line}
use Rattle.row_lines.specs.Rows.{side_word, cash_part, shares_part, posting_line}
use Rattle.statements.specs.Stated.{form_in, call_lines, statement_lines, statement}
use Rattle.statements.specs.Example.{EightLines}

pub eight_lines : EightLines
unfolding
    EightLines statement statement_lines call_lines form_in example parts records_of is_sign said part left fill side_word cash_part shares_part posting_line
    row_line row_lines refused_line answer_line currency_names refusal_names notice_names name_from1 answer_rows digits decimal party nobody order opens admits
    deposits withdraws number bytes leading field type_table type_row is_free alike pledged_or_blocked is_outside listed become has_paper is_paper ends
    wrong_types widths places fields_of order_of ceiling used least most no_form unused_not_zero used_out_of_range fields_in read_refusal read_of record_of fresh
    put_day put_holdings account_of same_account counted put_balance put_securities put_outside put_held admitted issued_of outside_of held_of credit debit
    credits debits recounted booked by_kind cycle_minutes all_run office_end posting_widths posting_bytes posting_in posting_of posting_rows row_bytes rows_bytes
    sender_of sent_by not_cancellable takes brings fixed offers counts outcome moving silent open_day admit deposit withdraw forms row_of
    window_of effect wrong_day wrong_cycle awaits_answer nothing_sent goes_back outside_window wrong_security wrong_pair wrong_parties wrong_days wrong_reference
    wrong_cancel cancels_sent wrong_request ends_too_soon too_many_requests too_little over_ceiling no_space day_tests order_tests item_tests request_tests
    room_tests refusals refusal_of all_refusals refused put_minute accepted order_call read_call call_of
eight_lines = refl
