-- A listed account's line, and nothing of one whose shares are free.
use mathlib.Core.Bool.{not}
use mathlib.Core.Path.{sym, ap, ◌∙◌}
use Rattle.rulebook.specs.AccountTypes.{is_free}
use Rattle.rulebook.specs.declared.Account.{Account}
use Rattle.book.specs.Keys.{account_of}
use Rattle.book.specs.Meaning.{ledger_of}
use Rattle.listing.proofs.HeldBack.{listed-or_free}
use Rattle.listing.proofs.Rows.{put-listed, put-unlisted}
use Rattle.sheet_accounts.specs.Line.{account_line}
use Rattle.sheet_accounts.specs.Rows.{account_row}
use Rattle.sheet_accounts.proofs.rows.put_row.Goals as goal

pub returns-then-is_free-clause-put : goal.returns-then-is_free-clause-put
returns-then-is_free-clause-put g c =
    let account = account_of c.args.number in
    let free = ap (λ (a : Account). is_free a.typ) (sym c.account_of-account.ensures) ∙ sym c.is_free.ensures ∙ c.if-is_free.true in
    let unlisted = listed-or_free (ledger_of c.args.book.now) c.requires.0.premise account c.requires.1 ∙ ap not free in
    put-unlisted (account_row c.args.page (ledger_of c.args.book.now).holdings) account c.args.out.now unlisted

pub returns-clause-put : goal.returns-clause-put
returns-clause-put g c =
    let h = (ledger_of c.args.book.now).holdings in
    let account = account_of c.args.number in
    let same = c.account_of-account.ensures in
    let free = ap (λ (a : Account). is_free a.typ) (sym same) ∙ sym c.is_free.ensures ∙ c.if-is_free.false in
    let listed = listed-or_free (ledger_of c.args.book.now) c.requires.0.premise account c.requires.1 ∙ ap not free in
    let line = ap (account_line c.args.page c.account_of-account.result) c.balance-balance.ensures ∙ ap (account_row c.args.page h) same in
    put-listed (account_row c.args.page h) account c.args.out.now _ listed line c.put_line.ensures.put
