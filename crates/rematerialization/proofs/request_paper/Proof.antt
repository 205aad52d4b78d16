-- `rematerialization::request_paper` meets its contract. Assumes nothing.
use mathlib.Core.Path.{◌≡◌, sym, ap, subst, ◌∙◌}
use native.Mathlib.Omega.{arith}
use borrow.Author.Rules.{rules}
use Rattle.rulebook.specs.TypeTable.{requested}
use Rattle.rulebook.specs.Ledger.{Ledger, Requests, request_account, put_request}
use Rattle.rulebook.specs.Forms.{new_request}
use Rattle.rulebook.specs.declared.Day.{Day}
use Rattle.rulebook.specs.declared.Order.{Order}
use Rattle.requests.specs.Packed.{RequestInRange}
use Rattle.book.specs.Meaning.{ledger_of}
use Rattle.rematerialization.proofs.Known.{named, request_in_range, fewer, none_open, request_fits}
use Rattle.rematerialization.proofs.Done.{requested-paper}
use Rattle.rematerialization.proofs.request_paper.Statement.{statement}
use Rattle.rematerialization.proofs.request_paper.Tie as tie

-- ---- places

abbrev made : tie.After-requested_account-to → tie.After-new_request-request
made c = c.before.before.before

abbrev start : tie.After-requested_account-to → tie.Start
start c = (made c).before.before.before.before

abbrev accounts : tie.After-open_request → tie.After-requested_account-to
accounts c = c.before.before

abbrev opened : tie.After-shift-arg-2-1 → tie.After-open_request
opened c = c.before.before.before.before

abbrev book : tie.Start → Ledger
book s = ledger_of s.args.book.now

abbrev order : tie.Start → Order
order s = s.args.order

-- ---- the request, and the account that its shares go to

request-is : (c : tie.After-requested_account-to) → (made c).new_request-request.result ≡ new_request (book (start c)).day.number (order (start c))
request-is c =
    (made c).new_request-request.ensures ∙ ap (λ (d : Day). new_request d.number (order (start c))) (made c).day-today.ensures

to_is :
    (c : tie.After-requested_account-to)
    → c.requested_account-to.result ≡ request_account requested (order (start c)).debited.member (new_request (book (start c)).day.number (order (start c)))
to_is c = c.requested_account-to.ensures (book (start c)).day.number

open-request-requires : tie.Need-open_request-requires
open-request-requires c κs =
    let accounts = c.before in
    let s = start accounts in
    let given = s.requires.0.given in (
      given.kept.stored,
      named _ _ given,
      subst RequestInRange (sym (request-is accounts)) (request_in_range _ _ given s.requires.1),
      fewer _ _ given s.requires.1,
      none_open _ _ given s.requires.1,
    )

shift-requires : tie.Need-shift-requires
shift-requires c κs =
    let opened = opened c.before in
    let accounts = accounts opened in
    let s = start accounts in
    let with-request : Requests =
    put_request (order s).debited.member (order s).reference (made accounts).new_request-request.result (book s).requests in (
      opened.open_request.ensures.stored,
      omega (arith, s.requires.0.room),
      request_fits _ _ s.requires.0.given s.requires.1 accounts.account_of-from.ensures (to_is accounts) with-request
          opened.open_request.ensures.ledger,
    )

returns : tie.Need-returns
returns c =
    let did = c in
    let opened = opened did.before.before.before.before.before.before in
    let accounts = accounts opened in
    let s = start accounts in
    requested-paper (book s) (order s) opened.open_request.ensures.ledger (request-is accounts) accounts.account_of-from.ensures (to_is accounts)
    did.shift.ensures

pub request_paper_spec : {M : Type 1} → statement M
request_paper_spec =
    tie.close
    (tie.spec
    (λ c κs. search rules) (λ c κs. search rules) (λ c κs. search rules) (λ c κs. search rules)
    open-request-requires shift-requires (λ c. search rules) (λ c. search rules) returns)
