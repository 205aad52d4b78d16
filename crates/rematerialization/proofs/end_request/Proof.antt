-- `rematerialization::end_request` meets its contract: outside, or to a type of paper. Assumes nothing.
use mathlib.Core.Path.{◌≡◌, sym, ap, ◌∙◌}
use mathlib.Core.Bool.{false}
use native.Mathlib.Omega.{arith}
use borrow.Author.Rules.{rules}
use Rattle.rulebook.specs.TypeTable.{requested}
use Rattle.rulebook.specs.AccountTypes.{is_outside}
use Rattle.rulebook.specs.Ledger.{Ledger, Requests, no_request, request_account, put_request}
use Rattle.rulebook.specs.Forms.{ended_request}
use Rattle.rulebook.specs.declared.Order.{Order}
use Rattle.book.specs.Meaning.{ledger_of}
use Rattle.rematerialization.proofs.Known.{named, some-open, leaving-fits, ending-fits}
use Rattle.rematerialization.proofs.Done.{ended_in_paper, ended_outside}
use Rattle.rematerialization.proofs.end_request.Statement.{statement}
use Rattle.rematerialization.proofs.end_request.Tie as tie

-- ---- places

abbrev start : tie.After-awaiting_account-from → tie.Start
start c = c.before.before.before.before

abbrev account : tie.After-end_request → tie.After-awaiting_account-from
account c = c.before.before

abbrev outside : tie.Then-is_outside → tie.After-end_request
outside c = c.before.before.before.before

abbrev inside : tie.Else-is_outside → tie.After-end_request
inside c = c.before.before.before.before

abbrev book : tie.Start → Ledger
book s = ledger_of s.args.book.now

abbrev order : tie.Start → Order
order s = s.args.order

-- the requests without the one that is ended
abbrev without : tie.Start → Requests
without s = put_request (order s).debited.member (order s).reference no_request (book s).requests

-- ---- the account that its shares are taken from

from_is :
    (c : tie.After-awaiting_account-from)
    → c.awaiting_account-from.result ≡ request_account requested (order (start c)).debited.member (ended_request (book (start c)) (order (start c)))
from_is c = c.awaiting_account-from.ensures ∙ ap (request_account requested (order (start c)).debited.member) c.request-request.ensures

request-requires : tie.Need-request-request-requires
request-requires c κs = let s = c in (s.requires.0.given.kept.stored, named _ _ s.requires.0.given)

end-request-requires : tie.Need-end_request-requires
end-request-requires c κs =
    let s = start c.before in
    let given = s.requires.0.given in
    (given.kept.stored, named _ _ given, some-open _ _ given s.requires.1)

-- ---- outside

leave-requires : tie.Need-leave-requires
leave-requires c κs =
    let ended = outside c.before.before.before in
    let account = account ended in
    let s = start account in (
      ended.end_request.ensures.stored,
      omega (arith, s.requires.0.room),
      leaving-fits _ _ s.requires.0.given s.requires.1 (from_is account) account.request-request.ensures (without s) ended.end_request.ensures.ledger,
    )

returns : tie.Need-returns-then-is_outside
returns c =
    let did = c in
    let left = did.before.before.before.before.before.before.before.before in
    let ended = outside left in
    let account = account ended in
    let s = start account in
    ended_outside (book s) (order s) ended.end_request.ensures.ledger account.request-request.ensures (from_is account)
    (sym left.is_outside.ensures ∙ left.if-is_outside.true) did.leave.ensures

-- ---- to a type of paper

not-outside : (c : tie.Else-is_outside) → is_outside (order (start (account (inside c)))).credited.typ ≡ false
not-outside c = sym c.is_outside.ensures ∙ c.if-is_outside.false

shift-requires : tie.Need-shift-requires
shift-requires c κs =
    let to = c in
    let stays = to.before.before.before.before in
    let ended = inside stays in
    let account = account ended in
    let s = start account in
    let request = account.request-request.ensures in (
      ended.end_request.ensures.stored,
      omega (arith, s.requires.0.room),
      ending-fits _ _ s.requires.0.given s.requires.1 (not-outside stays) (from_is account)
          (to.request_account-to.ensures ∙ ap (request_account (order s).credited.typ (order s).debited.member) request) request (without s)
          ended.end_request.ensures.ledger,
    )

returns-2 : tie.Need-returns
returns-2 c =
    let did = c in
    let to = did in
    let stays = to.before.before.before.before.before.before.before.before.before in
    let ended = inside stays in
    let account = account ended in
    let s = start account in
    ended_in_paper (book s) (order s) ended.end_request.ensures.ledger account.request-request.ensures (from_is account) to.request_account-to.ensures
    (not-outside stays) did.shift.ensures

pub end_request_spec : {M : Type 1} → statement M
end_request_spec =
    tie.close
    (tie.spec
    request-requires (λ c κs. search rules) end-request-requires (λ c κs. search rules)
    leave-requires (λ c. search rules) (λ c. search rules) returns
    (λ c κs. search rules) shift-requires (λ c. search rules) (λ c. search rules) returns-2)
