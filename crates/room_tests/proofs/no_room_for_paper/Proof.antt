-- `room_tests::no_room_for_paper` meets its contract: shares that leave open no account, and others move between two. Assumes nothing.
use Prim.Native.Nat.{ℕ}
use mathlib.Core.Path.{◌≡◌, sym, ap, subst, ◌∙◌}
use borrow.Author.Rules.{rules}
use Rattle.rulebook.specs.TypeTable.{requested}
use Rattle.rulebook.specs.Ledger.{Ledger, request_account}
use Rattle.rulebook.specs.Forms.{ended_request}
use Rattle.rulebook.specs.Ranges.{AccountInRange}
use Rattle.rulebook.specs.declared.Order.{Order}
use Rattle.rulebook.specs.declared.Request.{Request}
use Rattle.rulebook.proofs.Space.{leaving-space}
use Rattle.book.specs.Meaning.{ledger_of}
use Rattle.checking.proofs.Orders.{reference-named}
use Rattle.checking.proofs.Endings.{awaiting-named, paper_named}
use Rattle.room_tests.proofs.Between.{same_room, ends-in_paper}
use Rattle.room_tests.proofs.no_room_for_paper.Statement.{statement}
use Rattle.room_tests.proofs.no_room_for_paper.Tie as tie

-- ---- places

abbrev book : tie.Start → Ledger
book s = ledger_of s.args.book.now

abbrev order : tie.Start → Order
order s = s.args.order

abbrev asking : tie.After-request-request → tie.Start
asking c = c.before.before.before.before

abbrev member : tie.After-request-request → ℕ
member c = (order (asking c)).debited.member

abbrev ended : tie.After-request-request → Request
ended c = ended_request (book (asking c)) (order (asking c))

-- ---- the accounts of the request that ends

returns : tie.Need-returns-then-is_outside
returns c =
    let s = c.before.before.before in
    sym (leaving-space (book s) (order s) s.requires.0.premise.sizes s.requires.3 (sym c.before.is_outside.ensures ∙ c.if-is_outside.true))

request-requires : tie.Need-request-request-requires
request-requires c κs = let s = c.before.before.before in (s.requires.0.stored, reference-named _ s.requires.1)

-- its account of type 50, and that of its paper
awaiting : (c : tie.After-awaiting_account-from) → c.awaiting_account-from.result ≡ request_account requested (member c.before) (ended c.before)
awaiting c = c.awaiting_account-from.ensures ∙ ap (request_account requested (member c.before)) c.before.request-request.ensures

paper :
    (c : tie.After-request_account-to) → c.request_account-to.result
    ≡ request_account (order (asking c.before.before)).credited.typ (member c.before.before) (ended c.before.before)
paper c =
    let looked = c.before.before in
    c.request_account-to.ensures ∙ ap (request_account (order (asking looked)).credited.typ (member looked)) looked.request-request.ensures

no-room-between-requires : tie.Need-no_room_between-requires
no-room-between-requires c κs =
    let s = asking c.before.before.before in (
      s.requires.0,
      subst AccountInRange (sym (awaiting c.before.before))
          (awaiting-named (book s) (order s) s.requires.1 s.requires.0.premise s.requires.3 s.requires.2.request),
      subst AccountInRange (sym (paper c.before)) (paper_named (book s) (order s) s.requires.1 s.requires.0.premise s.requires.3 s.requires.2.request),
    )

returns-2 : tie.Need-returns
returns-2 c =
    let accounts = c.before in
    let looked = accounts.before.before in
    let s = asking looked.before in
    let stays = sym looked.before.before.is_outside.ensures ∙ looked.before.if-is_outside.false in
    c.no_room_between.ensures
    ∙ same_room (book s) (awaiting accounts.before.before) (paper accounts.before) (ap (λ (r : Request). r.quantity.0) looked.request-request.ensures)
    ∙ sym (ends-in_paper (book s) (order s) s.requires.1 s.requires.0.premise s.requires.2 s.requires.3 stays)

pub no_room_for_paper_spec : {M : Type 1} → statement M
no_room_for_paper_spec =
    tie.close (tie.spec (λ c κs. search rules) returns request-requires (λ c κs. search rules) (λ c κs. search rules) no-room-between-requires returns-2)
