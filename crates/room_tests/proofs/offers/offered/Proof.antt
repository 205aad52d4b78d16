-- `room_tests::offers::offered` meets its contract: nothing is fixed while no cycle is sent, and what is fixed is covered. Assumes nothing.
use mathlib.Core.Path.{◌≡◌, sym, ap, ◌∙◌}
use native.Mathlib.Omega.{arith}
use borrow.Author.Rules.{rules}
use Rattle.rulebook.specs.Ledger.{Ledger}
use Rattle.rulebook.specs.declared.Day.{Day}
use Rattle.book.specs.Meaning.{ledger_of}
use Rattle.room_tests.proofs.Offered.{offers-unsent, offers-rest, offers-covered}
use Rattle.room_tests.proofs.offers.offered.Statement.{statement}
use Rattle.room_tests.proofs.offers.offered.Tie as tie

-- ---- places

abbrev start : tie.After-fixed_flows → tie.Start
start c = c.before.before.before.before.before

abbrev book : tie.Start → Ledger
book s = ledger_of s.args.book.now

-- the balance is the book's
there : (c : tie.After-balance-balance) → c.balance-balance.result.0 ≡ (book c.before.before).holdings.balance c.before.before.args.account
there c = c.balance-balance.ensures

left-of-requires : tie.Need-left_of-requires
left-of-requires c κs =
    let s = start c in
    omega (
      arith,
      there c.before.before.before,
      offers-covered (book s) s.requires.0.premise s.args.account _ _ c.fixed_flows.ensures.0 c.fixed_flows.ensures.1,
    )

returns : tie.Need-returns-then-day
returns c =
    let flows = c.before in
    let s = start flows in
    c.left_of.ensures
    ∙ rw (there flows.before.before.before)
    (offers-rest (book s) s.requires.0.premise s.args.account _ _ flows.fixed_flows.ensures.0 flows.fixed_flows.ensures.1)

returns-2 : tie.Need-returns
returns-2 c =
    let day = c.before in
    let s = day.before.before.before in
    let unsent = sym (ap (λ (d : Day). d.sent) day.day-day.ensures) ∙ c.if-day.false in
    there day.before ∙ offers-unsent (book s) s.requires.0.premise s.args.account unsent

pub offered_spec : {M : Type 1} → statement M
offered_spec =
    tie.close
    (tie.spec (λ c κs. search rules) (λ c κs. search rules) (λ c κs. search rules) left-of-requires returns returns-2)
