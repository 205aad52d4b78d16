-- `room_tests::no_space` meets its contract: each form's test is the rulebook's, on the book before the call. Assumes nothing.
use Prim.Native.Nat.{◌≤◌}
use mathlib.Core.Path.{◌≡◌, refl, sym, subst, ◌∙◌}
use mathlib.Core.Bool.{true, and-true}
use native.Mathlib.Omega.{arith}
use borrow.Author.Tests.{ne_eqb}
use borrow.Author.Rules.{rules}
use Rattle.book.specs.Meaning.{ledger_of}
use Rattle.rulebook.specs.Ledger.{Ledger}
use Rattle.rulebook.specs.Ranges.{AccountInRange}
use Rattle.rulebook.specs.declared.Order.{Order}
use Rattle.rulebook.proofs.Space.{admit-space, deposit-space, instruct-space}
use Rattle.rulebook.proofs.Within.{instruction}
use Rattle.checking.proofs.Orders.{ranges, debited_named, credited_named, some-quantity, requesting_named}
use Rattle.room_tests.specs.Room.{is_list_full}
use Rattle.room_tests.proofs.Between.{same_room, transfers, requests}
use Rattle.room_tests.proofs.Roomy.{roomy, last}
use Rattle.room_tests.proofs.no_space.Statement.{statement}
use Rattle.room_tests.proofs.no_space.Tie as tie

-- ---- places

-- the call, from where the book is known to have no room for one more item, and from where both sides' accounts are named
abbrev start : tie.Else-not-is_list_full → tie.Start
start c = c.before.before.before.before

abbrev called : tie.After-account_of-credited → tie.Start
called c = start c.before.before.before.before

-- where the tests so far do not apply
abbrev past-3 : tie.Else-form-eq3 → tie.After-account_of-credited
past-3 c = c.before

abbrev past-9 : tie.Else-is_within → tie.After-account_of-credited
past-9 c = past-3 c.before.before

abbrev past-13 : tie.Else-is_within-2 → tie.After-account_of-credited
past-13 c = past-9 c.before.before

abbrev book : tie.Start → Ledger
book s = ledger_of s.args.book.now

abbrev order : tie.Start → Order
order s = s.args.order

-- ---- each form's test

returns : tie.Need-returns-then-form-eq2
returns c =
    let s = c.before.before.before in
    rw c.securities.ensures (sym (admit-space (book s) (order s) s.requires.0.premise.sizes c.before.if-form-eq2.true))

-- a book with room for one more item lacks no space
returns-2 : tie.Need-returns-then-not-is_list_full
returns-2 c =
    let s = c.before.before.before.before in
    sym
    (roomy (book s) (order s) s.requires.1 s.requires.0.premise s.requires.2 (ne_eqb _ _ c.before.before.if-form-eq2.false)
    (sym c.before.is_list_full.ensures ∙ c.if-not-is_list_full.true))

-- the rest is for a book without
full : (c : tie.Else-not-is_list_full) → is_list_full (book (start c)) ≡ true
full c = sym c.before.is_list_full.ensures ∙ c.if-not-is_list_full.false

debited-range : (c : tie.After-account_of-credited) → AccountInRange c.before.account_of-debited.result
debited-range c = subst AccountInRange (sym c.before.account_of-debited.ensures) (debited_named _ (called c).requires.1)

credited-range : (c : tie.After-account_of-credited) → AccountInRange c.account_of-credited.result
credited-range c = subst AccountInRange (sym c.account_of-credited.ensures) (credited_named _ (called c).requires.1)

balance-requires : tie.Need-balance-to-requires
balance-requires c κs = ((called c.before).requires.0.stored, credited-range c.before)

returns-3 : tie.Need-returns-then-form-eq3
returns-3 c =
    let to = c.before.before in
    let three = to.before in
    let s = called three.before in
    let e = three.if-form-eq3.true in
    let l : 3 ≤ (order s).form = omega (arith, e) in
    let u : (order s).form ≤ 9 = omega (arith, e) in
    rw (to.balance-to.ensures, three.before.account_of-credited.ensures, c.is_full.ensures)
    (sym (deposit-space (book s) (order s) s.requires.0.premise.sizes e (some-quantity _ s.requires.1 l u)))

no-room-between-requires : tie.Need-no_room_between-requires
no-room-between-requires c κs = let sides = past-3 c.before.before.before in ((called sides).requires.0, debited-range sides, credited-range sides)

returns-4 : tie.Need-returns-then-is_within
returns-4 c =
    let four = c.before in
    let sides = past-3 four.before.before.before in
    let s = called sides in
    let w = sym four.before.is_within.ensures ∙ four.if-is_within.true in
    c.no_room_between.ensures
    ∙ same_room (book s) sides.before.account_of-debited.ensures sides.account_of-credited.ensures refl
    ∙ sym (transfers (book s) (order s) s.requires.1 s.requires.0.premise s.requires.2 w)

returns-5 : tie.Need-returns-then-is_within-2
returns-5 c =
    let five = c.before in
    let sides = past-9 five.before.before in
    let s = called sides in
    let w = sym five.before.is_within-2.ensures ∙ five.if-is_within-2.true in
    rw c.is_matched.ensures
    (sym
    (instruct-space (book s) (order s) s.requires.0.premise.sizes (instruction (order s).form w)
    ∙ simp (full sides.before.before.before.before, and-true)))

no-room-between-requires-2 : tie.Need-no_room_between-requires-then-form-eq19
no-room-between-requires-2 c κs =
    let sides = past-13 c.before.before.before in
    let s = called sides in
    let day = (book s).day.number in
    (s.requires.0, debited-range sides, subst AccountInRange (sym (c.requested_account.ensures day)) (requesting_named _ s.requires.1 day))

returns-6 : tie.Need-returns-then-form-eq19
returns-6 c =
    let six = c.before.before in
    let sides = past-13 six.before.before in
    let s = called sides in
    c.no_room_between-then-form-eq19.ensures
    ∙ same_room (book s) sides.before.account_of-debited.ensures (c.before.requested_account.ensures (book s).day.number) refl
    ∙ sym (requests (book s) (order s) s.requires.1 s.requires.0.premise s.requires.2 six.if-form-eq19.true)

returns-8 : tie.Need-returns
returns-8 c =
    let six = c.before in
    let five = six.before in
    let four = five.before.before in
    let three = four.before.before in
    let two = three.before.before.before in
    let s = start two.before.before in
    sym
    (last (book s) (order s) s.requires.0.premise (full two.before.before) (ranges _ s.requires.1).form (ne_eqb _ _ two.before.before.if-form-eq2.false)
    (ne_eqb _ _ three.if-form-eq3.false) (sym four.before.is_within.ensures ∙ four.if-is_within.false) (sym five.before.is_within-2.ensures ∙ five.if-is_within-2.false)
    (ne_eqb _ _ six.if-form-eq19.false) (ne_eqb _ _ c.if-form-eq20.false))

pub no_space_spec : {M : Type 1} → statement M
no_space_spec =
    tie.close
    (tie.spec
    (λ c κs. search rules) returns
    (λ c κs. search rules) returns-2
    (λ c κs. search rules) (λ c κs. search rules)
    balance-requires (λ c κs. search rules) returns-3
    (λ c κs. search rules) no-room-between-requires returns-4
    (λ c κs. search rules) (λ c κs. search rules) returns-5
    (λ c κs. search rules) no-room-between-requires-2 returns-6
    (λ c κs. search rules) (λ c. search rules)
    returns-8)
