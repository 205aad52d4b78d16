-- `room_tests::too_little` meets its contract. Assumes nothing.
use Prim.Native.Nat.{ℕ}
use mathlib.Core.Path.{◌≡◌, sym, ap, subst, ◌∙◌}
use mathlib.Core.Bool.{Bool, true, false, ◌||◌, or-false, false≢true}
use borrow.Author.Tests.{ne_eqb}
use borrow.Author.Rules.{rules}
use Rattle.plain.specs.Lists.{◌is◌}
use Rattle.rulebook.specs.Refusals.{debits_shares, too_little}
use Rattle.rulebook.specs.Ranges.{AccountInRange}
use Rattle.checking.proofs.Orders.{debited_named, payer}
use Rattle.room_tests.proofs.too_little.Statement.{statement}
use Rattle.room_tests.proofs.too_little.Tie as tie

-- whether the form debits shares, as the code asks it
asked : (c : tie.After-is_within) (t : Bool) → (c.is_within.result || c.before.before.before.args.order.form is 19) ≡ t
    → debits_shares c.before.before.before.args.order.form ≡ t
asked c t e = sym (ap (λ (within : Bool). within || c.before.before.before.args.order.form is 19) c.is_within.ensures) ∙ e

-- such a form is no pay-out
no-pay-out : (form : ℕ) → debits_shares form ≡ true → (form is 11) ≡ false
no-pay-out form e = ne_eqb form 11 (λ p. false≢true (subst (λ (k : ℕ). debits_shares k ≡ true) p e))

returns : tie.Need-returns-then-form-eq3
unfolding too_little
returns c =
    let outside = c.before.before.outside-outside.ensures in
    let form = c.before.before.before.if-form-eq3.true in
    simp (form, outside, or-false)

offered-requires : tie.Need-offered-offered-requires
offered-requires c κs =
    let s = c.before.before.before.before.before in
    (s.requires.0, subst AccountInRange (sym c.account_of.ensures) (debited_named _ s.requires.1))

returns-2 : tie.Need-returns-then-is_within-form
unfolding too_little
returns-2 c =
    let b = c.before.before in
    let two = b.before.before in
    let one = two.before.before in
    let s = one.before.before in
    let f = s.args.order.form in
    let w = asked two.before.before true two.if-is_within-form.true in
    simp (ne_eqb f 3 one.if-form-eq3.false, w, no-pay-out f w, b.offered-offered.ensures, b.before.account_of.ensures, or-false)

cash-requires : tie.Need-cash-cash-requires
cash-requires c κs =
    let s = c.before.before.before.before.before in
    (s.requires.0.stored, payer _ s.requires.1 c.if-form-eq11.true)

returns-3 : tie.Need-returns-then-form-eq11
unfolding too_little
returns-3 c =
    let cash = c.before.before in
    simp (cash.before.if-form-eq11.true, cash.cash-cash.ensures)

returns-4 : tie.Need-returns
unfolding too_little
returns-4 c =
    let two = c.before in
    let one = two.before.before in
    let f = one.before.before.args.order.form in
    simp (ne_eqb f 3 one.if-form-eq3.false, asked two.before false two.if-is_within-form.false, ne_eqb f 11 c.if-form-eq11.false)

pub too_little_spec : {M : Type 1} → statement M
too_little_spec =
    tie.close
    (tie.spec (λ c κs. search rules) returns (λ c κs. search rules) (λ c κs. search rules) offered-requires returns-2 cash-requires returns-3 returns-4)
