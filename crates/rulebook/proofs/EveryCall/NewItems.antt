-- What an accepted order of form 12, 13 or 14 brings in is such an item, under a reference that none waits under. Assumes nothing.
use Rattle.std.specs.Prelude.{if◌then◌else◌}
use mathlib.Core.Path.{◌≡◌, refl}
use mathlib.Core.Bool.{true, false, ◌&&◌}
use mathlib.Core.List.{List, [], ◌∷◌}
use Prim.Native.Nat.{ℕ, ◌+◌, ◌≤◌}
use native.Mathlib.Omega.{arith}
use borrow.Author.Tests.{eqb-true}
use Rattle.rulebook.specs.declared.Order.{Order}
use Rattle.rulebook.specs.declared.State.{State}
use Rattle.rulebook.specs.declared.State.TheVariants.{Single, Trade}
use Rattle.plain.specs.Lists.{◌is◌, ◌one_of◌, within, Each}
use Rattle.plain.proofs.Lists.{◌and◌, one_of_lem}
use Rattle.plain.proofs.Tests.{both}
use Rattle.rulebook.specs.AccountTypes.{is_free}
use Rattle.rulebook.specs.Field as Field
use Rattle.rulebook.specs.Forms.{forms, row_of, used, least}
use Rattle.rulebook.specs.Ledger.{Ledger, admitted}
use Rattle.rulebook.specs.Waiting.{item_of, sender_of, sent_by, single_of}
use Rattle.rulebook.specs.Refusals.{asks_security}
use Rattle.rulebook.specs.Premise.{ReferenceFits, StateFits, NotOverdue, ItemFits, today}
use Rattle.rulebook.proofs.Types.{deliver_free, receive_free, trade-alike}
use Rattle.rulebook.proofs.Orders.{Accepted, needs, needed, uses, is_admitted, right_types, is_open, instruct-parties, instruct-days, trade-parties, trade-days}

-- the fields that all three use
abbrev common : List ℕ
common =
    Field.security ∷ Field.currency ∷ Field.debited_member ∷ Field.credited_member ∷ Field.debited_shareholder ∷ Field.credited_shareholder ∷ Field.quantity
    ∷ Field.amount ∷ Field.trade_day ∷ Field.reference ∷ []

abbrev Uses : ℕ → Type 0
Uses n = Each (λ k. needs n k ≡ true) common

module _ (n : ℕ) (b : Ledger) (o : Order) (e : o.form ≡ n) (a : Accepted b o) (u : Uses n) where
  field : (k : ℕ) → (k one_of common) ≡ true → needs o.form k ≡ true
  field k t = needed n k o e (one_of_lem (λ j. needs n j ≡ true) common k u t)

  order-reference : ReferenceFits o.reference
  order-reference = record { least = a.ranges.reference (field Field.reference refl); most = a.fits.reference }

  order-item :
      (x : State) → asks_security n ≡ true → (n is 2) ≡ false → o.trade_day ≤ b.day.number → o.trade_day ≤ o.settlement_day
      → o.settlement_day ≤ b.day.number + 20
      → StateFits o.security o.debited o.credited x → NotOverdue (today b.day) o.settlement_day x
      → ItemFits b.day.number (today b.day) b.holdings (item_of x o)
  unfolding item_of admitted
  order-item x t t₂ l₁ l₂ l₃ f g =
      let d = a.ranges.debited (field Field.debited_member refl) in
      let c = a.ranges.credited (field Field.credited_member refl) in
      let v = a.ranges.currency (field Field.currency refl) in
      record {
        listed = is_admitted n b o e t t₂ a.security;
        terms = record {
          security_least = a.ranges.security (field Field.security refl);
          security_most = a.fits.security;
          currency_least = v.0;
          currency_most = v.1;
          debited_named =
              record {
                member_least = d.0;
                member_most = d.1;
                shareholder_least = a.ranges.debited_holder (field Field.debited_shareholder refl);
                shareholder_most =
                    a.fits.debited.shareholder;
              };
          credited_named =
              record {
                member_least = c.0;
                member_most = c.1;
                shareholder_least = a.ranges.credited_holder (field Field.credited_shareholder refl);
                shareholder_most =
                    a.fits.credited.shareholder;
              };
          quantity_least = (a.ranges.quantity (field Field.quantity refl)).0;
          quantity_most = a.fits.quantity;
          amount_least = a.ranges.amount (field Field.amount refl);
          amount_most = a.fits.amount;
        };
        days = record { traded_least = a.ranges.trade_day (field Field.trade_day refl); traded_most = l₁; settles_least = l₂; settles_most = l₃ };
        state = f;
        due = g;
      }

  open_today : (n is 1) ≡ false → today b.day ≡ b.day.number
  open_today t = simp (is_open b o n e t a.right_day)

-- the item of form 12 or 13, and what these two forms are in the tests
record Instructs (n : ℕ) : Type 0 where
  not_5_9 : within 5 9 n ≡ false
  not_6_9 : within 6 9 n ≡ false
  is_12_13 : within 12 13 n ≡ true
  not_5_14 : (n one_of (5 ∷ 14 ∷ [])) ≡ false
  not_14 : (n is 14) ≡ false
  not_1 : (n is 1) ≡ false
  names : asks_security n ≡ true
  not_2 : (n is 2) ≡ false

single_item :
    (n : ℕ) (b : Ledger) (o : Order) → o.form ≡ n → Accepted b o → Uses n → Instructs n → (if o.form is 12 then is_free o.debited.typ else is_free o.credited.typ)
    ≡ true
    → (if o.form is 12 then o.credited.typ else o.debited.typ) ≡ 0 → ItemFits b.day.number (today b.day) b.holdings (single_of o)
single_item n b o e a u i own other =
    let p = instruct-parties b o n e i.not_5_9 i.is_12_13 i.not_6_9 i.not_5_14 a.parties in
    let d = instruct-days b o n e i.not_5_9 i.is_12_13 i.not_14 a.days in
    let t = open_today n b o e a u i.not_1 in
    order-item n b o e a u (Single (o.form is 12) o.reference) i.names i.not_2 d.2 (omega (arith, d)) d.1
    (record {
      named = order-reference n b o e a u;
      own = own;
      other = other;
      shareholders = p.0;
      members = p.1;
    })
    (omega (arith, t, d))

module _ (b : Ledger) (o : Order) (a : Accepted b o) where
  pub deliver_item : o.form ≡ 12 → ItemFits b.day.number (today b.day) b.holdings (single_of o)
  unfolding used least forms row_of
  deliver_item e =
      single_item 12 b o e a (refl and refl and refl and refl and refl and refl and refl and refl and refl and refl and tt)
      (record { not_5_9 = refl; not_6_9 = refl; is_12_13 = refl; not_5_14 = refl; not_14 = refl; not_1 = refl; names = refl; not_2 = refl })
      (simp e (deliver_free o.debited.typ o.credited.typ (right_types 12 b o e a.types)))
      (simp e (a.ranges.no_credited_type (uses 12 Field.credited_type o e false refl)))

  pub receive_item : o.form ≡ 13 → ItemFits b.day.number (today b.day) b.holdings (single_of o)
  unfolding used least forms row_of
  receive_item e =
      single_item 13 b o e a (refl and refl and refl and refl and refl and refl and refl and refl and refl and refl and tt)
      (record { not_5_9 = refl; not_6_9 = refl; is_12_13 = refl; not_5_14 = refl; not_14 = refl; not_1 = refl; names = refl; not_2 = refl })
      (simp e (receive_free o.debited.typ o.credited.typ (right_types 13 b o e a.types)))
      (simp e (a.ranges.no_debited_type (uses 13 Field.debited_type o e false refl)))

  pub trade-item : o.form ≡ 14 → ItemFits b.day.number (today b.day) b.holdings (item_of (Trade o.reference) o)
  unfolding used least forms row_of
  trade-item e =
      let u : Uses 14 = refl and refl and refl and refl and refl and refl and refl and refl and refl and refl and tt in
      let d = trade-days b o e a.days in
      let t = open_today 14 b o e a u refl in
      order-item 14 b o e a u (Trade o.reference) refl refl (omega (arith, d)) (omega (arith, d)) (omega (arith, d))
      (record {
        named = order-reference 14 b o e a u;
        types = trade-alike o.debited.typ o.credited.typ (right_types 14 b o e a.types);
        apart = trade-parties b o e a.parties;
      })
      (omega (arith, t, d))

  -- who sent it

  both_are : (x y z w : ℕ) → (x is y && z is w) ≡ true → (x ≡ y) × (z ≡ w)
  both_are x y z w q = let p = both (x is y) (z is w) q in (eqb-true x y p.0, eqb-true z w p.1)

  pub deliver_sender : o.form ≡ 12 → (s r : ℕ) → sent_by s r (single_of o) ≡ true → (s ≡ sender_of o) × (r ≡ o.reference)
  unfolding sent_by item_of sender_of
  deliver_sender e s r q = simp e (both_are s o.debited.member r o.reference (simp e at q))

  pub receive_sender : o.form ≡ 13 → (s r : ℕ) → sent_by s r (single_of o) ≡ true → (s ≡ sender_of o) × (r ≡ o.reference)
  unfolding sent_by item_of sender_of
  receive_sender e s r q = simp e (both_are s o.credited.member r o.reference (simp e at q))

  pub trade-sender : o.form ≡ 14 → (s r : ℕ) → sent_by s r (item_of (Trade o.reference) o) ≡ true → (s ≡ sender_of o) × (r ≡ o.reference)
  unfolding sent_by item_of sender_of
  trade-sender e s r q = simp e (both_are s 0 r o.reference q)
