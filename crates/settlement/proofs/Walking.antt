-- The loops that book the marked trades: the book means the ledger with what the first i bring, or take. Assumes nothing.
use Rattle.std.specs.Prelude.{if◌then◌else◌}
use Prim.Native.Nat.{ℕ, ◌+◌, ◌*◌, ◌^◌, ◌≤◌, ◌<◌}
use native.Mathlib.Omega.{arith}
use mathlib.Core.Bool.{Bool, true, false, ◌&&◌}
use mathlib.Core.List.{List, [], ◌∷◌}
use mathlib.Core.Path.{◌≡◌, refl, sym, ap, subst, ◌∙◌}
use lib.ListN.{length}
use Rattle.plain.specs.Lists.{◌is◌, total, sum_below}
use Rattle.plain.proofs.Sums.{sum-last, sum-grows}
use Rattle.rulebook.specs.Ledger.{Ledger, Holdings, same_account, put_holdings}
use Rattle.rulebook.specs.Movements.{Place, account, cash_of, Movement, credits, debits}
use Rattle.rulebook.specs.Shortfall.{seller, buyer, takes, brings, missing, NothingShort}
use Rattle.rulebook.specs.Cycle.{legs}
use Rattle.rulebook.specs.declared.Account.{Account}
use Rattle.rulebook.specs.declared.Item.{Item}
use Rattle.rulebook.proofs.Sizes.{credits-accounts, legs-opened}
use Rattle.book.specs.Meaning.{ledger_of}
use Rattle.book.specs.Stored.{Stored, Means, HoldingsBecome}
use Rattle.book.proofs.Parts.{next}
use Rattle.marks.specs.Marks.{Marked, over, with_mark, item_in, is_on, marked_of}
use Rattle.legs.specs.Ready.{Bookable, Ready}
use Rattle.settlement.specs.Booking.{CanCredit, CanDebit, Covered}
use Rattle.marks.proofs.Marking.{sum-most, if-below, marking, over-sum, over-marked, count_marked, count_most}
use Rattle.settlement.proofs.Posting.{first, if_marked, credits-none, credits-next, debits-none, debits-next}
use Rattle.settlement.proofs.Posting.{own_taken, own_pays, credited_balance, credited_cash, debited_balance, debited_cash}

-- ---- a book with other holdings

module _ (b : Ledger) (book : List ℕ) (h : Holdings) (m : Means book (put_holdings h b)) where
  pub holdings_now : (ledger_of book).holdings ≡ h
  unfolding put_holdings
  holdings_now = ap (λ (x : Ledger). x.holdings) m.ledger

  pub waiting_now : (ledger_of book).waiting ≡ b.waiting
  unfolding put_holdings
  waiting_now = ap (λ (x : Ledger). x.waiting) m.ledger

  -- and then with others again
  pub then_holdings : (f : Holdings → Holdings) (after : List ℕ) → HoldingsBecome f book after → Means after (put_holdings (f h) b)
  unfolding put_holdings
  then_holdings f after k = next (λ x. put_holdings (f x.holdings) x) m k

-- ---- a loop over the marked trades

module _
    (act : List Movement → Holdings → Holdings)
    (nothing : (h : Holdings) → act (legs []) h ≡ h)
    (item : ℕ → Item)
    (on : ℕ → Bool)
    (one_more : (i : ℕ) (h : Holdings) → act (legs (first item on (i + 1))) h ≡ act (legs (if_marked (on i) (item i))) (act (legs (first item on i)) h))
    (b : Ledger)
  where
    -- the book after the first i
    abbrev pub Acted : ℕ → List ℕ → Type 0
    Acted i book = Means book (put_holdings (act (legs (first item on i)) b.holdings) b)

    -- what the first i have done, and one more by its mark
    abbrev done : ℕ → Holdings
    done i = act (legs (first item on i)) b.holdings

    marked_step : (i : ℕ) (x : Bool) → on i ≡ x → done (i + 1) ≡ act (legs (if_marked x (item i))) (done i)
    marked_step i x e = one_more i b.holdings ∙ ap (λ (y : Bool). act (legs (if_marked y (item i))) (done i)) e

    module _ (i : ℕ) (book : List ℕ) (m : Acted i book) where
      pub acted_off : on i ≡ false → Acted (i + 1) book
      acted_off e = subst (λ (h : Holdings). Means book (put_holdings h b)) (sym (marked_step i false e ∙ nothing (done i))) m

      pub acted_on : on i ≡ true → (t : Item) → t ≡ item i → (after : List ℕ) → HoldingsBecome (act (legs (t ∷ []))) book after → Acted (i + 1) after
      acted_on e t same after k =
          let s : done (i + 1) ≡ act (legs (t ∷ [])) (done i) = marked_step i true e ∙ ap (λ (x : Item). act (legs (x ∷ [])) (done i)) (sym same) in
          subst (λ (h : Holdings). Means after (put_holdings h b)) (sym s) (then_holdings b book (done i) m (act (legs (t ∷ []))) after k)

-- ---- what the marked trades of a ledger bring and take

brings-small : (a : Account) (t : Item) → Bookable t → brings (account a) t < 2 ^ 40
unfolding brings
brings-small a t k = if-below (same_account (buyer t) a) t.quantity.0 k.quantity

pays-small : (m c : ℕ) (t : Item) → Bookable t → brings (cash_of m c) t < 2 ^ 40
unfolding brings
pays-small m c t k = if-below (t.debited.member is m && t.currency is c) t.amount.0 k.amount

module _ (b : Ledger) (marks : ℕ) where
  abbrev item : ℕ → Item
  item k = item_in b.waiting k

  abbrev n : ℕ
  n = length b.waiting

  abbrev on : ℕ → Bool
  on k = is_on marks k

  abbrev pub Credited : ℕ → List ℕ → Type 0
  Credited i book = Means book (put_holdings (credits (legs (first item on i)) b.holdings) b)

  abbrev pub Debited : ℕ → List ℕ → Type 0
  Debited i book = Means book (put_holdings (debits (legs (first item on i)) b.holdings) b)

  module _ (i : ℕ) (l : i < n) (marked : is_on marks i ≡ true) where
    -- the sum of a figure over the first i, which is bounded, and grows by the one at i
    small :
        (f : Item → ℕ) → ((t : Item) → Bookable t → f t < 2 ^ 40) → Ready b → sum_below i (λ k. if on k then f (item k) else 0) ≤ i * 1_099_511_627_776
    small f e r = sum-most i (λ k. if on k then f (item k) else 0) (λ k h. if-below (on k) _ (e (item k) (r.bookable k (omega arith))))

    grows : (f : Item → ℕ) → sum_below i (λ k. if on k then f (item k) else 0) + f (item i) ≤ over f (marking on item n)
    grows f =
        let s = rw marked at (sum-last i (λ k. if on k then f (item k) else 0)) in
        omega (arith, s, sum-grows (i + 1) n (λ k. if on k then f (item k) else 0) (omega arith), over-sum item n f on)

    pub can_credit : Ready b → CanCredit (item i) (credits (legs (first item on i)) b.holdings)
    can_credit r =
        let t = item i in
        let m = t.debited.member in
        let most = small (brings (account (buyer t))) (brings-small (buyer t)) r in
        let most-cash = small (brings (cash_of m t.currency)) (pays-small m t.currency) r in
        let opened = legs-opened (first item on i) in
        record {
          bookable = r.bookable i l;
          room = omega (arith, credits-accounts (legs (first item on i)) b.holdings, opened, count_marked item i on, count_most on i, r.room);
          shares = omega (arith, credited_balance item on (buyer t) b.holdings i, most, r.balances (buyer t), (r.bookable i l).quantity, r.size);
          cash = omega (arith, credited_cash item on m t.currency b.holdings i, most-cash, r.amounts m t.currency, (r.bookable i l).amount, r.size);
        }

    pub can_debit : Covered b (marked_of marks b.waiting) → CanDebit (item i) (debits (legs (first item on i)) b.holdings)
    unfolding marked_of
    can_debit r =
        let t = item i in
        let m = t.credited.member in
        record {
          bookable = r.bookable i l;
          shares = omega (arith, debited_balance item on (seller t) b.holdings i, grows (takes (account (seller t))), own_taken t, r.shares (seller t));
          cash = omega (arith, debited_cash item on m t.currency b.holdings i, grows (takes (cash_of m t.currency)), own_pays t, r.cash m t.currency);
        }

  -- what the marked ones bring to a place and take from it
  sums :
      (p : Place) (ms : List Marked) → (over (brings p) ms ≡ total (brings p) (with_mark ms)) × (over (takes p) ms ≡ total (takes p) (with_mark ms))
  sums p ms = (over-marked (brings p) ms, over-marked (takes p) ms)

  -- nothing is short: so after all credits there is enough for all debits
  pub covered :
      Ready b → NothingShort b.holdings (with_mark (marked_of marks b.waiting))
      → Covered (put_holdings (credits (legs (with_mark (marked_of marks b.waiting))) b.holdings) b) (marked_of marks b.waiting)
  unfolding put_holdings marked_of missing
  covered r none = record {
    size = r.size;
    bookable = r.bookable;
    shares = λ a.
        let ms = marking on item n in
        omega (arith, credited_balance item on a b.holdings n, over-sum item n (brings (account a)) on, sums (account a) ms, none (account a));
    cash = λ m c.
        let ms = marking on item n in
        omega (arith, credited_cash item on m c b.holdings n, over-sum item n (brings (cash_of m c)) on, sums (cash_of m c) ms, none (cash_of m c));
  }

  -- ---- the loops

  credit-nothing : (h : Holdings) → credits (legs []) h ≡ h
  unfolding credits legs
  credit-nothing h = refl

  debit-nothing : (h : Holdings) → debits (legs []) h ≡ h
  unfolding debits legs
  debit-nothing h = refl

  -- what was read from the book is the item of the ledger
  read : (book : List ℕ) (h : Holdings) → Means book (put_holdings h b) → (i : ℕ) (t : Item) → t ≡ item_in (ledger_of book).waiting i → t ≡ item i
  read book h m i t e = e ∙ ap (λ (w : List Item). item_in w i) (waiting_now b book h m)

  -- what can be done with the item there can be done with what was read, on the book as it is
  can_now :
      (Can : Item → Holdings → Type 0) (book : List ℕ) (h : Holdings) → Means book (put_holdings h b) → (i : ℕ) (t : Item)
      → t ≡ item_in (ledger_of book).waiting i → Can (item i) h → Can t (ledger_of book).holdings
  can_now Can book h m i t e can =
      subst (λ (x : Item). Can x (ledger_of book).holdings) (sym (read book h m i t e)) (subst (Can (item i)) (sym (holdings_now b book h m)) can)

  module _ (i : ℕ) (book : List ℕ) where
    pub credit-off : Credited i book → is_on marks i ≡ false → Credited (i + 1) book
    credit-off m = acted_off credits credit-nothing item on (credits-next item on) b i book m

    pub debit-off : Debited i book → is_on marks i ≡ false → Debited (i + 1) book
    debit-off m = acted_off debits debit-nothing item on (debits-next item on) b i book m

    module _ (marked : is_on marks i ≡ true) (t : Item) (e : t ≡ item_in (ledger_of book).waiting i) where
      pub credit-fits : Credited i book → i < n → Ready b → CanCredit t (ledger_of book).holdings
      credit-fits m l r = can_now CanCredit book _ m i t e (can_credit i l marked r)

      pub debit-fits : Debited i book → i < n → Covered b (marked_of marks b.waiting) → CanDebit t (ledger_of book).holdings
      debit-fits m l r = can_now CanDebit book _ m i t e (can_debit i l marked r)

      pub credit-on : Credited i book → (after : List ℕ) → HoldingsBecome (credits (legs (t ∷ []))) book after → Credited (i + 1) after
      credit-on m = acted_on credits credit-nothing item on (credits-next item on) b i book m marked t (read book _ m i t e)

      pub debit-on : Debited i book → (after : List ℕ) → HoldingsBecome (debits (legs (t ∷ []))) book after → Debited (i + 1) after
      debit-on m = acted_on debits debit-nothing item on (debits-next item on) b i book m marked t (read book _ m i t e)

  pub credit-done :
      (i : ℕ) (book : List ℕ) → i ≡ n → Credited i book → Means book (put_holdings (credits (legs (with_mark (marked_of marks b.waiting))) b.holdings) b)
  unfolding marked_of
  credit-done i book e m = subst (λ (k : ℕ). Credited k book) e m

  pub debit-done :
      (i : ℕ) (book : List ℕ) → i ≡ n → Debited i book → Means book (put_holdings (debits (legs (with_mark (marked_of marks b.waiting))) b.holdings) b)
  unfolding marked_of
  debit-done i book e m = subst (λ (k : ℕ). Debited k book) e m

module _ (marks : ℕ) (book : List ℕ) (s : Stored book) where
  pub credit-start : Credited (ledger_of book) marks 0 book
  unfolding put_holdings
  credit-start =
      let none = credits-none (item_in (ledger_of book).waiting) (is_on marks) (ledger_of book).holdings in
      record { stored = s; ledger = ap (λ (h : Holdings). put_holdings h (ledger_of book)) (sym none) }

  pub debit-start : Debited (ledger_of book) marks 0 book
  unfolding put_holdings
  debit-start =
      let none = debits-none (item_in (ledger_of book).waiting) (is_on marks) (ledger_of book).holdings in
      record { stored = s; ledger = ap (λ (h : Holdings). put_holdings h (ledger_of book)) (sym none) }
