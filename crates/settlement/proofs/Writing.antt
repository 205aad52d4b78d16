-- The marked trades' rows in the area, one trade's behind the other's. Assumes nothing.
use Rattle.std.specs.Prelude.{if◌then◌else◌}
use Prim.Native.Nat.{ℕ, ◌+◌, ◌-◌, ◌*◌, ◌≤◌, ◌<◌}
use native.Mathlib.Omega.{arith}
use mathlib.Core.Bool.{Bool, true, false}
use mathlib.Core.List.{List, [], ◌∷◌, ◌++◌, append-nil}
use mathlib.Core.Path.{◌≡◌, refl, sym, ap, subst, ◌∙◌}
use lib.ListN.{length, drop, length-append, length-drop}
use borrow.Rule.Slice.PartMut.{mid_of, put_mid}
use Rattle.plain.specs.Lists.{sum_below}
use Rattle.plain.proofs.Sums.{sum-last}
use Rattle.rulebook.specs.Ledger.{Ledger}
use Rattle.rulebook.specs.Movements.{Movement, account, cash_of, move}
use Rattle.rulebook.specs.Rows.{posting_rows, rows_bytes}
use Rattle.rulebook.specs.Shortfall.{seller, buyer}
use Rattle.rulebook.specs.Cycle.{legs}
use Rattle.rulebook.specs.declared.Item.{Item}
use Rattle.rulebook.proofs.RowCounts.{posting_length, legs-length}
use Rattle.words.specs.Places.{list_from}
use Rattle.rows.specs.Widths.{TradeInRange}
use Rattle.rows.proofs.RowBytes.{rows_append}
use Rattle.rows.proofs.Area.{behind, movement_rows, trade-rows}
use Rattle.marks.specs.Marks.{with_mark, item_in, is_on, marked_of, count_on, rows_of}
use Rattle.legs.specs.Ready.{Bookable}
use Rattle.marks.proofs.Marking.{count_marked, count_most}
use Rattle.settlement.proofs.Posting.{first, if_marked, first_next, legs-append}

-- a trade that can be booked has rows that can be written
pub trade-fits : (t : Item) → Bookable t → TradeInRange t
trade-fits t k = record {
  debited = record { security = k.sells.security; member = k.sells.member; typ = k.sells.typ; shareholder = k.sells.shareholder };
  credited = record { security = k.buys.security; member = k.buys.member; typ = k.buys.typ; shareholder = k.buys.shareholder };
  currency = omega (arith, k.pays.currency_most);
}

abbrev bytes : List Item → List ℕ
bytes ts = rows_bytes (posting_rows (legs ts))

postings-append : (xs ys : List Movement) → posting_rows (xs ++ ys) ≡ posting_rows xs ++ posting_rows ys
unfolding posting_rows
postings-append [] ys = refl
postings-append (x ∷ xs) ys = rw (postings-append xs ys)

bytes-append : (xs ys : List Item) → bytes (xs ++ ys) ≡ bytes xs ++ bytes ys
bytes-append xs ys =
    ap (λ (l : List Movement). rows_bytes (posting_rows l)) (legs-append xs ys)
    ∙ ap rows_bytes (postings-append (legs xs) (legs ys))
    ∙ rows_append (posting_rows (legs xs)) (posting_rows (legs ys))

trade-long : (t : Item) → length (bytes (t ∷ [])) ≡ 64
trade-long t =
    let shares = move (account (seller t)) (account (buyer t)) t.quantity.0 in
    let cash = move (cash_of t.credited.member t.currency) (cash_of t.debited.member t.currency) t.amount.0 in
    ap length (sym (trade-rows t))
    ∙ length-append (rows_bytes (posting_rows (shares ∷ []))) (rows_bytes (posting_rows (cash ∷ [])))
    ∙ omega (arith, movement_rows shares, movement_rows cash)

module _ (b : Ledger) (marks : ℕ) where
  abbrev item : ℕ → Item
  item k = item_in b.waiting k

  abbrev on : ℕ → Bool
  on k = is_on marks k

  -- the area with the rows of the marked ones of the first i, and the next free byte
  pub record Written (before now : List ℕ) (at i : ℕ) : Type 0 where
    pub next : at ≡ 64 * count_on on i
    pub inside : at ≤ length before
    pub long : length (bytes (first item on i)) ≡ at
    pub rows : now ≡ bytes (first item on i) ++ drop at before

  pub written_none : (before : List ℕ) → Written before before 0 0
  unfolding sum_below legs with_mark list_from posting_rows rows_bytes
  written_none before = record { next = omega arith; inside = omega arith; long = refl; rows = refl }

  module _ (before now : List ℕ) (at i : ℕ) (w : Written before now at i) where
    pub written-fits : i < 64 → 4096 ≤ length before → at + 64 ≤ length before
    written-fits l h = omega (arith, w.next, count_most on i)

    pub written-long : length now ≡ length before
    written-long = ap length w.rows ∙ length-append (bytes (first item on i)) (drop at before) ∙ omega (arith, w.inside, w.long, length-drop at before)

    step : (x : Bool) → on i ≡ x → bytes (first item on (i + 1)) ≡ bytes (first item on i) ++ bytes (if_marked x (item i))
    step x e =
        ap bytes (first_next item on i)
        ∙ ap (λ (y : Bool). bytes (first item on i ++ if_marked y (item i))) e
        ∙ bytes-append (first item on i) (if_marked x (item i))

    counted : (x : Bool) → on i ≡ x → count_on on (i + 1) ≡ count_on on i + (if x then 1 else 0)
    counted x e = sum-last i (λ k. if on k then 1 else 0) ∙ ap (λ (y : Bool). count_on on i + (if y then 1 else 0)) e

    pub written-off : on i ≡ false → Written before now at (i + 1)
    unfolding legs posting_rows rows_bytes
    written-off e =
        let s : bytes (first item on (i + 1)) ≡ bytes (first item on i) = step false e ∙ append-nil (bytes (first item on i)) in
        record {
          next = omega (arith, w.next, counted false e);
          inside = w.inside;
          long = ap length s ∙ w.long;
          rows = w.rows ∙ ap (λ (l : List ℕ). l ++ drop at before) (sym s);
        }

    pub written_on :
        on i ≡ true → at + 64 ≤ length before → (t : Item) → t ≡ item i → (part : List ℕ) → part ≡ bytes (t ∷ []) ++ drop 64 (mid_of at (length now - at) now)
        → Written before (put_mid at (length now - at) now part) (at + 64) (i + 1)
    written_on e l t same part f =
        let q = bytes (first item on i) in
        let s : bytes (first item on (i + 1)) ≡ q ++ bytes (t ∷ []) = step true e ∙ ap (λ (x : Item). q ++ bytes (x ∷ [])) (sym same) in
        record {
          next = omega (arith, w.next, counted true e);
          inside = l;
          long = ap length s ∙ length-append q (bytes (t ∷ [])) ∙ omega (arith, w.long, trade-long t);
          rows =
              behind before now part q (bytes (t ∷ [])) at 64 w.rows w.long (trade-long t) l f ∙ ap (λ (x : List ℕ). x ++ drop (at + 64) before) (sym s);
        }

    pub written-done :
        i ≡ length b.waiting → now ≡ rows_bytes (rows_of (marked_of marks b.waiting)) ++ drop (16 * length (rows_of (marked_of marks b.waiting))) before
    unfolding marked_of
    written-done e =
        let all : first item on i ≡ first item on (length b.waiting) = ap (first item on) e in
        let k : at ≡ 16 * length (posting_rows (legs (first item on i))) =
        omega (arith, w.next, posting_length (legs (first item on i)), legs-length (first item on i), count_marked item i on)
        in
        subst (λ (ts : List Item). now ≡ bytes ts ++ drop (16 * length (posting_rows (legs ts))) before) all
        (w.rows ∙ ap (λ (m : ℕ). bytes (first item on i) ++ drop m before) k)
