-- Rows behind one another in the lent area, and what fits them. Assumes nothing.
use Prim.Native.Nat.{ℕ, ◌+◌, ◌-◌, ◌^◌, ◌≤◌, ◌<◌}
use mathlib.Core.Path.{◌≡◌, ap, ◌∙◌}
use mathlib.Core.List.{List, [], ◌∷◌, ◌++◌, append_assoc, append-nil}
use native.Mathlib.Omega.{arith}
use lib.ListN.{length, drop, length-append}
use borrow.Rule.Slice.PartMut.{mid_of, put_mid}
use Rattle.bits.proofs.Numbers.{length_bytes}
use Rattle.bits.proofs.Parts.{part-next}
use Rattle.rulebook.specs.Movements.{Movement, account, cash_of, move}
use Rattle.bits.specs.Bits.{bytes}
use Rattle.bits.specs.Layout.{pack}
use Rattle.rulebook.specs.Shortfall.{seller, buyer}
use Rattle.rulebook.specs.Cycle.{legs}
use Rattle.rulebook.specs.Rows.{posting_widths, notice_widths, posting_bytes, notice_bytes, notice, posting_of, posting_rows, row_bytes, rows_bytes}
use Rattle.rulebook.specs.declared.Account.{Account}
use Rattle.rulebook.specs.declared.Item.{Item}
use Rattle.rulebook.specs.declared.Notice.{Notice}
use Rattle.rulebook.specs.declared.Posting.{Posting}
use Rattle.rulebook.specs.Ranges.{AccountInRange}
use Rattle.rows.specs.Widths.{PostingFits, CashInRange}

pub posting_length : (p : Posting) → length (posting_bytes p) ≡ 16
unfolding posting_bytes
posting_length p = length_bytes 16 _

-- a call that is lent the area from byte n on writes r behind q
pub behind :
    (xs ys zs q r : List ℕ) (n m : ℕ) → ys ≡ q ++ drop n xs → length q ≡ n → length r ≡ m → n + m ≤ length xs
    → zs ≡ r ++ drop m (mid_of n (length ys - n) ys) → put_mid n (length ys - n) ys zs ≡ (q ++ r) ++ drop (n + m) xs
behind xs ys zs q r n m e lq lr l f = ap (put_mid n (length ys - n) ys) f ∙ part-next xs ys q r n m e lq lr l

-- a movement's two rows
module _ (m : Movement) (xs ys : List ℕ) (p q : Posting) (from : p ≡ posting_of 0 m.from m.number) (to : q ≡ posting_of 1 m.to m.number) where
  pub movement_written : ys ≡ (posting_bytes p ++ posting_bytes q) ++ drop 32 xs → ys ≡ rows_bytes (posting_rows (m ∷ [])) ++ drop 32 xs
  unfolding rows_bytes row_bytes posting_rows
  movement_written e = rw (from, to) at e ∙ simp append-nil

pub account_fits : (credit : ℕ) (a : Account) (n : ℕ) → credit < 2 → AccountInRange a → n < 2 ^ 64 → PostingFits (posting_of credit (account a) n)
unfolding posting_of posting_widths
account_fits credit a n l f m = omega arith

pub cash_fits :
    (credit member currency n : ℕ) → credit < 2 → CashInRange member currency → n < 2 ^ 64
    → PostingFits (posting_of credit (cash_of member currency) n)
unfolding posting_of posting_widths
cash_fits credit member currency n l f m = omega arith

pub movement_rows : (m : Movement) → length (rows_bytes (posting_rows (m ∷ []))) ≡ 32
unfolding rows_bytes row_bytes posting_rows
movement_rows m = simp (length-append, posting_length)

-- a trade's rows are those of its shares, then those of its cash
pub trade-rows :
    (t : Item) → rows_bytes (posting_rows (move (account (seller t)) (account (buyer t)) t.quantity.0 ∷ []))
    ++ rows_bytes (posting_rows (move (cash_of t.credited.member t.currency) (cash_of t.debited.member t.currency) t.amount.0 ∷ []))
    ≡ rows_bytes (posting_rows (legs (t ∷ [])))
unfolding rows_bytes row_bytes posting_rows legs
trade-rows t = simp (append_assoc, append-nil)

-- a notice's row
pub notice-written :
    (n m : Notice) (xs ys : List ℕ) → n ≡ m
    → ys ≡ bytes 16 (pack 0 notice_widths (n.kind ∷ n.deliverer ∷ n.receiver ∷ n.deliver_reference ∷ n.receive_reference ∷ 0 ∷ [])) ++ drop 16 xs
    → ys ≡ rows_bytes (notice m ∷ []) ++ drop 16 xs
unfolding notice_bytes rows_bytes row_bytes
notice-written n m xs ys e f = rw e at f ∙ simp append-nil
