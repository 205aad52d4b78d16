-- From what the book and the rows were told to what a form does that makes one movement. Assumes nothing.
use Prim.Native.Nat.{ℕ}
use mathlib.Core.Path.{◌≡◌, refl, sym, ap}
use mathlib.Core.Bool.{false}
use mathlib.Core.List.{List, [], ◌∷◌, ◌++◌}
use Rattle.rulebook.specs.Ledger.{Ledger, Holdings, account_of, admitted, outside_of, held_of, put_holdings, put_securities, put_balance, new_security}
use Rattle.rulebook.specs.Movements.{move, account, type90, type91, credit, debit}
use Rattle.rulebook.specs.Rows.{posting_of, posting_rows}
use Rattle.rulebook.specs.Forms.{counts, admit, deposit}
use Rattle.rulebook.specs.declared.Account.{Account}
use Rattle.rulebook.specs.declared.Counts.{Counts}
use Rattle.rulebook.specs.declared.Order.{Order}
use Rattle.rulebook.specs.declared.Security.{Security}
use Rattle.parties.specs.Counted.{outside_account}
use Rattle.book.specs.Meaning.{ledger_of}
use Rattle.book.specs.Stored.{Means, HoldingsBecome, with_security, entered}
use Rattle.book.specs.Handled.{Handled}
use Rattle.booking.proofs.Moved.{Wrote, moved, stepwise}
use Rattle.book.proofs.Handled.{means_so}
use Rattle.movements.proofs.Admission.{admitted-outside}

-- 2: the security is new, and its count outside becomes the issue
pub did_admit :
    (b : Ledger) (o : Order) {book before after : List ℕ} {issued outside : Account} {c : Counts} → c ≡ counts 2 0 0 0 0 0
    → admitted o.security b.holdings ≡ false → Means book (put_holdings (with_security o.security o.quantity b.holdings) b)
    → issued ≡ outside_account 90 o.security → outside ≡ outside_account 91 o.security
    → Wrote (move (account issued) (account outside) o.quantity.0) before after → Handled (admit b o) book before after c
unfolding admit put_holdings debit posting_rows posting_of
did_admit b o counted new means e f wrote =
    let issue : Security = new_security o.security o.quantity in
    let h : Holdings = put_securities (b.holdings.securities ++ (issue ∷ [])) b.holdings in
    let outside = ap (λ (h : Holdings). put_holdings h b) (sym (admitted-outside o.security o.quantity o.quantity.0 b.holdings new)) in
    moved (put_holdings h b) counted (type90 o.security) (type91 o.security) o.quantity.0
    (means_so _ _ _ means outside)
    (rw (e, f) at wrote)

-- 3: the account is credited, and the shares come into custody
pub did_deposit :
    (b : Ledger) (o : Order) {first book before after : List ℕ} {outside owner : Account} {c : Counts} → c ≡ counts 2 0 0 0 0 0
    → Means first (put_holdings (credit (account owner) o.quantity.0 b.holdings) b) → HoldingsBecome (entered o.security o.quantity.0) first book
    → outside ≡ outside_account 91 o.security → owner ≡ account_of o.security o.credited
    → Wrote (move (account outside) (account owner) o.quantity.0) before after → Handled (deposit b o) book before after c
unfolding deposit posting_rows posting_of
did_deposit b o counted one two e f wrote =
    stepwise b counted (type91 o.security) (account (account_of o.security o.credited)) o.quantity.0
    (credit (account (account_of o.security o.credited)) o.quantity.0) (entered o.security o.quantity.0) refl (rw f at one) two (rw (e, f) at wrote)

-- a credit to an account leaves the securities
pub counts-kept :
    (b : Ledger) (book : List ℕ) (a : Account) (q s : ℕ) → Means book (put_holdings (credit (account a) q b.holdings) b)
    → (outside_of s (ledger_of book).holdings ≡ outside_of s b.holdings) × (held_of s (ledger_of book).holdings ≡ held_of s b.holdings)
unfolding credit put_balance put_holdings outside_of held_of
counts-kept b book a q s means = (ap (λ (x : Ledger). outside_of s x.holdings) means.ledger, ap (λ (x : Ledger). held_of s x.holdings) means.ledger)
