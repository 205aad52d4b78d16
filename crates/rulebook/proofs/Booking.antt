-- What each credit, each debit and each change of a held count keeps, movements keep. Assumes nothing.
use mathlib.Core.Path.{◌≡◌, refl}
use mathlib.Core.List.{List, [], ◌∷◌}
use Prim.Native.Nat.{ℕ}
use Rattle.rulebook.specs.Ledger.{Holdings, put_balance, put_cash, put_securities, put_outside, put_held}
use Rattle.rulebook.specs.declared.Account.{Account}
use Rattle.rulebook.specs.Movements.{Place, account, type91, type90, cash_of, member0, Movement, credit, debit, credits, debits, recount, recounted, booked, put_at}

-- held counts alone

module _ (P : Holdings → Type 0) (held_keeps : (s v : ℕ) (h : Holdings) → P h → P (put_held s v h)) where
  recount-keeps : (from to : Place) (n : ℕ) (h : Holdings) → P h → P (recount from to n h)
  recount-keeps (account a) (account b) n h p = p
  recount-keeps (account a) (type91 s) n h p = held_keeps s _ h p
  recount-keeps (account a) (type90 s) n h p = p
  recount-keeps (account a) (cash_of m c) n h p = p
  recount-keeps (account a) (member0 c) n h p = p
  recount-keeps (type91 s) to n h p = held_keeps s _ h p
  recount-keeps (type90 s) to n h p = p
  recount-keeps (cash_of m c) to n h p = p
  recount-keeps (member0 c) to n h p = p

  pub recounted-keeps : (ms : List Movement) (h : Holdings) → P h → P (recounted ms h)
  unfolding recounted
  recounted-keeps [] h p = p
  recounted-keeps (m ∷ rest) h p = recounted-keeps rest (recount m.from m.to m.number h) (recount-keeps m.from m.to m.number h p)

-- they change neither balances nor cash
pub record Beside (h k : Holdings) : Type 0 where
  pub balance : k.balance ≡ h.balance
  pub accounts : k.accounts ≡ h.accounts
  pub cash : k.cash ≡ h.cash

pub recounted-beside : (ms : List Movement) (h : Holdings) → Beside h (recounted ms h)
unfolding put_held put_securities
recounted-beside ms h =
    recounted-keeps (Beside h) (λ s v k e. record { balance = e.balance; accounts = e.accounts; cash = e.cash }) ms h
    (record { balance = refl; accounts = refl; cash = refl })

-- both places of each movement are such
abbrev pub Both : (Place → Type 0) → List Movement → Type 0
Both Good [] = Unit {0}
Both Good (m ∷ rest) = Good m.from × Good m.to × Both Good rest

module _
    (Good : Place → Type 0)
    (P : Holdings → Type 0)
    (credit-keeps : (q : Place) (n : ℕ) (h : Holdings) → Good q → P h → P (credit q n h))
    (debit-keeps : (q : Place) (n : ℕ) (h : Holdings) → Good q → P h → P (debit q n h))
  where
    credits-keep : (ms : List Movement) → Both Good ms → (h : Holdings) → P h → P (credits ms h)
    unfolding credits
    credits-keep [] g h p = p
    credits-keep (m ∷ rest) g h p = credits-keep rest g.2 (credit m.to m.number h) (credit-keeps m.to m.number h g.1 p)

    debits-keep : (ms : List Movement) → Both Good ms → (h : Holdings) → P h → P (debits ms h)
    unfolding debits
    debits-keep [] g h p = p
    debits-keep (m ∷ rest) g h p = debits-keep rest g.2 (debit m.from m.number h) (debit-keeps m.from m.number h g.0 p)

    -- credits and debits, held counts not yet changed
    posted_keeps : (ms : List Movement) → Both Good ms → (h : Holdings) → P h → P (debits ms (credits ms h))
    posted_keeps ms g h p = debits-keep ms g (credits ms h) (credits-keep ms g h p)

    pub booked-keeps :
        ((s v : ℕ) (h : Holdings) → P h → P (put_held s v h)) → (ms : List Movement) → Both Good ms → (h : Holdings) → P h → P (booked ms h)
    unfolding booked
    booked-keeps held_keeps ms g h p = recounted-keeps P held_keeps ms (debits ms (credits ms h)) (posted_keeps ms g h p)

any_place : (ms : List Movement) → Both (λ q. Unit {0}) ms
any_place [] = tt
any_place (m ∷ rest) = (tt, tt, any_place rest)

-- at any places: what each change of a balance, of an outside count and of a member's cash keeps
module _
    (P : Holdings → Type 0)
    (balance : (a : Account) (v : ℕ) (h : Holdings) → P h → P (put_balance a v h))
    (outside : (s v : ℕ) (h : Holdings) → P h → P (put_outside s v h))
    (cash : (m c v : ℕ) (h : Holdings) → P h → P (put_cash m c v h))
  where
    keeps : (q : Place) (v : ℕ) (h : Holdings) → P h → P (put_at q v h)
    keeps (account a) v h p = balance a v h p
    keeps (type91 s) v h p = outside s v h p
    keeps (type90 s) v h p = p
    keeps (cash_of m c) v h p = cash m c v h p
    keeps (member0 c) v h p = p

    pub posted_puts : (ms : List Movement) (h : Holdings) → P h → P (debits ms (credits ms h))
    unfolding credit debit
    posted_puts ms h = posted_keeps (λ q. Unit {0}) P (λ q n h _. keeps q _ h) (λ q n h _. keeps q _ h) ms (any_place ms) h

    -- and of a held count
    pub booked-puts : ((s v : ℕ) (h : Holdings) → P h → P (put_held s v h)) → (ms : List Movement) (h : Holdings) → P h → P (booked ms h)
    unfolding booked
    booked-puts held ms h p = recounted-keeps P held ms (debits ms (credits ms h)) (posted_puts ms h p)
