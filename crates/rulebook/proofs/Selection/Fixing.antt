-- Of a book: what a cycle selects and fixes. Assumes nothing.
use Rattle.std.specs.Prelude.{if◌then◌else◌}
use mathlib.Core.Path.{◌≡◌, refl, sym, ap, subst, ◌∙◌}
use mathlib.Core.Bool.{Bool, true, false, ◌||◌}
use mathlib.Core.List.{List, [], ◌∷◌, map}
use Prim.Native.Nat.{ℕ, ◌+◌, ◌≤◌}
use native.Mathlib.Omega.{arith}
use borrow.Author.Tests.{leb-true}
use lib.ListN.{length, length-map}
use Rattle.plain.specs.Lists.{◌at_most◌, total, Each}
use Rattle.plain.proofs.Lists.{total-map, length_total, each_map}
use Rattle.plain.proofs.Tests.{both}
use Rattle.rulebook.specs.declared.Item.{Item}
use Rattle.rulebook.specs.Ledger.{Ledger, Holdings}
use Rattle.rulebook.specs.Movements.{Place, account, type91, type90, cash_of, member0}
use Rattle.rulebook.specs.Waiting.{is_trade, with_sent}
use Rattle.rulebook.specs.Shortfall.{seller, buyer, takes, brings, missing, NothingShort}
use Rattle.rulebook.specs.Selection.{Standing, Entry, not_due, taken, left, is_taken, is_left, is_sent, trades_in, trades_left, due, entry_by, entries, selection}
use Rattle.rulebook.specs.Selected.{Spot, spot}
use Rattle.rulebook.specs.Cycle.{fixing, fixed, left_by}
use Rattle.rulebook.proofs.Selection.Selected.{selection-selected}
use Rattle.rulebook.proofs.Selection.Alone.{Alone, AloneAt, alone_at, at_alone, entries-alone, sent-alone}

-- what a cycle fixes makes nothing short
pub nothing_short : (book : Ledger) → NothingShort book.holdings (trades_in (selection book))
nothing_short book = (selection-selected book).covered

-- what is due is in or left
pub left-and_in : (book : Ledger) → length (trades_in (selection book)) + left_by book ≡ length (trades_in (entries book))
unfolding left_by
left-and_in book =
    omega (
      arith,
      (selection-selected book).parts (λ i. 1),
      length_total (trades_in (selection book)),
      length_total (trades_left (selection book)),
      length_total (trades_in (entries book)),
    )

-- ---- which items there are, and in which order

pub selection-alone : (book : Ledger) → Alone (selection book)
unfolding entries
selection-alone book =
    at_alone (selection book)
    (subst AloneAt (sym (selection-selected book).same) (alone_at (entries book) (entries-alone (due book.day.number) book.waiting)))

items_spots : (es : List Entry) → map (λ s. s.item) (map spot es) ≡ map (λ e. e.item) es
items_spots [] = refl
items_spots (e ∷ rest) = ap (λ l. e.item ∷ l) (items_spots rest)

entries-items : (is_in : Item → Bool) (ws : List Item) → map (λ e. e.item) (map (entry_by is_in (λ item. [])) ws) ≡ ws
unfolding entry_by
entries-items is_in [] = refl
entries-items is_in (w ∷ ws) = ap (λ l. w ∷ l) (entries-items is_in ws)

pub selection-items : (book : Ledger) → map (λ e. e.item) (selection book) ≡ book.waiting
unfolding entries
selection-items book =
    sym (items_spots (selection book)) ∙ ap (map (λ (s : Spot). s.item)) (selection-selected book).same
    ∙ items_spots (entries book) ∙ entries-items (due book.day.number) book.waiting

-- ---- what holds of each waiting item holds of each with the mark that it gets

pub fixing-length : (book : Ledger) → length (fixing (selection book)) ≡ length book.waiting
unfolding fixing
fixing-length book =
    length-map (selection book) (λ e. with_sent (is_sent (selection book) e) e.item) ∙ sym (length-map (selection book) (λ e. e.item))
    ∙ ap length (selection-items book)

-- a figure that does not ask whether an item is fixed is the same over the list that a cycle leaves
pub fixing-total :
    (figure : Item → ℕ) → ((b : Bool) (i : Item) → figure (with_sent b i) ≡ figure i) → (book : Ledger)
    → total figure (fixing (selection book)) ≡ total figure book.waiting
unfolding fixing
fixing-total figure same book =
    let es = selection book in
    total-map figure (λ (e : Entry). figure e.item) (λ (e : Entry). with_sent (is_sent es e) e.item) (λ e. same (is_sent es e) e.item) es
    ∙ sym (total-map figure (λ (e : Entry). figure e.item) (λ (e : Entry). e.item) (λ e. refl) es)
    ∙ ap (total figure) (selection-items book)

each_item : (P : Item → Type 0) (es : List Entry) → Each P (map (λ e. e.item) es) → Each (λ e. P e.item) es
each_item P [] p = tt
each_item P (e ∷ rest) p = (p.0, each_item P rest p.1)

pub fixing-fits :
    (P : Item → Type 0) → ((b : Bool) (i : Item) → P i → P (with_sent b i)) → (book : Ledger) → Each P book.waiting → Each P (fixing (selection book))
unfolding fixing
fixing-fits P same book p =
    let es = selection book in
    each_map (λ (e : Entry). P e.item) P (λ (e : Entry). with_sent (is_sent es e) e.item) (λ e q. same (is_sent es e) e.item q) es
    (each_item P es (subst (Each P) (sym (selection-items book)) p))

-- ---- what is in is a pair or an exchange trade whose settlement day has come

abbrev pub Due : ℕ → Item → Type 0
Due day i = (is_trade i.state ≡ true) × (i.settlement_day ≤ day)

pub is_due_lem : (day : ℕ) (i : Item) → due day i ≡ true → Due day i
unfolding due
is_due_lem day i e = let p = both (is_trade i.state) (i.settlement_day at_most day) e in (p.0, leb-true _ _ p.1)

abbrev pub DueAt : ℕ → List Spot → Type 0
DueAt day spots = Each (λ s. s.is_due ≡ due day s.item) spots

entries-due : (day : ℕ) (ws : List Item) → DueAt day (map spot (map (entry_by (due day) (λ item. [])) ws))
unfolding entry_by
entries-due day [] = tt
entries-due day (w ∷ rest) = (go (due day w), entries-due day rest)
  where
    go : (b : Bool) → (is_taken (if b then taken else not_due) || is_left (if b then taken else not_due)) ≡ b
    go true = refl
    go false = refl

abbrev pub IfIn : (day : ℕ) → Entry → Type 0
IfIn day e = is_taken e.standing ≡ true → due day e.item ≡ true

in_due : (day : ℕ) (es : List Entry) → DueAt day (map spot es) → Each (IfIn day) es
in_due day [] d = tt
in_due day (e ∷ rest) d = ((λ t. sym d.0 ∙ simp t), in_due day rest d.1)

-- what is due is in or left, and nothing else is
pub selection-spots : (book : Ledger) → DueAt book.day.number (map spot (selection book))
unfolding entries
selection-spots book = subst (DueAt book.day.number) (sym (selection-selected book).same) (entries-due book.day.number book.waiting)

pub selection-due : (book : Ledger) → Each (IfIn book.day.number) (selection book)
selection-due book = in_due book.day.number (selection book) (selection-spots book)

-- ---- the marks of a selection, put onto the items and read from them

fixing-by :
    (all es : List Entry) → ((e : Entry) → is_sent all e ≡ is_taken e.standing) → Alone es
    → fixed (map (λ e. with_sent (is_sent all e) e.item) es) ≡ map (with_sent true) (trades_in es)
unfolding fixed trades_in with_sent
fixing-by all [] s a = refl
fixing-by all (e ∷ rest) s a = go e.standing refl (fixing-by all rest s a.1)
  where
    go :
        (x : Standing) → e.standing ≡ x → fixed (map (λ e. with_sent (is_sent all e) e.item) rest) ≡ map (with_sent true) (trades_in rest)
        → fixed (map (λ e. with_sent (is_sent all e) e.item) (e ∷ rest)) ≡ map (with_sent true) (trades_in (e ∷ rest))
    go not_due k ih = simp (s e, k) ih
    go taken k ih = simp (s e, k, a.0) (ap (λ (l : List Item). with_sent true e.item ∷ l) ih)
    go (left lacked) k ih = simp (s e, k) ih

pub fixing-fixed : (es : List Entry) → Alone es → fixed (fixing es) ≡ map (with_sent true) (trades_in es)
unfolding fixing
fixing-fixed es a = fixing-by es es (sent-alone es a) a

-- ---- what a trade takes and brings does not ask whether it is fixed

pub takes-sent : (p : Place) (b : Bool) (i : Item) → takes p (with_sent b i) ≡ takes p i
unfolding takes seller with_sent
takes-sent (account a) b i = refl
takes-sent (type91 s) b i = refl
takes-sent (type90 s) b i = refl
takes-sent (cash_of m c) b i = refl
takes-sent (member0 c) b i = refl

pub brings-sent : (p : Place) (b : Bool) (i : Item) → brings p (with_sent b i) ≡ brings p i
unfolding brings buyer with_sent
brings-sent (account a) b i = refl
brings-sent (type91 s) b i = refl
brings-sent (type90 s) b i = refl
brings-sent (cash_of m c) b i = refl
brings-sent (member0 c) b i = refl

pub missing-sent : (h : Holdings) (b : Bool) (ts : List Item) (p : Place) → missing h (map (with_sent b) ts) p ≡ missing h ts p
unfolding missing
missing-sent h b ts p =
    omega (
      arith,
      total-map (takes p) (takes p) (with_sent b) (takes-sent p b) ts,
      total-map (brings p) (brings p) (with_sent b) (brings-sent p b) ts,
    )
