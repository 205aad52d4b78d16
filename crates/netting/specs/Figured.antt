-- The figures of what a book's trades debit, with the marked trades in.
use Rattle.std.specs.Prelude.{ℕ, ◌+◌, List, ◌≡◌, length}
use Rattle.rulebook.specs.Ledger.{Ledger}
use Rattle.rulebook.specs.Movements.{Place, book_has}
use Rattle.rulebook.specs.Shortfall.{takes, brings, delivers, pays}
use Rattle.rulebook.specs.declared.Item.{Item}
use Rattle.marks.specs.Marks.{over, item_in, marked_of}
use Rattle.legs.specs.Figures.{Figures}
use Rattle.legs.specs.Filled.{ShareLegs, CashLegs}
use Rattle.legs.specs.Legs.{figures_in}
use Rattle.legs.specs.declared.figures.Legs.{Legs}

-- at the place that each trade debits: what there is with what the marked ones bring, and what these take
abbrev pub FiguresOf : Ledger → (marks : ℕ) → (debits : Item → Place) → List ℕ → Type 0
FiguresOf b marks debits figures =
    Figures (length b.waiting)
    (λ k. book_has (debits (item_in b.waiting k)) b.holdings + over (brings (debits (item_in b.waiting k))) (marked_of marks b.waiting))
    (λ k. over (takes (debits (item_in b.waiting k))) (marked_of marks b.waiting)) figures

-- the legs of shares and those of cash, with such figures
pub record Figured (b : Ledger) (marks : ℕ) (shares cash : Legs) : Type 0 where
  pub share_trades : shares.trades ≡ length b.waiting
  pub share_legs : ShareLegs b.waiting shares.legs
  pub held_figures : FiguresOf b marks delivers (figures_in shares)
  pub cash_trades : cash.trades ≡ length b.waiting
  pub cash_legs : CashLegs b.waiting cash.legs
  pub funds_figures : FiguresOf b marks pays (figures_in cash)
