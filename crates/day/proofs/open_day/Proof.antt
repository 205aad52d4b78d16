-- `day::open_day` meets its contract. Assumes nothing.
use mathlib.Core.Path.{ap}
use native.Mathlib.Omega.{arith}
use borrow.Author.Rules.{rules}
use Rattle.rulebook.specs.Ledger.{put_day, opening}
use Rattle.rulebook.specs.Forms.{open_day}
use Rattle.rulebook.specs.declared.Day.{Day}
use Rattle.book.specs.Meaning.{ledger_of}
use Rattle.book.proofs.Handled.{silent-handled, means_so}
use Rattle.day.proofs.open_day.Statement.{statement}
use Rattle.day.proofs.open_day.Tie as tie

abbrev start : tie.After-day-day → tie.Start
start c = c.before.before

add-day : tie.Need-overflow_add-day
add-day c =
    let day = c.before in
    omega (arith, ap (λ (d : Day). d.number) day.day-day.ensures, (start day).requires.0.kept.premise.day.number)

returns : tie.Need-returns
unfolding open_day
returns c =
    let put = c in
    let day = put.before.before.before.before.before.before in
    let a = (start day).args in
    let opens = ap (λ (d : Day). put_day (opening a.order.quantity.0 d) (ledger_of a.book.now)) day.day-day.ensures in
    silent-handled _ _ _ (means_so _ _ _ put.put_day.ensures opens) c.no_counts.ensures

pub open_day_spec : {M : Type 1} → statement M
open_day_spec = tie.close (tie.spec (λ c κs. search rules) add-day (λ c κs. search rules) (λ c κs. search rules) (λ c. search rules) returns)
