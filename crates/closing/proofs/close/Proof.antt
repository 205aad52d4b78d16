-- `closing::close` meets its contract. Assumes nothing.
use borrow.Author.Rules.{rules}
use Rattle.closing.proofs.Closed.{day_closed}
use Rattle.closing.proofs.close.Statement.{statement}
use Rattle.closing.proofs.close.Tie as tie

abbrev closed-items : tie.After-put_day → tie.After-close_items-counted
closed-items c = c.before.before.before.before.before.before

returns : tie.Need-returns
returns c =
    let put = c.before.before in
    let day = (closed-items put) in
    let a = day.args in
    day_closed a.book.now a.order _ _ _ _ _ _ day.day-day.ensures (closed-items put).close_items-counted.ensures put.put_day.ensures

pub close_spec : {M : Type 1} → statement M
close_spec =
    tie.close (tie.spec (λ c κs. search rules) (λ c κs. search rules) (λ c κs. search rules) (λ c. search rules) (λ c. search rules) returns)
