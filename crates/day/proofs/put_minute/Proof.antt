-- `day::put_minute` meets its contract. Assumes nothing.
use borrow.Author.Rules.{rules}
use Rattle.rulebook.specs.Call.{put_minute}
use Rattle.book.proofs.Handled.{means_so}
use Rattle.day.proofs.put_minute.Statement.{statement}
use Rattle.day.proofs.put_minute.Tie as tie

returns : tie.Need-returns
unfolding put_minute
returns c =
    let put = c.before.before in
    means_so _ _ _ put.put_day.ensures (rw put.before.before.day-day.ensures)

pub put_minute_spec : {M : Type 1} → statement M
put_minute_spec = tie.close (tie.spec (λ c κs. search rules) (λ c κs. search rules) (λ c. search rules) returns)
