-- `requests::next_request` meets its contract. Assumes nothing.
use borrow.Author.Rules.{rules}
use Rattle.requests.proofs.Ordered.{next_request_lem}
use Rattle.requests.proofs.next_request.Statement.{statement}
use Rattle.requests.proofs.next_request.Tie as tie

returns : tie.Need-returns
returns c = let s = c.before.before in next_request_lem s.args.requests.now s.requires.0 s.args.from c.next_key.result c.next_key.ensures

pub next_request_spec : {M : Type 1} → statement M
next_request_spec = tie.close (tie.spec (λ c κs. search rules) returns)
