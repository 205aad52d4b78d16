-- Demand 3, whole: over any list of calls from the fresh book. Assumes nothing.
-- its parts, each over any list of calls: custody; issued counts, cash and pledges; rows written; sides
pub mod Custody
pub mod Totals
pub mod Posted
pub mod Sides
use Rattle.rulebook.specs.Ledger.{fresh}
use Rattle.rulebook.specs.Calls.{Demand3}
use Rattle.rulebook.proofs.Demand3.Sides.{sided}
use Rattle.rulebook.proofs.Demand3.Custody.{custody}
use Rattle.rulebook.proofs.Demand3.Totals.{issued, cash, pledged}
use Rattle.rulebook.proofs.EveryCall.{fresh-premise, calls-premise}
use Rattle.rulebook.proofs.Demand3.Posted.{posted}

pub demand3 : Demand3
unfolding Demand3
demand3 calls = record {
  custody = λ s. custody s calls;
  issue = (calls-premise fresh fresh-premise calls).issue;
  issued = λ s. issued s calls;
  cash = λ c. cash c calls;
  pledged = λ a t. pledged a t calls;
  posted = λ p. posted p calls;
  sided = sided calls;
}
