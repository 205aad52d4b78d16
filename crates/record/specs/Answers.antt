-- What reader and writer answer: as the rulebook says, also by the number of it.
use Rattle.std.specs.Prelude.{ℕ, List, ◌≡◌}
use Rattle.rulebook.specs.Record.{read_of, read_number, written_of, written_number, area_written}
use Rattle.rulebook.specs.declared.Order.{Order}
use Rattle.rulebook.specs.Answers.{Read, Written}

pub record ReadAs (octets : List ℕ) (answer : Read) : Type 0 where
  pub answered : answer ≡ read_of octets
  -- 0 for an order, else the refusal's number
  pub number : read_number answer ≡ read_number (read_of octets)

pub record WrittenAs (order : Order) (area : List ℕ) (answer : Written) (area' : List ℕ) : Type 0 where
  pub answered : answer ≡ written_of order area
  -- 0 for a record, else the refusal's number
  pub number : written_number answer ≡ written_number (written_of order area)
  pub written : area' ≡ area_written order area
