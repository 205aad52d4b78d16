-- `movements::transfer` meets its contract. Assumes nothing.
use mathlib.Core.Path.{◌≡◌}
use native.Mathlib.Omega.{arith}
use borrow.Author.Rules.{rules}
use Rattle.rulebook.specs.Forms.{transfer}
use Rattle.movements.proofs.Known.{transfer-fits}
use Rattle.movements.proofs.transfer.Statement.{statement}
use Rattle.movements.proofs.transfer.Tie as tie

abbrev start : tie.After-account_of-to → tie.Start
start c = c.before.before.before.before.before.before

shift-requires : tie.Need-shift-requires
shift-requires c κs =
    let to = c.before.before in
    let s = start to.before in (
      s.requires.0.given.kept.stored,
      omega (arith, s.requires.0.room),
      transfer-fits _ _ s.requires.0.given s.requires.1 s.requires.2 to.before.account_of-from.ensures to.account_of-to.ensures,
    )

returns : tie.Need-returns
unfolding transfer
returns c =
    let did = c.before.before.before.before in
    let to = did.before.before.before in
    rw (to.before.account_of-from.ensures, to.account_of-to.ensures) at did.shift.ensures

pub transfer_spec : {M : Type 1} → statement M
transfer_spec = tie.close (tie.spec (λ c κs. search rules) (λ c κs. search rules) shift-requires (λ c. search rules) (λ c. search rules) returns)
