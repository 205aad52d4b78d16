use mathlib.Core.Bool.{or-false}
use Rattle.std.proofs.Common.{◌≡◌, ◌∙◌}
use Rattle.rulebook.specs.Ledger.{same_account}
use Rattle.rulebook.specs.Refusals.{wrong_parties}
use Rattle.rulebook.proofs.Accounts.{same-fields}
use Rattle.order_tests.proofs.wrong_parties.Goals as goal

pub returns : goal.returns
unfolding wrong_parties
returns c =
    let from = c.account_of-debited.result in
    let to = c.account_of-credited.result in
    let e : c.eq.result ≡ same_account from to = c.eq.ensures ∙ same-fields from to in
    simp (
      or-false,
      c.is_within-2.ensures,
      c.is_within.ensures,
      c.is_within-instruction.ensures,
      e,
      c.account_of-credited.ensures,
      c.account_of-debited.ensures,
    )
