-- The test of accounts tells them apart. Assumes nothing.
use mathlib.Core.Path.{◌≡◌, sym, ◌∙◌}
use mathlib.Core.Bool.{true, ◌&&◌, and_assoc}
use borrow.Author.Tests.{eqb-true}
use lib.Dec.{eqb}
use Rattle.plain.proofs.Tests.{both}
use Rattle.plain.specs.Lists.{◌is◌}
use Rattle.rulebook.specs.declared.Account.{Account}
use Rattle.rulebook.specs.Ledger.{same_account}

pub same_eq : (a b : Account) → same_account a b ≡ true → a ≡ b
unfolding same_account
same_eq a b e =
    let h₁ = both _ (eqb a.shareholder b.shareholder) e in
    let h₂ = both _ (eqb a.typ b.typ) h₁.0 in
    let h₃ = both _ (eqb a.member b.member) h₂.0 in
    λ i. record {
      security = eqb-true a.security b.security h₃.0 i;
      member = eqb-true a.member b.member h₃.1 i;
      typ = eqb-true a.typ b.typ h₂.1 i;
      shareholder = eqb-true a.shareholder b.shareholder h₁.1 i;
    }

-- what `==` of accounts computes
pub same-fields :
    (a b : Account)
    → (a.security is b.security && (a.member is b.member && (a.typ is b.typ && a.shareholder is b.shareholder))) ≡ same_account a b
unfolding same_account
same-fields a b =
    sym
    (and_assoc (a.security is b.security && a.member is b.member) (a.typ is b.typ) (a.shareholder is b.shareholder)
    ∙ and_assoc (a.security is b.security) (a.member is b.member) (a.typ is b.typ && a.shareholder is b.shareholder))
