-- What the rulebook's premise gives: the waiting trades can be booked. Assumes nothing.
use Prim.Native.Nat.{ℕ, ◌^◌, ◌<◌}
use native.Mathlib.Omega.{arith}
use Rattle.rulebook.specs.Shortfall.{seller, buyer}
use Rattle.rulebook.specs.Ledger.{Ledger, account_of}
use Rattle.rulebook.specs.Premise.{ItemFits, today, Premise}
use Rattle.rulebook.specs.declared.Item.{Item}
use Rattle.rulebook.specs.declared.Party.{Party}
use Rattle.rulebook.proofs.Bounds.{balance_fits, cash_fits}
use Rattle.rulebook.proofs.ByIndex.{item-at}
use Rattle.rulebook.proofs.EveryCall.Items.{PartyPosts, item-posts}
use Rattle.rulebook.specs.Ranges.{AccountInRange}
use Rattle.marks.specs.Marks.{no_item}
use Rattle.legs.specs.Ready.{Bookable, Ready}

named : (security : ℕ) (p : Party) → security < 2 ^ 14 → PartyPosts p → AccountInRange (account_of security p)
unfolding account_of
named security p s f = record { security = s; member = omega (arith, f.named.member_most); typ = f.typ; shareholder = f.named.shareholder_most }

fits-bookable : (b : Ledger) (t : Item) → ItemFits b.day.number (today b.day) b.holdings t → Bookable t
unfolding seller buyer
fits-bookable b t f =
    let p = item-posts b.day.number (today b.day) b.holdings t f in
    record {
      sells = named t.security t.debited f.terms.security_most p.debited;
      buys = named t.security t.credited f.terms.security_most p.credited;
      some = omega (arith, f.terms.quantity_least);
      quantity = f.terms.quantity_most;
      pays = record {
        member_least = f.terms.credited_named.member_least;
        member_most = f.terms.credited_named.member_most;
        currency_least = f.terms.currency_least;
        currency_most = f.terms.currency_most;
      };
      paid = record {
        member_least = f.terms.debited_named.member_least;
        member_most = f.terms.debited_named.member_most;
        currency_least = f.terms.currency_least;
        currency_most = f.terms.currency_most;
      };
      amount = f.terms.amount_most;
    }

pub premise_ready : (b : Ledger) → Premise b → Ready b
premise_ready b p = record {
  size = p.sizes.items;
  room = p.sizes.accounts;
  bookable = λ k l. fits-bookable b _ (item-at b p k no_item l);
  balances = λ a. omega (arith, balance_fits b p a);
  amounts = λ m c. omega (arith, cash_fits b p m c);
}
