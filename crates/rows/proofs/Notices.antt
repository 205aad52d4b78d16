-- A waiting item's notice fits its row. Assumes nothing.
use Prim.Native.Nat.{ℕ, ◌<◌, ◌^◌}
use native.Mathlib.Omega.{arith}
use mathlib.Core.Bool.{true, false}
use Rattle.rulebook.specs.Ledger.{Holdings}
use Rattle.rulebook.specs.Premise.{StateFits, ItemFits}
use Rattle.rulebook.specs.Rows.{notice_widths, deliver_reference, receive_reference, notice_of}
use Rattle.rulebook.specs.declared.Item.{Item}
use Rattle.rulebook.specs.declared.Party.{Party}
use Rattle.rulebook.specs.declared.State.{State}
use Rattle.rulebook.specs.declared.State.TheVariants.{Single, Pair, Trade}
use Rattle.rows.specs.Widths.{NoticeFits}

references_fit :
    (security : ℕ) (debited credited : Party) (x : State) → StateFits security debited credited x
    → (deliver_reference x < 2 ^ 32) × (receive_reference x < 2 ^ 32)
unfolding deliver_reference receive_reference
references_fit security debited credited (Single true reference) f = omega (arith, f.named.most)
references_fit security debited credited (Single false reference) f = omega (arith, f.named.most)
references_fit security debited credited (Pair d r dm rm) f = omega (arith, f.deliver_named.most, f.receive_named.most)
references_fit security debited credited (Trade reference) f = omega (arith, f.named.most)

pub notice-fits : (number today : ℕ) (h : Holdings) (item : Item) (kind : ℕ) → kind < 16 → ItemFits number today h item → NoticeFits (notice_of kind item)
unfolding notice_of notice_widths
notice-fits number today h item kind l f =
    let r = references_fit item.security item.debited item.credited item.state f.state in
    omega (arith, f.terms.debited_named.member_most, f.terms.credited_named.member_most)
