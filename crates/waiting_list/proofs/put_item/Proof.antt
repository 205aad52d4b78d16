-- `waiting_list::put_item` meets its contract. Assumes nothing.
use mathlib.Core.Path.{◌≡◌, subst, sym}
use mathlib.Core.List.{List}
use Prim.Native.Nat.{ℕ}
use borrow.Author.Rules.{rules}
use lib.ListN.{set}
use Rattle.waiting_list.specs.Waiting.{Sized, items_of}
use Rattle.waiting_list.proofs.StoredItems.{put_in}
use Rattle.waiting_list.proofs.put_item.Statement.{statement}
use Rattle.waiting_list.proofs.put_item.Tie as tie

returns : tie.Need-returns
returns c =
    let s = c.before.before.before.before.before in
    let l : List ℕ = s.args.items.now in
    subst (λ (w : List ℕ). Sized w × (items_of w ≡ set (items_of l) s.args.i s.args.item)) (sym c.before.before.write_row.ensures)
    (put_in l s.args.i s.args.item s.requires.0 s.requires.1)

pub put_item_spec : {M : Type 1} → statement M
put_item_spec = tie.close (tie.spec (λ c κs. search rules) (λ c. search rules) returns)
