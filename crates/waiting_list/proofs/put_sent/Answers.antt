-- `waiting_list::put_sent`: the mark in the item's last word.
use Rattle.std.proofs.Common.{◌≡◌, ◌+◌, ◌*◌, ◌%◌, ℕ, List, get_or, set, subst, sym}
use Rattle.rulebook.specs.Waiting.{with_sent}
use Rattle.rulebook.specs.declared.Item.{Item}
use Rattle.waiting_list.specs.Waiting.{Sized, items_of}
use Rattle.waiting_list.proofs.Sent.{put}
use Rattle.waiting_list.proofs.put_sent.Goals as goal

pub returns : goal.returns
returns c =
    let w : List ℕ = c.args.items.now in
    let i = c.args.i in
    subst (λ (b : ℕ).
    let after = set w (i * 16 + 16) (get_or w (i * 16 + 16) 0 % 4 + 4 * b) in
    Sized after × ((d : Item) → items_of after ≡ set (items_of w) i (with_sent c.args.sent (get_or (items_of w) i d))))
    (sym c.from.ensures) (put w c.requires.0 i c.requires.1 c.args.sent)
