-- `netting::selected_marks` meets its contract: shares and cash are filled and added; the rounds and the passes do the rest. Assumes nothing.
use Rattle.std.proofs.Common.{◌≡◌, ◌∙◌, sym, subst, length}
use Rattle.rulebook.specs.Ledger.{Ledger}
use Rattle.legs.specs.Filled.{ShareLegs, ShareStart, CashLegs, CashStart}
use Rattle.legs.specs.Ready.{Ready}
use Rattle.legs.specs.declared.figures.Legs.{Legs}
use Rattle.netting.proofs.Columns.{share_room_in, cash_room_in, share_figures_in, cash_figures_in}
use Rattle.netting.proofs.Entries.{started, selected}
use Rattle.netting.proofs.selected_marks.Goals as goal

-- the legs that a ledger's trades have
abbrev Shares : Legs → Ledger → Type 0
Shares l b = (l.trades ≡ length b.waiting) × ShareLegs b.waiting l.legs × ShareStart b l.figures

abbrev Cash : Legs → Ledger → Type 0
Cash l b = (l.trades ≡ length b.waiting) × CashLegs b.waiting l.legs × CashStart b l.figures

pub fill_shares-requires : goal.fill_shares-requires
fill_shares-requires g c = (c.requires.0.stored, subst Ready (sym c.requires.0.ledger) c.requires.1.0)

pub fill_cash-requires : goal.fill_cash-requires
fill_cash-requires g c = (c.requires.0.stored, subst Ready (sym c.requires.0.ledger) c.requires.1.0)

pub add_marked-requires : goal.add_marked-requires
add_marked-requires g c =
    let l = c.fill_shares in
    let s = subst (Shares l.new.legs) c.requires.0.ledger (l.ensures.trades, l.ensures.share_legs, l.ensures.share_start) in
    share_room_in g.b c.requires.1.0 c.args.due l.new.legs s.0 s.1 s.2

pub add_marked-requires-2 : goal.add_marked-requires-2
add_marked-requires-2 g c =
    let l = c.fill_cash in
    let s = subst (Cash l.new.legs) c.requires.0.ledger (l.ensures.trades, l.ensures.cash_legs, l.ensures.cash_start) in
    cash_room_in g.b c.requires.1.0 c.args.due l.new.legs s.0 s.1 s.2

pub drop_short-kept-requires : goal.drop_short-kept-requires
drop_short-kept-requires g c =
    let r = c.requires.1.0 in
    let l = c.fill_shares in
    let s = subst (Shares l.new.legs) c.requires.0.ledger (l.ensures.trades, l.ensures.share_legs, l.ensures.share_start) in
    let h = c.add_marked.ensures in
    let m = c.fill_cash in
    let t = subst (Cash m.new.legs) c.requires.0.ledger (m.ensures.trades, m.ensures.cash_legs, m.ensures.cash_start) in
    let k = c.add_marked-2.ensures in (
      r,
      record {
        share_trades = h.same.trades ∙ s.0;
        share_legs = subst (ShareLegs g.b.waiting) (sym h.same.legs) s.1;
        held_figures = share_figures_in g.b r c.args.due l.new.legs s.0 _ h.same h.with_marked s.1 s.2;
        cash_trades = k.same.trades ∙ t.0;
        cash_legs = subst (CashLegs g.b.waiting) (sym k.same.legs) t.1;
        funds_figures = cash_figures_in g.b r c.args.due m.new.legs t.0 _ k.same k.with_marked t.1 t.2;
      },
    )

pub put_back-requires : goal.put_back-requires
put_back-requires g c =
    let e = c.drop_short-kept.ensures in ((c.requires.1.0, started _ _ _ c.requires.1.1 e.netted), e.figured_2)

pub returns : goal.returns
returns g c = selected _ _ _ c.requires.1.1 c.drop_short-kept.ensures.netted c.put_back.result c.put_back.ensures
