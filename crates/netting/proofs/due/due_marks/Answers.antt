-- `netting::due::due_marks` meets its contract: what is asked of each place is whether its item is due today. Assumes nothing.
use Rattle.std.proofs.Common.{◌≡◌, ℕ, sym, ap, ◌∙◌, rules, arith}
use Rattle.rulebook.specs.Selection.{due}
use Rattle.rulebook.specs.declared.Day.{Day}
use Rattle.book.specs.Meaning.{ledger_of}
use Rattle.marks.specs.Marks.{item_in, is_on}
use Rattle.marks.proofs.ByTest.{by_test_lem}
use Rattle.netting.proofs.Entries.{entries-marked}
use Rattle.netting.proofs.due.due_marks.Goals as goal

pub returns : goal.returns
returns c =
    let b = ledger_of c.args.book.now in
    let day = ap (λ (d : Day). d.number) c.day-day.ensures in
    record {
      marked =
          by_test_lem (due b.day.number) b.waiting c.on_each.result
          (λ k h.
          let t = c.on_each.ensures.tested k (omega (arith, c.items.ensures)) in
          let read : is_on c.on_each.result k ≡ due c.day-day.result.number (item_in b.waiting k) = search rules in
          read ∙ ap (λ (d : ℕ). due d (item_in b.waiting k)) day)
          ∙ sym (entries-marked b);
      behind = λ k g l. c.on_each.ensures.behind k (omega (arith, c.items.ensures)) l;
    }
