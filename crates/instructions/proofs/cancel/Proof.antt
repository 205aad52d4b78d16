-- `instructions::cancel` meets its contract. Assumes nothing.
use Prim.Native.Nat.{ℕ, ◌<◌}
use native.Mathlib.Omega.{arith}
use mathlib.Core.Path.{◌≡◌, sym, ap, ◌∙◌}
use borrow.Author.Rules.{rules}
use lib.ListN.{length}
use Rattle.rulebook.specs.Waiting.{sender_of, sent_by, marked}
use Rattle.std.specs.Prelude.{Option, Some}
use Rattle.book.specs.Meaning.{ledger_of}
use Rattle.search.specs.Place.{place_in}
use Rattle.search.proofs.Found.{found-passes}
use Rattle.instructions.proofs.Cancels.{place, waits, cancelled-fits, one_notice, pair-leaves, pair-stays}
use Rattle.instructions.proofs.cancel.Statement.{statement}
use Rattle.instructions.proofs.cancel.Tie as tie

abbrev start : tie.After-first_sent-found → tie.Start
start c = c.before.before.before.before

abbrev searched : tie.In-Some → tie.After-first_sent-found
searched c = c.before

abbrev found : tie.After-mark-item → tie.In-Some
found c = c.before.before

abbrev removed : tie.After-write_notice-arg-1 → tie.After-remove
removed c = c.before.before.before

-- what the search is to answer
abbrev wanted : tie.Start → Option ℕ
wanted s = place s.args.book.now s.args.order s.args.area.now s.requires.0

placed : (c : tie.After-first_sent-found) → wanted (start c) ≡ c.first_sent-found.result
placed c =
    let a = (start c).args in
    let ws = (ledger_of a.book.now).waiting in
    sym (c.first_sent-found.ensures ∙ ap (λ (n : ℕ). place_in (sent_by n a.order.reference) ws) c.sender_of-sender.ensures)

at : (c : tie.In-Some) → wanted (start (searched c)) ≡ Some c.in-Some.i
at c = placed (searched c) ∙ c.in-Some.is

waits_there : (c : tie.In-Some) → c.in-Some.i < length (ledger_of (start (searched c)).args.book.now).waiting
waits_there c = (found-passes _ _ _ (at c)).inside

marks : (c : tie.After-mark-item) → c.mark-item.result ≡ marked (sender_of (start (searched (found c))).args.order) c.item_at.result
marks c = c.mark-item.ensures ∙ ap (λ (n : ℕ). marked n c.item_at.result) (searched (found c)).sender_of-sender.ensures

returns : tie.Need-returns-in_default
returns c =
    let told = c in
    let f = told.before.before in
    let s = start f in
    absurd (waits _ _ _ s.requires.0 s.requires.1 (placed f ∙ told.in_default.is))

item-at-requires : tie.Need-item_at-requires
item-at-requires c κs = let f = c in ((start (searched f)).requires.0.given.kept.stored, waits_there f)

remove-requires : tie.Need-remove-requires
remove-requires c κs = let f = found c.before.before.before in ((start (searched f)).requires.0.given.kept.stored, waits_there f)

write-notice-requires : tie.Need-write_notice-requires
write-notice-requires c κs =
    let m = (removed c).before.before.before.before in
    let f = found m in
    let s = start (searched f) in
    (omega (arith, s.requires.0.room), cancelled-fits _ _ _ s.requires.0 _ (at f) _ _ m.item_at.ensures (marks m))

returns-2 : tie.Need-returns-then-both_marked
returns-2 c =
    let w = c in
    let r = removed w.before.before.before.before in
    let t = r in
    let m = t.before.before.before.before in
    let f = found m in
    pair-leaves _ _ _ (start (searched f)).requires.0 _ (at f) _ _ m.item_at.ensures (marks m)
    (sym t.both_marked.ensures ∙ t.if-both_marked.true) _ _ _ r.remove.ensures w.write_notice.ensures (one_notice _ c.no_counts-counts.ensures)

put-item-requires : tie.Need-put_item-requires
put-item-requires c κs = let f = found c.before.before.before in ((start (searched f)).requires.0.given.kept.stored, waits_there f)

returns-3 : tie.Need-returns
returns-3 c =
    let p = c in
    let t = p in
    let m = t.before.before.before.before.before.before.before in
    let f = found m in
    pair-stays _ _ _ (start (searched f)).requires.0 _ (at f) _ _ m.item_at.ensures (marks m)
    (sym t.both_marked.ensures ∙ t.if-both_marked.false) _ _ p.put_item.ensures c.no_counts-2.ensures

pub cancel_spec : {M : Type 1} → statement M
cancel_spec =
    tie.close
    (tie.spec
    (λ c κs. search rules)
    (λ c κs. search rules)
    (λ c. search rules)
    (λ c. search rules)
    (λ c κs. search rules)
    (λ c. search rules)
    returns
    item-at-requires
    (λ c κs. search rules)
    (λ c κs. search rules)
    remove-requires
    write-notice-requires
    (λ c κs. search rules)
    (λ c. search rules)
    (λ c. search rules)
    returns-2
    put-item-requires
    (λ c κs. search rules)
    (λ c. search rules)
    returns-3)
