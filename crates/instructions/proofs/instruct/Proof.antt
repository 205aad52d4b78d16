-- `instructions::instruct` meets its contract. Assumes nothing.
use Prim.Native.Nat.{◌<◌}
use mathlib.Core.Path.{◌≡◌, sym, ap, ◌∙◌}
use borrow.Author.Rules.{rules}
use lib.ListN.{length}
use Rattle.rulebook.specs.Waiting.{item_of}
use Rattle.rulebook.specs.Matching.{tolerance, pairs_with}
use Rattle.rulebook.specs.declared.Item.{Item}
use Rattle.std.specs.Prelude.{ℕ, Option, Some}
use Rattle.book.specs.Meaning.{ledger_of}
use Rattle.search.specs.Place.{place_in}
use Rattle.search.proofs.Found.{found-passes}
use Rattle.instructions.proofs.Arriving.{place, pair-room, pair_made, alone-room, alone-made}
use Rattle.instructions.proofs.instruct.Statement.{statement}
use Rattle.instructions.proofs.instruct.Tie as tie

abbrev start : tie.After-first_partner-found → tie.Start
start c = c.before.before.before

abbrev searched : tie.In-Some → tie.After-first_partner-found
searched c = c.before

abbrev found : tie.After-item_at-waits → tie.In-Some
found c = c.before

abbrev read : tie.After-remove → tie.After-item_at-waits
read c = c.before.before

abbrev removed : tie.After-pair_of → tie.After-remove
removed c = c.before.before.before.before

-- what the search is to answer
abbrev wanted : tie.Start → Option ℕ
wanted s = place s.args.book.now s.args.order

placed : (c : tie.After-first_partner-found) → wanted (start c) ≡ c.first_partner-found.result
unfolding item_of
placed c =
    let b = ledger_of (start c).args.book.now in
    sym
    (c.first_partner-found.ensures
    ∙ ap (λ (x : Item). place_in (pairs_with (tolerance b.rate x.currency) x) b.waiting) c.single_of-arriving.ensures)

at : (c : tie.In-Some) → wanted (start (searched c)) ≡ Some c.in-Some.i
at c = placed (searched c) ∙ c.in-Some.is

waits_there : (c : tie.In-Some) → c.in-Some.i < length (ledger_of (start (searched c)).args.book.now).waiting
waits_there c = (found-passes _ _ _ (at c)).inside

item-at-requires : tie.Need-item_at-waits-requires
item-at-requires c κs = let f = c in ((start (searched f)).requires.0.kept.stored, waits_there f)

remove-requires : tie.Need-remove-requires
remove-requires c κs = let f = found c.before in ((start (searched f)).requires.0.kept.stored, waits_there f)

push-requires : tie.Need-push-requires
push-requires c κs =
    let r = removed c in
    let f = found (read r) in
    (r.remove.ensures.stored, pair-room _ _ _ (start (searched f)).requires.0 (waits_there f) _ r.remove.ensures)

push-requires-2 : tie.Need-push-requires-in-None
push-requires-2 c κs =
    let f = c.before.before in
    let s = start f in
    (s.requires.0.kept.stored, alone-room _ _ s.requires.0 (placed f ∙ c.in-None.is) s.requires.1)

returns : tie.Need-returns-in-Some
returns c =
    let p = c in
    let r = removed p.before.before.before.before in
    let i = read r in
    let f = found i in
    let made = (searched f) in
    pair_made _ _ _ _ _ _ _ _ _ (at f) i.item_at-waits.ensures made.single_of-arriving.ensures p.pair_of.ensures
    r.remove.ensures p.push.ensures c.no_counts.ensures

returns-2 : tie.Need-returns-in-None
returns-2 c =
    let p = c in
    let told = p in
    let f = told.before.before.before.before.before.before in
    let made = f in
    alone-made _ _ (start f).requires.0 (placed f ∙ told.in-None.is) _ _ _ made.single_of-arriving.ensures p.push-in-None.ensures c.no_counts-in-None.ensures

pub instruct_spec : {M : Type 1} → statement M
instruct_spec =
    tie.close
    (tie.spec
    (λ c κs. search rules)
    (λ c κs. let k = c.requires.0.kept in (k.stored, k.premise.rate))
    (λ c. search rules)
    item-at-requires
    remove-requires
    (λ c κs. search rules)
    push-requires
    (λ c κs. search rules)
    (λ c. search rules)
    push-requires-2
    (λ c κs. search rules)
    (λ c. search rules)
    returns
    (λ c. search rules)
    returns-2)
