-- `slots::slot_of` meets its contract. The invariant: the search along the bucket finds what is to be found. Assumes nothing.
use mathlib.Core.Path.{sym}
use Prim.Native.Nat.{ℕ, ◌<◌}
use native.Mathlib.Omega.{arith}
use borrow.Author.Rules.{rules}
use lib.ListN.{get_or}
use Rattle.slots.proofs.Links.{left, Along, along_first, along_found, along_next, along_none}
use Rattle.slots.proofs.slot_of.Statement.{statement}
use Rattle.slots.proofs.slot_of.Tie as tie

abbrev invariant-loop : tie.invariant-loop-k
invariant-loop legs links key n bucket k₀ k = Along legs n key k

abbrev decreases-loop : tie.decreases-loop-k
decreases-loop legs links key n bucket k₀ k = left k

-- ---- places

abbrev entry : tie.At-loop-k invariant-loop decreases-loop → tie.Start invariant-loop decreases-loop
entry l = l.before.before.before.before.before

abbrev turn : tie.After-shared_slice_known-in-loop-k-2-1 invariant-loop decreases-loop → tie.In-loop-k invariant-loop decreases-loop
turn c = c.before.before.before

loop-holds : tie.Need-loop-k-init invariant-loop decreases-loop
loop-holds c =
    let s = c.before.before.before.before in
    let e = c.before.bucket_of-bucket.ensures in
    rw e.0 (along_first s.args.legs.now s.args.links.now s.args.n s.requires.1 s.requires.2 s.args.key (rw e.0 at e.1))

-- the search has not ended
low : (t : tie.In-loop-k invariant-loop decreases-loop) → t.before.loop-k.k < 64
low t = omega (arith, t.before.loop-k.invariant.most, t.loop-k-test.true)

returns : tie.Need-returns-then-legs-k invariant-loop decreases-loop
returns c =
    let t = c.before.before in
    let s = entry t.before in
    let l = t.before.loop-k in
    sym (along_found s.args.legs.now s.args.links.now s.args.n s.requires.1 s.requires.2 s.args.key l.k l.invariant (low t) c.if-legs-k.true)

-- the leg before in the bucket is nearer to the end
abbrev Step : (s : tie.Start invariant-loop decreases-loop) → ℕ → Type 0
Step s k =
    let next = get_or s.args.links.now k 0 in Along s.args.legs.now s.args.n s.args.key next × (left next < left k)

step : (c : tie.After-shared_slice_known-in-loop-k-2-1 invariant-loop decreases-loop) → Step (entry (turn c).before) (turn c).before.loop-k.k
step c =
    let t = turn c in
    let s = entry t.before in
    let l = t.before.loop-k in
    along_next s.args.legs.now s.args.links.now s.args.n s.requires.1 s.requires.2 s.args.key l.k l.invariant (low t) c.before.if-legs-k.false

returns-2 : tie.Need-returns invariant-loop decreases-loop
returns-2 c =
    let s = entry c.before in
    let l = c.before.loop-k in
    sym (along_none s.args.legs.now s.args.links.now s.args.n s.requires.1 s.requires.2 s.args.key l.k l.invariant c.loop-k-test.false)

pub slot_of_spec : {M : Type 1} → statement M
slot_of_spec =
    tie.close
    (tie.spec invariant-loop decreases-loop (λ c κs. search rules) (λ c. omega (arith, c.bucket_of-bucket.ensures.1)) (λ c. omega (arith, c.bucket_of-bucket.ensures.1))
    (λ c. omega (arith, c.before.bucket_of-bucket.ensures.1, c.before.before.before.before.requires.2.long)) loop-holds (λ c. omega (arith, low c))
    (λ c. omega (arith, low c.before, (entry c.before.before).requires.0)) returns (λ c. omega (arith, low c.before.before))
    (λ c. let t = c.before.before.before in omega (arith, low t, (entry t.before).requires.2.long)) (λ c. (step c).1) (λ c. (step c).0) returns-2)
