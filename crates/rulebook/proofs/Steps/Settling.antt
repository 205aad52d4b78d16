-- Form 21: a confirmed cycle's movements are its fixed trades' legs, and no debit of them is cut off at 0; a declined one moves nothing. Assumes nothing.
use mathlib.Core.Path.{◌≡◌, refl, sym}
use mathlib.Core.Bool.{Bool, true, false, false≢true}
use mathlib.Core.List.{List, [], ◌∷◌}
use Prim.Native.Nat.{ℕ, ◌+◌, ◌<◌, ◌^◌}
use native.Mathlib.Omega.{arith}
use Rattle.rulebook.specs.declared.Party.{Party}
use Rattle.rulebook.specs.declared.Item.{Item}
use Rattle.rulebook.specs.AccountTypes.{pledged_or_blocked}
use Rattle.rulebook.specs.Ledger.{Ledger, Holdings, account_of, put_securities, put_day, put_holdings, put_waiting}
use Rattle.rulebook.specs.declared.Account.{Account}
use Rattle.rulebook.specs.Movements.{Place, account, type91, type90, cash_of, member0, Movement, recounted, booked, book_has}
use Rattle.rulebook.specs.Shortfall.{seller, buyer, takes, brings, missing, NothingShort}
use Rattle.rulebook.specs.Cycle.{fixed, settled, legs, offers}
use Rattle.rulebook.specs.Forms.{outcome, counts, confirm, forms, row_of}
use Rattle.rulebook.proofs.Settled.{settled-fits}
use Rattle.plain.specs.Lists.{total, Each}
use Rattle.plain.proofs.Lists.{each_so}
use Rattle.rulebook.specs.declared.Order.{Order}
use Rattle.rulebook.specs.Premise.{ItemFits, Premise, today}
use Rattle.rulebook.proofs.Places.{brought, taken, AllKnown, Enough, booked-exact}
use Rattle.rulebook.proofs.Reading.{Proper, AllProper}
use Rattle.rulebook.proofs.Recounting.{held_stays}
use Rattle.rulebook.proofs.Sums.{held_into, held_out, cash_into, cash_out}
use Rattle.rulebook.proofs.EveryCall.Items.{PartyPosts, ItemPosts, item-posts}
use Rattle.rulebook.proofs.Steps.OneCall.{admits-none, Step}
use Rattle.rulebook.proofs.Types.{Quiet}
use Rattle.rulebook.proofs.Steps.Moving.{party-apart, awaits}

legs-known : (h : Holdings) (ts : List Item) → AllKnown h (legs ts)
unfolding legs
legs-known h [] = tt
legs-known h (t ∷ rest) = (tt, tt, (tt, tt, legs-known h rest))

side_proper : (security : ℕ) (p : Party) → security < 2 ^ 14 → PartyPosts p → Proper (account (account_of security p))
unfolding account_of
side_proper security p s f = (s, omega (arith, f.named.member_most), f.typ, f.named.shareholder_most, (f.quiet).1)

legs-proper : (ts : List Item) → Each ItemPosts ts → AllProper (legs ts)
unfolding legs seller buyer
legs-proper [] e = tt
legs-proper (t ∷ rest) e =
    let i = e.0 in (
      side_proper t.security t.debited i.security i.debited,
      side_proper t.security t.credited i.security i.credited,
      omega (arith, i.quantity),
      (
        (i.credited.named.member_least, i.credited.named.member_most, omega (arith, i.currency)),
        (i.debited.named.member_least, i.debited.named.member_most, omega (arith, i.currency)),
        omega (arith, i.amount),
        legs-proper rest e.1,
      ),
    )

-- trades neither debit nor credit an account whose type a test tells from those of their parties
module _ (test : ℕ → Bool) (not-quiet : (t : ℕ) → Quiet t → test t ≡ false) (a : Account) (q : test a.typ ≡ true) where
  legs-apart : (ts : List Item) → Each ItemPosts ts → (taken (account a) (legs ts) ≡ 0) × (brought (account a) (legs ts) ≡ 0)
  unfolding legs seller buyer
  legs-apart [] e = (refl, refl)
  legs-apart (t ∷ rest) e =
      let l = legs-apart rest e.1 in (
        omega (arith, l.0, party-apart test t.security t.debited (not-quiet _ e.0.debited.quiet) t.quantity.0 a q),
        omega (arith, l.1, party-apart test t.security t.credited (not-quiet _ e.0.credited.quiet) t.quantity.0 a q),
      )

-- what the legs take from a place and bring there is what the trades do
legs-take : (p : Place) (t : Item) → taken p (legs (t ∷ [])) ≡ takes p t
unfolding legs takes
legs-take (account a) t = omega arith
legs-take (type91 s) t = refl
legs-take (type90 s) t = refl
legs-take (cash_of m c) t = omega arith
legs-take (member0 c) t = refl

legs-bring : (p : Place) (t : Item) → brought p (legs (t ∷ [])) ≡ brings p t
unfolding legs brings
legs-bring (account a) t = omega arith
legs-bring (type91 s) t = refl
legs-bring (type90 s) t = refl
legs-bring (cash_of m c) t = omega arith
legs-bring (member0 c) t = refl

legs-totals : (p : Place) (ts : List Item) → (taken p (legs ts) ≡ total (takes p) ts) × (brought p (legs ts) ≡ total (brings p) ts)
unfolding legs
legs-totals p [] = (refl, refl)
legs-totals p (t ∷ rest) = let l = legs-totals p rest in (omega (arith, legs-take p t, l.0), omega (arith, legs-bring p t, l.1))

abbrev SameSums : List Movement → Type 0
SameSums ms =
    ((s : ℕ) → held_out s ms ≡ held_into s ms) × ((s : ℕ) → (taken (type91 s) ms ≡ 0) × (brought (type91 s) ms ≡ 0)) × ((c : ℕ) → cash_out c ms ≡ cash_into c ms)

-- legs move shares from account to account of a security and cash from member to member in a currency
legs-sums : (ts : List Item) → SameSums (legs ts)
unfolding legs seller buyer account_of
legs-sums [] = ((λ s. refl), (λ s. (refl, refl)), (λ c. refl))
legs-sums (t ∷ rest) =
    let l = legs-sums rest in
    ((λ s. omega (arith, l.0 s)), (λ s. (omega (arith, (l.1 s).0), omega (arith, (l.1 s).1))), (λ c. omega (arith, l.2 c)))

-- so they change no held count
pub legs-inside : (ts : List Item) (h : Holdings) → recounted (legs ts) h ≡ h
unfolding legs recounted
legs-inside [] h = refl
legs-inside (t ∷ rest) h = legs-inside rest h

-- where nothing is short over the fixed trades, each place has enough for what they take from it
cycle-enough : (b : Ledger) → NothingShort b.holdings (fixed b.waiting) → Enough b.holdings (legs (settled b))
unfolding settled missing
cycle-enough b n p = let l = legs-totals p (settled b) in omega (arith, n p, l.0, l.1)

-- so no debit of a settlement is cut off at 0: each account and each member's cash changes by exactly what the fixed trades bring and take
pub cycle-exact :
    (b : Ledger) → NothingShort b.holdings (fixed b.waiting) → (p : Place)
    → book_has p (booked (legs (settled b)) b.holdings) + taken p (legs (settled b)) ≡ book_has p b.holdings + brought p (legs (settled b))
cycle-exact b n = booked-exact (legs (settled b)) b.holdings (legs-known b.holdings (settled b)) (cycle-enough b n)

pub confirm-step : (b : Ledger) (o : Order) → Premise b → Step 21 b o (confirm b)
unfolding confirm outcome counts put_day put_holdings put_waiting put_securities forms row_of
confirm-step b o p =
    let ts = settled b in
    let P : Item → Type 0 = ItemFits b.day.number (today b.day) b.holdings in
    let i = each_so P ItemPosts (item-posts b.day.number (today b.day) b.holdings) ts (settled-fits P b p.items) in
    record {
      listed = b.holdings.securities;
      admits = unfold put_securities in admits-none 21 o b.holdings refl p.codes;
      moves = legs ts;
      holds = refl;
      changes = cycle-exact b p.covered;
      proper = legs-proper ts i;
      rows = λ _. refl;
      notices = λ z. absurd (omega (arith, z));
      counted = refl;
      figures = record {
        held = λ c. omega (arith, (legs-sums ts).0 c);
        outside = λ c. omega (arith, ((legs-sums ts).1 c).0, ((legs-sums ts).1 c).1);
        cash = λ c. omega (arith, (legs-sums ts).2 c);
        pledged = λ x q. legs-apart pledged_or_blocked (λ t y. y.0) x q ts i;
        awaited = λ x q. legs-apart awaits (λ t y. y.2) x q ts i;
      };
      recounts = λ s. omega (arith, held_stays (legs ts) (legs-inside ts) b.holdings s);
      spares = λ e. absurd (false≢true (sym e));
    }

-- no trade is on an account of requests, so such an account offers all that it has
pub requests_offered : (b : Ledger) (a : Account) → Premise b → awaits a.typ ≡ true → offers b.holdings b.waiting a ≡ b.holdings.balance a
unfolding offers settled
requests_offered b a p q =
    let P : Item → Type 0 = ItemFits b.day.number (today b.day) b.holdings in
    let i = each_so P ItemPosts (item-posts b.day.number (today b.day) b.holdings) (settled b) (settled-fits P b p.items) in
    omega (arith, (legs-totals (account a) (settled b)).0, (legs-apart awaits (λ t y. y.2) a q (settled b) i).0)
