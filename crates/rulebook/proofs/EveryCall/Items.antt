-- What a waiting item is, kept by marks, pairs, the days and the close; and what two singles that pair agree in. Assumes nothing.
use Rattle.std.specs.Prelude.{if◌then◌else◌}
use mathlib.Core.Path.{◌≡◌, refl, sym, ◌∙◌, subst}
use mathlib.Core.Bool.{Bool, true, false, not, ◌&&◌, ◌||◌, false≢true}
use mathlib.Core.List.{List, [], ◌∷◌, map}
use Prim.Native.Nat.{ℕ, suc, ◌+◌, ◌-◌, ◌≤◌, ◌<◌, ◌^◌}
use native.Mathlib.Omega.{arith}
use borrow.Author.Tests.{eqb-true, eqb-false, leb-false, not-false, not-true}
use Rattle.rulebook.specs.declared.Party.{Party}
use Rattle.rulebook.specs.declared.Item.{Item}
use Rattle.rulebook.specs.declared.State.{State}
use Rattle.rulebook.specs.declared.State.TheVariants.{Single, Pair, Trade}
use Rattle.plain.specs.Lists.{◌is◌, ◌at_most◌, keep, Each}
use Rattle.plain.proofs.Tests.{both}
use Rattle.plain.proofs.Lists.{each_append, each_map, each_kept}
use Rattle.rulebook.specs.AccountTypes.{is_free, alike}
use Rattle.rulebook.specs.Ledger.{Holdings, admitted}
use Rattle.rulebook.specs.Waiting.{is_deliver, is_receive, own_reference, with_state, marked, marking, unmarked, sent_by}
use Rattle.rulebook.specs.Matching.{agree, pairs_with, pair_of, arrive, shared_terms, same_terms}
use Rattle.rulebook.specs.Close.{close_kind, leaves}
use Rattle.rulebook.specs.Premise.{SingleFits, StateFits, ItemFits, Named, NotOverdue}
use Rattle.rulebook.proofs.Types.{Quiet, zero_quiet, free-quiet, free-fits, alike-free}

-- ---- two singles that pair

-- a deliver and a receive that agree
pub record Agreed (d r : Item) : Type 0 where
  pub delivers : is_deliver d.state ≡ true
  pub receives : is_receive r.state ≡ true
  pub shareholders : d.debited.shareholder ≡ r.credited.shareholder
  pub credited_members : d.credited.member ≡ r.credited.member
  pub types : alike d.debited.typ r.credited.typ ≡ true

agreed : (limit : ℕ) (d r : Item) → is_deliver d.state ≡ true → is_receive r.state ≡ true → agree limit d r ≡ true → Agreed d r
unfolding agree same_terms shared_terms
agreed limit d r x y e =
    let h₁ = both _ (r.amount.0 - d.amount.0 at_most limit) e in
    let h₂ = both _ (d.amount.0 at_most r.amount.0) h₁.0 in
    let h₃ = both _ (alike d.debited.typ r.credited.typ) h₂.0 in
    let h₄ = both _ (d.credited.member is r.credited.member) h₃.0 in
    let h₅ = both _ (d.debited.member is r.debited.member) h₄.0 in
    let h₆ = both _ (d.currency is r.currency) h₅.0 in
    let h₇ = both _ (d.quantity.0 is r.quantity.0) h₆.0 in
    let h₈ = both _ (d.settlement_day is r.settlement_day) h₇.0 in
    let h₉ = both _ (d.trade_day is r.trade_day) h₈.0 in
    let h₀ = both (d.security is r.security) (d.debited.shareholder is r.credited.shareholder) h₉.0 in
    record {
      delivers = x;
      receives = y;
      shareholders = eqb-true _ _ h₀.1;
      credited_members = eqb-true _ _ h₄.1;
      types = h₃.1;
    }

pub deliver_not_receive : (x : State) → is_deliver x ≡ true → is_receive x ≡ false
unfolding is_deliver is_receive
deliver_not_receive (Single true r) e = refl
deliver_not_receive (Single false r) e = absurd (false≢true e)
deliver_not_receive (Pair d r dm rm) e = refl
deliver_not_receive (Trade r) e = refl

pub receive_not_deliver : (x : State) → is_receive x ≡ true → is_deliver x ≡ false
receive_not_deliver x e = go (is_deliver x) refl
  where
    go : (t : Bool) → is_deliver x ≡ t → is_deliver x ≡ false
    go true p = absurd (false≢true (sym (deliver_not_receive x p) ∙ e))
    go false p = p

-- which of the two is the deliver
pub pairs :
    (A : Type 0) (limit : ℕ) (new w : Item) → pairs_with limit new w ≡ true → (is_deliver w.state ≡ true → Agreed w new → A)
    → (is_deliver w.state ≡ false → Agreed new w → A)
    → A
unfolding pairs_with
pairs A limit new w e f g = go (is_deliver w.state) refl
  where
    go : (t : Bool) → is_deliver w.state ≡ t → A
    go true p =
        let z : ((is_receive new.state && agree limit w new) || false) ≡ true = simp (p, deliver_not_receive w.state p) at e in
        let q = one (is_receive new.state) (agree limit w new) z in
        f p (agreed limit w new p q.0 q.1)
      where
        one : (x y : Bool) → ((x && y) || false) ≡ true → (x ≡ true) × (y ≡ true)
        one true true h = (refl, refl)
        one true false h = absurd (false≢true h)
        one false y h = absurd (false≢true h)
    go false p =
        let z : (is_receive w.state && is_deliver new.state && agree limit new w) ≡ true = simp p at e in
        let q = both (is_receive w.state && is_deliver new.state) (agree limit new w) z in
        let r = both (is_receive w.state) (is_deliver new.state) q.0 in
        g p (agreed limit new w r.1 r.0 q.1)

-- what holds of the arriving single and of each that waits holds of each after it, if it holds of a pair of two that agree
pub arrive-each :
    (P : Item → Type 0) → ((d r : Item) → Agreed d r → P d → P r → P (pair_of d r)) → (limit : ℕ) (new : Item) → P new → (ws : List Item) → Each P ws
    → Each P (arrive limit new ws)
unfolding arrive
arrive-each P pair limit new f [] e = (f, tt)
arrive-each P pair limit new f (w ∷ rest) e = go (pairs_with limit new w) refl (arrive-each P pair limit new f rest e.1)
  where
    paired : pairs_with limit new w ≡ true → P (if is_deliver w.state then pair_of w new else pair_of new w)
    paired p =
        pairs (P (if is_deliver w.state then pair_of w new else pair_of new w)) limit new w p (λ q a. simp q (pair w new a e.0 f))
        (λ q a. simp q (pair new w a f e.0))

    go : (b : Bool) → pairs_with limit new w ≡ b → Each P (arrive limit new rest) → Each P (arrive limit new (w ∷ rest))
    go true p ih = simp p (each_append P rest _ e.1 (paired p, tt))
    go false p ih = simp p (e.0, ih)

-- ---- an item as the days go

-- later, with more securities, in another state
pub item-state :
    (n n' t t' : ℕ) (h h' : Holdings) → n ≤ n' → ((c : ℕ) → admitted c h ≡ true → admitted c h' ≡ true) → (i : Item) (x : State)
    → StateFits i.security i.debited i.credited x → NotOverdue t' i.settlement_day x → ItemFits n t h i → ItemFits n' t' h' (with_state x i)
unfolding with_state
item-state n n' t t' h h' l a i x s d f = record {
  listed = a i.security f.listed;
  terms = f.terms;
  days = record {
    traded_least = f.days.traded_least;
    traded_most = omega (arith, f.days.traded_most);
    settles_least = f.days.settles_least;
    settles_most = omega (arith, f.days.settles_most);
  };
  state = s;
  due = d;
}

-- in its own state
pub item-later :
    (n n' t t' : ℕ) (h h' : Holdings) → n ≤ n' → t' ≡ t → ((c : ℕ) → admitted c h ≡ true → admitted c h' ≡ true) → (i : Item) → ItemFits n t h i
    → ItemFits n' t' h' i
unfolding with_state
item-later n n' t t' h h' l e a i f =
    item-state n n' t t' h h' l a i i.state f.state (subst (λ (x : ℕ). NotOverdue x i.settlement_day i.state) (sym e) f.due) f

-- a mark changes neither
mark-state :
    (t sender : ℕ) (i : Item) (x : State) → StateFits i.security i.debited i.credited x → NotOverdue t i.settlement_day x
    → StateFits i.security i.debited i.credited (marked sender (with_state x i)).state × NotOverdue t i.settlement_day (marked sender (with_state x i)).state
unfolding marked with_state
mark-state t sender i (Single d r) f g = (f, g)
mark-state t sender i (Pair d r dm rm) f g = go (sender is i.debited.member)
  where
    go :
        (b : Bool)
        → StateFits i.security i.debited i.credited (if b then Pair d r true rm else Pair d r dm true)
        × NotOverdue t i.settlement_day (if b then Pair d r true rm else Pair d r dm true)
    go true = (f, g)
    go false = (f, g)
mark-state t sender i (Trade r) f g = (f, g)

marked-fits : (n t : ℕ) (h : Holdings) (sender : ℕ) (i : Item) → ItemFits n t h i → ItemFits n t h (marked sender i)
unfolding marked with_state
marked-fits n t h sender i f =
    let m = mark-state t sender i i.state f.state f.due in
    item-state n n t t h h (omega arith) (λ c e. e) i (marked sender i).state m.0 m.1 f

pub marking-fits :
    (n t : ℕ) (h : Holdings) (sender reference : ℕ) (ws : List Item) → Each (ItemFits n t h) ws → Each (ItemFits n t h) (marking sender reference ws)
unfolding marking
marking-fits n t h sender reference ws e = each_map (ItemFits n t h) (ItemFits n t h) _ (λ i f. go i (sent_by sender reference i) f) ws e
  where
    go : (i : Item) (b : Bool) → ItemFits n t h i → ItemFits n t h (if b then marked sender i else i)
    go i true f = marked-fits n t h sender i f
    go i false f = f

-- the close: what stays is not due before the next day

is_no : (x : Bool) (n : ℕ) → (if x then suc n else 0) ≡ 0 → x ≡ false
is_no true n e = absurd (omega arith)
is_no false n e = refl

unmark_state :
    (i : Item) (x : State) → StateFits i.security i.debited i.credited x → StateFits i.security i.debited i.credited (unmarked (with_state x i)).state
unfolding unmarked with_state
unmark_state i (Single d r) f = f
unmark_state i (Pair d r dm rm) f = f
unmark_state i (Trade r) f = f

next_due :
    (day : ℕ) (i : Item) (x : State) → close_kind day (with_state x i) ≡ 0 → NotOverdue day i.settlement_day x
    → NotOverdue (day + 1) i.settlement_day (unmarked (with_state x i)).state
unfolding close_kind unmarked with_state
next_due day i (Single d r) k f = omega (arith, f, eqb-false i.settlement_day day (is_no (i.settlement_day is day) 0 k))
next_due day i (Pair d r dm rm) k f =
    omega (arith, f, eqb-false day (i.settlement_day + 10) (is_no (day is (i.settlement_day + 10)) 1 k))
next_due day i (Trade r) k f = omega (arith, leb-false i.settlement_day day (is_no (i.settlement_day at_most day) 2 k))

next_fits : (day : ℕ) (h : Holdings) (i : Item) → not (leaves day i) ≡ true → ItemFits day day h i → ItemFits day (day + 1) h (unmarked i)
unfolding leaves unmarked with_state
next_fits day h i e f =
    item-state day day day (day + 1) h h (omega arith) (λ c e. e) i (unmarked i).state (unmark_state i i.state f.state)
    (next_due day i i.state (eqb-true _ 0 (not-false _ (not-true _ e))) f.due) f

pub close-fits :
    (day : ℕ) (h : Holdings) (ws : List Item) → Each (ItemFits day day h) ws
    → Each (ItemFits day (day + 1) h) (map unmarked (keep (λ item. not (leaves day item)) ws))
close-fits day h ws e =
    each_map (λ i. ItemFits day (day + 1) h (unmarked i)) (ItemFits day (day + 1) h) unmarked (λ i f. f) (keep (λ item. not (leaves day item)) ws)
    (each_kept (ItemFits day day h) (λ i. ItemFits day (day + 1) h (unmarked i)) (λ item. not (leaves day item)) (λ i p f. next_fits day h i p f) ws e)

-- pairs

deliver_state_lem :
    (t s σ : ℕ) (d c : Party) (x : State) → is_deliver x ≡ true → StateFits σ d c x → NotOverdue t s x → SingleFits d c true (own_reference x) × (t ≤ s)
unfolding is_deliver own_reference
deliver_state_lem t s σ d c (Single true r) e f g = (f, g)
deliver_state_lem t s σ d c (Single false r) e f g = absurd (false≢true e)
deliver_state_lem t s σ d c (Pair x y dm rm) e f g = absurd (false≢true e)
deliver_state_lem t s σ d c (Trade r) e f g = absurd (false≢true e)

receive_state_lem : (σ : ℕ) (d c : Party) (x : State) → is_receive x ≡ true → StateFits σ d c x → SingleFits d c false (own_reference x)
unfolding is_receive own_reference
receive_state_lem σ d c (Single true r) e f = absurd (false≢true e)
receive_state_lem σ d c (Single false r) e f = f
receive_state_lem σ d c (Pair x y dm rm) e f = absurd (false≢true e)
receive_state_lem σ d c (Trade r) e f = absurd (false≢true e)

pair_fits : (n t : ℕ) (h : Holdings) (d r : Item) → Agreed d r → ItemFits n t h d → ItemFits n t h r → ItemFits n t h (pair_of d r)
unfolding pair_of
pair_fits n t h d r a f g =
    let x = deliver_state_lem t d.settlement_day d.security d.debited d.credited d.state a.delivers f.state f.due in
    let y = receive_state_lem r.security r.debited r.credited r.state a.receives g.state in
    record {
      listed = f.listed;
      terms = record {
        security_least = f.terms.security_least;
        security_most = f.terms.security_most;
        currency_least = f.terms.currency_least;
        currency_most = f.terms.currency_most;
        debited_named = f.terms.debited_named;
        credited_named = g.terms.credited_named;
        quantity_least = f.terms.quantity_least;
        quantity_most = f.terms.quantity_most;
        amount_least = g.terms.amount_least;
        amount_most = g.terms.amount_most;
      };
      days = f.days;
      state = record {
        deliver_named = x.0.named;
        receive_named = y.named;
        types = a.types;
        shareholders = a.shareholders;
        members = subst (λ (k : ℕ). (d.debited.member is k) ≡ false) a.credited_members x.0.members;
      };
      due = omega (arith, x.1);
    }

pub arrive-fits :
    (n t : ℕ) (h : Holdings) (limit : ℕ) (new : Item) → ItemFits n t h new → (ws : List Item) → Each (ItemFits n t h) ws
    → Each (ItemFits n t h) (arrive limit new ws)
arrive-fits n t h = arrive-each (ItemFits n t h) (pair_fits n t h)

-- ---- what a posting row can say of it

-- a party: a member, and a type that no pledged, blocked or outside count has
pub record PartyPosts (p : Party) : Type 0 where
  pub named : Named p.member p.shareholder
  pub typ : p.typ < 2 ^ 8
  pub quiet : Quiet p.typ

pub record ItemPosts (i : Item) : Type 0 where
  pub security : i.security < 2 ^ 14
  pub currency : i.currency < 2 ^ 2
  pub debited : PartyPosts i.debited
  pub credited : PartyPosts i.credited
  pub quantity : i.quantity.0 < 2 ^ 40
  pub amount : i.amount.0 < 2 ^ 40

party-posts : (p : Party) → Named p.member p.shareholder → p.typ < 2 ^ 8 → Quiet p.typ → PartyPosts p
party-posts p f l q = record { named = f; typ = l; quiet = q }

free-posts : (p : Party) → Named p.member p.shareholder → is_free p.typ ≡ true → PartyPosts p
free-posts p f e = party-posts p f (free-fits p.typ e) (free-quiet p.typ e)

no_type_posts : (p : Party) → Named p.member p.shareholder → p.typ ≡ 0 → PartyPosts p
no_type_posts p f e = party-posts p f (omega arith) (subst Quiet (sym e) zero_quiet)

parties_post : (σ : ℕ) (d c : Party) (x : State) → Named d.member d.shareholder → Named c.member c.shareholder → StateFits σ d c x → PartyPosts d × PartyPosts c
parties_post σ d c (Single true r) p q f = (free-posts d p f.own, no_type_posts c q f.other)
parties_post σ d c (Single false r) p q f = (no_type_posts d p f.other, free-posts c q f.own)
parties_post σ d c (Pair x y dm rm) p q f =
    let z = alike-free d.typ c.typ f.types in
    (free-posts d p z.0, free-posts c q z.1)
parties_post σ d c (Trade r) p q f =
    let z = alike-free d.typ c.typ f.types in
    (free-posts d p z.0, free-posts c q z.1)

pub item-posts : (n t : ℕ) (h : Holdings) (i : Item) → ItemFits n t h i → ItemPosts i
item-posts n t h i f =
    let p = parties_post i.security i.debited i.credited i.state f.terms.debited_named f.terms.credited_named f.state in
    record {
      security = f.terms.security_most;
      currency = omega (arith, f.terms.currency_most);
      debited = p.0;
      credited = p.1;
      quantity = f.terms.quantity_most;
      amount = f.terms.amount_most;
    }
