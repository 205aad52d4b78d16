-- Refusal 18 as a test on the book before the call, for the forms that can lack space. Assumes nothing.
use Rattle.std.specs.Prelude.{if◌then◌else◌}
use mathlib.Core.Path.{◌≡◌, refl, sym, ap, ◌∙◌}
use mathlib.Core.Bool.{Bool, true, false, not, ◌&&◌, ◌||◌, false≢true, and-true, and-false}
use mathlib.Core.List.{List, [], ◌∷◌, ◌++◌}
use Prim.Native.Nat.{ℕ, zero, suc, ◌+◌, ◌-◌, ◌≤◌, ◌<◌}
use native.Mathlib.Omega.{arith}
use borrow.Author.Tests.{ltb-true, ltb-false, lt-ltb, le-ltb, eqb-true, eqb-false}
use lib.ListN.{length, length-append}
use Rattle.rulebook.specs.declared.Item.{Item}
use Rattle.rulebook.specs.declared.Order.{Order}
use Rattle.rulebook.specs.declared.Request.{Request}
use Rattle.rulebook.specs.declared.Security.{Security}
use Rattle.rulebook.specs.declared.State.TheVariants.{Trade}
use Rattle.plain.specs.Lists.{◌is◌, ◌is_not◌, ◌below◌, ◌one_of◌, some}
use Rattle.rulebook.specs.TypeTable.{requested}
use Rattle.rulebook.specs.AccountTypes.{ends, is_outside}
use Rattle.rulebook.specs.Ledger.{Ledger, Holdings, account_of, request_account, same_account, counted, put_balance, put_securities, put_outside, put_held, put_holdings, put_waiting, put_requests, new_security}
use Rattle.rulebook.specs.declared.Account.{Account}
use Rattle.rulebook.specs.Movements.{Place, Movement, account, type91, type90, move, credit, debit, credits, debits, recounted, booked}
use Rattle.rulebook.specs.Waiting.{item_of, single_of}
use Rattle.rulebook.specs.Matching.{tolerance, pairs_with, arrive}
use Rattle.rulebook.specs.Forms.{Outcome, outcome, moving, silent, admit, deposit, transfer, instruct, trade, new_request, ended_request, request_paper, end_request, forms, row_of}
use Rattle.rulebook.specs.Refusals.{no_space, wrong_pair, wrong_parties}
use Rattle.rulebook.specs.Premise.{Sizes}
use Rattle.rulebook.proofs.ByCall.{effect-at}
use Rattle.rulebook.proofs.Held.{put_other}
use Rattle.rulebook.proofs.Places.{is_sym}
use Rattle.rulebook.proofs.Types.{free-quiet, paper_free, ends-free, request_paper_lem, put-in_apart, pledge_types, release_types, block_types, unblock_types}
use Rattle.rulebook.proofs.Orders.{right_types}
use Rattle.rulebook.proofs.Sizes.{counted_none, counted-some, opened, booked-accounts, booked-listed}

-- the test, on the counts that a book would have
abbrev full : (securities items accounts : ℕ) → Bool
full s i a = 32 below s || 64 below i || 256 below (a + i)

space_is :
    (n : ℕ) (b : Ledger) (o : Order) → o.form ≡ n → (after : Ledger) → ((row_of n).effect b o).after ≡ after → (s i a : ℕ) → length after.holdings.securities ≡ s
    → length after.waiting ≡ i → after.holdings.accounts ≡ a → no_space b o ≡ full s i a
unfolding no_space
space_is n b o e after f s i a p q r = rw (effect-at n b o e) (rw f (rw (p, q, r)))

-- two comparisons that are the same
below_same : (a b c d : ℕ) → (a < b → c < d) → (c < d → a < b) → (a below b) ≡ (c below d)
below_same a b c d f g = go (a below b) refl
  where
    go : (t : Bool) → (a below b) ≡ t → (a below b) ≡ (c below d)
    go true p = p ∙ sym (lt-ltb c d (f (ltb-true a b p)))
    go false p = p ∙ sym (le-ltb c d (not-less (c below d) refl))
      where
        not-less : (u : Bool) → (c below d) ≡ u → d ≤ c
        not-less true q = let l = g (ltb-true c d q) in let m = ltb-false a b p in absurd (omega arith)
        not-less false q = ltb-false c d q

module _ (b : Ledger) (o : Order) (z : Sizes b) where
  abbrev securities : ℕ
  securities = length b.holdings.securities

  abbrev items : ℕ
  items = length b.waiting

  abbrev accounts : ℕ
  accounts = b.holdings.accounts

  -- 2. a security more
  pub admit-space : o.form ≡ 2 → no_space b o ≡ (31 below securities)
  unfolding forms row_of admit moving outcome put_holdings
  admit-space e =
      let new : Security = new_security o.security o.quantity in
      let h = put_securities (b.holdings.securities ++ (new ∷ [])) b.holdings in
      let ms = move (type90 o.security) (type91 o.security) o.quantity.0 ∷ [] in
      let l : length (booked ms h).securities ≡ securities + 1 =
      booked-listed ms h ∙ (unfold put_securities in length-append b.holdings.securities (new ∷ [])) in
      let a : (booked ms h).accounts ≡ accounts = unfold booked credits debits credit debit recounted put_outside put_securities in refl in
      let s = space_is 2 b o e (put_holdings (booked ms h) b) refl (securities + 1) items accounts l refl a in
      s
      ∙ simp (le-ltb 64 items z.items, le-ltb 256 (accounts + items) z.accounts)
      (or_no (32 below (securities + 1)) ∙ below_same 32 (securities + 1) 31 securities (λ l. omega arith) (λ l. omega arith))
    where
      or_no : (x : Bool) → (x || false || false) ≡ x
      or_no true = refl
      or_no false = refl

  -- 14. an item more
  pub trade-space : o.form ≡ 14 → no_space b o ≡ (63 below items || 255 below (accounts + items))
  unfolding forms row_of trade silent outcome put_waiting
  trade-space e =
      let new = item_of (Trade o.reference) o in
      let l : length (b.waiting ++ (new ∷ [])) ≡ items + 1 = length-append b.waiting (new ∷ []) in
      let s = space_is 14 b o e (put_waiting (b.waiting ++ (new ∷ [])) b) refl securities (items + 1) accounts refl l refl in
      s
      ∙ simp (
        le-ltb 32 securities z.securities,
        below_same 64 (items + 1) 63 items (λ l. omega arith) (λ l. omega arith),
        below_same 256
            (accounts + (items + 1)) 255 (accounts + items) (λ l. omega arith) (λ l. omega arith),
      )

  -- 12 and 13. an item more, where none pairs with it

  arrive-length : (limit : ℕ) (new : Item) (ws : List Item) → length (arrive limit new ws) ≡ length ws + (if some (pairs_with limit new) ws then 0 else 1)
  unfolding arrive
  arrive-length limit new [] = refl
  arrive-length limit new (w ∷ rest) = go (pairs_with limit new w) refl (arrive-length limit new rest)
    where
      go :
          (t : Bool) → pairs_with limit new w ≡ t → length (arrive limit new rest) ≡ length rest + (if some (pairs_with limit new) rest then 0 else 1)
          → length (arrive limit new (w ∷ rest)) ≡ length (w ∷ rest) + (if some (pairs_with limit new) (w ∷ rest) then 0 else 1)
      go true p ih = simp (p, length-append) (omega arith)
      go false p ih = simp p (omega (arith, ih))

  abbrev arriving : Item
  arriving = single_of o

  pub instruct-space :
      (o.form one_of (12 ∷ 13 ∷ [])) ≡ true
      → no_space b o ≡ (not (some (pairs_with (tolerance b.rate o.currency) arriving) b.waiting) && (63 below items || 255 below (accounts + items)))
  unfolding forms row_of instruct silent outcome put_waiting
  instruct-space t = go (o.form is 12) refl t
    where
      limit : ℕ
      limit = tolerance b.rate o.currency

      matched : Bool
      matched = some (pairs_with limit arriving) b.waiting

      by : (m : Bool) → full securities (items + (if m then 0 else 1)) accounts ≡ (not m && (63 below items || 255 below (accounts + items)))
      by true =
          let p : items + 0 ≡ items = omega arith in
          rw p (simp (le-ltb 32 securities z.securities, le-ltb 64 items z.items, le-ltb 256 (accounts + items) z.accounts))
      by false =
          simp (
            le-ltb 32 securities z.securities,
            below_same 64 (items + 1) 63 items (λ l. omega arith) (λ l. omega arith),
            below_same 256
                (accounts + (items + 1)) 255 (accounts + items) (λ l. omega arith) (λ l. omega arith),
          )

      at : (n : ℕ) → o.form ≡ n → ((row_of n).effect b o).after ≡ put_waiting (arrive limit arriving b.waiting) b
          → no_space b o ≡ (not matched && (63 below items || 255 below (accounts + items)))
      at n e f =
          space_is n b o e (put_waiting (arrive limit arriving b.waiting) b) f securities (items + (if matched then 0 else 1)) accounts refl
          (arrive-length limit arriving b.waiting) refl
          ∙ by matched

      go :
          (x : Bool) → (o.form is 12) ≡ x → (o.form is 12 || (o.form is 13 || false)) ≡ true → no_space b o
          ≡ (not matched && (63 below items || 255 below (accounts + items)))
      go true p q = at 12 (eqb-true o.form 12 p) refl
      go false p q = at 13 (eqb-true o.form 13 (last (o.form is 13) (simp p at q))) refl
        where
          last : (y : Bool) → (y || false) ≡ true → y ≡ true
          last true r = refl
          last false r = absurd (false≢true r)

  -- 3. an account more, where the credited one has no balance

  abbrev from : Account
  from = account_of o.security o.debited

  abbrev to : Account
  to = account_of o.security o.credited

  abbrev has : Account → ℕ
  has a = b.holdings.balance a

  opens_by : (a : Account) (t : Bool) → (has a is 0) ≡ t → full securities items (accounts + 1 - counted (has a)) ≡ (t && 255 below (accounts + items))
  opens_by a true p =
      let c : counted (has a) ≡ 0 = ap counted (eqb-true (has a) 0 p) ∙ counted_none in
      let q : accounts + 1 - counted (has a) ≡ accounts + 1 = omega (arith, c) in
      rw q
      (simp (
        le-ltb 32 securities z.securities,
        le-ltb 64 items z.items,
        below_same 256 (accounts + 1 + items) 255 (accounts + items) (λ l. omega arith)
            (λ l. omega arith),
      ))
  opens_by a false p =
      let n = eqb-false (has a) 0 p in
      let c = counted-some (has a) (omega (arith, n)) in
      let q : accounts + 1 - counted (has a) ≡ accounts = omega (arith, c) in
      rw q (simp (le-ltb 32 securities z.securities, le-ltb 64 items z.items, le-ltb 256 (accounts + items) z.accounts))

  pub deposit-space : o.form ≡ 3 → 1 ≤ o.quantity.0 → no_space b o ≡ (has to is 0 && 255 below (accounts + items))
  unfolding forms row_of deposit moving outcome put_holdings
  deposit-space e l =
      let ms = move (type91 o.security) (account to) o.quantity.0 ∷ [] in
      let a : (booked ms b.holdings).accounts ≡ accounts + counted (has to + o.quantity.0) - counted (has to) =
      unfold booked credits debits credit debit recounted put_outside put_held put_securities put_balance in refl
      in
      let c = counted-some (has to + o.quantity.0) (omega arith) in
      space_is 3 b o e (put_holdings (booked ms b.holdings) b) refl securities items (accounts + 1 - counted (has to)) (booked-listed ms b.holdings) refl
      (a ∙ ap (λ (k : ℕ). accounts + k - counted (has to)) c)
      ∙ opens_by to (has to is 0) refl

  -- shares that go from one account to another: the same, where the debited one keeps a balance
  module _ (x y : Account) (k : ℕ) (some : 1 ≤ k) (enough : k ≤ has x) (apart : same_account y x ≡ false) where
    shift_by :
        (t : Bool) → (has x is k) ≡ t
        → full securities items (accounts + 1 - counted (has y) + counted (has x - k) - 1) ≡ (has y is 0 && not t && 255 below (accounts + items))
    shift_by true p =
        let m = eqb-true (has x) k p in
        let d : has x - k ≡ 0 = omega (arith, m) in
        let c : counted (has x - k) ≡ 0 = ap counted d ∙ counted_none in
        let l : accounts + 1 - counted (has y) + counted (has x - k) - 1 ≤ accounts = omega (arith, c) in
        simp (
          le-ltb 32 securities z.securities,
          le-ltb 64 items z.items,
          le-ltb 256 (accounts + 1 - counted (has y) + counted (has x - k) - 1 + items) (omega (arith, l, z.accounts)),
          and-false,
        )
    shift_by false p =
        let m = eqb-false (has x) k p in
        let c = counted-some (has x - k) (omega (arith, m)) in
        let l : accounts + 1 - counted (has y) + counted (has x - k) - 1 ≡ accounts + 1 - counted (has y) = omega (arith, c) in
        rw l (simp and-true (opens_by y (has y is 0) refl))

    shift_space :
        (n : ℕ) → o.form ≡ n → (after : Ledger) → ((row_of n).effect b o).after ≡ after
        → after.holdings ≡ booked (move (account x) (account y) k ∷ []) b.holdings → after.waiting ≡ b.waiting
        → no_space b o ≡ (has y is 0 && has x is_not k && 255 below (accounts + items))
    shift_space n e after f same waits =
        let ms = move (account x) (account y) k ∷ [] in
        let h = put_balance y (has y + k) b.holdings in
        let f₂ : h.balance x ≡ has x = put_other b.holdings y (has y + k) x apart in
        let g : h.accounts ≡ accounts + counted (has y + k) - counted (has y) = unfold put_balance in refl in
        let a : (booked ms b.holdings).accounts ≡ h.accounts + counted (h.balance x - k) - counted (h.balance x) =
        unfold booked credits debits credit debit recounted put_balance in refl
        in
        let c = counted-some (has y + k) (omega arith) in
        let c₂ = counted-some (has x) (omega arith) in
        let r : (booked ms b.holdings).accounts ≡ accounts + 1 - counted (has y) + counted (has x - k) - 1 =
        omega (arith, a, g, c, c₂, ap (λ (v : ℕ). counted (v - k)) f₂, ap counted f₂)
        in
        space_is n b o e after f securities items _ (ap (λ (h : Holdings). length h.securities) same ∙ booked-listed ms b.holdings)
        (ap (λ (ws : List Item). length ws) waits) (ap (λ (h : Holdings). h.accounts) same ∙ r)
        ∙ shift_by (has x is k) refl

  -- 5 to 9

  shift_form : (k : ℕ) → k ≤ 4 → (row_of (5 + k)).effect b o ≡ transfer b o
  unfolding forms row_of
  shift_form zero l = refl
  shift_form (suc zero) l = refl
  shift_form (suc (suc zero)) l = refl
  shift_form (suc (suc (suc zero))) l = refl
  shift_form (suc (suc (suc (suc zero)))) l = refl
  shift_form (suc (suc (suc (suc (suc k))))) l = absurd (omega arith)

  pub transfer-space :
      5 ≤ o.form → o.form ≤ 9 → 1 ≤ o.quantity.0 → o.quantity.0 ≤ has from → same_account to from ≡ false
      → no_space b o ≡ (has to is 0 && has from is_not o.quantity.0 && 255 below (accounts + items))
  unfolding transfer moving outcome put_holdings
  transfer-space l u q e d =
      let n : 5 + (o.form - 5) ≡ o.form = omega arith in
      shift_space from to o.quantity.0 q e d (5 + (o.form - 5)) (sym n) (transfer b o).after
      (ap (λ (x : Outcome). x.after) (shift_form (o.form - 5) (omega arith))) refl refl

  -- 19

  abbrev requesting : Account
  requesting = request_account requested o.debited.member (new_request b.day.number o)

  pub request_space :
      o.form ≡ 19 → 1 ≤ o.quantity.0 → o.quantity.0 ≤ has from → same_account requesting from ≡ false
      → no_space b o ≡ (has requesting is 0 && has from is_not o.quantity.0 && 255 below (accounts + items))
  unfolding forms row_of request_paper moving outcome put_holdings put_requests
  request_space n q e d = shift_space from requesting o.quantity.0 q e d 19 n (request_paper b o).after refl refl refl

  -- 20, to a type of paper or outside

  abbrev ended : Request
  ended = ended_request b o

  abbrev awaiting : Account
  awaiting = request_account requested o.debited.member ended

  abbrev paper : Account
  paper = request_account o.credited.typ o.debited.member ended

  pub ending-space :
      o.form ≡ 20 → (is_outside o.credited.typ) ≡ false → 1 ≤ ended.quantity.0 → ended.quantity.0 ≤ has awaiting → same_account paper awaiting ≡ false
      → no_space b o ≡ (has paper is 0 && has awaiting is_not ended.quantity.0 && 255 below (accounts + items))
  unfolding forms row_of end_request moving outcome put_holdings put_requests
  ending-space n t q e d =
      shift_space awaiting paper ended.quantity.0 q e d 20 n (end_request b o).after refl
      (ap (λ (p : Place). booked (move (account awaiting) p ended.quantity.0 ∷ []) b.holdings) to_paper) refl
    where
      to_paper : (if is_outside o.credited.typ then type91 ended.security else account paper) ≡ account paper
      to_paper = rw t

  pub leaving-space : o.form ≡ 20 → (is_outside o.credited.typ) ≡ true → no_space b o ≡ false
  unfolding forms row_of end_request moving outcome put_holdings put_requests
  leaving-space n t =
      space_is 20 b o n (end_request b o).after refl securities items (booked ms b.holdings).accounts
      (booked-listed ms b.holdings) refl refl
      ∙ simp (
        le-ltb 32 securities z.securities,
        le-ltb 64 items z.items,
        le-ltb 256 ((booked ms b.holdings).accounts + items) (omega (arith, booked-accounts ms b.holdings, none, z.accounts)),
      )
    where
      ms : List Movement
      ms = move (account awaiting) (if is_outside o.credited.typ then type91 ended.security else account paper) ended.quantity.0 ∷ []

      none : opened ms ≡ 0
      none = rw t

-- ---- the two accounts of an accepted form 5 to 9 differ

pub same_sym : (a b : Account) → same_account a b ≡ same_account b a
unfolding same_account
same_sym a b = simp (is_sym a.security b.security, is_sym a.member b.member, is_sym a.typ b.typ, is_sym a.shareholder b.shareholder)

types_apart : (a b : Account) → (a.typ is b.typ) ≡ false → same_account a b ≡ false
unfolding same_account
types_apart a b e = simp (e, and-false)

module _ (b : Ledger) (o : Order) where
  abbrev debited : Account
  debited = account_of o.security o.debited

  abbrev credited : Account
  credited = account_of o.security o.credited

  shift_apart : (k : ℕ) → k ≤ 4 → o.form ≡ 5 + k → wrong_pair o ≡ false → wrong_parties o ≡ false → same_account credited debited ≡ false
  unfolding account_of wrong_parties
  shift_apart zero l e t w = same_sym credited debited ∙ go (o.debited.shareholder is_not o.credited.shareholder) (same_account debited credited) (simp e at w)
    where
      go : (x y : Bool) → (x || false || false || y) ≡ false → y ≡ false
      go true y p = absurd (false≢true (sym p))
      go false y p = p
  shift_apart (suc zero) l e t w =
      types_apart credited debited
      (is_sym o.credited.typ o.debited.typ ∙ put-in_apart o.debited.typ o.credited.typ (pledge_types o.debited.typ o.credited.typ (right_types 6 b o e t)))
  shift_apart (suc (suc zero)) l e t w =
      types_apart credited debited (put-in_apart o.credited.typ o.debited.typ (release_types o.debited.typ o.credited.typ (right_types 7 b o e t)))
  shift_apart (suc (suc (suc zero))) l e t w =
      types_apart credited debited
      (is_sym o.credited.typ o.debited.typ ∙ put-in_apart o.debited.typ o.credited.typ (block_types o.debited.typ o.credited.typ (right_types 8 b o e t)))
  shift_apart (suc (suc (suc (suc zero)))) l e t w =
      types_apart credited debited (put-in_apart o.credited.typ o.debited.typ (unblock_types o.debited.typ o.credited.typ (right_types 9 b o e t)))
  shift_apart (suc (suc (suc (suc (suc k))))) l e t w = absurd (omega arith)

  pub sides_apart : 5 ≤ o.form → o.form ≤ 9 → wrong_pair o ≡ false → wrong_parties o ≡ false → same_account credited debited ≡ false
  sides_apart l u = shift_apart (o.form - 5) (omega arith) (omega arith)

-- ---- so do those of forms 19 and 20

module _ (b : Ledger) (o : Order) where
  pub request_apart :
      o.form ≡ 19 → wrong_pair o ≡ false
      → same_account (request_account requested o.debited.member (new_request b.day.number o)) (account_of o.security o.debited) ≡ false
  unfolding request_account account_of
  request_apart e w =
      let entry = request_paper_lem o.debited.typ o.credited.typ (right_types 19 b o e w) in
      types_apart (request_account requested o.debited.member (new_request b.day.number o)) (account_of o.security o.debited)
      (is_sym requested o.debited.typ ∙ (free-quiet o.debited.typ (paper_free o.debited.typ entry)).2)

  pub ending-apart :
      (is_outside o.credited.typ) ≡ false → ends (ended_request b o).typ o.credited.typ ≡ true
      → same_account (request_account o.credited.typ o.debited.member (ended_request b o)) (request_account requested o.debited.member (ended_request b o)) ≡ false
  unfolding request_account
  ending-apart n w =
      types_apart (request_account o.credited.typ o.debited.member (ended_request b o)) (request_account requested o.debited.member (ended_request b o))
      (free-quiet o.credited.typ (ends-free (ended_request b o).typ o.credited.typ n w)).2
