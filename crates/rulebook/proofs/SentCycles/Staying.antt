-- What a sent cycle has fixed stays, over every list of calls in which none answers it. Assumes nothing.
use Rattle.std.specs.Prelude.{Ok}
use mathlib.Core.Path.{◌≡◌, refl, sym, ◌∙◌}
use mathlib.Core.Bool.{true, false, false≢true}
use mathlib.Core.List.{List, [], ◌∷◌}
use Prim.Native.Nat.{ℕ}
use Rattle.plain.specs.Lists.{◌is◌, some, first}
use Rattle.plain.proofs.Lists.{◌and◌, some-append}
use Rattle.plain.proofs.Tests.{neither}
use Rattle.rulebook.specs.Ledger.{Ledger, put_day, put_holdings, put_waiting, put_rate, put_requests}
use Rattle.rulebook.specs.Cycle.{fixed, settled}
use Rattle.rulebook.specs.Forms.{outcome, moving, silent, admit, deposit, withdraw, transfer, instruct, trade, cancel, set_rate, request_paper, end_request, forms, effect}
use Rattle.rulebook.specs.Record.{read_of}
use Rattle.rulebook.specs.Refusals.{refusals}
use Rattle.rulebook.specs.Call.{Result, put_minute}
use Rattle.rulebook.specs.Calls.{Call, result_of, record_in, calls_on, book_after, Accepted as Made, accepted_of, accepted_calls}
use Rattle.rulebook.specs.Premise.{Premise}
use Rattle.rulebook.specs.SentCycles.{answers_cycle, FixedStays}
use Rattle.rulebook.specs.declared.Order.{Order}
use Rattle.rulebook.proofs.ByCall.{Effect, AllForms, accepted_call, not_read, by_form, by_answer}
use Rattle.rulebook.proofs.Orders.{Accepted, accepted, opens-next, none_sent}
use Rattle.rulebook.proofs.EveryCall.{call_premise}
use Rattle.rulebook.proofs.EveryCall.Fixed.{instruct-fixed, trade-fixed, cancel-fixed}

-- the cycle is still sent, and its fixed trades are the same
abbrev Stays : Ledger → Ledger → Type 0
Stays b after = (after.day.sent ≡ true) × (fixed after.waiting ≡ fixed b.waiting)

abbrev Keeps : ℕ → Effect → Type 0
Keeps n f = (b : Ledger) (o : Order) → o.form ≡ n → Premise b → Accepted b o → b.day.sent ≡ true → (n is 21) ≡ false → Stays b (f b o).after

-- forms that come only where no cycle is sent
pub not_while_sent : {A : Type 0} (b : Ledger) → b.day.sent ≡ false → b.day.sent ≡ true → A
not_while_sent b n s = absurd (false≢true (sym n ∙ s))

forms-keep : AllForms (λ n f. Keeps n f.effect) 1 forms
unfolding
    forms admit deposit withdraw transfer instruct trade cancel set_rate request_paper end_request moving silent outcome put_holdings put_waiting put_rate
    put_requests
forms-keep =
    (λ b o e p a s t. absurd (false≢true (sym (opens-next b o e a.right_day).0 ∙ p.day.sent_open s)))
    and (λ b o e p a s t. (s, refl)) and (λ b o e p a s t. (s, refl)) and (λ b o e p a s t. (s, refl)) and (λ b o e p a s t. (s, refl))
    and (λ b o e p a s t. (s, refl)) and (λ b o e p a s t. (s, refl)) and (λ b o e p a s t. (s, refl)) and (λ b o e p a s t. (s, refl))
    and (λ b o e p a s t. not_while_sent b (none_sent b o 10 e refl a.answered) s)
    and (λ b o e p a s t. not_while_sent b (none_sent b o 11 e refl a.answered) s)
    and (λ b o e p a s t. (s, unfold instruct silent outcome put_waiting in instruct-fixed 12 b o e p a))
    and (λ b o e p a s t. (s, unfold instruct silent outcome put_waiting in instruct-fixed 13 b o e p a))
    and (λ b o e p a s t. (s, unfold trade silent outcome put_waiting in trade-fixed b o e p a))
    and (λ b o e p a s t. (s, unfold cancel outcome put_waiting in cancel-fixed b o e p a))
    and (λ b o e p a s t. not_while_sent b (none_sent b o 16 e refl a.answered) s)
    and (λ b o e p a s t. not_while_sent b (none_sent b o 17 e refl a.answered) s)
    and (λ b o e p a s t. (s, refl)) and (λ b o e p a s t. (s, refl)) and (λ b o e p a s t. (s, refl))
    and (λ b o e p a s t. absurd (false≢true (sym t))) and tt

-- what a call does to it
abbrev CallKeeps : Ledger → List Made → Ledger → Type 0
CallKeeps b calls after = Premise b → b.day.sent ≡ true → some answers_cycle calls ≡ false → Stays b after

order-keeps :
    (b : Ledger) (o : Order) (bytes area : List ℕ) → read_of bytes ≡ Ok o → first (refusals b o) ≡ 0
    → CallKeeps b (accepted_call b o area ∷ []) (put_minute o.minute (effect b o).after)
unfolding put_minute put_day effect
order-keeps b o bytes area e z p s w =
    by_form (λ n f. Keeps n f.effect) forms-keep (λ m none b o e p a s t. absurd (not_read none e a.ranges.form)) o.form b o refl p (accepted b o bytes e z) s
    (neither (o.form is 21) false w).0

pub call_keeps : (b : Ledger) (c : Call) → CallKeeps b (accepted_of (result_of b c).answer (record_in c) (result_of b c).area) (result_of b c).book
call_keeps = by_answer CallKeeps (λ b p s w. (s, refl)) order-keeps

pub calls-keep :
    (b : Ledger) (calls : List Call) → Premise b → b.day.sent ≡ true → some answers_cycle (accepted_calls (calls_on b calls)) ≡ false
    → Stays b (book_after b calls)
unfolding calls_on book_after accepted_calls
calls-keep b [] p s w = (s, refl)
calls-keep b (c ∷ rest) p s w =
    let x : Result = result_of b c in
    let now = accepted_of x.answer (record_in c) x.area in
    let later = accepted_calls (calls_on x.book rest) in
    let t = neither (some answers_cycle now) (some answers_cycle later) (sym (some-append answers_cycle now later) ∙ w) in
    let k = call_keeps b c p s t.0 in
    let l = calls-keep x.book rest (call_premise b c p) k.0 t.1 in
    (l.0, l.1 ∙ k.1)

pub fixed-stays : FixedStays
unfolding FixedStays settled
fixed-stays b calls p s w = calls-keep b calls p s w
