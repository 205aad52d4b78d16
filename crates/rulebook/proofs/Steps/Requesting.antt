-- Forms 19 and 20: a request is opened, and one is ended; each makes one movement. Assumes nothing.
use Rattle.std.specs.Prelude.{if◌then◌else◌}
use mathlib.Core.Path.{◌≡◌, refl}
use mathlib.Core.Bool.{Bool, true, false}
use mathlib.Core.List.{[], ◌∷◌}
use Prim.Native.Nat.{ℕ}
use native.Mathlib.Omega.{arith}
use Rattle.rulebook.specs.TypeTable.{requested}
use Rattle.rulebook.specs.AccountTypes.{is_outside, pledged_or_blocked}
use Rattle.rulebook.specs.Ledger.{Ledger, admitted, account_of, request_account}
use Rattle.rulebook.specs.Movements.{Place, account, type91, move, booked}
use Rattle.rulebook.specs.Forms.{new_request, ended_request, request_paper, end_request, forms, row_of}
use Rattle.rulebook.specs.Premise.{RequestFits, Premise}
use Rattle.rulebook.specs.declared.Order.{Order}
use Rattle.rulebook.specs.declared.Request.{Request}
use Rattle.rulebook.proofs.Types.{Quiet, free-quiet, paper_free, requested-free, ends-free, free-fits, request_paper_lem}
use Rattle.rulebook.proofs.Securities.{known}
use Rattle.rulebook.proofs.Places.{Known}
use Rattle.rulebook.proofs.Reading.{Proper}
use Rattle.rulebook.proofs.Requests.{covered}
use Rattle.rulebook.proofs.Orders.{Accepted, debit-offered, debit-enough, right_types, is_ended}
use Rattle.rulebook.proofs.Steps.OneCall.{Figures, Recounts, Steps}
use Rattle.rulebook.proofs.Steps.Settling.{requests_offered}
use Rattle.rulebook.proofs.Steps.Moving.{moves_with, account_proper, apart, party-apart, awaits, inside, left_less}

pub request_steps : Steps 19 request_paper
unfolding request_paper request_account account_of forms row_of
request_steps b o e p a =
    let t = free-quiet o.debited.typ (paper_free o.debited.typ (request_paper_lem o.debited.typ o.credited.typ (right_types 19 b o e a.types))) in
    let to = request_account requested o.debited.member (new_request b.day.number o) in
    let d = a.fits.debited in
    moves_with 19 b o _
    (account (account_of o.security o.debited)) (account to) o.quantity.0 refl p refl tt tt
    (debit-enough b o a.little (simp e)) (debit-offered b o a.little (simp e)) (account_proper o.security o.debited a.fits.security d t.1)
    (a.fits.security, d.member, omega arith, d.shareholder, refl) a.fits.quantity
    (record {
      held = λ s. omega arith;
      outside = λ s. refl;
      cash = λ c. refl;
      pledged = λ x q. (
        omega (arith, party-apart pledged_or_blocked o.security o.debited t.0 o.quantity.0 x q),
        simp (apart pledged_or_blocked x to q requested-free),
      );
      awaited = λ x q. (omega (arith, party-apart awaits o.security o.debited t.2 o.quantity.0 x q), omega arith);
    })
    (inside 19 b o _ _ _ _ (λ k. refl) (λ s. refl))

-- the request that a form 20 ends, and where its shares go, by whether that is outside
module _ (b : Ledger) (o : Order) (e : o.form ≡ 20) (p : Premise b) (a : Accepted b o) where
  abbrev member : ℕ
  member = o.debited.member

  abbrev ended : Request
  ended = ended_request b o

  fits : RequestFits b.day.number b.holdings member o.reference ended
  fits = p.requests member o.reference (is_ended b o e a.request).0

  abbrev place : Bool → Place
  place outside = if outside then type91 ended.security else account (request_account o.credited.typ member ended)

  place-known : (t : Bool) → Known b.holdings (place t)
  place-known true = omega (arith, known ended.security b.holdings.securities (unfold admitted in fits.listed), p.codes ended.security)
  place-known false = tt

  -- where the shares stay in the book the type is free
  quiet : (is_outside o.credited.typ) ≡ false → Quiet o.credited.typ
  quiet n = free-quiet o.credited.typ (ends-free ended.typ o.credited.typ n (is_ended b o e a.request).1)

  place-proper : (t : Bool) → (is_outside o.credited.typ) ≡ t → Proper (place t)
  unfolding request_account
  place-proper true n = fits.security
  place-proper false n =
      let f = free-fits o.credited.typ (ends-free ended.typ o.credited.typ n (is_ended b o e a.request).1) in
      (fits.security, omega (arith, fits.named.member_most), f, fits.named.shareholder_most, (quiet n).1)

  figures :
      (t : Bool) → (is_outside o.credited.typ) ≡ t
      → Figures 20 b o (move (account (request_account requested member ended)) (place t) ended.quantity.0 ∷ [])
  unfolding request_account
  figures true n = record {
    held = λ s. simp n (omega arith);
    outside = λ s. simp n (omega arith);
    cash = λ c. refl;
    pledged = λ x q. (simp (apart pledged_or_blocked x (request_account requested member ended) q requested-free), refl);
    awaited = λ x q. (omega arith, refl);
  }
  figures false n = record {
    held = λ s. simp n (omega arith);
    outside = λ s. simp n;
    cash = λ c. refl;
    pledged = λ x q. (
      simp (apart pledged_or_blocked x (request_account requested member ended) q requested-free),
      simp (apart pledged_or_blocked x (request_account o.credited.typ member ended) q (quiet n).0),
    );
    awaited = λ x q. (omega arith, simp (apart awaits x (request_account o.credited.typ member ended) q (quiet n).2));
  }

  recounts :
      (t : Bool) → (is_outside o.credited.typ) ≡ t
      → Recounts 20 b o b.holdings (booked (move (account (request_account requested member ended)) (place t) ended.quantity.0 ∷ []) b.holdings)
  unfolding request_account
  recounts true n s =
      simp n (omega (
        arith,
        left_less b p (request_account requested member ended) ended.quantity.0 (place-known true)
            (covered b member o.reference p (is_ended b o e a.request).0) s,
      ))
  recounts false n s = inside 20 b o _ _ _ _ (λ k. refl) (λ s. simp n) s

pub end_steps : Steps 20 end_request
unfolding end_request request_account forms row_of
end_steps b o e p a =
    let x : Request = ended_request b o in
    let f = fits b o e p a in
    moves_with 20 b o _
    (account (request_account requested o.debited.member x)) (place b o e p a (is_outside o.credited.typ)) x.quantity.0 refl p refl tt
    (place-known b o e p a (is_outside o.credited.typ)) (covered b o.debited.member o.reference p (is_ended b o e a.request).0)
    (omega (
      arith,
      requests_offered b (request_account requested o.debited.member x) p refl,
      covered b o.debited.member o.reference p (is_ended b o e a.request).0,
    ))
    (f.security, omega (arith, f.named.member_most), omega arith, f.named.shareholder_most, refl)
    (place-proper b o e p a (is_outside o.credited.typ) refl) f.quantity (figures b o e p a (is_outside o.credited.typ) refl)
    (recounts b o e p a (is_outside o.credited.typ) refl)
