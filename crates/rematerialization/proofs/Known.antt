-- What is known of a book and a form 19 or 20 that no refusal applies to, as the book and the booking of a movement ask for it. Assumes nothing.
use Prim.Native.Nat.{ℕ, ◌≤◌, ◌<◌}
use mathlib.Core.Path.{◌≡◌, refl, sym, ◌∙◌}
use mathlib.Core.Bool.{false}
use mathlib.Core.List.{List}
use native.Mathlib.Omega.{arith}
use Rattle.plain.specs.Lists.{◌is◌}
use Rattle.rulebook.specs.TypeTable.{requested}
use Rattle.rulebook.specs.AccountTypes.{is_outside}
use Rattle.rulebook.specs.Field as Field
use Rattle.rulebook.specs.Ledger.{Ledger, Requests, account_of, request_account, same_account, put_requests}
use Rattle.rulebook.specs.Forms.{new_request, ended_request, forms, row_of, used, least}
use Rattle.rulebook.specs.Premise.{RequestFits}
use Rattle.rulebook.specs.declared.Account.{Account}
use Rattle.rulebook.specs.declared.Order.{Order}
use Rattle.rulebook.specs.declared.Request.{Request}
use Rattle.rulebook.proofs.Bounds.{balance_fits, outside-fits, balance_counted}
use Rattle.rulebook.proofs.Orders.{debit-enough, needed, not_open, is_ended, fewer_open}
use Rattle.rulebook.proofs.Space.{request_space, request_apart, ending-space, ending-apart}
use Rattle.requests.specs.Packed.{ReferenceInRange, RequestInRange}
use Rattle.book.specs.Meaning.{ledger_of}
use Rattle.booking.specs.Fits.{ShiftFits, LeaveFits}
use Rattle.checking.specs.Given.{Given}
use Rattle.checking.proofs.Passed.{known}
use Rattle.checking.proofs.Orders.{fits, ranges, debited_named, requesting_named, reference-named}
use Rattle.checking.proofs.Endings.{ended_some, ended_covered, awaiting-named, paper_named}

module _ (book : List ℕ) (o : Order) (g : Given book o) where
  abbrev b : Ledger
  b = ledger_of book

  abbrev member : ℕ
  member = o.debited.member

  pub named : ReferenceInRange member o.reference
  named = reference-named o g.read

  -- ---- form 19

  module _ (e : o.form ≡ 19) where
    abbrev from : Account
    from = account_of o.security o.debited

    abbrev to : Account
    to = request_account requested member (new_request b.day.number o)

    quantity : 1 ≤ o.quantity.0
    unfolding used least forms row_of
    quantity = ((ranges o g.read).quantity (needed 19 Field.quantity o e refl)).0

    enough : o.quantity.0 ≤ b.holdings.balance from
    enough = debit-enough b o (known g).little (rw e)

    -- the request can be opened
    pub request_in_range : RequestInRange (new_request b.day.number o)
    request_in_range = record {
      security = (fits o g.read).security;
      typ = (fits o g.read).debited.typ;
      shareholder = (fits o g.read).debited.shareholder;
      quantity_least = quantity;
      quantity_most = (fits o g.read).quantity;
      day = omega (arith, g.kept.premise.day.number);
    }

    pub fewer : b.requests.number < 16
    fewer = omega (arith, fewer_open b o e (known g).sixteen)

    pub none_open : (b.requests.asked member o.reference).quantity.0 ≡ 0
    none_open = not_open b o e (known g).request

    apart : same_account to from ≡ false
    apart = request_apart b o e (known g).types

    -- and its shares moved, in the book with the request
    pub request_fits : {x y : Account} {now : Ledger} → x ≡ from → y ≡ to → (r : Requests) → now ≡ put_requests r b → ShiftFits now x y o.quantity.0
    unfolding put_requests
    request_fits f t r n = rw (n, f, t) (record {
      from_named = debited_named o g.read;
      to_named = requesting_named o g.read b.day.number;
      apart = apart;
      some = quantity;
      enough = enough;
      word = omega (arith, balance_fits b g.kept.premise to, (fits o g.read).quantity);
      size = g.kept.premise.sizes.accounts;
      room = sym (request_space b o g.kept.premise.sizes e quantity enough apart) ∙ (known g).space;
    })

  -- ---- form 20

  module _ (e : o.form ≡ 20) where
    abbrev ended : Request
    ended = ended_request b o

    abbrev awaiting : Account
    awaiting = request_account requested member ended

    abbrev paper : Account
    paper = request_account o.credited.typ member ended

    pub some-open : 1 ≤ ended.quantity.0
    some-open = ended_some b o g.read g.kept.premise e (known g).request

    covers : ended.quantity.0 ≤ b.holdings.balance awaiting
    covers = ended_covered b o g.read g.kept.premise e (known g).request

    request : RequestFits b.day.number b.holdings member o.reference ended
    request = g.kept.premise.requests member o.reference some-open

    -- in the book without the request its shares can leave
    pub leaving-fits :
        {x : Account} {q : Request} {now : Ledger} → x ≡ awaiting → q ≡ ended → (r : Requests) → now ≡ put_requests r b → LeaveFits now x q.quantity.0
    unfolding put_requests request_account
    leaving-fits f t r n = rw (n, f, t) (record {
      named = awaiting-named b o g.read g.kept.premise e (known g).request;
      some = some-open;
      enough = covers;
      word = omega (arith, outside-fits b g.kept.premise ended.security, request.quantity);
      held = omega (arith, covers, balance_counted b g.kept.premise awaiting);
    })

    -- and go to a type of paper
    module _ (n : (is_outside o.credited.typ) ≡ false) where
      paper_apart : same_account paper awaiting ≡ false
      paper_apart = ending-apart b o n (is_ended b o e (known g).request).1

      pub ending-fits :
          {x y : Account} {q : Request} {now : Ledger} → x ≡ awaiting → y ≡ paper → q ≡ ended → (r : Requests) → now ≡ put_requests r b
          → ShiftFits now x y q.quantity.0
      unfolding put_requests
      ending-fits f t u r m = rw (m, f, t, u) (record {
        from_named = awaiting-named b o g.read g.kept.premise e (known g).request;
        to_named = paper_named b o g.read g.kept.premise e (known g).request;
        apart = paper_apart;
        some = some-open;
        enough = covers;
        word = omega (arith, balance_fits b g.kept.premise paper, request.quantity);
        size = g.kept.premise.sizes.accounts;
        room = sym (ending-space b o g.kept.premise.sizes e n some-open covers paper_apart) ∙ (known g).space;
      })
