-- `requests::request`: the words at the place that the search answers.
use Rattle.std.proofs.Common.{sym, ◌∙◌}
use Rattle.requests.specs.Packed.{key_of}
use Rattle.requests.proofs.Map.{asked-of, request_at, request_none}
use Rattle.requests.proofs.request.Goals as goal

pub returns-in-Some : goal.returns-in-Some
returns-in-Some c =
    let a = c.args.requests.now in
    c.request_in.ensures ∙ sym (request_at a c.requires.0 (key_of c.args.member c.args.reference) c.in-Some.i (sym c.in-Some.ensures.place))
    ∙ sym (asked-of a c.args.member c.args.reference c.requires.1)

pub returns-in-None : goal.returns-in-None
returns-in-None c =
    let a = c.args.requests.now in
    c.request_in-in-None.ensures ∙ sym (request_none a c.requires.0 (key_of c.args.member c.args.reference) (sym c.in-None.ensures.place))
    ∙ sym (asked-of a c.args.member c.args.reference c.requires.1)
