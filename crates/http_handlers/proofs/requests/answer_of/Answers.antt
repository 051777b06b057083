use Rattle.std.proofs.Common.{rules}
use Rattle.httparse.specs.Spans.{IsRequestOf}
use Rattle.http_handlers.proofs.RequestsLemmas.{request_found}
use Rattle.http_handlers.proofs.requests.answer_of.Goals as goal

pub returns-in-Ok-Complete : goal.returns-in-Ok-Complete
returns-in-Ok-Complete c =
    let found : IsRequestOf c.args.head.now c.parse_request.new.headers c.in-Ok-Complete.request = search rules in
    request_found c.args.served c.args.head.now c.parse_request.new.headers c.in-Ok-Complete.request
    c.answer_request.result found (search rules) (search rules) c.answer_request.ensures
