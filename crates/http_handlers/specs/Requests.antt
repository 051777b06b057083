-- What a head is answered (RFC 9110, sections 9.3 and 15; RFC 9112, sections 3.2, 6.3 and 9.3).
use Rattle.std.specs.Prelude.{◌≡◌, ℕ, ◌≤◌, Bool, not, ◌&&◌, ◌||◌, ◌==◌, List, [], length, map, Option, Some, None, Result, Ok, Err, bytes_eq, codes, if◌then◌else◌}
use Rattle.httparse.specs.Grammar.{ReadsRequest, RequestHead}
use Rattle.httparse.specs.Spans.{name_and_value}
use Rattle.http1.specs.declared.fields.KnownFields.{KnownFields}
use Rattle.http1.specs.declared.framing.Framing.{Framing}
use Rattle.http1.specs.declared.framing.Framing.TheVariants as framing
use Rattle.http1.specs.declared.framing.FramingError.{FramingError}
use Rattle.http1.specs.Fields.{known_fields}
use Rattle.http1.specs.Framing.{method_kind, request_framing}
use Rattle.http_handlers.specs.declared.answer.Answer.{Answer}
use Rattle.http_handlers.specs.declared.answer.Status.{Status}
use Rattle.http_handlers.specs.declared.answer.Status.TheVariants as status
use Rattle.http_handlers.specs.Answers.{refused}

-- a head has at most so many fields
abbrev pub most_fields : ℕ
most_fields = 64

-- why a request is refused for its content, if it is: none is taken
abbrev pub refusal_of : Result Framing FramingError → Option Status
refusal_of (Ok framing.NoBody) = None
refusal_of (Ok (framing.Length size)) = if size == 0 then None else Some status.ContentTooLarge
refusal_of (Ok framing.Chunked) = Some status.NotImplemented
refusal_of (Ok framing.UntilClose) = Some status.BadRequest
refusal_of (Err error) = Some status.BadRequest

-- HTTP/1.1 wants one Host field, and HTTP/1.0 at most one
abbrev pub has_one_host : ℕ → ℕ → Bool
has_one_host minor hosts = (hosts == 1) || ((hosts == 0) && (minor == 0))

-- the connection is kept: by HTTP/1.1 unless a field says close, by HTTP/1.0 if one says keep-alive
abbrev pub keeps : ℕ → Bool → Bool → Bool
keeps minor close keep_alive = not close && ((minor == 1) || keep_alive)

abbrev pub is_got : List ℕ → Bool
is_got method = bytes_eq method (codes "GET") || bytes_eq method (codes "HEAD")

-- the status of a request that isn't refused
abbrev pub status_of : List ℕ → List ℕ → Status
status_of method target =
    if bytes_eq target (codes "/") then (if is_got method then status.Ok else status.MethodNotAllowed)
    else status.NotFound

abbrev pub answer_unless : Option Status → Answer → Answer
answer_unless (Some why) answer = refused why
answer_unless None answer = answer

-- the answer to a request with these parts, behind so many others
abbrev pub answer_parts : ℕ → List ℕ → List ℕ → ℕ → KnownFields → Answer
answer_parts served method target minor known =
    if has_one_host minor known.hosts
    then answer_unless (refusal_of (request_framing (method_kind method) minor known)) (record {
      status = status_of method target;
      keeps = keeps minor known.close known.keep_alive;
      bodiless = bytes_eq method (codes "HEAD");
      served = served;
    })
    else refused status.BadRequest

abbrev pub answer_to : ℕ → RequestHead → Answer
answer_to served head =
    answer_parts served head.method head.target head.minor (known_fields (map name_and_value head.fields))

-- these bytes are the head of this request, which hasn't too many fields
pub record IsRequest (bytes : List ℕ) (head : RequestHead) : Type 0 where
  pub reads : ReadsRequest bytes head []
  pub fits : length head.fields ≤ most_fields

-- the answer to a head, behind so many others: that to the request, or 400 where it is none
pub data IsAnswer (served : ℕ) (bytes : List ℕ) (answer : Answer) : Type 0 where
  of_request : (head : RequestHead) → IsRequest bytes head → answer ≡ answer_to served head → IsAnswer served bytes answer
  of_none : ((head : RequestHead) → ¬ IsRequest bytes head) → answer ≡ refused status.BadRequest → IsAnswer served bytes answer
