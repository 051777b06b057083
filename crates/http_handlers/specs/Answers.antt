-- What an answer looks like (RFC 9112, sections 4 and 6.2).
use Rattle.std.specs.Prelude.{ℕ, ◌+◌, ◌-◌, ◌^◌, Bool, false, List, [], ◌++◌, length, min, codes, decimal, if◌then◌else◌}
use Rattle.http_handlers.specs.declared.answer.Answer.{Answer}
use Rattle.http_handlers.specs.declared.answer.Status.{Status}
use Rattle.http_handlers.specs.declared.answer.Status.TheVariants as status

-- its code and its reason phrase, and the fields that only it has
abbrev pub line_of : Status → List ℕ
line_of status.Ok = codes "200 OK"
line_of status.BadRequest = codes "400 Bad Request"
line_of status.NotFound = codes "404 Not Found"
line_of status.MethodNotAllowed = codes "405 Method Not Allowed\r\nAllow: GET, HEAD"
line_of status.RequestTimeout = codes "408 Request Timeout"
line_of status.ContentTooLarge = codes "413 Content Too Large"
line_of status.HeaderFieldsTooLarge = codes "431 Request Header Fields Too Large"
line_of status.NotImplemented = codes "501 Not Implemented"

-- the number of the request on its connection, from 1
abbrev pub number_of : ℕ → ℕ
number_of served = min (served + 1) (2 ^ 64 - 1)

-- why nothing else is answered
abbrev pub reason_of : Status → List ℕ
reason_of status.Ok = []
reason_of status.BadRequest = codes "the request can't be read"
reason_of status.NotFound = codes "nothing is there"
reason_of status.MethodNotAllowed = codes "this can only be got"
reason_of status.RequestTimeout = codes "the request came too slowly"
reason_of status.ContentTooLarge = codes "the request has content"
reason_of status.HeaderFieldsTooLarge = codes "the head is too long"
reason_of status.NotImplemented = codes "the content has a coding"

abbrev pub text_of : Status → ℕ → List ℕ
text_of status.Ok served =
    codes "hello, this is request " ++ decimal (number_of served) ++ codes " of this connection\n"
text_of given served = reason_of given ++ codes "\n"

-- the first line of an answer and its fields, up to its length
unfoldable pub opening : Status → List ℕ
opening given =
    codes "HTTP/1.1 " ++ line_of given ++ codes "\r\nContent-Type: text/plain\r\nContent-Length: "

-- what it says of the connection, and the end of its head
unfoldable pub closing : Bool → List ℕ
closing keeps =
    if keeps then codes "\r\nConnection: keep-alive\r\n\r\n" else codes "\r\nConnection: close\r\n\r\n"

-- the head of an answer with a text of this length
abbrev pub framed : Answer → ℕ → List ℕ
framed answer size = opening answer.status ++ decimal size ++ closing answer.keeps

-- an answer to HEAD ends with its head, which has the length of the text nevertheless
abbrev pub unless_bodiless : Bool → List ℕ → List ℕ
unless_bodiless bodiless text = if bodiless then [] else text

abbrev pub with_text : Answer → List ℕ → List ℕ
with_text answer text = framed answer (length text) ++ unless_bodiless answer.bodiless text

-- its bytes
abbrev pub printed : Answer → List ℕ
printed answer = with_text answer (text_of answer.status answer.served)

-- what closes a connection
abbrev pub refused : Status → Answer
refused given = record { status = given; keeps = false; bodiless = false; served = 0 }
