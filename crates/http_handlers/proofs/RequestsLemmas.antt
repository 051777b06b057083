-- A head is that of one request at most, and has one answer.
use Rattle.std.proofs.Common.{◌≡◌, ℕ, ◌≤◌, List, [], length, take, drop, map, refl, ap, sym, subst, ◌∙◌, arith, length-take}
use Rattle.std.proofs.lemmas.List.{length-map}
use Rattle.std.proofs.Math.Seq.{drop-length}
use Rattle.httparse.specs.declared.spans.HeaderSpan.{HeaderSpan}
use Rattle.httparse.specs.declared.spans.RequestSpans.{RequestSpans}
use Rattle.httparse.specs.Grammar.{Field, ReadsRequest}
use Rattle.httparse.specs.Spans.{AreFieldsAt, IsRequestOf, header_bytes, name_and_value, span_bytes}
use Rattle.httparse.proofs.GrammarLemmas.{request_unique}
use Rattle.http1.specs.Fields.{known_fields}
use Rattle.http_handlers.specs.declared.answer.Answer.{Answer}
use Rattle.http_handlers.specs.Requests.{IsAnswer, answer_parts, answer_to, most_fields}
use Rattle.http_handlers.specs.Requests.IsAnswer.{of_none, of_request}

fields_fit : (bytes : List ℕ) (headers : List HeaderSpan) (count : ℕ) (fields : List Field) →
    AreFieldsAt bytes headers count fields → length fields ≤ length headers
fields_fit bytes headers count fields are =
    omega (
      arith,
      sym (length-map (take count headers) (header_bytes bytes)) ∙ ap length are
          ∙ length-map fields name_and_value,
      length-take count headers,
    )

pub request_found : (served : ℕ) (bytes : List ℕ) (headers : List HeaderSpan) (r : RequestSpans) (answer : Answer) →
    IsRequestOf bytes headers r → r.len ≡ length bytes → length headers ≤ most_fields →
    answer ≡ answer_parts served (span_bytes bytes r.method) (span_bytes bytes r.path) r.version
    (known_fields (map (header_bytes bytes) (take r.headers headers))) → IsAnswer served bytes answer
request_found served bytes headers r answer found whole room given =
    let none : drop r.len bytes ≡ [] = rw whole (drop-length bytes) in
    let fit : length found.0.fields ≤ length headers = fields_fit bytes headers r.headers found.0.fields found.1.fields in
    of_request found.0 (record {
      reads = subst (λ rest. ReadsRequest bytes found.0 rest) none found.1.reads;
      fits = omega (arith, fit, room);
    }) (given ∙ rw (found.1.method, found.1.path, found.1.version, found.1.fields) refl)

pub answer_once : (served : ℕ) (bytes : List ℕ) (a b : Answer) → IsAnswer served bytes a → IsAnswer served bytes b → a ≡ b
answer_once served bytes a b (of_request head is x) (of_request other that y) =
    x ∙ ap (answer_to served) (request_unique bytes head other [] [] is.reads that.reads).0 ∙ sym y
answer_once served bytes a b (of_request head is x) (of_none none y) = absurd (none head is)
answer_once served bytes a b (of_none none x) (of_request head is y) = absurd (none head is)
answer_once served bytes a b (of_none none x) (of_none none' y) = x ∙ sym y
