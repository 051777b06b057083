-- What a queue of composed reads gives on bytes that come in pieces is what it gives on all of them.
use Rattle.std.proofs.Common.{◌≡◌, ℕ, ◌+◌, ◌<◌, ◌≤◌, Option, None, Some, List, [], ◌∷◌, ◌++◌, length, drop, suc, refl, sym, ap, ◌∙◌, drop-drop, arith}
use Rattle.std.specs.List.{All}
use Rattle.std.proofs.lemmas.List.{drop-append-le}
use Rattle.asio_types.specs.declared.mark.ReadMark.{ReadMark}
use Rattle.stream_rules.specs.Cutting.{served_again, with_bytes, with_read_mark, IsComposedReading, QueuesGoOn}
use Rattle.stream_rules.specs.Queue.{reading_side, completed_first, served_head, served_queue, Pending, QueueServed}
use Rattle.stream_rules.specs.Serving.{Reading, Outcome, Served, after_reading, served_read}
use Rattle.stream_rules.specs.Stream.{Stream}
use Rattle.stream_rules.proofs.CuttingLemmas.{reads-on, read-complete}

-- further bytes come, and then this is the mark
abbrev change : List ℕ → Option ReadMark → Stream → Stream
change later mark stream = with_read_mark mark (with_bytes later stream)

-- what is consumed of the bytes there leaves the further ones
after-change : (used : ℕ) (stream : Stream) (later : List ℕ) (mark : Option ReadMark) → used ≤ length stream.arrived →
    after_reading used (change later mark stream) ≡ change later mark (after_reading used stream)
after-change used stream later mark within =
    ap (λ bytes. let s : Stream = record stream { arrived = bytes; read_mark = mark } in s)
    (drop-append-le used stream.arrived later within)

after-after : (first second : ℕ) (stream : Stream) →
    after_reading second (after_reading first stream) ≡ after_reading (first + second) stream
after-after first second stream =
    ap (λ bytes. let s : Stream = record stream { arrived = bytes } in s) (drop-drop second first stream.arrived)

-- a head that had moved some bytes before
head-again : (head : Pending Reading) (queue : List (Pending Reading)) (used more : ℕ) (stream : Stream)
    (rest : QueueServed Reading) (outcome : Option Outcome) →
    served_head (record head { moved = head.moved + used }) queue more stream rest outcome
    ≡ served_head head queue (used + more) stream rest outcome
head-again head queue used more stream rest None =
    ap (λ n.
    let q : QueueServed Reading = record {
      completed = [];
      staying = record head { moved = n } ∷ queue;
      stream = stream;
    } in
    q) (omega arith)
head-again head queue used more stream rest (Some outcome) = refl

-- what the rules say of a head, once it is served
abbrev at_head : Pending Reading → List (Pending Reading) → Stream → Served → QueueServed Reading
at_head head queue stream served =
    let left = after_reading served.used stream in
    served_head head queue served.used left (served_queue reading_side queue left) served.outcome

stays-again : (head : Pending Reading) (queue : List (Pending Reading)) (stream : Stream) (later : List ℕ)
    (mark : Option ReadMark) → (served_read head.asks head.moved stream.arrived stream.read_mark).outcome ≡ None →
    served_again reading_side (change later mark) (served_queue reading_side (head ∷ queue) stream)
    ≡ served_queue reading_side (head ∷ queue) (change later mark stream)
stays-again head queue stream later mark stays =
    let served = served_read head.asks head.moved stream.arrived stream.read_mark in
    let left = after_reading served.used stream in
    let whole = reads-on head.asks head.moved stream.arrived later stream.read_mark mark stays in
    let moved : Pending Reading = record head { moved = head.moved + served.used } in
    let rest = served_read head.asks (head.moved + served.used) (drop served.used stream.arrived ++ later) mark in
    let with_outcome : Option Outcome → QueueServed Reading = λ o.
    served_again reading_side (change later mark)
    (served_head head queue served.used left (served_queue reading_side queue left) o) in
    let on_stream : Stream → QueueServed Reading = λ s.
    served_head moved queue rest.used s (served_queue reading_side queue s) rest.outcome in
    let there : after_reading rest.used (change later mark left)
    ≡ after_reading (served.used + rest.used) (change later mark stream) =
    ap (after_reading rest.used) (sym (after-change served.used stream later mark whole.within))
    ∙ after-after served.used rest.used (change later mark stream) in
    let all = after_reading (served.used + rest.used) (change later mark stream) in
    ap with_outcome stays
    ∙ ap on_stream there
    ∙ head-again head queue served.used rest.used all (served_queue reading_side queue all) rest.outcome
    ∙ ap (at_head head queue (change later mark stream)) (sym whole.rest)

completes-again : (head : Pending Reading) → IsComposedReading head.asks →
    (queue : List (Pending Reading)) (stream : Stream) (later : List ℕ) (mark : Option ReadMark) (outcome : Outcome) →
    stream.read_mark ≡ None →
    ((s : Stream) → s.read_mark ≡ None →
    served_again reading_side (change later mark) (served_queue reading_side queue s)
    ≡ served_queue reading_side queue (change later mark s)) →
    (served_read head.asks head.moved stream.arrived stream.read_mark).outcome ≡ Some outcome →
    served_again reading_side (change later mark) (served_queue reading_side (head ∷ queue) stream)
    ≡ served_queue reading_side (head ∷ queue) (change later mark stream)
completes-again head composed queue stream later mark outcome unmarked behind completes =
    let served = served_read head.asks head.moved stream.arrived stream.read_mark in
    let left = after_reading served.used stream in
    let bare = ap (served_read head.asks head.moved stream.arrived) unmarked in
    let done = sym (ap (λ (s : Served). s.outcome) bare) ∙ completes in
    let whole = read-complete head.asks composed head.moved stream.arrived later mark outcome done in
    let within : served.used ≤ length stream.arrived = omega (arith, whole.within, ap (λ (s : Served). s.used) bare) in
    let with_outcome : Option Outcome → QueueServed Reading = λ o.
    served_again reading_side (change later mark)
    (served_head head queue served.used left (served_queue reading_side queue left) o) in
    let on_stream : Stream → QueueServed Reading = λ s.
    served_head head queue served.used s (served_queue reading_side queue s) served.outcome in
    let on_outcome : Option Outcome → QueueServed Reading = λ o.
    let s = change later mark left in served_head head queue served.used s (served_queue reading_side queue s) o in
    ap with_outcome completes
    ∙ ap (completed_first head.op outcome) (behind left unmarked)
    ∙ sym (ap (at_head head queue (change later mark stream)) (whole.same ∙ sym bare)
    ∙ ap on_stream (after-change served.used stream later mark within) ∙ ap on_outcome completes)

head-goes_on : (head : Pending Reading) → IsComposedReading head.asks →
    (queue : List (Pending Reading)) (stream : Stream) (later : List ℕ) (mark : Option ReadMark)
    (outcome : Option Outcome) → stream.read_mark ≡ None →
    ((s : Stream) → s.read_mark ≡ None →
    served_again reading_side (change later mark) (served_queue reading_side queue s)
    ≡ served_queue reading_side queue (change later mark s)) →
    (served_read head.asks head.moved stream.arrived stream.read_mark).outcome ≡ outcome →
    served_again reading_side (change later mark) (served_queue reading_side (head ∷ queue) stream)
    ≡ served_queue reading_side (head ∷ queue) (change later mark stream)
head-goes_on head composed queue stream later mark None unmarked behind is = stays-again head queue stream later mark is
head-goes_on head composed queue stream later mark (Some outcome) unmarked behind is =
    completes-again head composed queue stream later mark outcome unmarked behind is

pub queues-go_on : QueuesGoOn
queues-go_on [] composed stream unmarked later mark = refl
queues-go_on (head ∷ queue) composed stream unmarked later mark =
    let first : IsComposedReading head.asks = composed 0 head (omega arith) in
    let others : All (λ (pending : Pending Reading). IsComposedReading pending.asks) queue = λ k d b.
    let inside : suc k < length (head ∷ queue) = omega arith in composed (suc k) d inside in
    head-goes_on head first queue stream later mark
    (served_read head.asks head.moved stream.arrived stream.read_mark).outcome unmarked
    (λ s bare. queues-go_on queue others s bare later mark) refl
