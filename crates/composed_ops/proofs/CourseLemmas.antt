-- What the rules give an operation once a part was moved.
use Rattle.std.proofs.Common.{◌≡◌, ℕ, ◌+◌, ◌-◌, None, List, [], ◌++◌, length, take, drop, take-add, drop-drop, append_assoc, refl, sym, ap, ◌∙◌, arith}
use Rattle.std.specs.Option.{option_map}
use Rattle.std.proofs.lemmas.List.{append-nil, length-drop, take-append-drop}
use Rattle.stream_rules.specs.Cutting.{Course, served_on}
use Rattle.stream_rules.specs.Queue.{reading_side, writing_side}
use Rattle.stream_rules.specs.Serving.{Reading, All_bytes, Writing, All_of, after_reading, after_writing, all_of, bytes_of, read_code, write_code}
use Rattle.stream_rules.specs.declared.serving.Served.{Served}
use Rattle.stream_rules.specs.Stream.{Stream}
use Rattle.composed_ops.proofs.CountLemmas.{AllGoesOn, joined}

-- what a read, or a write, gives that is served like this
abbrev pub read_course : ℕ → Stream → Served → Course
read_course before stream served = record {
  moved = before + served.used;
  outcome = served.outcome;
  stream = after_reading served.used stream;
}

abbrev pub write_course : Writing → ℕ → Stream → Served → Course
write_course writing before stream served = record {
  moved = before + served.used;
  outcome = served.outcome;
  stream = after_writing writing before served.used stream;
}

read-parts : (before used : ℕ) (stream : Stream) (rest : Served) →
    read_course (before + used) (after_reading used stream) rest ≡ read_course before stream (joined used rest)
read-parts before used stream rest =
    let count : before + used + rest.used ≡ before + (used + rest.used) = omega arith in
    let left : drop rest.used (drop used stream.arrived) ≡ drop (used + rest.used) stream.arrived =
    drop-drop rest.used used stream.arrived in
    rw (count, left) refl

write-parts : (writing : Writing) (before used : ℕ) (stream : Stream) (rest : Served) →
    write_course writing (before + used) (after_writing writing before used stream) rest
    ≡ write_course writing before stream (joined used rest)
write-parts writing before used stream rest =
    let bytes = bytes_of writing in
    let count : before + used + rest.used ≡ before + (used + rest.used) = omega arith in
    let room : stream.room - used - rest.used ≡ stream.room - (used + rest.used) = omega arith in
    let behind : drop (before + used) bytes ≡ drop used (drop before bytes) = sym (drop-drop used before bytes) in
    let sent : (stream.sent ++ take used (drop before bytes)) ++ take rest.used (drop (before + used) bytes)
    ≡ stream.sent ++ take (used + rest.used) (drop before bytes) =
    append_assoc stream.sent (take used (drop before bytes)) (take rest.used (drop (before + used) bytes))
    ∙ ap (λ l. stream.sent ++ l)
    (ap (λ l. take used (drop before bytes) ++ take rest.used l) behind
    ∙ sym (take-add used rest.used (drop before bytes))) in
    rw (count, room, sent) refl

-- one that takes all that it asks for gives the rest behind a part
pub read-all-on : (size before count : ℕ) (stream : Stream) →
    AllGoesOn size before count (length stream.arrived) (option_map read_code stream.read_mark) →
    served_on reading_side (All_bytes size) (before + count) (after_reading count stream) None
    ≡ served_on reading_side (All_bytes size) before stream None
read-all-on size before count stream goes =
    let mark = option_map read_code stream.read_mark in
    let on_length : ℕ → Course = λ n.
    read_course (before + count) (after_reading count stream) (all_of size (before + count) n mark) in
    ap on_length (length-drop count stream.arrived)
    ∙ read-parts before count stream (all_of size (before + count) (length stream.arrived - count) mark)
    ∙ sym (ap (read_course before stream) goes.rest)

pub write-all-on : (bytes : List ℕ) (before count : ℕ) (stream : Stream) →
    AllGoesOn (length bytes) before count stream.room (option_map write_code stream.write_mark) →
    served_on writing_side (All_of bytes) (before + count) (after_writing (All_of bytes) before count stream) None
    ≡ served_on writing_side (All_of bytes) before stream None
write-all-on bytes before count stream goes =
    let mark = option_map write_code stream.write_mark in
    write-parts (All_of bytes) before count stream (all_of (length bytes) (before + count) (stream.room - count) mark)
    ∙ sym (ap (write_course (All_of bytes) before stream) goes.rest)

-- where nothing was moved, all is as before
pub read-none-on : (reading : Reading) (before count : ℕ) (stream : Stream) → count ≡ 0 →
    served_on reading_side reading (before + count) (after_reading count stream) None
    ≡ served_on reading_side reading before stream None
read-none-on reading before count stream none =
    let same : before + 0 ≡ before = omega arith in
    ap (λ n. served_on reading_side reading (before + n) (after_reading n stream) None) none
    ∙ ap (λ n. served_on reading_side reading n stream None) same

pub write-none-on : (writing : Writing) (before count : ℕ) (stream : Stream) → count ≡ 0 →
    served_on writing_side writing (before + count) (after_writing writing before count stream) None
    ≡ served_on writing_side writing before stream None
write-none-on writing before count stream none =
    let same : before + 0 ≡ before = omega arith in
    let room : stream.room - 0 ≡ stream.room = omega arith in
    let left : after_writing writing before 0 stream ≡ stream =
    ap (λ n. let s : Stream = record stream { room = n; sent = stream.sent ++ [] } in s) room
    ∙ ap (λ bytes. let s : Stream = record stream { sent = bytes } in s) (append-nil stream.sent) in
    ap (λ n. served_on writing_side writing (before + n) (after_writing writing before n stream) None) none
    ∙ ap (λ n. served_on writing_side writing n (after_writing writing before 0 stream) None) same
    ∙ ap (λ s. served_on writing_side writing before s None) left

-- bytes that are held stand before those behind them as they did on the stream
pub held-left : (held : List ℕ) (count : ℕ) (stream : Stream) →
    (let s : Stream = record stream { arrived = (held ++ take count stream.arrived) ++ drop count stream.arrived } in s)
    ≡ record stream { arrived = held ++ stream.arrived }
held-left held count stream =
    ap (λ bytes. let s : Stream = record stream { arrived = bytes } in s) (append_assoc held (take count stream.arrived)
    (drop count stream.arrived) ∙ ap (λ l. held ++ l) (take-append-drop count stream.arrived))
