-- What a queue of operations moves as it is served: no more than was there.
use Rattle.std.proofs.Common.{◌≡◌, ℕ, ◌+◌, ◌-◌, min, take, ◌≤◌, ◌==◌, nat_le, List, [], ◌∷◌, Option, Some, None, length, refl, ◌∙◌, arith}
use Rattle.std.specs.List.{sum_by}
use Rattle.std.specs.Option.{option_map}
use Rattle.std.proofs.lemmas.Bool.{cond_both}
use Rattle.std.proofs.lemmas.Bool.Decides.{nat_tests}
use Rattle.std.proofs.lemmas.List.{length-drop, length-take}
use Rattle.std.proofs.lemmas.List.Sums.{sum_by-cons}
use Rattle.asio_types.specs.declared.code.Code.{Code}
use Rattle.asio_types.specs.declared.code.Code.TheVariants as code
use Rattle.asio_types.specs.declared.mark.ReadMark.{ReadMark}
use Rattle.asio_types.specs.declared.mark.WriteMark.{WriteMark}
use Rattle.stream_rules.specs.declared.queue.Completion.{Completion}
use Rattle.stream_rules.specs.declared.serving.Served.{Served}
use Rattle.stream_rules.specs.Delimiter.{first_end}
use Rattle.stream_rules.specs.Queue.{Pending, QueueServed, Side, reading_side, served_head, served_queue, writing_side}
use Rattle.stream_rules.specs.Serving.{Outcome, Reading, Writing, Some_bytes, All_bytes, Until, Some_of, All_of, all_of, ended_by, read_code, served_read, served_write, some_of, until_found, write_code}
use Rattle.stream_rules.specs.Stream.{Stream}
use Rattle.stream_rules.proofs.DelimiterLemmas.{first_end-ends}

-- how many bytes a completion reports, and all of them
abbrev pub size_of : Completion → ℕ
size_of done = done.outcome.1

abbrev pub sizes_of : List Completion → ℕ
sizes_of due = sum_by size_of due

-- how many bytes the operations of a queue have moved
abbrev pub moved_of : {Asks : Type 0} → List (Pending Asks) → ℕ
moved_of {Asks} queue = sum_by (λ (pending : Pending Asks). pending.moved) queue

-- an operation that completes reports no more than this
abbrev pub IsFew : Option Outcome → ℕ → Type 0
IsFew None most = Unit {0}
IsFew (Some outcome) most = outcome.1 ≤ most

-- no more is used up than is there, and no more is reported than was moved
pub record IsFair (served : Served) (before there : ℕ) : Type 0 where
  pub used : served.used ≤ there
  pub few : IsFew served.outcome (before + served.used)

ended_few : (mark : Option Code) (size most : ℕ) → size ≤ most → IsFew (ended_by mark size) most
ended_few None size most less = tt
ended_few (Some ended) size most less = less

some_fair : (size before there : ℕ) (mark : Option Code) → IsFair (some_of size there mark) before there
some_fair size before there mark =
    cond_both (there == 0) (record { used = 0; outcome = ended_by mark 0 })
    (record { used = min size there; outcome = Some (code.Ok, min size there) }) (λ served. IsFair served before there)
    (λ is. record { used = omega arith; few = ended_few mark 0 (before + 0) (omega arith) })
    (λ is. record { used = omega arith; few = omega arith })

all_fair : (size before there : ℕ) (mark : Option Code) → IsFair (all_of size before there mark) before there
all_fair size before there mark =
    cond_both (nat_le size (before + there)) (record { used = size - before; outcome = Some (code.Ok, size) })
    (record { used = there; outcome = ended_by mark (before + there) }) (λ served. IsFair served before there)
    (λ is.
    let fits : size ≤ before + there = grind (arith, nat_tests, is) in
    record { used = omega (arith, fits); few = omega arith })
    (λ is. record { used = omega arith; few = ended_few mark (before + there) (before + there) (omega arith) })

until_fair : (found : Option ℕ) (max before there : ℕ) (mark : Option Code) → ((count : ℕ) → found ≡ Some count → count ≤ there) →
    IsFair (until_found found max there mark) before there
until_fair (Some count) max before there mark within =
    record { used = within count refl; few = omega arith }
until_fair None max before there mark within = record {
  used = omega arith;
  few =
      cond_both (nat_le max there) (Some (code.NotFound, 0)) (ended_by mark 0) (λ outcome. IsFew outcome (before + 0))
      (λ is. omega arith) (λ is. ended_few mark 0 (before + 0) (omega arith));
}

found_within : (delimiter there : List ℕ) (max count : ℕ) → first_end delimiter (take max there) ≡ Some count →
    count ≤ length there
found_within delimiter there max count found =
    let ends = first_end-ends delimiter (take max there) count found in
    let few = length-take max there in omega (arith, ends.within, few)

read_fair : (reading : Reading) (before : ℕ) (there : List ℕ) (mark : Option ReadMark) →
    IsFair (served_read reading before there mark) before (length there)
read_fair (Some_bytes size) before there mark = some_fair size before (length there) (option_map read_code mark)
read_fair (All_bytes size) before there mark = all_fair size before (length there) (option_map read_code mark)
read_fair (Until delimiter max) before there mark =
    until_fair (first_end delimiter (take max there)) max before (length there) (option_map read_code mark)
    (λ count found. found_within delimiter there max count found)

write_fair : (writing : Writing) (before room : ℕ) (mark : Option WriteMark) →
    IsFair (served_write writing before room mark) before room
write_fair (Some_of bytes) before room mark = some_fair (length bytes) before room (option_map write_code mark)
write_fair (All_of bytes) before room mark = all_fair (length bytes) before room (option_map write_code mark)

-- what serving a queue moves
module _ {Asks : Type 0} (side : Side Asks) (there : Stream → ℕ)
    (fair : (asks : Asks) (moved : ℕ) (stream : Stream) → IsFair (side.served asks moved stream) moved (there stream))
    (less : (asks : Asks) (moved used : ℕ) (stream : Stream) → used ≤ there stream →
    there (side.after asks moved used stream) + used ≤ there stream) where
  abbrev total : QueueServed Asks → ℕ
  total served = sizes_of served.completed + moved_of served.staying + there served.stream

  head_flows : (head : Pending Asks) (queue : List (Pending Asks)) (used : ℕ) (left : Stream) (rest : QueueServed Asks)
      (outcome : Option Outcome) (all : ℕ) → IsFew outcome (head.moved + used) → there left + used ≤ all →
      total rest ≤ moved_of queue + there left →
      total (served_head head queue used left rest outcome) ≤ moved_of (head ∷ queue) + all
  head_flows head queue used left rest None all few left_less flows =
      let one = sum_by-cons (λ (pending : Pending Asks). pending.moved) (record head { moved = head.moved + used }) queue in
      let two = sum_by-cons (λ (pending : Pending Asks). pending.moved) head queue in
      omega (arith, one, two, left_less)
  head_flows head queue used left rest (Some outcome) all few left_less flows =
      let one = sum_by-cons size_of (record { op = head.op; outcome = outcome }) rest.completed in
      let two = sum_by-cons (λ (pending : Pending Asks). pending.moved) head queue in
      omega (arith, one, two, few, left_less, flows)

  pub queue_flows : (queue : List (Pending Asks)) (stream : Stream) →
      total (served_queue side queue stream) ≤ moved_of queue + there stream
  queue_flows [] stream = omega arith
  queue_flows (head ∷ queue) stream =
      let served = side.served head.asks head.moved stream in
      let left = side.after head.asks head.moved served.used stream in
      let is = fair head.asks head.moved stream in
      head_flows head queue served.used left (served_queue side queue left) served.outcome (there stream) is.few
      (less head.asks head.moved served.used stream is.used) (queue_flows queue left)

abbrev pub bytes_there : Stream → ℕ
bytes_there stream = length stream.arrived

abbrev pub room_there : Stream → ℕ
room_there stream = stream.room

pub reads_flow : (queue : List (Pending Reading)) (stream : Stream) →
    sizes_of (served_queue reading_side queue stream).completed + moved_of (served_queue reading_side queue stream).staying
    + bytes_there (served_queue reading_side queue stream).stream
    ≤ moved_of queue + bytes_there stream
reads_flow =
    queue_flows reading_side bytes_there (λ asks moved stream. read_fair asks moved stream.arrived stream.read_mark)
    (λ asks moved used stream less. let long = length-drop used stream.arrived in omega (arith, long, less))

pub writes_flow : (queue : List (Pending Writing)) (stream : Stream) →
    sizes_of (served_queue writing_side queue stream).completed + moved_of (served_queue writing_side queue stream).staying
    + room_there (served_queue writing_side queue stream).stream
    ≤ moved_of queue + room_there stream
writes_flow =
    queue_flows writing_side room_there (λ asks moved stream. write_fair asks moved stream.room stream.write_mark)
    (λ asks moved used stream less. omega (arith, less))

-- serving one side leaves what the other one uses
module _ {Asks X : Type 0} (side : Side Asks) (there : Stream → X)
    (same : (asks : Asks) (moved used : ℕ) (stream : Stream) → there (side.after asks moved used stream) ≡ there stream) where
  head_leaves : (head : Pending Asks) (queue : List (Pending Asks)) (used : ℕ) (left : Stream) (rest : QueueServed Asks)
      (outcome : Option Outcome) → there rest.stream ≡ there left →
      there (served_head head queue used left rest outcome).stream ≡ there left
  head_leaves head queue used left rest None is = refl
  head_leaves head queue used left rest (Some outcome) is = is

  pub queue_leaves : (queue : List (Pending Asks)) (stream : Stream) →
      there (served_queue side queue stream).stream ≡ there stream
  queue_leaves [] stream = refl
  queue_leaves (head ∷ queue) stream =
      let served = side.served head.asks head.moved stream in
      let left = side.after head.asks head.moved served.used stream in
      head_leaves head queue served.used left (served_queue side queue left) served.outcome (queue_leaves queue left)
      ∙ same head.asks head.moved served.used stream

pub reads_leave_room : (queue : List (Pending Reading)) (stream : Stream) →
    room_there (served_queue reading_side queue stream).stream ≡ room_there stream
reads_leave_room = queue_leaves reading_side room_there (λ asks moved used stream. refl)

pub writes_leave_bytes : (queue : List (Pending Writing)) (stream : Stream) →
    bytes_there (served_queue writing_side queue stream).stream ≡ bytes_there stream
writes_leave_bytes = queue_leaves writing_side bytes_there (λ asks moved used stream. refl)
