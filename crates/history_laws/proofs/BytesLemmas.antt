-- What the operations of a stream have moved, what they are to report, and what is left there, never
-- rises but by what the world gives.
use Rattle.std.proofs.Common.{◌≡◌, ◌≢◌, ◌⊎◌, ℕ, ◌+◌, ◌≤◌, Bool, true, false, cond, List, [], ◌∷◌, ◌++◌, Option, Some, None, map, inl, inr, refl, sym, ap, ◌∙◌, arith}
use Rattle.std.specs.List.{All, sum_by}
use Rattle.std.proofs.lemmas.Bool.{eqb-true}
use Rattle.std.proofs.lemmas.List.Elements.{All-append, All-cons, All-head, All-nil, All-tail}
use Rattle.std.proofs.lemmas.List.Sums.{sum_by-append, sum_by-cons}
use Rattle.asio_types.specs.declared.world.What.{What}
use Rattle.session_script.specs.declared.act.Act.{Act}
use Rattle.session_script.specs.declared.act.Act.TheVariants as act
use Rattle.session_script.specs.Script.{ScriptModel, act_of}
use Rattle.stream_rules.specs.declared.queue.Completion.{Completion}
use Rattle.stream_rules.specs.Queue.{Pending, QueueServed, Side, reading_side, served_head, served_queue, writing_side}
use Rattle.stream_rules.specs.Serving.{Outcome}
use Rattle.stream_rules.specs.Stream.{Stream}
use Rattle.history_rules.specs.Settling.{served_stream}
use Rattle.history_rules.specs.State.{StreamQueues}
use Rattle.history_laws.specs.Streams.{bytes_fed, is_read_of, is_write_of, room_given}
use Rattle.history_laws.proofs.CountLemmas.{apart-is}
use Rattle.history_laws.proofs.FlowLemmas.{bytes_there, moved_of, reads_flow, reads_leave_room, room_there, size_of, sizes_of, writes_flow, writes_leave_bytes}

-- which operations a side has: the reads of a stream, or its writes
abbrev pub test_of : Bool → ℕ → Option Act → Bool
test_of true = is_read_of
test_of false = is_write_of

abbrev pub amount_of : Bool → What → ℕ
amount_of true = bytes_fed
amount_of false = room_given

abbrev pub there_of : Bool → Stream → ℕ
there_of true = bytes_there
there_of false = room_there

abbrev pub moved_on : Bool → StreamQueues → ℕ
moved_on true queues = moved_of queues.reads
moved_on false queues = moved_of queues.writes

-- an act is on one side of one stream
reads_apart : (j k : ℕ) (given : Option Act) → j ≢ k → is_read_of j given ≡ true → is_read_of k given ≡ false
reads_apart j k (Some (act.ReadSome other size strand slot kinds)) apart is =
    apart-is other k (λ same. apart (sym (eqb-true other j is) ∙ same))
reads_apart j k (Some (act.ReadAll other size strand slot kinds)) apart is =
    apart-is other k (λ same. apart (sym (eqb-true other j is) ∙ same))
reads_apart j k (Some (act.Until other delimiter max strand slot kinds)) apart is =
    apart-is other k (λ same. apart (sym (eqb-true other j is) ∙ same))
reads_apart j k (Some (act.WriteSome other bytes strand slot kinds)) apart is = refl
reads_apart j k (Some (act.WriteAll other bytes strand slot kinds)) apart is = refl
reads_apart j k None apart is = refl
reads_apart j k (Some _) apart is = absurd (cc)

writes_apart : (j k : ℕ) (given : Option Act) → j ≢ k → is_write_of j given ≡ true → is_write_of k given ≡ false
writes_apart j k (Some (act.WriteSome other bytes strand slot kinds)) apart is =
    apart-is other k (λ same. apart (sym (eqb-true other j is) ∙ same))
writes_apart j k (Some (act.WriteAll other bytes strand slot kinds)) apart is =
    apart-is other k (λ same. apart (sym (eqb-true other j is) ∙ same))
writes_apart j k None apart is = refl
writes_apart j k (Some _) apart is = absurd (cc)

pub read_no_write : (j k : ℕ) (given : Option Act) → is_read_of j given ≡ true → is_write_of k given ≡ false
read_no_write j k (Some (act.ReadSome other size strand slot kinds)) is = refl
read_no_write j k (Some (act.ReadAll other size strand slot kinds)) is = refl
read_no_write j k (Some (act.Until other delimiter max strand slot kinds)) is = refl
read_no_write j k None is = absurd (cc)
read_no_write j k (Some _) is = absurd (cc)

write_no_read : (j k : ℕ) (given : Option Act) → is_write_of j given ≡ true → is_read_of k given ≡ false
write_no_read j k (Some (act.WriteSome other bytes strand slot kinds)) is = refl
write_no_read j k (Some (act.WriteAll other bytes strand slot kinds)) is = refl
write_no_read j k None is = absurd (cc)
write_no_read j k (Some _) is = absurd (cc)

-- sums over lists
sum_at_most : {X : Type 0} (f g : X → ℕ) (xs : List X) → ((x : X) → f x ≤ g x) → sum_by f xs ≤ sum_by g xs
sum_at_most f g [] less = omega arith
sum_at_most f g (x ∷ xs) less =
    omega (arith, sum_by-cons f x xs, sum_by-cons g x xs, less x, sum_at_most f g xs less)

sum_none : {X : Type 0} (f : X → ℕ) (P : X → Type 0) (xs : List X) → ((x : X) → P x → f x ≡ 0) → All P xs → sum_by f xs ≡ 0
sum_none f P [] none all = refl
sum_none f P (x ∷ xs) none all =
    omega (arith, sum_by-cons f x xs, none x (All-head P x xs all), sum_none f P xs none (All-tail P x xs all))

pub sum_map : {X Y : Type 0} (f : Y → ℕ) (g : X → Y) (xs : List X) → sum_by f (map g xs) ≡ sum_by (λ x. f (g x)) xs
sum_map f g [] = refl
sum_map f g (x ∷ xs) =
    omega (arith, sum_by-cons f (g x) (map g xs), sum_by-cons (λ x. f (g x)) x xs, sum_map f g xs)

cond_few : (b : Bool) (n : ℕ) → cond b n 0 ≤ n
cond_few true n = omega arith
cond_few false n = omega arith

-- the operations of a stream's queues are reads and writes of it, and a closed stream has none
pub record IsQueueOf (script : ScriptModel) (k : ℕ) (queues : StreamQueues) : Type 0 where
  pub reads : All (λ pending. is_read_of k (act_of script pending.op) ≡ true) queues.reads
  pub writes : All (λ pending. is_write_of k (act_of script pending.op) ≡ true) queues.writes
  pub shut : queues.closed ≡ true → (queues.reads ≡ []) × (queues.writes ≡ [])

module _ (script : ScriptModel) where
  -- it is an operation on this stream
  abbrev pub IsHere : ℕ → Completion → Type 0
  IsHere k done = (is_read_of k (act_of script done.op) ≡ true) ⊎ (is_write_of k (act_of script done.op) ≡ true)

  module _ (side : Bool) where
    -- what a completion reports of a side
    abbrev pub report_of : ℕ → Completion → ℕ
    report_of k done = cond (test_of side k (act_of script done.op)) (size_of done) 0

    abbrev pub reports_of : ℕ → List Completion → ℕ
    reports_of k due = sum_by (report_of k) due

    pub reports_few : (k : ℕ) (due : List Completion) → reports_of k due ≤ sizes_of due
    reports_few k due =
        sum_at_most (report_of k) size_of due (λ done. cond_few (test_of side k (act_of script done.op)) (size_of done))

    no_report : (k : ℕ) (done : Completion) → test_of side k (act_of script done.op) ≡ false → report_of k done ≡ 0
    no_report k done isnt = ap (λ b. cond b (size_of done) 0) isnt

    -- what isn't of the side
    pub reports_none : (k : ℕ) (due : List Completion) → All (λ done. test_of side k (act_of script done.op) ≡ false) due →
        reports_of k due ≡ 0
    reports_none k due all =
        sum_none (report_of k) (λ done. test_of side k (act_of script done.op) ≡ false) due
        (λ done isnt. no_report k done isnt) all

  apart_of : (side : Bool) (j k : ℕ) (done : Completion) → j ≢ k → IsHere j done → test_of side k (act_of script done.op) ≡ false
  apart_of true j k done apart (inl is) = reads_apart j k (act_of script done.op) apart is
  apart_of true j k done apart (inr is) = write_no_read j k (act_of script done.op) is
  apart_of false j k done apart (inl is) = read_no_write j k (act_of script done.op) is
  apart_of false j k done apart (inr is) = writes_apart j k (act_of script done.op) apart is

  pub elsewhere : (side : Bool) (j k : ℕ) (due : List Completion) → j ≢ k → All (IsHere j) due → reports_of side k due ≡ 0
  elsewhere side j k due apart all =
      sum_none (report_of side k) (IsHere j) due
      (λ done here. no_report side k done (apart_of side j k done apart here)) all

  pub reads_unwritten : (k : ℕ) (due : List Completion) → All (λ done. is_read_of k (act_of script done.op) ≡ true) due →
      reports_of false k due ≡ 0
  reads_unwritten k due all =
      sum_none (report_of false k) (λ done. is_read_of k (act_of script done.op) ≡ true) due
      (λ done is. no_report false k done (read_no_write k k (act_of script done.op) is)) all

  pub writes_unread : (k : ℕ) (due : List Completion) → All (λ done. is_write_of k (act_of script done.op) ≡ true) due →
      reports_of true k due ≡ 0
  writes_unread k due all =
      sum_none (report_of true k) (λ done. is_write_of k (act_of script done.op) ≡ true) due
      (λ done is. no_report true k done (write_no_read k k (act_of script done.op) is)) all

  -- the operations of a queue that is served stay on its side
  module _ {Asks : Type 0} (Q : ℕ → Type 0) where
    record IsServedOf (served : QueueServed Asks) : Type 0 where
      completed : All (λ (done : Completion). Q done.op) served.completed
      staying : All (λ (pending : Pending Asks). Q pending.op) served.staying

    head_of_side : (head : Pending Asks) (queue : List (Pending Asks)) (used : ℕ) (left : Stream) (rest : QueueServed Asks)
        (outcome : Option Outcome) → Q head.op → All (λ (pending : Pending Asks). Q pending.op) queue → IsServedOf rest →
        IsServedOf (served_head head queue used left rest outcome)
    head_of_side head queue used left rest None here all whole = record {
      completed = All-nil (λ (done : Completion). Q done.op);
      staying = All-cons (λ (pending : Pending Asks). Q pending.op) (record head { moved = head.moved + used }) queue here all;
    }
    head_of_side head queue used left rest (Some outcome) here all whole = record {
      completed =
          All-cons (λ (done : Completion). Q done.op) (record { op = head.op; outcome = outcome }) rest.completed here
          whole.completed;
      staying = whole.staying;
    }

    queue_of_side : (side : Side Asks) (queue : List (Pending Asks)) (stream : Stream) →
        All (λ (pending : Pending Asks). Q pending.op) queue → IsServedOf (served_queue side queue stream)
    queue_of_side side [] stream all =
        record {
          completed = All-nil (λ (done : Completion). Q done.op);
          staying = All-nil (λ (pending : Pending Asks). Q pending.op);
        }
    queue_of_side side (head ∷ queue) stream all =
        let served = side.served head.asks head.moved stream in
        let left = side.after head.asks head.moved served.used stream in
        head_of_side head queue served.used left (served_queue side queue left) served.outcome
        (All-head (λ (pending : Pending Asks). Q pending.op) head queue all)
        (All-tail (λ (pending : Pending Asks). Q pending.op) head queue all)
        (queue_of_side side queue left (All-tail (λ (pending : Pending Asks). Q pending.op) head queue all))

  -- what a stream completes as it is served is on it
  pub stream_here : (k : ℕ) (stream : Stream) (queues : StreamQueues) → IsQueueOf script k queues →
      All (IsHere k) (served_stream stream queues).completed
  stream_here k stream queues of =
      let reads = served_queue reading_side queues.reads stream in
      let writes = served_queue writing_side queues.writes reads.stream in
      All-append (IsHere k) reads.completed writes.completed
      (weaker reads.completed (λ done. is_read_of k (act_of script done.op) ≡ true) (λ done is. inl is)
      (queue_of_side (λ n. is_read_of k (act_of script n) ≡ true) reading_side queues.reads stream of.reads).completed)
      (weaker writes.completed (λ done. is_write_of k (act_of script done.op) ≡ true) (λ done is. inr is)
      (queue_of_side (λ n. is_write_of k (act_of script n) ≡ true) writing_side queues.writes reads.stream of.writes).completed)
    where
      weaker : (due : List Completion) (P : Completion → Type 0) → ((done : Completion) → P done → IsHere k done) → All P due →
          All (IsHere k) due
      weaker [] P more all = All-nil (IsHere k)
      weaker (done ∷ due) P more all =
          All-cons (IsHere k) done due (more done (All-head P done due all)) (weaker due P more (All-tail P done due all))

  -- what its reads complete
  pub reads_here_of : (k : ℕ) (stream : Stream) (queues : StreamQueues) → IsQueueOf script k queues →
      All (λ (done : Completion). is_read_of k (act_of script done.op) ≡ true)
      (served_queue reading_side queues.reads stream).completed
  reads_here_of k stream queues of =
      (queue_of_side (λ n. is_read_of k (act_of script n) ≡ true) reading_side queues.reads stream of.reads).completed

  -- what serving a stream leaves
  pub record IsStreamServed (k : ℕ) (stream : Stream) (queues : StreamQueues) : Type 0 where
    pub here : All (IsHere k) (served_stream stream queues).completed
    pub queues_of : IsQueueOf script k (served_stream stream queues).queues
    pub flows : (side : Bool) →
        reports_of side k (served_stream stream queues).completed
        + moved_on side (served_stream stream queues).queues + there_of side (served_stream stream queues).stream
        ≤ moved_on side queues + there_of side stream

  pub stream_flows : (k : ℕ) (stream : Stream) (queues : StreamQueues) → IsQueueOf script k queues →
      queues.closed ≡ false → IsStreamServed k stream queues
  stream_flows k stream queues of open_there =
      let reads = served_queue reading_side queues.reads stream in
      let writes = served_queue writing_side queues.writes reads.stream in
      let read_of = queue_of_side (λ n. is_read_of k (act_of script n) ≡ true) reading_side queues.reads stream of.reads in
      let write_of =
      queue_of_side (λ n. is_write_of k (act_of script n) ≡ true) writing_side queues.writes reads.stream of.writes in
      record {
        here = stream_here k stream queues of;
        queues_of = record {
          reads = read_of.staying;
          writes = write_of.staying;
          shut = λ closed. absurd (let wrong : true ≡ false = sym closed ∙ open_there in cc);
        };
        flows = λ side. both side reads.completed writes.completed read_of.completed write_of.completed refl refl;
      }
    where
      both : (side : Bool) (reads writes : List Completion) →
          All (λ (done : Completion). is_read_of k (act_of script done.op) ≡ true) reads →
          All (λ (done : Completion). is_write_of k (act_of script done.op) ≡ true) writes →
          reads ≡ (served_queue reading_side queues.reads stream).completed →
          writes ≡ (served_queue writing_side queues.writes (served_queue reading_side queues.reads stream).stream).completed →
          reports_of side k (reads ++ writes)
          + moved_on side (served_stream stream queues).queues + there_of side (served_stream stream queues).stream
          ≤ moved_on side queues + there_of side stream
      both true reads writes all_reads all_writes are_reads are_writes =
          let flow = reads_flow queues.reads stream in
          let sum = sum_by-append (report_of true k) reads writes in
          let few = reports_few true k reads in
          let none = writes_unread k writes all_writes in
          let left = writes_leave_bytes queues.writes (served_queue reading_side queues.reads stream).stream in
          let same = ap sizes_of are_reads in
          omega (arith, flow, sum, few, none, left, same)
      both false reads writes all_reads all_writes are_reads are_writes =
          let flow = writes_flow queues.writes (served_queue reading_side queues.reads stream).stream in
          let sum = sum_by-append (report_of false k) reads writes in
          let few = reports_few false k writes in
          let none = reads_unwritten k reads all_reads in
          let left = reads_leave_room queues.reads stream in
          let same = ap sizes_of are_writes in
          omega (arith, flow, sum, few, none, left, same)
