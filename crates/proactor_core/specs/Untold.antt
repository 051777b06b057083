-- A proactor beside a history whose bytes are untold. Both have a reactor's half of a state. The
-- proactor's is called mid here: it serves the streams, so it knows what each operation moved and
-- what each stream gave. The history's is called half, and serves no stream: there an operation
-- stays in its queue, unmoved, until its completion is told.
use Rattle.std.specs.Prelude.{◌≡◌, ◌≤◌, ◌<◌, ℕ, ◌+◌, ⊤, Bool, true, false, All, List, [], ◌∷◌, ◌++◌, Option, Some, None, length, map, drop, count_by}
use Rattle.std.specs.List.{slice_get, slice_index_or, slice_set}
use Rattle.asio_types.specs.declared.code.Code.{Code}
use Rattle.asio_types.specs.declared.code.Code.TheVariants as code
use Rattle.session_script.specs.declared.act.Act.{Act}
use Rattle.session_script.specs.Script.{ScriptModel, act_of}
use Rattle.session_script.specs.WellFormed.{IsWellFormed}
use Rattle.stream_rules.specs.declared.queue.Completion.{Completion}
use Rattle.stream_rules.specs.Queue.{Pending}
use Rattle.stream_rules.specs.Serving.{Reading, Writing}
use Rattle.stream_rules.specs.Stream.{Stream}
use Rattle.composed_ops.specs.StreamOperation.{Reads, Writes}
use Rattle.composed_ops.specs.Progress.{IsUnderWay}
use Rattle.history_rules.specs.Kinds.{reading_of, stream_of, writing_of}
use Rattle.history_rules.specs.Performing.{performed}
use Rattle.history_rules.specs.Requests.{MayTell, reactor_after_done}
use Rattle.history_rules.specs.Rounds.{is_held, IsDrained, IsEmptied}
use Rattle.history_rules.specs.Settling.{settled, with_waits_served}
use Rattle.history_rules.specs.State.{ReactorHalf, StreamQueues, first_reactor, no_queues}
use Rattle.history_rules.specs.Time.{at_last, at_time, next_time, pending_count}
use Rattle.history_rules.specs.Untold.{IsToldAs, may_give_read, may_give_write, may_have_moved, reading_place, writing_place}
use Rattle.reactor_trait.specs.Reactor.{Outside}
use Rattle.proactor_core.specs.declared.pending.PendingOp.{PendingOp}
use Rattle.proactor_core.specs.Due.{Due}
use Rattle.proactor_core.specs.Held.{HeldBytes}
use Rattle.proactor_core.specs.Pending.{pending_read, pending_write, unmoved, AreReads, AreWrites, GivesInOrder}
use Rattle.proactor_core.specs.Streams.{AreServedBelow, StreamView, queues_in}

abbrev pub queues_of_view : List StreamQueues → ℕ → StreamQueues
queues_of_view queues stream = slice_index_or queues stream no_queues

-- a completion that a history knows of may be told as this one
pub record IsToldBy (script : ScriptModel) (own told : Completion) : Type 0 where
  pub is_op : told.op ≡ own.op
  pub outcome : IsToldAs false (act_of script told.op) own.outcome told.outcome.0 told.outcome.1

-- one by one
abbrev pub AreToldBy : ScriptModel → List Completion → List Completion → Type 0
AreToldBy script [] [] = ⊤
AreToldBy script (own ∷ due) (told ∷ fixed) = IsToldBy script own told × AreToldBy script due fixed
AreToldBy script due fixed = ⊥

-- the first operation of a queue completes as it may where bytes are untold
pub record IsFirstGiven {Asks : Type 0} (may : Asks → Code → ℕ → Bool) (queue : List (Pending Asks))
    (done : Completion) : Type 0 where
  pub head : Pending Asks
  pub first : slice_get queue 0 ≡ Some head
  pub is_op : done.op ≡ head.op
  pub allowed : may head.asks done.outcome.0 done.outcome.1 ≡ true

-- the queues without the first read of a stream
abbrev pub without_read : ℕ → List StreamQueues → List StreamQueues
without_read stream queues =
    let one = queues_of_view queues stream in
    slice_set queues stream (record one { reads = drop 1 one.reads })

abbrev pub without_write : ℕ → List StreamQueues → List StreamQueues
without_write stream queues =
    let one = queues_of_view queues stream in
    slice_set queues stream (record one { writes = drop 1 one.writes })

-- from one place in a turn to another operations complete: each is the first of its side, and no
-- side gives once a later one has given. The last queues are what is left of the first
pub data AreGiven : ℕ → List StreamQueues → List Completion → ℕ → List StreamQueues → Type 0 where
  none_given : {from to : ℕ} {queues : List StreamQueues} → from ≤ to →
      AreGiven from queues [] to queues
  read_given : {from to : ℕ} {queues left : List StreamQueues} {done : Completion}
      {given : List Completion} (stream : ℕ) → from ≤ reading_place stream →
      IsFirstGiven may_give_read (queues_of_view queues stream).reads done →
      AreGiven (reading_place stream) (without_read stream queues) given to left →
      AreGiven from queues (done ∷ given) to left
  write_given : {from to : ℕ} {queues left : List StreamQueues} {done : Completion}
      {given : List Completion} (stream : ℕ) → from ≤ writing_place stream →
      IsFirstGiven may_give_write (queues_of_view queues stream).writes done →
      AreGiven (writing_place stream) (without_write stream queues) given to left →
      AreGiven from queues (done ∷ given) to left

-- the operation of a queue is an act of the script that asks this of this stream
pub record IsKnown {Asks : Type 0} (script : ScriptModel) (asks_of : Act → Option Asks) (stream : ℕ)
    (pending : Pending Asks) : Type 0 where
  pub act : Act
  pub is_act : act_of script pending.op ≡ Some act
  pub asks : asks_of act ≡ Some pending.asks
  pub on : stream_of act ≡ Some stream

pub record AreKnownAt (script : ScriptModel) (stream : ℕ) (queues : StreamQueues) : Type 0 where
  pub reads : All (IsKnown script reading_of stream) queues.reads
  pub writes : All (IsKnown script writing_of stream) queues.writes

abbrev pub AreKnown : ScriptModel → List StreamQueues → Type 0
AreKnown script queues = (stream : ℕ) → AreKnownAt script stream (queues_of_view queues stream)

-- a history that knows nothing of what an operation moved lets its abort tell this
abbrev pub MayAbort : {Asks : Type 0} → ScriptModel → Pending Asks → Type 0
MayAbort script pending =
    may_have_moved (act_of script pending.op) code.Aborted 0 pending.moved ≡ true

pub record MayAbortAt (script : ScriptModel) (queues : StreamQueues) : Type 0 where
  pub reads : All (MayAbort script) queues.reads
  pub writes : All (MayAbort script) queues.writes

abbrev pub MayAbortAll : ScriptModel → List StreamQueues → Type 0
MayAbortAll script queues = (stream : ℕ) → MayAbortAt script (queues_of_view queues stream)

abbrev pub unmoved_queues : StreamQueues → StreamQueues
unmoved_queues queues = record queues {
  reads = map unmoved queues.reads;
  writes = map unmoved queues.writes;
}

-- half is what a history with untold bytes has where the proactor has mid, and where streams have
-- given these
pub record IsUntoldWith (script : ScriptModel) (given : List Completion) (mid half : ReactorHalf)
    : Type 0 where
  -- what is due for the history too
  pub fixed : List Completion
  pub due : mid.due ≡ fixed ++ given
  pub told : AreToldBy script half.due fixed
  -- what streams gave, and how far they came; the others stay, whatever they moved
  pub place : ℕ
  pub in_order : AreGiven half.reached half.queues given place (map unmoved_queues mid.queues)
  pub known : AreKnown script half.queues
  pub aborts : MayAbortAll script mid.queues
  -- all else is the same but for the streams, of which neither is told anything
  pub others : half
      ≡ record mid
      { streams = half.streams; queues = half.queues; due = half.due; reached = half.reached }

abbrev pub IsUntoldOf : ScriptModel → ReactorHalf → ReactorHalf → Type 0
IsUntoldOf script mid half = (given : List Completion) × IsUntoldWith script given mid half

-- no stream has given anything: all that is due is due for the history too
abbrev pub IsUnservedOf : ScriptModel → ReactorHalf → ReactorHalf → Type 0
IsUnservedOf script mid half = IsUntoldWith script [] mid half

-- what serving a stream does to the queues and to what is due: the reads complete as they may, and
-- then the writes
pub record IsGivenAt (stream : ℕ) (old new : List StreamQueues) (due later : List Completion)
    : Type 0 where
  pub within : stream < length old
  pub reads : List Completion
  pub writes : List Completion
  pub listed : later ≡ due ++ (reads ++ writes)
  pub others : new ≡ slice_set old stream (record (queues_of_view old stream) {
    reads = (queues_of_view new stream).reads;
    writes = (queues_of_view new stream).writes;
  })
  pub reads_in_order :
      GivesInOrder may_give_read (queues_of_view old stream).reads (queues_of_view new stream).reads
      reads
  pub writes_in_order :
      GivesInOrder may_give_write (queues_of_view old stream).writes
      (queues_of_view new stream).writes writes

-- the first streams are served, by rising number
pub data AreGivenBelow
    : ℕ → List StreamQueues → List StreamQueues → List Completion → List Completion → Type 0 where
  none_below : {queues : List StreamQueues} {due : List Completion} →
      AreGivenBelow 0 queues queues due due
  one_below : {number : ℕ} {first old new : List StreamQueues} {start due later : List Completion} →
      AreGivenBelow number first old start due → IsGivenAt number old new due later →
      AreGivenBelow (number + 1) first new start later

-- both begin alike
abbrev pub UntoldBegins : Type 0
UntoldBegins =
    (script : ScriptModel) (streams : List Stream) →
    IsUntoldOf script (record (first_reactor script false) { streams = streams })
    (first_reactor script false)

-- where nothing is due to the proactor nothing is due to the history, and nothing is pending there
-- that isn't here
pub record RestAlike (script : ScriptModel) (mid half : ReactorHalf) : Type 0 where
  pub unserved : IsUnservedOf script mid half
  pub due : half.due ≡ []
  pub drained : IsDrained mid → IsDrained half

abbrev pub UntoldRests : Type 0
UntoldRests =
    (script : ScriptModel) (mid half : ReactorHalf) →
    IsUntoldOf script mid half → mid.due ≡ [] → RestAlike script mid half

-- an act is taken
abbrev pub UntoldPerforms : Type 0
UntoldPerforms =
    (script : ScriptModel) (a : ℕ) (mid half : ReactorHalf) →
    IsWellFormed script → IsUnservedOf script mid half →
    IsUnservedOf script (performed script a mid) (performed script a half)

-- time moves, and the last time point passes
abbrev pub UntoldTicks : Type 0
UntoldTicks =
    (script : ScriptModel) (given : List Completion) (now : ℕ) (streams : List Stream)
    (mid half : ReactorHalf) →
    IsUntoldWith script given mid half →
    IsUntoldWith script given (record mid { now = now; streams = streams })
    (at_time script false now half)

abbrev pub UntoldEnds : Type 0
UntoldEnds =
    (script : ScriptModel) (given : List Completion) (streams : List Stream)
    (mid half : ReactorHalf) →
    IsUntoldWith script given mid half →
    IsUntoldWith script given (record mid { last = true; streams = streams }) (at_last false half)

-- an operation of a queue has something left to move
abbrev pub IsReadUnderWay : Pending Reading → Type 0
IsReadUnderWay read =
    IsUnderWay (record { asks = Reads read.asks; moved = read.moved; latest = None })

abbrev pub IsWriteUnderWay : Pending Writing → Type 0
IsWriteUnderWay write =
    IsUnderWay (record { asks = Writes write.asks; moved = write.moved; latest = None })

pub record AreUnderWay (queues : StreamQueues) : Type 0 where
  pub reads : All IsReadUnderWay queues.reads
  pub writes : All IsWriteUnderWay queues.writes

-- the waits have completed, and then the streams have left these queues and all of this due
abbrev pub turned : List Stream → List StreamQueues → List Completion → ℕ → ReactorHalf →
    ReactorHalf
turned streams served due reached mid = record (with_waits_served mid) {
  streams = streams;
  queues = served;
  due = due;
  whole_turn = true;
  reached = reached;
}

-- a turn in which streams give what they may, and each operation that stays has something left to
-- move
abbrev pub UntoldSettles : Type 0
UntoldSettles =
    (script : ScriptModel) (mid half : ReactorHalf) (count reached : ℕ) (streams : List Stream)
    (served : List StreamQueues) (due : List Completion) →
    IsUnservedOf script mid half →
    AreGivenBelow count mid.queues served (with_waits_served mid).due due →
    All AreUnderWay served →
    IsUntoldOf script (turned streams served due reached mid) (settled false half)

-- the streams of a proactor give so
abbrev pub StreamsGiveBelow : Type 0
StreamsGiveBelow =
    (last : Bool) (number : ℕ) (old new : List StreamView) (told left : Option Outside)
    (due later : Due) →
    number ≤ length old → AreServedBelow last number old new told left due later →
    AreGivenBelow number (map queues_in old) (map queues_in new) due.coming later.coming

-- and their operations are under way
abbrev pub WorkIsUnderWay : Type 0
WorkIsUnderWay =
    (buffer : ℕ) (held : HeldBytes) (closed : Bool) (reads writes : List PendingOp) →
    AreReads buffer held reads → AreWrites writes →
    AreUnderWay (record {
      closed = closed;
      reads = map pending_read reads;
      writes = map pending_write writes;
    })

-- in a turn, once the waits have completed, a proactor that has what mid has serves its streams, to
-- these views and with this due
pub record ServesInTurn (mid : ReactorHalf) (new : List StreamView) (later : Due) : Type 0 where
  -- the streams and what was due before, and what the reactor told then and tells now
  pub old : List StreamView
  pub due : Due
  pub told : Option Outside
  pub left : Option Outside
  pub queued : mid.queues ≡ map queues_in old
  pub listed : due.coming ≡ (with_waits_served mid).due
  -- so many streams were served, after the last time point or before it
  pub last : Bool
  pub number : ℕ
  pub within : number ≤ length old
  pub served : AreServedBelow last number old new told left due later
  pub under_way : All (λ view. AreUnderWay (queues_in view)) new

-- so a turn of a proactor leaves the history beside it
abbrev pub UntoldTurns : Type 0
UntoldTurns =
    (script : ScriptModel) (mid half : ReactorHalf) (streams : List Stream) (new : List StreamView)
    (later : Due) (reached : ℕ) →
    IsUnservedOf script mid half → ServesInTurn mid new later →
    IsUntoldOf script (turned streams (map queues_in new) later.coming reached mid)
    (settled false half)

-- after the last time point it leaves no operation in a queue
abbrev pub LastTurnsDrain : Type 0
LastTurnsDrain =
    (last : Bool) (old new : List StreamView) (told left : Option Outside) (due later : Due) →
    AreServedBelow last (length old) old new told left due later → last ≡ true →
    All IsEmptied (map queues_in new)

-- the next completion of the proactor may be told in the history, which leaves both alike
pub record TellAlike (script : ScriptModel) (head : Completion) (mid half : ReactorHalf)
    : Type 0 where
  pub told : MayTell script false half head.op head.outcome.0 head.outcome.1
  pub after : IsUntoldOf script (reactor_after_done script mid head.op)
      (reactor_after_done script half head.op)

abbrev pub UntoldTells : Type 0
UntoldTells =
    (script : ScriptModel) (head : Completion) (rest : List Completion) (mid half : ReactorHalf) →
    IsUntoldOf script mid half → mid.due ≡ head ∷ rest → TellAlike script head mid half

-- what the context asks of the reactor's half is the same of both
pub record AnswerAlike (script : ScriptModel) (mid half : ReactorHalf) : Type 0 where
  pub next : next_time script half ≡ next_time script mid
  pub pending : pending_count half ≡ pending_count mid
  pub guards : count_by is_held half.guards ≡ count_by is_held mid.guards
  pub taken : half.taken ≡ mid.taken
  pub last : half.last ≡ mid.last
  pub failed : half.failed ≡ mid.failed
  pub whole_turn : half.whole_turn ≡ mid.whole_turn

abbrev pub UntoldAnswers : Type 0
UntoldAnswers =
    (script : ScriptModel) (mid half : ReactorHalf) → IsUntoldOf script mid half →
    AnswerAlike script mid half
