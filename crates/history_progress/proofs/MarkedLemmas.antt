-- Behind the last point each side of a stream has its mark, and its operations complete as a turn settles, where bytes
-- are told.
use Rattle.std.proofs.Common.{◌≡◌, ℕ, ◌+◌, ◌-◌, ◌<◌, ◌==◌, min, nat_le, zero, suc, Bool, true, false, cond, List, [], ◌∷◌, Option, Some, None, find, filter, length, replicate, set, take, inl, inr, refl, sym, ap, subst, ◌∙◌, arith}
use Rattle.std.specs.List.{slice_index_or}
use Rattle.std.specs.Option.{is_some, option_map}
use Rattle.std.specs.Prelude.{slice_get}
use Rattle.std.proofs.lemmas.Bool.{cases_eq, cases_lt}
use Rattle.std.proofs.lemmas.List.{get_or-map, get_or-set_same, get_or-set_other, get_or_past, length-map, length-replicate, length-set, set_past}
use Rattle.std.proofs.lemmas.List.Elements.{All-from_get_or}
use Rattle.asio_types.specs.declared.code.Code.{Code}
use Rattle.asio_types.specs.declared.code.Code.TheVariants as code
use Rattle.asio_types.specs.declared.event.Event.{Event}
use Rattle.asio_types.specs.declared.event.Event.TheVariants as event
use Rattle.asio_types.specs.declared.mark.ReadMark.{ReadMark}
use Rattle.asio_types.specs.declared.mark.WriteMark.{WriteMark}
use Rattle.asio_types.specs.declared.world.Line.{Line}
use Rattle.asio_types.specs.declared.world.What.{What}
use Rattle.asio_types.specs.declared.world.What.TheVariants as what
use Rattle.session_script.specs.declared.act.Act.{Act}
use Rattle.session_script.specs.declared.act.Act.TheVariants as act
use Rattle.session_script.specs.Script.{ScriptModel, act_of}
use Rattle.stream_rules.specs.Delimiter.{first_end}
use Rattle.stream_rules.specs.Queue.{Pending, QueueServed, Side, reading_side, served_head, served_queue, writing_side}
use Rattle.stream_rules.specs.Serving.{Outcome, Reading, Writing, Some_bytes, All_bytes, Until, Some_of, All_of, all_of, ended_by, read_code, served_read, served_write, some_of, until_found, write_code}
use Rattle.stream_rules.specs.Stream.{Stream, closed_stream, first_mark, line_performed, marked_last, new_stream}
use Rattle.stream_rules.specs.World.{lines_at, perform_lines, stream_at}
use Rattle.stream_rules.specs.declared.queue.Completion.{Completion}
use Rattle.stream_rules.specs.declared.serving.Served.{Served}
use Rattle.history_rules.specs.Legal.{MayHappen, after_event}
use Rattle.history_rules.specs.Performing.{connected, emitted, emitted_to, is_reached, is_wait_of, one_wait_cancelled, operation_cancelled, performed, performed_act, performed_by, queues_at, read_accepted, shut_at, wait_accepted, write_accepted}
use Rattle.history_rules.specs.Requests.{MayTell, disconnected, reactor_after_done, slot_in, told_off}
use Rattle.history_rules.specs.Rounds.{IsDrained, IsEmptied}
use Rattle.history_rules.specs.Settling.{served_at, served_below, served_stream, settled, with_waits_served}
use Rattle.history_rules.specs.State.{ReactorHalf, State, StreamQueues, first_reactor, no_queues}
use Rattle.history_rules.specs.Time.{at_last, at_time}
use Rattle.history_rules.specs.declared.wait.Wait.{Wait}
use Rattle.history_laws.proofs.ReactorLemmas.{stays_performed_by, stays_settled}

-- both sides of a stream have their marks
pub record IsMarked (stream : Stream) : Type 0 where
  pub reads : is_some stream.read_mark ≡ true
  pub writes : is_some stream.write_mark ≡ true

module _ (mark : Option Code) (is : is_some mark ≡ true) where
  ends : (mark : Option Code) → is_some mark ≡ true → (size : ℕ) → is_some (ended_by mark size) ≡ true
  ends None is size = absurd (cc)
  ends (Some ended) is size = refl

  some_completes : (size there : ℕ) → is_some (some_of size there mark).outcome ≡ true
  some_completes size there = by_test (there == 0)
    where
      by_test : (none : Bool) →
          is_some (cond none (let it : Served = record { used = 0; outcome = ended_by mark 0 } in it)
          (record { used = min size there; outcome = Some (code.Ok, min size there) })).outcome ≡ true
      by_test true = ends mark is 0
      by_test false = refl

  all_completes : (size before there : ℕ) → is_some (all_of size before there mark).outcome ≡ true
  all_completes size before there = by_test (nat_le size (before + there))
    where
      by_test : (enough : Bool) → is_some (cond enough (let it : Served = record { used = size - before; outcome = Some (code.Ok, size) } in it)
          (record { used = there; outcome = ended_by mark (before + there) })).outcome ≡ true
      by_test true = refl
      by_test false = ends mark is (before + there)

  until_completes : (found : Option ℕ) (max there : ℕ) → is_some (until_found found max there mark).outcome ≡ true
  until_completes (Some count) max there = refl
  until_completes None max there = by_test (nat_le max there)
    where
      by_test : (enough : Bool) → is_some (cond enough (Some (code.NotFound, 0)) (ended_by mark 0)) ≡ true
      by_test true = refl
      by_test false = ends mark is 0

read_some : (mark : Option ReadMark) → is_some mark ≡ true → is_some (option_map read_code mark) ≡ true
read_some None is = absurd (cc)
read_some (Some mark) is = refl

write_some : (mark : Option WriteMark) → is_some mark ≡ true → is_some (option_map write_code mark) ≡ true
write_some None is = absurd (cc)
write_some (Some mark) is = refl

-- where its side has its mark an operation completes
read_completes : (asks : Reading) (moved : ℕ) (stream : Stream) → IsMarked stream →
    is_some (served_read asks moved stream.arrived stream.read_mark).outcome ≡ true
read_completes (Some_bytes size) moved stream marked =
    some_completes (option_map read_code stream.read_mark) (read_some stream.read_mark marked.reads) size (length stream.arrived)
read_completes (All_bytes size) moved stream marked =
    all_completes (option_map read_code stream.read_mark) (read_some stream.read_mark marked.reads) size moved
    (length stream.arrived)
read_completes (Until delimiter max) moved stream marked =
    until_completes (option_map read_code stream.read_mark) (read_some stream.read_mark marked.reads)
    (first_end delimiter (take max stream.arrived)) max (length stream.arrived)

write_completes : (asks : Writing) (moved : ℕ) (stream : Stream) → IsMarked stream →
    is_some (served_write asks moved stream.room stream.write_mark).outcome ≡ true
write_completes (Some_of bytes) moved stream marked =
    some_completes (option_map write_code stream.write_mark) (write_some stream.write_mark marked.writes) (length bytes)
    stream.room
write_completes (All_of bytes) moved stream marked =
    all_completes (option_map write_code stream.write_mark) (write_some stream.write_mark marked.writes) (length bytes) moved
    stream.room

-- a queue of which all completes
record IsGone {Asks : Type 0} (served : QueueServed Asks) : Type 0 where
  none : served.staying ≡ []
  marked : IsMarked served.stream

head_goes : {Asks : Type 0} (head : Pending Asks) (queue : List (Pending Asks)) (used : ℕ) (left : Stream)
    (rest : QueueServed Asks) (outcome : Option Outcome) → is_some outcome ≡ true → IsGone rest →
    IsGone (served_head head queue used left rest outcome)
head_goes head queue used left rest None is gone = absurd (cc)
head_goes head queue used left rest (Some outcome) is gone = record { none = gone.none; marked = gone.marked }

queue_goes : {Asks : Type 0} (side : Side Asks) →
    ((asks : Asks) (moved : ℕ) (stream : Stream) → IsMarked stream → is_some (side.served asks moved stream).outcome ≡ true) →
    ((asks : Asks) (moved used : ℕ) (stream : Stream) → IsMarked stream → IsMarked (side.after asks moved used stream)) →
    (queue : List (Pending Asks)) (stream : Stream) → IsMarked stream → IsGone (served_queue side queue stream)
queue_goes side completes keeps [] stream marked = record { none = refl; marked = marked }
queue_goes side completes keeps (head ∷ queue) stream marked =
    let served = side.served head.asks head.moved stream in
    let left = side.after head.asks head.moved served.used stream in
    head_goes head queue served.used left (served_queue side queue left) served.outcome
    (completes head.asks head.moved stream marked)
    (queue_goes side completes keeps queue left (keeps head.asks head.moved served.used stream marked))

-- a stream whose operations all complete
record IsServedWhole (stream : Stream) (queues : StreamQueues) : Type 0 where
  emptied : IsEmptied (served_stream stream queues).queues
  marked : IsMarked (served_stream stream queues).stream

stream_goes : (stream : Stream) (queues : StreamQueues) → IsMarked stream → IsServedWhole stream queues
stream_goes stream queues marked =
    let reads : IsGone (served_queue reading_side queues.reads stream) =
    queue_goes reading_side read_completes
    (λ asks moved used stream marked. record { reads = marked.reads; writes = marked.writes }) queues.reads stream marked in
    let left : Stream = (served_queue reading_side queues.reads stream).stream in
    let writes : IsGone (served_queue writing_side queues.writes left) =
    queue_goes writing_side write_completes
    (λ asks moved used stream marked. record { reads = marked.reads; writes = marked.writes }) queues.writes left reads.marked in
    record { emptied = (reads.none, writes.none); marked = writes.marked }

-- each stream of the reactor has its marks
pub record AreMarked (r : ReactorHalf) : Type 0 where
  pub long : length r.streams ≡ length r.queues
  pub marked : (k : ℕ) → k < length r.queues → IsMarked (stream_at r.streams k)

-- and the first ones no operations
record AreServed (k : ℕ) (r : ReactorHalf) : Type 0 where
  are : AreMarked r
  emptied : (j : ℕ) → j < k → IsEmptied (queues_at r j)

served_next : (k : ℕ) (r : ReactorHalf) → AreServed k r → AreServed (suc k) (served_at k r)
served_next k r served = elim (cases_lt k (length r.queues)) [
  | inl within ↦
      let whole = stream_goes (stream_at r.streams k) (queues_at r k) (served.are.marked k within) in
      let after = served_stream (stream_at r.streams k) (queues_at r k) in
      record {
        are = record {
          long = length-set r.streams k after.stream ∙ (served.are.long ∙ sym (length-set r.queues k after.queues));
          marked = λ j less. elim (cases_eq j k) [
            | inl same ↦
                subst (λ (j : ℕ). IsMarked (stream_at (set r.streams k after.stream) j)) (sym same)
                (subst IsMarked (sym (get_or-set_same r.streams k after.stream new_stream (omega (arith, within, served.are.long))))
                whole.marked)
            | inr other ↦
                subst IsMarked (sym (get_or-set_other r.streams k j after.stream new_stream other))
                (served.are.marked j (omega (arith, less, length-set r.queues k after.queues)))
          ];
        };
        emptied = λ j less. elim (cases_eq j k) [
          | inl same ↦
              subst (λ (j : ℕ). IsEmptied (slice_index_or (set r.queues k after.queues) j no_queues)) (sym same)
              (subst IsEmptied (sym (get_or-set_same r.queues k after.queues no_queues within)) whole.emptied)
          | inr other ↦
              subst IsEmptied (sym (get_or-set_other r.queues k j after.queues no_queues other))
              (served.emptied j (omega (arith, less, other)))
        ];
      }
  | inr past ↦
      let after = served_stream (stream_at r.streams k) (queues_at r k) in
      let queues : set r.queues k after.queues ≡ r.queues = set_past r.queues k after.queues past in
      let streams : set r.streams k after.stream ≡ r.streams =
      set_past r.streams k after.stream (omega (arith, past, served.are.long)) in
      record {
        are = record {
          long = length-set r.streams k after.stream ∙ (served.are.long ∙ sym (length-set r.queues k after.queues));
          marked = λ j less.
              subst (λ (streams : List Stream). IsMarked (stream_at streams j)) (sym streams)
              (served.are.marked j (omega (arith, less, length-set r.queues k after.queues)));
        };
        emptied = λ j less.
            subst (λ (queues : List StreamQueues). IsEmptied (slice_index_or queues j no_queues)) (sym queues)
            (elim (cases_eq j k) [
              | inl same ↦
                  subst IsEmptied (sym (get_or_past r.queues j no_queues (omega (arith, same, past)))) (refl, refl)
              | inr other ↦ served.emptied j (omega (arith, less, other))
            ]);
      }
]

served_all : (k : ℕ) (r : ReactorHalf) → AreMarked r → AreServed k (served_below k r)
served_all zero r are = record { are = are; emptied = λ j less. absurd (omega (arith, less)) }
served_all (suc k) r are = served_next k (served_below k r) (served_all k r are)

-- marked, and with no operations
pub record AreGone (r : ReactorHalf) : Type 0 where
  pub are : AreMarked r
  pub emptied : (j : ℕ) → IsEmptied (queues_at r j)

settled_gone : (r : ReactorHalf) → AreMarked r → AreGone (settled true r)
settled_gone r are =
    let whole : ReactorHalf = record (with_waits_served r) { whole_turn = true; reached = 0 } in
    let served : AreServed (length r.queues) (served_below (length r.queues) whole) =
    served_all (length r.queues) whole (record { long = are.long; marked = are.marked }) in
    record {
      are = served.are;
      emptied = λ j. elim (cases_lt j (length r.queues)) [
        | inl within ↦ served.emptied j within
        | inr past ↦
            let long = below_long (length r.queues) whole in
            subst IsEmptied (sym (get_or_past (served_below (length r.queues) whole).queues j no_queues (omega (arith, past, long))))
            (refl, refl)
      ];
    }
  where
    below_long : (k : ℕ) (r : ReactorHalf) → length (served_below k r).queues ≡ length r.queues
    below_long zero r = refl
    below_long (suc k) r =
        length-set (served_below k r).queues k
        (served_stream (stream_at (served_below k r).streams k) (queues_at (served_below k r) k)).queues
        ∙ below_long k r

-- marks stay
record KeepsMarks (r t : ReactorHalf) : Type 0 where
  long : length t.streams ≡ length r.streams
  size : length t.queues ≡ length r.queues
  marked : (k : ℕ) → IsMarked (stream_at r.streams k) → IsMarked (stream_at t.streams k)

keeps_both : (r t u : ReactorHalf) → KeepsMarks r t → KeepsMarks t u → KeepsMarks r u
keeps_both r t u first second = record {
  long = second.long ∙ first.long;
  size = second.size ∙ first.size;
  marked = λ k is. second.marked k (first.marked k is);
}

keeps_same : (r : ReactorHalf) → KeepsMarks r r
keeps_same r = record { long = refl; size = refl; marked = λ k is. is }

-- the queues of one stream change
keeps_queues : (r : ReactorHalf) (stream : ℕ) (new : StreamQueues) (due : List Completion) →
    KeepsMarks r (record r { queues = set r.queues stream new; due = due })
keeps_queues r stream new due = record { long = refl; size = length-set r.queues stream new; marked = λ k is. is }

keeps_if : (r first second : ReactorHalf) (b : Bool) → KeepsMarks r first → KeepsMarks r second →
    KeepsMarks r (cond b first second)
keeps_if r first second true one two = one
keeps_if r first second false one two = two

keeps_connected : (slot : Option ℕ) (op : ℕ) (r t : ReactorHalf) → KeepsMarks r t → KeepsMarks r (connected slot op t)
keeps_connected None op r t keeps = keeps
keeps_connected (Some slot) op r t keeps = record { long = keeps.long; size = keeps.size; marked = keeps.marked }

keeps_read : (op stream : ℕ) (reading : Reading) (r : ReactorHalf) → KeepsMarks r (read_accepted op stream reading r)
keeps_read op stream reading r =
    keeps_if r _ _ (queues_at r stream).closed (record { long = refl; size = refl; marked = λ k is. is })
    (keeps_queues r stream _ r.due)

keeps_write : (op stream : ℕ) (writing : Writing) (r : ReactorHalf) → KeepsMarks r (write_accepted op stream writing r)
keeps_write op stream writing r =
    keeps_if r _ _ (queues_at r stream).closed (record { long = refl; size = refl; marked = λ k is. is })
    (keeps_queues r stream _ r.due)

keeps_cancelled : (given : Act) (op : ℕ) (r : ReactorHalf) → KeepsMarks r (operation_cancelled given op r)
keeps_cancelled (act.Wait timer strand slot filter) op r = record { long = refl; size = refl; marked = λ k is. is }
keeps_cancelled (act.ReadSome stream size strand slot filter) op r = keeps_queues r stream _ _
keeps_cancelled (act.ReadAll stream size strand slot filter) op r = keeps_queues r stream _ _
keeps_cancelled (act.Until stream delimiter max strand slot filter) op r = keeps_queues r stream _ _
keeps_cancelled (act.WriteSome stream bytes strand slot filter) op r = keeps_queues r stream _ _
keeps_cancelled (act.WriteAll stream bytes strand slot filter) op r = keeps_queues r stream _ _
keeps_cancelled _ op r = keeps_same r

keeps_emitted : (script : ScriptModel) (op : Option ℕ) (types : ℕ) (r : ReactorHalf) → KeepsMarks r (emitted script op types r)
keeps_emitted script None types r = keeps_same r
keeps_emitted script (Some op) types r = by_act (act_of script op)
  where
    by_act : (given : Option Act) → KeepsMarks r (emitted_to given types op r)
    by_act None = keeps_same r
    by_act (Some given) =
        keeps_if r (operation_cancelled given op r) r (is_reached given types) (keeps_cancelled given op r) (keeps_same r)

keeps_one_wait : (wait : Option Wait) (r : ReactorHalf) → KeepsMarks r (one_wait_cancelled wait r)
keeps_one_wait None r = keeps_same r
keeps_one_wait (Some wait) r = record { long = refl; size = refl; marked = λ k is. is }

-- one stream changes, and keeps its marks
changed_marked : (streams : List Stream) (stream : ℕ) (new : Stream) (k : ℕ) →
    (IsMarked (stream_at streams stream) → IsMarked new) → IsMarked (stream_at streams k) →
    IsMarked (stream_at (set streams stream new) k)
changed_marked streams stream new k keeps is = elim (cases_eq k stream) [
  | inl same ↦
      subst (λ (k : ℕ). IsMarked (stream_at (set streams stream new) k)) (sym same)
      (elim (cases_lt stream (length streams)) [
        | inl within ↦
            subst IsMarked (sym (get_or-set_same streams stream new new_stream within))
            (keeps (subst (λ (k : ℕ). IsMarked (stream_at streams k)) same is))
        | inr past ↦
            subst (λ (streams : List Stream). IsMarked (stream_at streams stream)) (sym (set_past streams stream new past))
            (subst (λ (k : ℕ). IsMarked (stream_at streams k)) same is)
      ])
  | inr other ↦ subst IsMarked (sym (get_or-set_other streams stream k new new_stream other)) is
]

keeps_shut : (stream : ℕ) (r : ReactorHalf) → KeepsMarks r (shut_at stream r)
keeps_shut stream r = record {
  long = length-set r.streams stream (closed_stream (stream_at r.streams stream));
  size = length-set r.queues stream (record { closed = true; reads = []; writes = [] });
  marked = λ k is.
      changed_marked r.streams stream (closed_stream (stream_at r.streams stream)) k
      (λ was. record { reads = was.reads; writes = was.writes }) is;
}

keeps_performed : (script : ScriptModel) (a : ℕ) (given : Act) (r : ReactorHalf) →
    KeepsMarks r (performed_act script a given r)
keeps_performed script a (act.Wait timer strand slot filter) r =
    keeps_connected slot a r (wait_accepted a timer r) (record { long = refl; size = refl; marked = λ k is. is })
keeps_performed script a (act.ReadSome stream size strand slot filter) r =
    keeps_connected slot a r (read_accepted a stream (Some_bytes size) r) (keeps_read a stream (Some_bytes size) r)
keeps_performed script a (act.ReadAll stream size strand slot filter) r =
    keeps_connected slot a r (read_accepted a stream (All_bytes size) r) (keeps_read a stream (All_bytes size) r)
keeps_performed script a (act.Until stream delimiter max strand slot filter) r =
    keeps_connected slot a r (read_accepted a stream (Until delimiter max) r) (keeps_read a stream (Until delimiter max) r)
keeps_performed script a (act.WriteSome stream bytes strand slot filter) r =
    keeps_connected slot a r (write_accepted a stream (Some_of bytes) r) (keeps_write a stream (Some_of bytes) r)
keeps_performed script a (act.WriteAll stream bytes strand slot filter) r =
    keeps_connected slot a r (write_accepted a stream (All_of bytes) r) (keeps_write a stream (All_of bytes) r)
keeps_performed script a (act.Expires timer after) r = record { long = refl; size = refl; marked = λ k is. is }
keeps_performed script a (act.ExpiresAt timer at) r = record { long = refl; size = refl; marked = λ k is. is }
keeps_performed script a (act.Cancel timer) r = record { long = refl; size = refl; marked = λ k is. is }
keeps_performed script a (act.CancelOne timer) r = keeps_one_wait (find (is_wait_of timer) r.waits) r
keeps_performed script a (act.Emit slot types) r = keeps_emitted script (slice_index_or r.slots slot None) types r
keeps_performed script a (act.Close stream) r =
    keeps_if r r (shut_at stream r) (queues_at r stream).closed (keeps_same r) (keeps_shut stream r)
keeps_performed script a (act.Release guard) r = record { long = refl; size = refl; marked = λ k is. is }
keeps_performed script a _ r = keeps_same r

keeps_performed_by : (script : ScriptModel) (a : ℕ) (given : Option Act) (r : ReactorHalf) →
    KeepsMarks r (performed_by script a given r)
keeps_performed_by script a None r = keeps_same r
keeps_performed_by script a (Some given) r = keeps_performed script a given r

marked_kept : (r t : ReactorHalf) → KeepsMarks r t → AreMarked r → AreMarked t
marked_kept r t keeps are = record {
  long = keeps.long ∙ (are.long ∙ sym keeps.size);
  marked = λ k less. keeps.marked k (are.marked k (omega (arith, less, keeps.size)));
}

-- a line of the world leaves a mark where there is one
some_first : {M : Type 0} (old : Option M) (new : M) → is_some old ≡ true → is_some (first_mark old new) ≡ true
some_first None new is = absurd (cc)
some_first (Some old) new is = refl

line_marked : (what : What) (stream : Stream) → IsMarked stream → IsMarked (line_performed what stream)
line_marked (what.Feed bytes) stream is = record { reads = is.reads; writes = is.writes }
line_marked what.End stream is = record { reads = some_first stream.read_mark _ is.reads; writes = is.writes }
line_marked what.Reset stream is =
    record { reads = some_first stream.read_mark _ is.reads; writes = some_first stream.write_mark _ is.writes }
line_marked (what.Room count) stream is = record { reads = is.reads; writes = is.writes }

record KeepStreams (old new : List Stream) : Type 0 where
  long : length new ≡ length old
  marked : (k : ℕ) → IsMarked (stream_at old k) → IsMarked (stream_at new k)

lines_keep : (lines : List Line) (streams : List Stream) → KeepStreams streams (perform_lines lines streams)
lines_keep [] streams = record { long = refl; marked = λ k is. is }
lines_keep (line ∷ lines) streams =
    let new : Stream = line_performed line.what (stream_at streams line.stream) in
    let rest = lines_keep lines (set streams line.stream new) in
    record {
      long = rest.long ∙ length-set streams line.stream new;
      marked = λ k is. rest.marked k
          (changed_marked streams line.stream new k (line_marked line.what (stream_at streams line.stream)) is);
    }

-- at the last point all get their marks
first_some : {M : Type 0} (old : Option M) (new : M) → is_some (first_mark old new) ≡ true
first_some None new = refl
first_some (Some old) new = refl

last_marked : (r : ReactorHalf) → length r.streams ≡ length r.queues → AreMarked (at_last true r)
last_marked r long = record {
  long = length-map r.streams marked_last ∙ long;
  marked = λ k less.
      subst IsMarked (sym (get_or-map marked_last r.streams k new_stream new_stream (omega (arith, less, long))))
      (record {
        reads = first_some (stream_at r.streams k).read_mark _;
        writes = first_some (stream_at r.streams k).write_mark _;
      });
}

-- where bytes are told the reactor has as many streams as queues, and behind the last point none is pending at them
pub record IsEmptying (r : ReactorHalf) : Type 0 where
  pub long : length r.streams ≡ length r.queues
  pub gone : r.last ≡ true → AreGone r

settled_long : (r : ReactorHalf) → length r.streams ≡ length r.queues →
    length (settled true r).streams ≡ length (settled true r).queues
settled_long r long = below (length r.queues) (record (with_waits_served r) { whole_turn = true; reached = 0 }) long
  where
    below : (k : ℕ) (r : ReactorHalf) → length r.streams ≡ length r.queues →
        length (served_below k r).streams ≡ length (served_below k r).queues
    below zero r long = long
    below (suc k) r long =
        let t : ReactorHalf = served_below k r in
        let served = served_stream (stream_at t.streams k) (queues_at t k) in
        length-set t.streams k served.stream ∙ (below k r long ∙ sym (length-set t.queues k served.queues))

settles : (r : ReactorHalf) → length r.streams ≡ length r.queues → (r.last ≡ true → AreMarked r) → IsEmptying (settled true r)
settles r long marked = record {
  long = settled_long r long;
  gone = λ is. settled_gone r (marked (sym (stays_settled true r).last ∙ is));
}

emptying_told : (script : ScriptModel) (o : ℕ) (code : Code) (size : ℕ) (r : ReactorHalf) →
    MayTell script true r o code size → IsEmptying r → IsEmptying (reactor_after_done script r o)
emptying_told script o code size r may is =
    left (slot_in (act_of script o)) (record (told_off script o r r.due) { whole_turn = false }) (off r.due refl)
  where
    left : (slot : Option ℕ) (t : ReactorHalf) → IsEmptying t → IsEmptying (disconnected o slot t)
    left None t is = is
    left (Some slot) t is = record {
      long = is.long;
      gone = λ last. let gone = is.gone last in record {
        are = record { long = gone.are.long; marked = gone.are.marked };
        emptied = gone.emptied;
      };
    }

    off : (due : List Completion) → r.due ≡ due → IsEmptying (record (told_off script o r due) { whole_turn = false })
    off [] same = absurd (elim may [
      | inl next ↦
          let none : slice_get r.due 0 ≡ None = ap (λ (due : List Completion). slice_get due 0) same in
          let wrong : None ≡ Some next.head = sym none ∙ next.due in
          cc
      | inr given ↦ let wrong = given.untold in cc
    ])
    off (next ∷ due) same = record {
      long = is.long;
      gone = λ last. let gone = is.gone last in record {
        are = record { long = gone.are.long; marked = gone.are.marked };
        emptied = gone.emptied;
      };
    }

-- each event keeps it
pub emptying_after : (script : ScriptModel) (s : State) (e : Event) → MayHappen script true s e → IsEmptying s.reactor →
    IsEmptying (after_event script true s e).reactor
emptying_after script s (event.Take a) may is =
    let r : ReactorHalf = s.reactor in
    let keeps = keeps_performed_by script a (act_of script a) r in
    settles (performed script a r) (keeps.long ∙ (is.long ∙ sym keeps.size))
    (λ last.
    let was : r.last ≡ true = sym (stays_performed_by script a (act_of script a) r).last ∙ last in
    let marked = marked_kept r (performed_by script a (act_of script a) r) keeps (is.gone was).are in
    record { long = marked.long; marked = marked.marked })
emptying_after script s (event.Tick now) may is =
    let r : ReactorHalf = s.reactor in
    let keeps = lines_keep (lines_at now script.world.lines) r.streams in
    settles (at_time script true now r) (keeps.long ∙ is.long)
    (λ last. let gone = is.gone last in record {
      long = keeps.long ∙ is.long;
      marked = λ k less. keeps.marked k (gone.are.marked k less);
    })
emptying_after script s event.Last may is =
    settles (at_last true s.reactor) (last_marked s.reactor is.long).long (λ last. last_marked s.reactor is.long)
emptying_after script s (event.Done o code size) may is = emptying_told script o code size s.reactor may.next is
emptying_after script s event.Fault may is = record {
  long = is.long;
  gone = λ last. let gone = is.gone last in record {
    are = record { long = gone.are.long; marked = gone.are.marked };
    emptied = gone.emptied;
  };
}
emptying_after script s (event.Stop (Some a)) may is = is
emptying_after script s (event.Stop None) may is = is
emptying_after script s _ may is = is

pub first_emptying : (script : ScriptModel) → IsEmptying (first_reactor script true)
first_emptying script = record {
  long =
      (lines_keep (lines_at 0 script.world.lines) (replicate script.world.streams new_stream)).long
      ∙ (length-replicate script.world.streams new_stream ∙ sym (length-replicate script.world.streams no_queues));
  gone = λ last. absurd (cc);
}

pub drained : (r : ReactorHalf) → IsEmptying r → IsDrained r
drained r is = λ last.
    All-from_get_or IsEmptied r.queues no_queues (λ k within. (is.gone last).emptied k)
