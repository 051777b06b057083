-- An operation is in its slot as long as the reactor has it to complete.
use Rattle.std.proofs.Common.{◌≡◌, ◌≢◌, ℕ, zero, suc, ◌+◌, ◌<◌, ◌≤◌, Bool, true, false, cond, List, [], ◌∷◌, ◌++◌, Option, Some, None, inl, inr, length, get_or, set, replicate, refl, sym, ap, ◌∙◌, arith}
use Rattle.std.specs.Prelude.{◌==◌, find, sum_by}
use Rattle.std.proofs.lemmas.Bool.{and_parts, cases_eq, eq-eqb, ne_eqb, not-true}
use Rattle.std.proofs.lemmas.List.{get_or-set_other, get_or-set_same, length-replicate, length-set}
use Rattle.std.proofs.lemmas.List.Sums.{sum_by-cons}
use Rattle.asio_types.specs.declared.code.Code.{Code}
use Rattle.asio_types.specs.declared.event.Event.{Event}
use Rattle.asio_types.specs.declared.event.Event.TheVariants as event
use Rattle.session_script.specs.declared.act.Act.{Act}
use Rattle.session_script.specs.declared.act.Act.TheVariants as act
use Rattle.session_script.specs.Script.{ScriptModel, act_of}
use Rattle.session_script.specs.WellFormed.{IsWellFormed}
use Rattle.session_script.proofs.PlacingLemmas.{act_fits}
use Rattle.stream_rules.specs.declared.queue.Completion.{Completion}
use Rattle.stream_rules.specs.Serving.{All_bytes, All_of, Reading, Some_bytes, Some_of, Until, Writing}
use Rattle.history_rules.specs.Kinds.{slot_of}
use Rattle.history_rules.specs.Legal.{MayHappen, reactor_after}
use Rattle.history_rules.specs.Order.{was_taken}
use Rattle.history_rules.specs.Performing.{bad, connected, emitted, emitted_to, is_reached, is_wait_of, new_pending, one_wait_cancelled, operation_cancelled, performed, performed_act, performed_by, queues_at, read_accepted, shut_at, with_due, with_queues, write_accepted}
use Rattle.history_rules.specs.Requests.{MayTell, disconnected, reactor_after_done, reactor_after_take, released, slot_in, told_off}
use Rattle.history_rules.specs.Settling.{served_below, settled, with_streams_served, with_waits_served}
use Rattle.history_rules.specs.State.{ReactorHalf, State, first_reactor, no_queues}
use Rattle.history_rules.specs.Time.{at_last, at_time, reactor_after_fault, reactor_after_last, reactor_after_tick}
use Rattle.history_rules.specs.Untold.{gone}
use Rattle.reactor_turns.specs.Standing.{is_awaited, queued_of, stands}
use Rattle.reactor_turns.proofs.StandingLemmas.{stands-done, stands-last, stands-settled, stands-take, stands-tick}
use Rattle.reactor_turns.proofs.StreamsLemmas.{done-size, last-size, take-size, tick-size}
use Rattle.reactor_turns.proofs.SummingLemmas.{one_if}
use Rattle.reactor_turns.proofs.TakenLemmas.{done-taken, last-taken, take-taken, tick-taken}

abbrev Slots : Type 0
Slots = List (Option ℕ)

-- the slots after operation a was connected
abbrev joined : Option ℕ → ℕ → Slots → Slots
joined None a slots = slots
joined (Some k) a slots = set slots k (Some a)

-- the slots after operation p has left its own
abbrev parted : ℕ → Option ℕ → Slots → Slots
parted p None slots = slots
parted p (Some k) slots = set slots k (released p (get_or slots k None))

-- settling connects nothing
below-slots : (n : ℕ) (r : ReactorHalf) → (served_below n r).slots ≡ r.slots
below-slots zero r = refl
below-slots (suc n) r = below-slots n r

streams-slots : (told : Bool) (r : ReactorHalf) → (with_streams_served told r).slots ≡ r.slots
streams-slots true r = below-slots (length r.queues) r
streams-slots false r = refl

settled-slots : (told : Bool) (r : ReactorHalf) → (settled told r).slots ≡ r.slots
settled-slots told r = streams-slots told (record (with_waits_served r) { whole_turn = true; reached = 0 })

connected-slots : (slot : Option ℕ) (a : ℕ) (r : ReactorHalf) → (connected slot a r).slots ≡ joined slot a r.slots
connected-slots None a r = refl
connected-slots (Some k) a r = refl

pick-slots : (b : Bool) (one two r : ReactorHalf) → one.slots ≡ r.slots → two.slots ≡ r.slots →
    (cond b one two).slots ≡ r.slots
pick-slots true one two r first second = first
pick-slots false one two r first second = second

read-slots : (op stream : ℕ) (reading : Reading) (r : ReactorHalf) →
    (read_accepted op stream reading r).slots ≡ r.slots
read-slots op stream reading r =
    let queues = queues_at r stream in
    pick-slots queues.closed (with_due (bad op ∷ []) r)
    (with_queues r stream (record queues { reads = queues.reads ++ new_pending op r.accepted reading ∷ [] })) r refl refl

write-slots : (op stream : ℕ) (writing : Writing) (r : ReactorHalf) →
    (write_accepted op stream writing r).slots ≡ r.slots
write-slots op stream writing r =
    let queues = queues_at r stream in
    pick-slots queues.closed (with_due (bad op ∷ []) r)
    (with_queues r stream (record queues { writes = queues.writes ++ new_pending op r.accepted writing ∷ [] })) r refl
    refl

operation-slots : (given : Act) (op : ℕ) (r : ReactorHalf) → (operation_cancelled given op r).slots ≡ r.slots
operation-slots (act.Wait timer strand slot filter) op r = refl
operation-slots (act.ReadSome stream size strand slot filter) op r = refl
operation-slots (act.ReadAll stream size strand slot filter) op r = refl
operation-slots (act.Until stream delimiter max strand slot filter) op r = refl
operation-slots (act.WriteSome stream bytes strand slot filter) op r = refl
operation-slots (act.WriteAll stream bytes strand slot filter) op r = refl
operation-slots given op r = refl

emitted_to-slots : (given : Option Act) (types op : ℕ) (r : ReactorHalf) → (emitted_to given types op r).slots ≡ r.slots
emitted_to-slots None types op r = refl
emitted_to-slots (Some given) types op r =
    pick-slots (is_reached given types) (operation_cancelled given op r) r r (operation-slots given op r) refl

emitted-slots : (script : ScriptModel) (op : Option ℕ) (types : ℕ) (r : ReactorHalf) →
    (emitted script op types r).slots ≡ r.slots
emitted-slots script None types r = refl
emitted-slots script (Some op) types r = emitted_to-slots (act_of script op) types op r

first-slots : (timer : ℕ) (r : ReactorHalf) → (one_wait_cancelled (find (is_wait_of timer) r.waits) r).slots ≡ r.slots
first-slots timer r =
    elim (find (is_wait_of timer) r.waits) as (λ wait. (one_wait_cancelled wait r).slots ≡ r.slots) [
      | None ↦ refl
      | Some wait ↦ refl
    ]

act-slots : (script : ScriptModel) (a : ℕ) (given : Act) (r : ReactorHalf) →
    (performed_act script a given r).slots ≡ joined (slot_of given) a r.slots
act-slots script a (act.Wait timer strand slot filter) r = connected-slots slot a _
act-slots script a (act.ReadSome stream size strand slot filter) r =
    connected-slots slot a (read_accepted a stream (Some_bytes size) r)
    ∙ ap (joined slot a) (read-slots a stream (Some_bytes size) r)
act-slots script a (act.ReadAll stream size strand slot filter) r =
    connected-slots slot a (read_accepted a stream (All_bytes size) r)
    ∙ ap (joined slot a) (read-slots a stream (All_bytes size) r)
act-slots script a (act.Until stream delimiter max strand slot filter) r =
    connected-slots slot a (read_accepted a stream (Until delimiter max) r)
    ∙ ap (joined slot a) (read-slots a stream (Until delimiter max) r)
act-slots script a (act.WriteSome stream bytes strand slot filter) r =
    connected-slots slot a (write_accepted a stream (Some_of bytes) r)
    ∙ ap (joined slot a) (write-slots a stream (Some_of bytes) r)
act-slots script a (act.WriteAll stream bytes strand slot filter) r =
    connected-slots slot a (write_accepted a stream (All_of bytes) r)
    ∙ ap (joined slot a) (write-slots a stream (All_of bytes) r)
act-slots script a (act.Expires timer after) r = refl
act-slots script a (act.ExpiresAt timer at) r = refl
act-slots script a (act.Cancel timer) r = refl
act-slots script a (act.CancelOne timer) r = first-slots timer r
act-slots script a (act.Emit slot types) r = emitted-slots script (get_or r.slots slot None) types r
act-slots script a (act.Close stream) r = pick-slots (queues_at r stream).closed r (shut_at stream r) r refl refl
act-slots script a (act.Release guard) r = refl
act-slots script a (act.Post strand) r = refl
act-slots script a (act.Defer strand) r = refl
act-slots script a (act.Dispatch strand) r = refl
act-slots script a act.Stop r = refl

by-slots : (script : ScriptModel) (a : ℕ) (given : Option Act) (r : ReactorHalf) →
    (performed_by script a given r).slots ≡ joined (slot_in given) a r.slots
by-slots script a None r = refl
by-slots script a (Some given) r = act-slots script a given r

take-slots : (script : ScriptModel) (told : Bool) (r : ReactorHalf) (a : ℕ) →
    (reactor_after_take script told r a).slots ≡ joined (slot_in (act_of script a)) a r.slots
take-slots script told r a = settled-slots told (performed script a r) ∙ by-slots script a (act_of script a) r

gone-slots : (given : Option Act) (r : ReactorHalf) → (gone given r).slots ≡ r.slots
gone-slots (Some (act.ReadSome a b c d e)) r = refl
gone-slots (Some (act.ReadAll a b c d e)) r = refl
gone-slots (Some (act.Until a b c d e f)) r = refl
gone-slots (Some (act.WriteSome a b c d e)) r = refl
gone-slots (Some (act.WriteAll a b c d e)) r = refl
gone-slots given r = refl

told_off-slots : (script : ScriptModel) (o : ℕ) (r : ReactorHalf) (due : List Completion) →
    (told_off script o r due).slots ≡ r.slots
told_off-slots script o r [] = gone-slots (act_of script o) r
told_off-slots script o r (head ∷ due) = refl

disconnected-slots : (p : ℕ) (slot : Option ℕ) (r : ReactorHalf) →
    (disconnected p slot r).slots ≡ parted p slot r.slots
disconnected-slots p None r = refl
disconnected-slots p (Some k) r = refl

done-slots : (script : ScriptModel) (r : ReactorHalf) (p : ℕ) →
    (reactor_after_done script r p).slots ≡ parted p (slot_in (act_of script p)) r.slots
done-slots script r p =
    disconnected-slots p (slot_in (act_of script p)) (record (told_off script p r r.due) { whole_turn = false })
    ∙ ap (parted p (slot_in (act_of script p))) (told_off-slots script p r r.due)

length-joined : (slot : Option ℕ) (a : ℕ) (slots : Slots) → length (joined slot a slots) ≡ length slots
length-joined None a slots = refl
length-joined (Some k) a slots = length-set slots k (Some a)

length-parted : (p : ℕ) (slot : Option ℕ) (slots : Slots) → length (parted p slot slots) ≡ length slots
length-parted p None slots = refl
length-parted p (Some k) slots = length-set slots k (released p (get_or slots k None))

-- operation o alone is connected to slot i
pub record IsAlone (script : ScriptModel) (o i : ℕ) : Type 0 where
  pub there : o < length script.acts
  pub own : slot_in (act_of script o) ≡ Some i
  pub alone : (p : ℕ) → slot_in (act_of script p) ≡ Some i → p ≡ o
  pub within : i < script.slots

module _ (script : ScriptModel) (well : IsWellFormed script) (o i : ℕ) (one : IsAlone script o i) where
  pub record Keeps (r : ReactorHalf) : Type 0 where
    pub queues : length r.queues ≡ script.world.streams
    pub taken : length r.taken ≡ length script.acts
    pub slots : length r.slots ≡ script.slots
    pub once : stands o r ≤ one_if (was_taken r o)
    pub held : 1 ≤ stands o r → get_or r.slots i None ≡ Some o

  keeps-same : (r after : ReactorHalf) → length after.queues ≡ length r.queues → after.taken ≡ r.taken →
      after.slots ≡ r.slots → stands o after ≤ stands o r → Keeps r → Keeps after
  keeps-same r after queues taken slots fewer keeps = record {
    queues = queues ∙ keeps.queues;
    taken = ap length taken ∙ keeps.taken;
    slots = ap length slots ∙ keeps.slots;
    once =
        (let same : one_if (was_taken after o) ≡ one_if (was_taken r o) =
        ap (λ (marks : List Bool). one_if (get_or marks o false)) taken in
        omega (arith, same, fewer, keeps.once));
    held = λ some.
        ap (λ (all : Slots). get_or all i None) slots ∙ keeps.held (omega (arith, some, fewer));
  }

  joined-keeps : (slot : Option ℕ) (a : ℕ) (slots : Slots) → (slot ≡ Some i → a ≡ o) → (a ≡ o → ⊥) →
      get_or slots i None ≡ Some o → get_or (joined slot a slots) i None ≡ Some o
  joined-keeps None a slots only apart held = held
  joined-keeps (Some k) a slots only apart held =
      let other : i ≢ k = λ same. apart (only (ap (λ n. Some n) (sym same))) in
      get_or-set_other slots k i (Some a) None other ∙ held

  parted-keeps : (slot : Option ℕ) (p : ℕ) (slots : Slots) → (slot ≡ Some i → p ≡ o) → (p ≡ o → ⊥) →
      get_or slots i None ≡ Some o → get_or (parted p slot slots) i None ≡ Some o
  parted-keeps None p slots only apart held = held
  parted-keeps (Some k) p slots only apart held =
      let other : i ≢ k = λ same. apart (only (ap (λ n. Some n) (sym same))) in
      get_or-set_other slots k i (released p (get_or slots k None)) None other ∙ held

  -- a take adds at most the operation that it takes
  pub added : (told : Bool) (r : ReactorHalf) (a : ℕ) (x : Option Act) → act_of script a ≡ x →
      length r.queues ≡ script.world.streams →
      stands o (reactor_after_take script told r a) ≤ stands o r + one_if (a == o)
  added told r a None is size =
      let same : stands o (reactor_after_take script told r a) ≡ stands o r =
      stands-settled o told (performed script a r)
      ∙ ap (λ (given : Option Act). stands o (performed_by script a given r)) is in
      omega (arith, same)
  added told r a (Some given) is size =
      let more = stands-take o script told r a given is (act_fits script a well given is) size in
      let few = at_most (is_awaited given) (one_if (a == o)) in
      omega (arith, more, few)
    where
      at_most : (b : Bool) (n : ℕ) → cond b n 0 ≤ n
      at_most true n = omega arith
      at_most false n = omega arith

  keeps-taken : (told : Bool) (r : ReactorHalf) (a : ℕ) → was_taken r a ≡ false → Keeps r → (a ≡ o) →
      Keeps (reactor_after_take script told r a)
  keeps-taken told r a untaken keeps same =
      let marks : (reactor_after_take script told r a).taken ≡ set r.taken a true = take-taken script told r a well in
      let slots = take-slots script told r a in
      let own : slot_in (act_of script a) ≡ Some i = ap (λ n. slot_in (act_of script n)) same ∙ one.own in
      let here : was_taken (reactor_after_take script told r a) o ≡ true =
      ap (λ (all : List Bool). get_or all o false) marks ∙ ap (λ n. get_or (set r.taken n true) o false) same
      ∙ get_or-set_same r.taken o true false (omega (arith, one.there, keeps.taken)) in
      let before : was_taken r o ≡ false = ap (λ n. was_taken r n) (sym same) ∙ untaken in
      record {
        queues = take-size script told r a ∙ keeps.queues;
        taken = ap length marks ∙ length-set r.taken a true ∙ keeps.taken;
        slots = ap length slots ∙ length-joined (slot_in (act_of script a)) a r.slots ∙ keeps.slots;
        once =
            (let few = added told r a (act_of script a) refl keeps.queues in
            let none : one_if (was_taken r o) ≡ 0 = ap one_if before in
            let all : one_if (was_taken (reactor_after_take script told r a) o) ≡ 1 = ap one_if here in
            let most : one_if (a == o) ≡ 1 = ap one_if (eq-eqb a o same) in
            omega (arith, few, none, all, most, keeps.once));
        held = λ some.
            ap (λ (all : Slots). get_or all i None) slots
            ∙ ap (λ (slot : Option ℕ). get_or (joined slot a r.slots) i None) own
            ∙ get_or-set_same r.slots i (Some a) None (omega (arith, one.within, keeps.slots))
            ∙ ap (λ n. Some n) same;
      }

  keeps-other : (told : Bool) (r : ReactorHalf) (a : ℕ) → Keeps r → (a ≡ o → ⊥) →
      Keeps (reactor_after_take script told r a)
  keeps-other told r a keeps apart =
      let marks : (reactor_after_take script told r a).taken ≡ set r.taken a true = take-taken script told r a well in
      let slots = take-slots script told r a in
      let other : o ≢ a = λ same. apart (sym same) in
      let still : was_taken (reactor_after_take script told r a) o ≡ was_taken r o =
      ap (λ (all : List Bool). get_or all o false) marks ∙ get_or-set_other r.taken a o true false other in
      let few : stands o (reactor_after_take script told r a) ≤ stands o r =
      (let most = added told r a (act_of script a) refl keeps.queues in
      let none : one_if (a == o) ≡ 0 = ap one_if (ne_eqb a o apart) in omega (arith, most, none)) in
      record {
        queues = take-size script told r a ∙ keeps.queues;
        taken = ap length marks ∙ length-set r.taken a true ∙ keeps.taken;
        slots = ap length slots ∙ length-joined (slot_in (act_of script a)) a r.slots ∙ keeps.slots;
        once = (let same : one_if (was_taken (reactor_after_take script told r a) o) ≡ one_if (was_taken r o) =
            ap one_if still in
            omega (arith, few, same, keeps.once));
        held = λ some.
            ap (λ (all : Slots). get_or all i None) slots
            ∙ joined-keeps (slot_in (act_of script a)) a r.slots (one.alone a) apart
            (keeps.held (omega (arith, some, few)));
      }

  keeps-take : (told : Bool) (r : ReactorHalf) (a : ℕ) → was_taken r a ≡ false → Keeps r →
      Keeps (reactor_after_take script told r a)
  keeps-take told r a untaken keeps = elim (cases_eq a o) [
    | inl same ↦ keeps-taken told r a untaken keeps same
    | inr apart ↦ keeps-other told r a keeps apart
  ]

  keeps-done : (told : Bool) (r : ReactorHalf) (p : ℕ) (code : Code) (size : ℕ) → MayTell script told r p code size →
      Keeps r → Keeps (reactor_after_done script r p)
  keeps-done told r p code size may keeps =
      let slots = done-slots script r p in
      let marks = done-taken script r p in
      let less = stands-done o script told r p code size may in
      record {
        queues = done-size script r p ∙ keeps.queues;
        taken = ap length marks ∙ keeps.taken;
        slots = ap length slots ∙ length-parted p (slot_in (act_of script p)) r.slots ∙ keeps.slots;
        once =
            (let same : one_if (was_taken (reactor_after_done script r p) o) ≡ one_if (was_taken r o) =
            ap (λ (all : List Bool). one_if (get_or all o false)) marks in
            omega (arith, same, less, keeps.once));
        held = λ some. elim (cases_eq p o) [
          | inl same ↦
              absurd (let here : one_if (p == o) ≡ 1 = ap one_if (eq-eqb p o same) in
              let most = one_at_most (was_taken r o) in
              omega (arith, some, less, here, most, keeps.once))
          | inr apart ↦
              ap (λ (all : Slots). get_or all i None) slots
              ∙ parted-keeps (slot_in (act_of script p)) p r.slots (one.alone p) apart
              (keeps.held (omega (arith, some, less)))
        ];
      }
    where
      one_at_most : (b : Bool) → one_if b ≤ 1
      one_at_most true = omega arith
      one_at_most false = omega arith

  pub keeps-event : (told : Bool) (s : State) (e : Event) → MayHappen script told s e → Keeps s.reactor →
      Keeps (reactor_after script told s.reactor e)
  keeps-event told s (event.Take a) may keeps =
      keeps-take told s.reactor a (not-true (was_taken s.reactor a) (and_parts _ _ may.untaken).1) keeps
  keeps-event told s (event.Done p code size) may keeps = keeps-done told s.reactor p code size may.next keeps
  keeps-event told s (event.Tick now) may keeps =
      keeps-same s.reactor (reactor_after_tick script told s.reactor now) (tick-size script told s.reactor now)
      (tick-taken script told s.reactor now) (settled-slots told (at_time script told now s.reactor))
      (let same = stands-tick o script told s.reactor now in omega (arith, same)) keeps
  keeps-event told s event.Last may keeps =
      keeps-same s.reactor (reactor_after_last told s.reactor) (last-size told s.reactor) (last-taken told s.reactor)
      (settled-slots told (at_last told s.reactor))
      (let same = stands-last o told s.reactor in omega (arith, same)) keeps
  keeps-event told s event.Fault may keeps =
      keeps-same s.reactor (reactor_after_fault s.reactor) refl refl refl (omega arith) keeps
  keeps-event told s e may keeps = keeps

  none_queued : (n : ℕ) → sum_by (queued_of o) (replicate n no_queues) ≡ 0
  none_queued zero = refl
  none_queued (suc n) =
      let first = sum_by-cons (queued_of o) no_queues (replicate n no_queues) in
      let rest = none_queued n in
      omega (arith, first, rest)

  pub keeps-first : (told : Bool) → Keeps (first_reactor script told)
  keeps-first told =
      let none = none_queued script.world.streams in
      record {
        queues = length-replicate script.world.streams no_queues;
        taken = length-replicate (length script.acts) false;
        slots = length-replicate script.slots None;
        once = omega (arith, none);
        held = λ some. absurd (omega (arith, some, none));
      }
