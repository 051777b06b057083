-- The time and the expiries that the events show are the reactor's.
use Rattle.std.proofs.Common.{◌≡◌, ℕ, ◌+◌, ◌<◌, ◌==◌, Bool, true, false, cond, List, [], ◌∷◌, ◌++◌, Option, Some, None, find, length, set, inl, inr, refl, sym, ap, subst, ◌∙◌, arith}
use Rattle.std.specs.List.{slice_index_or}
use Rattle.std.proofs.lemmas.Bool.{cases_eq}
use Rattle.std.proofs.lemmas.List.{get_or-set_same, get_or-set_other, length-replicate, length-set}
use Rattle.asio_types.specs.declared.event.Event.{Event}
use Rattle.asio_types.specs.declared.event.Event.TheVariants as event
use Rattle.session_script.specs.declared.act.Act.{Act}
use Rattle.session_script.specs.declared.act.Act.TheVariants as act
use Rattle.session_script.specs.Script.{ScriptModel, act_of}
use Rattle.stream_rules.specs.Serving.{Reading, Writing, Some_bytes, All_bytes, Until, Some_of, All_of}
use Rattle.history_rules.specs.Legal.{MayHappen, after_event}
use Rattle.history_rules.specs.Performing.{bad, closed_at, connected, emitted, emitted_to, is_reached, is_wait_of, new_pending, one_wait_cancelled, operation_cancelled, performed, performed_act, performed_by, queues_at, read_accepted, shut_at, wait_accepted, with_due, with_queues, write_accepted}
use Rattle.history_rules.specs.State.{ReactorHalf, State, first_reactor}
use Rattle.history_rules.specs.Time.{at_last, at_time}
use Rattle.history_rules.specs.declared.wait.Wait.{Wait}
use Rattle.history_laws.specs.Clock.{expiry_after, expiry_by, time_after}
use Rattle.history_laws.proofs.ClockLemmas.{settled_keeps, told_keeps}
use Rattle.history_laws.proofs.CountLemmas.{apart-is, same-is}
use Rattle.history_laws.proofs.FirstLemmas.{repeated}
use Rattle.history_laws.proofs.ReactorLemmas.{stays_performed_by}

-- the time behind an event
abbrev time_by : ℕ → Event → ℕ
time_by now (event.Tick later) = later
time_by now _ = now

time_one : (now : ℕ) (e : Event) (events : List Event) → time_after now (e ∷ events) ≡ time_after (time_by now e) events
time_one now (event.Tick later) events = refl
time_one now _ events = refl

time_push : (now : ℕ) (before : List Event) (e : Event) →
    time_after now (before ++ e ∷ []) ≡ time_by (time_after now before) e
time_push now [] e = time_one now e []
time_push now (first ∷ before) e =
    time_one now first (before ++ e ∷ [])
    ∙ (time_push (time_by now first) before e ∙ ap (λ now. time_by now e) (sym (time_one now first before)))

-- the expiry of a timer behind an event
abbrev expires_by : ScriptModel → ℕ → ℕ → ℕ → Event → ℕ
expires_by script timer now expiry (event.Take a) = expiry_by timer now expiry (act_of script a)
expires_by script timer now expiry _ = expiry

expiry_one : (script : ScriptModel) (timer now expiry : ℕ) (e : Event) (events : List Event) →
    expiry_after script timer now expiry (e ∷ events)
    ≡ expiry_after script timer (time_by now e) (expires_by script timer now expiry e) events
expiry_one script timer now expiry (event.Tick later) events = refl
expiry_one script timer now expiry (event.Take a) events = refl
expiry_one script timer now expiry _ events = refl

expiry_push : (script : ScriptModel) (timer now expiry : ℕ) (before : List Event) (e : Event) →
    expiry_after script timer now expiry (before ++ e ∷ [])
    ≡ expires_by script timer (time_after now before) (expiry_after script timer now expiry before) e
expiry_push script timer now expiry [] e = expiry_one script timer now expiry e []
expiry_push script timer now expiry (first ∷ before) e =
    let now_first : ℕ = time_by now first in
    let expiry_first : ℕ = expires_by script timer now expiry first in
    expiry_one script timer now expiry first (before ++ e ∷ [])
    ∙ (expiry_push script timer now_first expiry_first before e
    ∙ (ap (λ now. expires_by script timer now (expiry_after script timer now_first expiry_first before) e)
    (sym (time_one now first before))
    ∙ ap (λ expiry. expires_by script timer (time_after now (first ∷ before)) expiry e)
    (sym (expiry_one script timer now expiry first before))))

-- only an act that sets an expiry changes one
expiries_if : (b : Bool) (r one two : ReactorHalf) → one.expiries ≡ r.expiries → two.expiries ≡ r.expiries →
    (cond b one two).expiries ≡ r.expiries
expiries_if true r one two first second = first
expiries_if false r one two first second = second

expiries_connected : (slot : Option ℕ) (a : ℕ) (r t : ReactorHalf) → t.expiries ≡ r.expiries →
    (connected slot a t).expiries ≡ r.expiries
expiries_connected None a r t same = same
expiries_connected (Some slot) a r t same = same

expiries_read : (a stream : ℕ) (reading : Reading) (r : ReactorHalf) → (read_accepted a stream reading r).expiries ≡ r.expiries
expiries_read a stream reading r =
    let old = queues_at r stream in
    expiries_if old.closed r (with_due (bad a ∷ []) r)
    (with_queues r stream (record old { reads = old.reads ++ new_pending a r.accepted reading ∷ [] })) refl refl

expiries_write : (a stream : ℕ) (writing : Writing) (r : ReactorHalf) → (write_accepted a stream writing r).expiries ≡ r.expiries
expiries_write a stream writing r =
    let old = queues_at r stream in
    expiries_if old.closed r (with_due (bad a ∷ []) r)
    (with_queues r stream (record old { writes = old.writes ++ new_pending a r.accepted writing ∷ [] })) refl refl

expiries_cancelled : (given : Act) (op : ℕ) (r : ReactorHalf) → (operation_cancelled given op r).expiries ≡ r.expiries
expiries_cancelled (act.Wait timer strand slot filter) op r = refl
expiries_cancelled (act.ReadSome stream size strand slot filter) op r = refl
expiries_cancelled (act.ReadAll stream size strand slot filter) op r = refl
expiries_cancelled (act.Until stream delimiter max strand slot filter) op r = refl
expiries_cancelled (act.WriteSome stream bytes strand slot filter) op r = refl
expiries_cancelled (act.WriteAll stream bytes strand slot filter) op r = refl
expiries_cancelled _ op r = refl

expiries_emitted : (script : ScriptModel) (op : Option ℕ) (types : ℕ) (r : ReactorHalf) →
    (emitted script op types r).expiries ≡ r.expiries
expiries_emitted script None types r = refl
expiries_emitted script (Some op) types r = by_act (act_of script op)
  where
    by_act : (given : Option Act) → (emitted_to given types op r).expiries ≡ r.expiries
    by_act None = refl
    by_act (Some given) =
        expiries_if (is_reached given types) r (operation_cancelled given op r) r (expiries_cancelled given op r) refl

expiries_first : (wait : Option Wait) (r : ReactorHalf) → (one_wait_cancelled wait r).expiries ≡ r.expiries
expiries_first None r = refl
expiries_first (Some wait) r = refl

set_expiry : (expiries : List ℕ) (other timer expiry : ℕ) → timer < length expiries →
    slice_index_or (set expiries other expiry) timer 0 ≡ cond (other == timer) expiry (slice_index_or expiries timer 0)
set_expiry expiries other timer expiry within = elim (cases_eq timer other) [
  | inl same ↦
      subst (λ (other : ℕ).
      slice_index_or (set expiries other expiry) timer 0 ≡ cond (other == timer) expiry (slice_index_or expiries timer 0)) same
      (get_or-set_same expiries timer expiry 0 within
      ∙ ap (λ b. cond b expiry (slice_index_or expiries timer 0)) (sym (same-is timer)))
  | inr apart ↦
      get_or-set_other expiries other timer expiry 0 apart
      ∙ ap (λ b. cond b expiry (slice_index_or expiries timer 0)) (sym (apart-is other timer (λ same. apart (sym same))))
]

module _ (script : ScriptModel) (a timer : ℕ) (r : ReactorHalf) (within : timer < length r.expiries) where
  unchanged : (t : ReactorHalf) → t.expiries ≡ r.expiries →
      (slice_index_or t.expiries timer 0 ≡ slice_index_or r.expiries timer 0) × (length t.expiries ≡ length r.expiries)
  unchanged t same = (ap (λ (expiries : List ℕ). slice_index_or expiries timer 0) same, ap length same)

  expiry_performed : (given : Act) →
      (slice_index_or (performed_act script a given r).expiries timer 0
      ≡ expiry_by timer r.now (slice_index_or r.expiries timer 0) (Some given))
      × (length (performed_act script a given r).expiries ≡ length r.expiries)
  expiry_performed (act.Expires other after) =
      (set_expiry r.expiries other timer (r.now + after) within, length-set r.expiries other (r.now + after))
  expiry_performed (act.ExpiresAt other at) =
      (set_expiry r.expiries other timer at within, length-set r.expiries other at)
  expiry_performed (act.Wait other strand slot filter) =
      unchanged (connected slot a (wait_accepted a other r)) (expiries_connected slot a r (wait_accepted a other r) refl)
  expiry_performed (act.ReadSome stream size strand slot filter) =
      unchanged (connected slot a (read_accepted a stream (Some_bytes size) r))
      (expiries_connected slot a r (read_accepted a stream (Some_bytes size) r) (expiries_read a stream (Some_bytes size) r))
  expiry_performed (act.ReadAll stream size strand slot filter) =
      unchanged (connected slot a (read_accepted a stream (All_bytes size) r))
      (expiries_connected slot a r (read_accepted a stream (All_bytes size) r) (expiries_read a stream (All_bytes size) r))
  expiry_performed (act.Until stream delimiter max strand slot filter) =
      unchanged (connected slot a (read_accepted a stream (Until delimiter max) r))
      (expiries_connected slot a r (read_accepted a stream (Until delimiter max) r)
      (expiries_read a stream (Until delimiter max) r))
  expiry_performed (act.WriteSome stream bytes strand slot filter) =
      unchanged (connected slot a (write_accepted a stream (Some_of bytes) r))
      (expiries_connected slot a r (write_accepted a stream (Some_of bytes) r) (expiries_write a stream (Some_of bytes) r))
  expiry_performed (act.WriteAll stream bytes strand slot filter) =
      unchanged (connected slot a (write_accepted a stream (All_of bytes) r))
      (expiries_connected slot a r (write_accepted a stream (All_of bytes) r) (expiries_write a stream (All_of bytes) r))
  expiry_performed (act.CancelOne other) =
      unchanged (one_wait_cancelled (find (is_wait_of other) r.waits) r) (expiries_first (find (is_wait_of other) r.waits) r)
  expiry_performed (act.Emit slot types) =
      unchanged (emitted script (slice_index_or r.slots slot None) types r)
      (expiries_emitted script (slice_index_or r.slots slot None) types r)
  expiry_performed (act.Close stream) =
      unchanged (closed_at stream r) (expiries_if (queues_at r stream).closed r r (shut_at stream r) refl refl)
  expiry_performed _ = (refl, refl)

  pub expiry_performed_by : (given : Option Act) →
      (slice_index_or (performed_by script a given r).expiries timer 0
      ≡ expiry_by timer r.now (slice_index_or r.expiries timer 0) given)
      × (length (performed_by script a given r).expiries ≡ length r.expiries)
  expiry_performed_by None = (refl, refl)
  expiry_performed_by (Some given) = expiry_performed given

-- the reactor's clock is what the events show
pub record IsClocked (script : ScriptModel) (timer : ℕ) (before : List Event) (r : ReactorHalf) : Type 0 where
  pub within : timer < length r.expiries
  pub time : time_after 0 before ≡ r.now
  pub expiry : expiry_after script timer 0 0 before ≡ slice_index_or r.expiries timer 0

clocked_same : (script : ScriptModel) (timer : ℕ) (before : List Event) (e : Event) (r t : ReactorHalf) →
    IsClocked script timer before r → t.expiries ≡ r.expiries → t.now ≡ time_by r.now e →
    ((now expiry : ℕ) → expires_by script timer now expiry e ≡ expiry) → IsClocked script timer (before ++ e ∷ []) t
clocked_same script timer before e r t clocked same now unset = record {
  within = let long = ap length same in omega (arith, long, clocked.within);
  time = time_push 0 before e ∙ (ap (λ now. time_by now e) clocked.time ∙ sym now);
  expiry =
      expiry_push script timer 0 0 before e
      ∙ (unset (time_after 0 before) (expiry_after script timer 0 0 before)
      ∙ (clocked.expiry ∙ ap (λ (expiries : List ℕ). slice_index_or expiries timer 0) (sym same)));
}

-- each event keeps it
pub clocked_after : (script : ScriptModel) (told : Bool) (timer : ℕ) (before : List Event) (s : State) (e : Event) →
    IsClocked script timer before s.reactor → MayHappen script told s e →
    IsClocked script timer (before ++ e ∷ []) (after_event script told s e).reactor
clocked_after script told timer before s (event.Take a) clocked may =
    let r : ReactorHalf = s.reactor in
    let by : ReactorHalf = performed_by script a (act_of script a) r in
    let settles = settled_keeps told (performed script a r) in
    let acts = expiry_performed_by script a timer r clocked.within (act_of script a) in
    record {
      within = let long = ap length settles.expiries in omega (arith, long, acts.1, clocked.within);
      time =
          time_push 0 before (event.Take a)
          ∙ (clocked.time ∙ sym (settles.now ∙ (stays_performed_by script a (act_of script a) r).now));
      expiry =
          expiry_push script timer 0 0 before (event.Take a)
          ∙ (ap (λ now. expiry_by timer now (expiry_after script timer 0 0 before) (act_of script a)) clocked.time
          ∙ (ap (λ expiry. expiry_by timer r.now expiry (act_of script a)) clocked.expiry
          ∙ sym (ap (λ (expiries : List ℕ). slice_index_or expiries timer 0) settles.expiries ∙ acts.0)));
    }
clocked_after script told timer before s (event.Done o given size) clocked may =
    let keeps = told_keeps script o s.reactor in
    clocked_same script timer before (event.Done o given size) s.reactor
    (after_event script told s (event.Done o given size)).reactor
    clocked keeps.expiries keeps.now (λ now expiry. refl)
clocked_after script told timer before s (event.Tick now) clocked may =
    let keeps = settled_keeps told (at_time script told now s.reactor) in
    clocked_same script timer before (event.Tick now) s.reactor (after_event script told s (event.Tick now)).reactor clocked
    keeps.expiries keeps.now (λ now expiry. refl)
clocked_after script told timer before s event.Last clocked may =
    let keeps = settled_keeps told (at_last told s.reactor) in
    clocked_same script timer before event.Last s.reactor (after_event script told s event.Last).reactor clocked keeps.expiries
    keeps.now (λ now expiry. refl)
clocked_after script told timer before s event.Fault clocked may =
    clocked_same script timer before event.Fault s.reactor (after_event script told s event.Fault).reactor clocked refl refl
    (λ now expiry. refl)
clocked_after script told timer before s (event.Stop (Some a)) clocked may =
    clocked_same script timer before (event.Stop (Some a)) s.reactor s.reactor clocked refl refl (λ now expiry. refl)
clocked_after script told timer before s (event.Stop None) clocked may =
    clocked_same script timer before (event.Stop None) s.reactor s.reactor clocked refl refl (λ now expiry. refl)
clocked_after script told timer before s e clocked may =
    clocked_same script timer before e s.reactor s.reactor clocked refl refl (λ now expiry. refl)

pub first_clocked : (script : ScriptModel) (told : Bool) (timer : ℕ) → timer < script.timers →
    IsClocked script timer [] (first_reactor script told)
first_clocked script told timer within = record {
  within = omega (arith, within, length-replicate {A = ℕ} script.timers 0);
  time = refl;
  expiry = sym (repeated 0 script.timers timer);
}

-- the time alone, whatever the timers
time_same : (before : List Event) (e : Event) (r t : ReactorHalf) → time_after 0 before ≡ r.now → t.now ≡ time_by r.now e →
    time_after 0 (before ++ e ∷ []) ≡ t.now
time_same before e r t is now = time_push 0 before e ∙ (ap (λ now. time_by now e) is ∙ sym now)

pub time_next : (script : ScriptModel) (told : Bool) (before : List Event) (s : State) (e : Event) →
    time_after 0 before ≡ s.reactor.now → MayHappen script told s e →
    time_after 0 (before ++ e ∷ []) ≡ (after_event script told s e).reactor.now
time_next script told before s (event.Take a) is may =
    time_same before (event.Take a) s.reactor (after_event script told s (event.Take a)).reactor is
    ((settled_keeps told (performed script a s.reactor)).now ∙ (stays_performed_by script a (act_of script a) s.reactor).now)
time_next script told before s (event.Done o given size) is may =
    time_same before (event.Done o given size) s.reactor (after_event script told s (event.Done o given size)).reactor is
    (told_keeps script o s.reactor).now
time_next script told before s (event.Tick now) is may =
    time_same before (event.Tick now) s.reactor (after_event script told s (event.Tick now)).reactor is
    (settled_keeps told (at_time script told now s.reactor)).now
time_next script told before s event.Last is may =
    time_same before event.Last s.reactor (after_event script told s event.Last).reactor is
    (settled_keeps told (at_last told s.reactor)).now
time_next script told before s (event.Stop (Some a)) is may = time_same before (event.Stop (Some a)) s.reactor s.reactor is refl
time_next script told before s (event.Stop None) is may = time_same before (event.Stop None) s.reactor s.reactor is refl
time_next script told before s e is may = time_same before e s.reactor s.reactor is refl
