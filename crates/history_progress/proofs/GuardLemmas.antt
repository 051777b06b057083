-- A guard whose release was taken is held no more.
use Rattle.std.proofs.Common.{◌≡◌, ℕ, zero, suc, Bool, true, false, cond, List, [], ◌∷◌, Option, Some, None, find, inl, inr, length, refl, sym, ap, subst, ◌∙◌}
use Rattle.std.specs.List.{slice_index_or, slice_set}
use Rattle.std.proofs.lemmas.Bool.{cases_eq, cases_lt}
use Rattle.std.proofs.lemmas.List.{get_or-set_same, get_or-set_other, get_or_past, length-replicate, length-set, set_past}
use Rattle.asio_types.specs.declared.event.Event.{Event}
use Rattle.asio_types.specs.declared.event.Event.TheVariants as event
use Rattle.session_script.specs.declared.act.Act.{Act}
use Rattle.session_script.specs.declared.act.Act.TheVariants as act
use Rattle.session_script.specs.Script.{ScriptModel, act_of}
use Rattle.session_script.specs.WellFormed.{IsWellFormed}
use Rattle.stream_rules.specs.Serving.{Reading, Writing, Some_bytes, All_bytes, Until, Some_of, All_of}
use Rattle.stream_rules.specs.declared.queue.Completion.{Completion}
use Rattle.history_rules.specs.Legal.{MayHappen, after_event}
use Rattle.history_rules.specs.Order.{was_taken}
use Rattle.history_rules.specs.Performing.{connected, emitted, emitted_to, is_reached, is_wait_of, one_wait_cancelled, operation_cancelled, performed, performed_act, performed_by, queues_at, read_accepted, shut_at, wait_accepted, write_accepted}
use Rattle.history_rules.specs.Requests.{MayTake, disconnected, reactor_after_done, reactor_after_take, slot_in, told_off}
use Rattle.history_rules.specs.Settling.{served_below, settled, with_waits_served}
use Rattle.history_rules.specs.State.{ReactorHalf, State, first_reactor}
use Rattle.history_rules.specs.Time.{at_last, at_time}
use Rattle.history_rules.specs.Untold.{gone}
use Rattle.history_rules.specs.declared.wait.Wait.{Wait}
use Rattle.history_laws.proofs.FirstLemmas.{first_taken}
use Rattle.history_laws.proofs.ReactorLemmas.{stays_settled, stays_told}
use Rattle.history_laws.proofs.Sound.{IsSound}
use Rattle.history_laws.proofs.TakingLemmas.{taken_same}

-- which guard an act releases, if any
abbrev pub guard_in : Act → Option ℕ
guard_in (act.Release guard) = Some guard
guard_in _ = None

-- the guards once this one was released
abbrev pub let_go : Option ℕ → List Bool → List Bool
let_go None guards = guards
let_go (Some guard) guards = slice_set guards guard false

guards_connected : (slot : Option ℕ) (op : ℕ) (r : ReactorHalf) → (connected slot op r).guards ≡ r.guards
guards_connected None op r = refl
guards_connected (Some slot) op r = refl

guards_if : (b : Bool) (r first second : ReactorHalf) → first.guards ≡ r.guards → second.guards ≡ r.guards →
    (cond b first second).guards ≡ r.guards
guards_if true r first second one two = one
guards_if false r first second one two = two

guards_read : (op stream : ℕ) (reading : Reading) (r : ReactorHalf) → (read_accepted op stream reading r).guards ≡ r.guards
guards_read op stream reading r = guards_if (queues_at r stream).closed r _ _ refl refl

guards_write : (op stream : ℕ) (writing : Writing) (r : ReactorHalf) → (write_accepted op stream writing r).guards ≡ r.guards
guards_write op stream writing r = guards_if (queues_at r stream).closed r _ _ refl refl

guards_one : (found : Option Wait) (r : ReactorHalf) → (one_wait_cancelled found r).guards ≡ r.guards
guards_one None r = refl
guards_one (Some wait) r = refl

guards_cancelled : (it : Act) (op : ℕ) (r : ReactorHalf) → (operation_cancelled it op r).guards ≡ r.guards
guards_cancelled (act.Wait timer strand slot filter) op r = refl
guards_cancelled (act.ReadSome stream size strand slot filter) op r = refl
guards_cancelled (act.ReadAll stream size strand slot filter) op r = refl
guards_cancelled (act.Until stream delimiter max strand slot filter) op r = refl
guards_cancelled (act.WriteSome stream bytes strand slot filter) op r = refl
guards_cancelled (act.WriteAll stream bytes strand slot filter) op r = refl
guards_cancelled _ op r = refl

guards_emitted : (script : ScriptModel) (found : Option ℕ) (types : ℕ) (r : ReactorHalf) →
    (emitted script found types r).guards ≡ r.guards
guards_emitted script None types r = refl
guards_emitted script (Some op) types r = by_act (act_of script op)
  where
    by_act : (given : Option Act) → (emitted_to given types op r).guards ≡ r.guards
    by_act None = refl
    by_act (Some given) =
        guards_if (is_reached given types) r (operation_cancelled given op r) r (guards_cancelled given op r) refl

-- only a release changes them
guards_act : (script : ScriptModel) (a : ℕ) (it : Act) (r : ReactorHalf) →
    (performed_act script a it r).guards ≡ let_go (guard_in it) r.guards
guards_act script a (act.Wait timer strand slot filter) r = guards_connected slot a (wait_accepted a timer r)
guards_act script a (act.ReadSome stream size strand slot filter) r =
    guards_connected slot a _ ∙ guards_read a stream (Some_bytes size) r
guards_act script a (act.ReadAll stream size strand slot filter) r =
    guards_connected slot a _ ∙ guards_read a stream (All_bytes size) r
guards_act script a (act.Until stream delimiter max strand slot filter) r =
    guards_connected slot a _ ∙ guards_read a stream (Until delimiter max) r
guards_act script a (act.WriteSome stream bytes strand slot filter) r =
    guards_connected slot a _ ∙ guards_write a stream (Some_of bytes) r
guards_act script a (act.WriteAll stream bytes strand slot filter) r =
    guards_connected slot a _ ∙ guards_write a stream (All_of bytes) r
guards_act script a (act.CancelOne timer) r = guards_one (find (is_wait_of timer) r.waits) r
guards_act script a (act.Emit slot types) r = guards_emitted script (slice_index_or r.slots slot None) types r
guards_act script a (act.Close stream) r = guards_if (queues_at r stream).closed r r (shut_at stream r) refl refl
guards_act script a _ r = refl

guards_settled : (told : Bool) (r : ReactorHalf) → (settled told r).guards ≡ r.guards
guards_settled true r = below (length r.queues) (record (with_waits_served r) { whole_turn = true; reached = 0 })
  where
    below : (k : ℕ) (r : ReactorHalf) → (served_below k r).guards ≡ r.guards
    below zero r = refl
    below (suc k) r = below k r
guards_settled false r = refl

guards_gone : (given : Option Act) (r : ReactorHalf) → (gone given r).guards ≡ r.guards
guards_gone (Some (act.ReadSome stream size strand slot filter)) r = refl
guards_gone (Some (act.ReadAll stream size strand slot filter)) r = refl
guards_gone (Some (act.Until stream delimiter max strand slot filter)) r = refl
guards_gone (Some (act.WriteSome stream bytes strand slot filter)) r = refl
guards_gone (Some (act.WriteAll stream bytes strand slot filter)) r = refl
guards_gone _ r = refl

guards_told : (script : ScriptModel) (o : ℕ) (r : ReactorHalf) → (reactor_after_done script r o).guards ≡ r.guards
guards_told script o r =
    left (slot_in (act_of script o)) (record (told_off script o r r.due) { whole_turn = false }) ∙ off r.due
  where
    left : (slot : Option ℕ) (t : ReactorHalf) → (disconnected o slot t).guards ≡ t.guards
    left None t = refl
    left (Some slot) t = refl

    off : (due : List Completion) → (told_off script o r due).guards ≡ r.guards
    off [] = guards_gone (act_of script o) r
    off (next ∷ due) = refl

-- the script's guards, of which none is held whose release was taken
pub record AreGuards (script : ScriptModel) (r : ReactorHalf) : Type 0 where
  pub long : length r.guards ≡ script.guards
  pub released : (a guard : ℕ) → was_taken r a ≡ true → act_of script a ≡ Some (act.Release guard) →
      slice_index_or r.guards guard false ≡ false

guards_same : (script : ScriptModel) (r t : ReactorHalf) → t.guards ≡ r.guards → t.taken ≡ r.taken → AreGuards script r →
    AreGuards script t
guards_same script r t guards taken are = record {
  long = ap length guards ∙ are.long;
  released = λ a guard is release.
      ap (λ (guards : List Bool). slice_index_or guards guard false) guards
      ∙ are.released a guard (ap (λ (taken : List Bool). slice_index_or taken a false) (sym taken) ∙ is) release;
}

-- a guard that is let go isn't held
released_here : (guards : List Bool) (guard : ℕ) → slice_index_or (slice_set guards guard false) guard false ≡ false
released_here guards guard = elim (cases_lt guard (length guards)) [
  | inl within ↦ get_or-set_same guards guard false false within
  | inr past ↦
      ap (λ (guards : List Bool). slice_index_or guards guard false) (set_past guards guard false past)
      ∙ get_or_past guards guard false past
]

released_still : (guards : List Bool) (found : Option ℕ) (guard : ℕ) → slice_index_or guards guard false ≡ false →
    slice_index_or (let_go found guards) guard false ≡ false
released_still guards None guard was = was
released_still guards (Some other) guard was = elim (cases_eq guard other) [
  | inl same ↦
      subst (λ (guard : ℕ). slice_index_or (slice_set guards other false) guard false ≡ false) (sym same)
      (released_here guards other)
  | inr apart ↦ get_or-set_other guards other guard false false apart ∙ was
]

let_long : (found : Option ℕ) (guards : List Bool) → length (let_go found guards) ≡ length guards
let_long None guards = refl
let_long (Some guard) guards = length-set guards guard false

guards_by : (script : ScriptModel) (a : ℕ) (given : Option Act) (r : ReactorHalf) →
    (found : Option ℕ) × ((performed_by script a given r).guards ≡ let_go found r.guards)
    × ((guard : ℕ) → given ≡ Some (act.Release guard) → found ≡ Some guard)
guards_by script a None r = (None, refl, λ guard is. absurd (cc))
guards_by script a (Some given) r =
    (guard_in given, guards_act script a given r, λ guard is. let it : given ≡ act.Release guard = cc in ap guard_in it)

guards_taken : (script : ScriptModel) (well : IsWellFormed script) (told : Bool) (s : State) → IsSound script s → (a : ℕ) →
    MayTake script s a → AreGuards script s.reactor → AreGuards script (reactor_after_take script told s.reactor a)
guards_taken script well told s sound a may are =
    let r : ReactorHalf = s.reactor in
    let by = guards_by script a (act_of script a) r in
    let after : (reactor_after_take script told r a).guards ≡ let_go by.0 r.guards =
    guards_settled told (performed script a r) ∙ by.1 in
    record {
      long = ap length after ∙ (let_long by.0 r.guards ∙ are.long);
      released = λ n guard is release.
          ap (λ (guards : List Bool). slice_index_or guards guard false) after
          ∙ elim (cases_eq n a) [
            | inl same ↦
                let found : by.0 ≡ Some guard = by.2 guard (ap (act_of script) (sym same) ∙ release) in
                ap (λ found. slice_index_or (let_go found r.guards) guard false) found ∙ released_here r.guards guard
            | inr other ↦
                released_still r.guards by.0 guard
                (are.released n guard (sym (taken_same script well told s sound a may n other) ∙ is) release)
          ];
    }

-- each event keeps them
pub guards_after : (script : ScriptModel) (well : IsWellFormed script) (told : Bool) (s : State) → IsSound script s →
    (e : Event) → MayHappen script told s e → AreGuards script s.reactor →
    AreGuards script (after_event script told s e).reactor
guards_after script well told s sound (event.Take a) may are = guards_taken script well told s sound a may are
guards_after script well told s sound (event.Done o given size) may are =
    guards_same script s.reactor (reactor_after_done script s.reactor o) (guards_told script o s.reactor)
    (stays_told script o s.reactor).taken are
guards_after script well told s sound (event.Tick now) may are =
    let u : ReactorHalf = at_time script told now s.reactor in
    guards_same script s.reactor (settled told u) (guards_settled told u) (stays_settled told u).taken are
guards_after script well told s sound event.Last may are =
    let u : ReactorHalf = at_last told s.reactor in
    guards_same script s.reactor (settled told u) (guards_settled told u) (stays_settled told u).taken are
guards_after script well told s sound event.Fault may are = record { long = are.long; released = are.released }
guards_after script well told s sound (event.Stop (Some a)) may are = are
guards_after script well told s sound (event.Stop None) may are = are
guards_after script well told s sound _ may are = are

pub first_guards : (script : ScriptModel) (told : Bool) → AreGuards script (first_reactor script told)
first_guards script told = record {
  long = length-replicate script.guards true;
  released = λ a guard is release. absurd (let wrong : false ≡ true = sym (first_taken script told a) ∙ is in cc);
}
