-- An operation stays connected to its slot until it completes, or another one is connected there.
use Rattle.std.proofs.Common.{◌≡◌, ◌≢◌, ◌⊎◌, ℕ, ◌<◌, ◌==◌, zero, suc, Bool, true, false, cond, List, [], ◌∷◌, ◌++◌, Option, Some, None, find, length, set, inl, inr, refl, sym, ap, subst, ◌∙◌, arith}
use Rattle.std.specs.List.{slice_index_or}
use Rattle.std.proofs.lemmas.Bool.{cases_eq}
use Rattle.std.proofs.lemmas.List.{get_or-set_same, get_or-set_other, length-replicate, length-set}
use Rattle.std.proofs.lemmas.Option.{slice_get_within}
use Rattle.asio_types.specs.declared.event.Event.{Event}
use Rattle.asio_types.specs.declared.event.Event.TheVariants as event
use Rattle.session_script.specs.declared.act.Act.{Act}
use Rattle.session_script.specs.declared.act.Act.TheVariants as act
use Rattle.session_script.specs.Script.{ScriptModel, act_of}
use Rattle.stream_rules.specs.Serving.{Some_bytes, All_bytes, Until, Some_of, All_of}
use Rattle.history_rules.specs.Kinds.{slot_of}
use Rattle.history_rules.specs.Legal.{MayHappen, after_event}
use Rattle.history_rules.specs.Performing.{connected, is_wait_of, performed, performed_act, performed_by, queues_at, read_accepted, shut_at, wait_accepted, write_accepted}
use Rattle.history_rules.specs.Requests.{disconnected, reactor_after_done, released, slot_in, told_off}
use Rattle.history_rules.specs.Settling.{served_below, settled, with_waits_served}
use Rattle.history_rules.specs.State.{ReactorHalf, State, first_reactor}
use Rattle.history_rules.specs.Time.{at_last, at_time}
use Rattle.history_laws.specs.Events.{StandsAt, completions_of, is_completion_of}
use Rattle.history_laws.proofs.CountLemmas.{apart-is, count-push, one_if, same-is}
use Rattle.history_laws.proofs.HistoryLemmas.{stands_last, stands_more}
use Rattle.history_laws.proofs.PerformedLemmas.{slots_below, slots_emitted, slots_first, slots_if, slots_off, slots_read, slots_write}

-- what stands in a list with one event more stood there before, or is that event
pub stood : (before : List Event) (e shown : Event) (k : ℕ) → StandsAt (before ++ e ∷ []) k shown →
    StandsAt before k shown ⊎ ((k ≡ length before) × (e ≡ shown))
stood [] e shown zero stands = inr (refl, cc)
stood [] e shown (suc k) stands = absurd (cc)
stood (first ∷ before) e shown zero stands = inl stands
stood (first ∷ before) e shown (suc k) stands = elim (stood before e shown k stands) [
  | inl was ↦ inl was
  | inr now ↦ inr (ap suc now.0, now.1)
]

-- an operation is connected to a slot
abbrev plugged : Option ℕ → ℕ → List (Option ℕ) → List (Option ℕ)
plugged None a slots = slots
plugged (Some slot) a slots = set slots slot (Some a)

plugged_by : (slot : Option ℕ) (a : ℕ) (r t : ReactorHalf) → t.slots ≡ r.slots →
    (connected slot a t).slots ≡ plugged slot a r.slots
plugged_by None a r t same = same
plugged_by (Some slot) a r t same = ap (λ slots. set slots slot (Some a)) same

slots_after : (script : ScriptModel) (a : ℕ) (given : Act) (r : ReactorHalf) →
    (performed_act script a given r).slots ≡ plugged (slot_of given) a r.slots
slots_after script a (act.Wait timer strand slot kinds) r = plugged_by slot a r (wait_accepted a timer r) refl
slots_after script a (act.ReadSome stream size strand slot kinds) r =
    plugged_by slot a r (read_accepted a stream (Some_bytes size) r) (slots_read a stream (Some_bytes size) r)
slots_after script a (act.ReadAll stream size strand slot kinds) r =
    plugged_by slot a r (read_accepted a stream (All_bytes size) r) (slots_read a stream (All_bytes size) r)
slots_after script a (act.Until stream delimiter max strand slot kinds) r =
    plugged_by slot a r (read_accepted a stream (Until delimiter max) r) (slots_read a stream (Until delimiter max) r)
slots_after script a (act.WriteSome stream bytes strand slot kinds) r =
    plugged_by slot a r (write_accepted a stream (Some_of bytes) r) (slots_write a stream (Some_of bytes) r)
slots_after script a (act.WriteAll stream bytes strand slot kinds) r =
    plugged_by slot a r (write_accepted a stream (All_of bytes) r) (slots_write a stream (All_of bytes) r)
slots_after script a (act.CancelOne timer) r = slots_first (find (is_wait_of timer) r.waits) r
slots_after script a (act.Emit slot types) r = slots_emitted script (slice_index_or r.slots slot None) types r
slots_after script a (act.Close stream) r = slots_if (queues_at r stream).closed r r (shut_at stream r) refl refl
slots_after script a _ r = refl

slots_after_by : (script : ScriptModel) (a : ℕ) (given : Option Act) (r : ReactorHalf) →
    (performed_by script a given r).slots ≡ plugged (slot_in given) a r.slots
slots_after_by script a None r = refl
slots_after_by script a (Some given) r = slots_after script a given r

slots_settle : (told : Bool) (r : ReactorHalf) → (settled told r).slots ≡ r.slots
slots_settle told r =
    let whole : ReactorHalf = record (with_waits_served r) { whole_turn = true; reached = 0 } in
    slots_if told r (served_below (length whole.queues) whole) whole (slots_below (length whole.queues) whole) refl

slots_taken : (script : ScriptModel) (told : Bool) (a : ℕ) (r : ReactorHalf) →
    (settled told (performed script a r)).slots ≡ plugged (slot_in (act_of script a)) a r.slots
slots_taken script told a r = slots_settle told (performed script a r) ∙ slots_after_by script a (act_of script a) r

plugged_long : (slot : Option ℕ) (a : ℕ) (slots : List (Option ℕ)) → length (plugged slot a slots) ≡ length slots
plugged_long None a slots = refl
plugged_long (Some slot) a slots = length-set slots slot (Some a)

module _ (script : ScriptModel) (told : Bool) (n slot : ℕ) (plug : slot_in (act_of script n) ≡ Some slot)
    (plug_within : slot < script.slots) where
  -- no other operation of the slot was taken behind this place
  abbrev pub IsAlone : List Event → ℕ → Type 0
  IsAlone events place =
      (other later : ℕ) → StandsAt events later (event.Take other) → place < later →
      slot_in (act_of script other) ≡ Some slot → ⊥

  pub record IsPlugged (before : List Event) (r : ReactorHalf) : Type 0 where
    pub long : length r.slots ≡ script.slots
    pub holds : (k : ℕ) → StandsAt before k (event.Take n) → IsAlone before k → completions_of n before ≡ 0 →
        slice_index_or r.slots slot None ≡ Some n

  -- an event that leaves the slot
  leaves : (before : List Event) (e : Event) (r t : ReactorHalf) → length t.slots ≡ length r.slots →
      ((k : ℕ) → IsAlone (before ++ e ∷ []) k → k < length before → completions_of n (before ++ e ∷ []) ≡ 0 →
      slice_index_or r.slots slot None ≡ Some n → slice_index_or t.slots slot None ≡ Some n) →
      (e ≡ event.Take n → slice_index_or t.slots slot None ≡ Some n) → IsPlugged before r → IsPlugged (before ++ e ∷ []) t
  leaves before e r t long stays takes is = record {
    long = long ∙ is.long;
    holds = λ k stands alone none. elim (stood before e (event.Take n) k stands) [
      | inr now ↦ takes now.1
      | inl was ↦
          let pushed = count-push (is_completion_of n) before e in
          stays k alone (slice_get_within before k (event.Take n) was) none
          (is.holds k was (λ other later there. alone other later (stands_more before e (event.Take other) later there))
          (omega (arith, none, pushed)))
    ];
  }

  same_slots : (before : List Event) (e : Event) (r t : ReactorHalf) → t.slots ≡ r.slots → (e ≡ event.Take n → ⊥) →
      IsPlugged before r → IsPlugged (before ++ e ∷ []) t
  same_slots before e r t same never is =
      leaves before e r t (ap length same)
      (λ k alone less none held. ap (λ (slots : List (Option ℕ)). slice_index_or slots slot None) same ∙ held)
      (λ takes. absurd (never takes)) is

  take_plugged : (before : List Event) (r : ReactorHalf) (a : ℕ) → IsPlugged before r →
      IsPlugged (before ++ event.Take a ∷ []) (settled told (performed script a r))
  take_plugged before r a is =
      leaves before (event.Take a) r (settled told (performed script a r))
      (ap length (slots_taken script told a r) ∙ plugged_long (slot_in (act_of script a)) a r.slots)
      (λ k alone less none held. at_slot ∙ by_slot (slot_in (act_of script a)) refl k alone less held)
      (λ takes. let same : a ≡ n = cc in at_slot ∙ here same) is
    where
      at_slot : slice_index_or (settled told (performed script a r)).slots slot None
          ≡ slice_index_or (plugged (slot_in (act_of script a)) a r.slots) slot None
      at_slot = ap (λ (slots : List (Option ℕ)). slice_index_or slots slot None) (slots_taken script told a r)

      here : a ≡ n → slice_index_or (plugged (slot_in (act_of script a)) a r.slots) slot None ≡ Some n
      here same =
          ap (λ at. slice_index_or (plugged at a r.slots) slot None) (ap (λ a. slot_in (act_of script a)) same ∙ plug)
          ∙ (get_or-set_same r.slots slot (Some a) None (omega (arith, plug_within, is.long)) ∙ ap Some same)

      by_slot : (at : Option ℕ) → slot_in (act_of script a) ≡ at → (k : ℕ) → IsAlone (before ++ event.Take a ∷ []) k →
          k < length before → slice_index_or r.slots slot None ≡ Some n →
          slice_index_or (plugged at a r.slots) slot None ≡ Some n
      by_slot None of k alone less held = held
      by_slot (Some other) of k alone less held = elim (cases_eq other slot) [
        | inl same ↦
            absurd (alone a (length before) (stands_last before (event.Take a)) less (of ∙ ap Some same))
        | inr apart ↦ get_or-set_other r.slots other slot (Some a) None (λ same. apart (sym same)) ∙ held
      ]

  kept_some : (o : ℕ) → o ≢ n → released o (Some n) ≡ Some n
  kept_some o apart = ap (λ b. cond b None (Some n)) (apart-is n o (λ same. apart (sym same)))

  done_plugged : (before : List Event) (r : ReactorHalf) (e : Event) (o : ℕ) → is_completion_of n e ≡ (o == n) →
      (e ≡ event.Take n → ⊥) → IsPlugged before r → IsPlugged (before ++ e ∷ []) (reactor_after_done script r o)
  done_plugged before r e o completes never is =
      by_slot (slot_in (act_of script o)) (record (told_off script o r r.due) { whole_turn = false }) (slots_off script o r r.due)
    where
      apart_from : completions_of n (before ++ e ∷ []) ≡ 0 → o ≢ n
      apart_from none same =
          let pushed = count-push (is_completion_of n) before e in
          let one : one_if (is_completion_of n e) ≡ 1 =
          ap one_if (completes ∙ (ap (λ o. o == n) same ∙ same-is n)) in
          omega (arith, none, pushed, one)

      by_slot : (at : Option ℕ) (t : ReactorHalf) → t.slots ≡ r.slots → IsPlugged (before ++ e ∷ []) (disconnected o at t)
      by_slot None t same = same_slots before e r t same never is
      by_slot (Some other) t same =
          leaves before e r (disconnected o (Some other) t)
          (length-set t.slots other (released o (slice_index_or t.slots other None)) ∙ ap length same)
          (λ k alone less none held.
          let was : slice_index_or t.slots slot None ≡ Some n =
          ap (λ (slots : List (Option ℕ)). slice_index_or slots slot None) same ∙ held in
          elim (cases_eq other slot) [
            | inl here ↦
                subst
                (λ (other : ℕ).
                slice_index_or (set t.slots other (released o (slice_index_or t.slots other None))) slot None ≡ Some n)
                (sym here)
                (get_or-set_same t.slots slot (released o (slice_index_or t.slots slot None)) None (wide t same)
                ∙ (ap (released o) was ∙ kept_some o (apart_from none)))
            | inr apart ↦
                get_or-set_other t.slots other slot (released o (slice_index_or t.slots other None)) None
                (λ same. apart (sym same)) ∙ was
          ])
          (λ takes. absurd (never takes)) is
        where
          wide : (t : ReactorHalf) → t.slots ≡ r.slots → slot < length t.slots
          wide t same = let long = ap length same in omega (arith, long, is.long, plug_within)

  -- each event keeps it
  pub plugged_after : (before : List Event) (s : State) (e : Event) → IsPlugged before s.reactor → MayHappen script told s e →
      IsPlugged (before ++ e ∷ []) (after_event script told s e).reactor
  plugged_after before s (event.Take a) is may = take_plugged before s.reactor a is
  plugged_after before s (event.Done o code size) is may =
      done_plugged before s.reactor (event.Done o code size) o refl (λ takes. absurd (cc)) is
  plugged_after before s (event.Tick now) is may =
      same_slots before (event.Tick now) s.reactor (settled told (at_time script told now s.reactor))
      (slots_settle told (at_time script told now s.reactor)) (λ takes. absurd (cc)) is
  plugged_after before s event.Last is may =
      same_slots before event.Last s.reactor (settled told (at_last told s.reactor)) (slots_settle told (at_last told s.reactor))
      (λ takes. absurd (cc)) is
  plugged_after before s event.Fault is may =
      same_slots before event.Fault s.reactor (record s.reactor { failed = true; due = [] }) refl (λ takes. absurd (cc)) is
  plugged_after before s (event.Stop (Some a)) is may =
      same_slots before (event.Stop (Some a)) s.reactor s.reactor refl (λ takes. absurd (cc)) is
  plugged_after before s (event.Stop None) is may =
      same_slots before (event.Stop None) s.reactor s.reactor refl (λ takes. absurd (cc)) is
  plugged_after before s (event.Call a) is may =
      same_slots before (event.Call a) s.reactor s.reactor refl (λ takes. absurd (cc)) is
  plugged_after before s (event.Back a) is may =
      same_slots before (event.Back a) s.reactor s.reactor refl (λ takes. absurd (cc)) is
  plugged_after before s (event.Begin o code size) is may =
      same_slots before (event.Begin o code size) s.reactor s.reactor refl (λ takes. absurd (cc)) is
  plugged_after before s (event.End o mark) is may =
      same_slots before (event.End o mark) s.reactor s.reactor refl (λ takes. absurd (cc)) is
  plugged_after before s event.Ended is may = same_slots before event.Ended s.reactor s.reactor refl (λ takes. absurd (cc)) is
  plugged_after before s event.Stopped is may =
      same_slots before event.Stopped s.reactor s.reactor refl (λ takes. absurd (cc)) is
  plugged_after before s event.Polled is may = same_slots before event.Polled s.reactor s.reactor refl (λ takes. absurd (cc)) is
  plugged_after before s event.Restart is may =
      same_slots before event.Restart s.reactor s.reactor refl (λ takes. absurd (cc)) is
  plugged_after before s (event.Dropped o mark) is may =
      same_slots before (event.Dropped o mark) s.reactor s.reactor refl (λ takes. absurd (cc)) is

  pub first_plugged : IsPlugged [] (first_reactor script told)
  first_plugged = record {
    long = length-replicate script.slots None;
    holds = λ k stands alone none. absurd (cc);
  }
