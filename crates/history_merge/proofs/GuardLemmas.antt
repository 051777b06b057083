-- What a turn of the reactor leaves of the guards: a take lets go of one at most, and only if it is of a control act.
use Rattle.std.proofs.Common.{◌≡◌, ◌⊎◌, ℕ, zero, suc, ◌+◌, Bool, true, false, cond, List, [], ◌∷◌, Option, None, Some, inl, inr, length, set, refl, sym, ap, subst, ◌∙◌, arith}
use Rattle.std.specs.Prelude.{count_by, find, nat_lt}
use Rattle.std.specs.List.{slice_index_or, slice_set}
use Rattle.std.proofs.Math.ListN.{length-set}
use Rattle.std.proofs.lemmas.Bool.{le-ltb, lt-ltb}
use Rattle.std.proofs.lemmas.List.Sums.{sum_by-cons}
use Rattle.asio_types.specs.declared.event.Event.{Event}
use Rattle.asio_types.specs.declared.event.Event.TheVariants as event
use Rattle.session_script.specs.declared.act.Act.{Act}
use Rattle.session_script.specs.declared.act.Act.TheVariants as act
use Rattle.session_script.specs.Script.{ScriptModel, act_of}
use Rattle.stream_rules.specs.Serving.{Reading, Writing}
use Rattle.history_rules.specs.Kinds.{is_act, is_control}
use Rattle.history_rules.specs.Performing.{connected, emitted, emitted_to, is_reached, is_wait_of, one_wait_cancelled, operation_cancelled, performed, performed_act, performed_by, queues_at, read_accepted, wait_accepted, write_accepted}
use Rattle.stream_rules.specs.declared.queue.Completion.{Completion}
use Rattle.history_rules.specs.Requests.{disconnected, reactor_after_done, reactor_after_take, slot_in, told_off}
use Rattle.history_rules.specs.Untold.{gone}
use Rattle.history_rules.specs.Rounds.{is_held}
use Rattle.history_rules.specs.Settling.{served_below, settled, with_streams_served, with_waits_served}
use Rattle.history_rules.specs.State.{ReactorHalf}
use Rattle.history_rules.specs.declared.wait.Wait.{Wait}
use Rattle.history_rules.specs.Legal.{reactor_after}
use Rattle.history_rules.specs.Time.{at_last, at_time}
use Rattle.lane_logs.specs.Half.{held_guards}
use Rattle.lane_logs.specs.ReactorTurns.{lets_go}

guards-connected : (slot : Option ℕ) (op : ℕ) (r : ReactorHalf) → (connected slot op r).guards ≡ r.guards
guards-connected None op r = refl
guards-connected (Some slot) op r = refl

guards-if : (b : Bool) (r one two : ReactorHalf) → one.guards ≡ r.guards → two.guards ≡ r.guards →
    (cond b one two).guards ≡ r.guards
guards-if true r one two first second = first
guards-if false r one two first second = second

guards-read : (op stream : ℕ) (reading : Reading) (r : ReactorHalf) → (read_accepted op stream reading r).guards ≡ r.guards
guards-read op stream reading r = guards-if (queues_at r stream).closed r _ _ refl refl

guards-write : (op stream : ℕ) (writing : Writing) (r : ReactorHalf) → (write_accepted op stream writing r).guards ≡ r.guards
guards-write op stream writing r = guards-if (queues_at r stream).closed r _ _ refl refl

guards-one : (found : Option Wait) (r : ReactorHalf) → (one_wait_cancelled found r).guards ≡ r.guards
guards-one None r = refl
guards-one (Some wait) r = refl

guards-operation : (it : Act) (op : ℕ) (r : ReactorHalf) → (operation_cancelled it op r).guards ≡ r.guards
guards-operation (act.Wait a b c d) op r = refl
guards-operation (act.ReadSome a b c d e) op r = refl
guards-operation (act.ReadAll a b c d e) op r = refl
guards-operation (act.Until a b c d e f) op r = refl
guards-operation (act.WriteSome a b c d e) op r = refl
guards-operation (act.WriteAll a b c d e) op r = refl
guards-operation other op r = refl

guards-emitted_to : (it : Option Act) (types op : ℕ) (r : ReactorHalf) → (emitted_to it types op r).guards ≡ r.guards
guards-emitted_to None types op r = refl
guards-emitted_to (Some it) types op r =
    guards-if (is_reached it types) r (operation_cancelled it op r) r (guards-operation it op r) refl

guards-emitted : (script : ScriptModel) (found : Option ℕ) (types : ℕ) (r : ReactorHalf) →
    (emitted script found types r).guards ≡ r.guards
guards-emitted script None types r = refl
guards-emitted script (Some op) types r = guards-emitted_to (act_of script op) types op r

-- only a release changes them
abbrev guard_in : Act → Option ℕ
guard_in (act.Release guard) = Some guard
guard_in _ = None

abbrev let_go : Option ℕ → List Bool → List Bool
let_go None guards = guards
let_go (Some guard) guards = slice_set guards guard false

guards-act : (script : ScriptModel) (a : ℕ) (it : Act) (r : ReactorHalf) →
    (performed_act script a it r).guards ≡ let_go (guard_in it) r.guards
guards-act script a (act.Wait timer strand slot filter) r = guards-connected slot a (wait_accepted a timer r)
guards-act script a (act.ReadSome stream size strand slot filter) r =
    guards-connected slot a _ ∙ guards-read a stream _ r
guards-act script a (act.ReadAll stream size strand slot filter) r =
    guards-connected slot a _ ∙ guards-read a stream _ r
guards-act script a (act.Until stream delimiter max strand slot filter) r =
    guards-connected slot a _ ∙ guards-read a stream _ r
guards-act script a (act.WriteSome stream bytes strand slot filter) r =
    guards-connected slot a _ ∙ guards-write a stream _ r
guards-act script a (act.WriteAll stream bytes strand slot filter) r =
    guards-connected slot a _ ∙ guards-write a stream _ r
guards-act script a (act.Expires timer after) r = refl
guards-act script a (act.ExpiresAt timer at) r = refl
guards-act script a (act.Cancel timer) r = refl
guards-act script a (act.CancelOne timer) r = guards-one (find (is_wait_of timer) r.waits) r
guards-act script a (act.Emit slot types) r = guards-emitted script (slice_index_or r.slots slot None) types r
guards-act script a (act.Close stream) r = guards-if (queues_at r stream).closed r r _ refl refl
guards-act script a (act.Release guard) r = refl
guards-act script a (act.Post strand) r = refl
guards-act script a (act.Defer strand) r = refl
guards-act script a (act.Dispatch strand) r = refl
guards-act script a act.Stop r = refl

-- a turn's settling leaves them
guards-below : (n : ℕ) (r : ReactorHalf) → (served_below n r).guards ≡ r.guards
guards-below zero r = refl
guards-below (suc n) r = guards-below n r

guards-served : (told : Bool) (r : ReactorHalf) → (with_streams_served told r).guards ≡ r.guards
guards-served true r = guards-below (length r.queues) r
guards-served false r = refl

pub guards-settled : (told : Bool) (r : ReactorHalf) → (settled told r).guards ≡ r.guards
guards-settled told r = guards-served told (record (with_waits_served r) { whole_turn = true; reached = 0 })

-- one guard less at most
held_set : (guards : List Bool) (guard : ℕ) →
    (count_by is_held (set guards guard false) ≡ count_by is_held guards)
    ⊎ (count_by is_held (set guards guard false) + 1 ≡ count_by is_held guards)
held_set [] guard = inl refl
held_set (held ∷ guards) zero = first held
  where
    first : (held : Bool) → (count_by is_held (false ∷ guards) ≡ count_by is_held (held ∷ guards))
        ⊎ (count_by is_held (false ∷ guards) + 1 ≡ count_by is_held (held ∷ guards))
    first true =
        let one = sum_by-cons (λ b. cond (is_held b) 1 0) false guards in
        let two = sum_by-cons (λ b. cond (is_held b) 1 0) true guards in
        inr (omega (arith, one, two))
    first false = inl refl
held_set (held ∷ guards) (suc guard) =
    let one = sum_by-cons (λ b. cond (is_held b) 1 0) held (set guards guard false) in
    let two = sum_by-cons (λ b. cond (is_held b) 1 0) held guards in
    elim (held_set guards guard) [
      | inl same ↦ inl (omega (arith, one, two, same))
      | inr less ↦ inr (omega (arith, one, two, less))
    ]

one_less : (before after : ℕ) → (after ≡ before) ⊎ (after + 1 ≡ before) → after + cond (nat_lt after before) 1 0 ≡ before
one_less before after (inl same) =
    let b : nat_lt after before ≡ false = le-ltb after before (omega (arith, same)) in
    ap (λ b. after + cond b 1 0) b ∙ omega (arith, same)
one_less before after (inr less) =
    let b : nat_lt after before ≡ true = lt-ltb after before (omega (arith, less)) in
    ap (λ b. after + cond b 1 0) b ∙ omega (arith, less)

held_go : (guard : Option ℕ) (guards : List Bool) →
    (count_by is_held (let_go guard guards) ≡ count_by is_held guards)
    ⊎ (count_by is_held (let_go guard guards) + 1 ≡ count_by is_held guards)
held_go None guards = inl refl
held_go (Some guard) guards = held_set guards guard

no_guard : (it : Act) → is_control it ≡ false → guard_in it ≡ None
no_guard (act.Release guard) isnt = absurd (cc)
no_guard other isnt = refl

module _ (script : ScriptModel) (told : Bool) (r : ReactorHalf) (a : ℕ) where
  taken_guards : held_guards (reactor_after_take script told r a) ≡ held_guards (performed script a r)
  taken_guards = ap (count_by is_held) (guards-settled told (performed script a r))

  by_act : (found : Option Act) → (count_by is_held (performed_by script a found r).guards ≡ held_guards r)
      ⊎ (count_by is_held (performed_by script a found r).guards + 1 ≡ held_guards r)
  by_act None = inl refl
  by_act (Some it) =
      subst (λ guards. (count_by is_held guards ≡ held_guards r) ⊎ (count_by is_held guards + 1 ≡ held_guards r))
      (sym (guards-act script a it r)) (held_go (guard_in it) r.guards)

  -- a take lets go of what it has to
  pub guards_after : held_guards (reactor_after_take script told r a) + cond (lets_go script r a) 1 0 ≡ held_guards r
  guards_after =
      ap (λ n. n + cond (lets_go script r a) 1 0) taken_guards
      ∙ one_less (held_guards r) (held_guards (performed script a r)) (by_act (act_of script a))

  kept : (found : Option Act) → act_of script a ≡ found → is_act is_control script a ≡ false →
      (performed_by script a found r).guards ≡ r.guards
  kept None stands isnt = refl
  kept (Some it) stands isnt =
      guards-act script a it r
      ∙ ap (λ guard. let_go guard r.guards)
      (no_guard it (sym (let is : is_act is_control script a ≡ is_control it = rw stands refl in is) ∙ isnt))

  -- and where it isn't of a control act, of none
  pub guards_stay : is_act is_control script a ≡ false → held_guards (reactor_after_take script told r a) ≡ held_guards r
  guards_stay isnt = taken_guards ∙ ap (count_by is_held) (kept (act_of script a) refl isnt)

-- a completion leaves them
gone_guards : (it : Option Act) (r : ReactorHalf) → (gone it r).guards ≡ r.guards
gone_guards (Some (act.ReadSome a b c d e)) r = refl
gone_guards (Some (act.ReadAll a b c d e)) r = refl
gone_guards (Some (act.Until a b c d e f)) r = refl
gone_guards (Some (act.WriteSome a b c d e)) r = refl
gone_guards (Some (act.WriteAll a b c d e)) r = refl
gone_guards it r = refl

told_guards : (script : ScriptModel) (o : ℕ) (r : ReactorHalf) (due : List Completion) →
    (told_off script o r due).guards ≡ r.guards
told_guards script o r [] = gone_guards (act_of script o) r
told_guards script o r (head ∷ due) = refl

disconnected_guards : (o : ℕ) (slot : Option ℕ) (r : ReactorHalf) → (disconnected o slot r).guards ≡ r.guards
disconnected_guards o None r = refl
disconnected_guards o (Some slot) r = refl

pub same_guards : (script : ScriptModel) (r : ReactorHalf) (o : ℕ) → (reactor_after_done script r o).guards ≡ r.guards
same_guards script r o =
    disconnected_guards o (slot_in (act_of script o)) (record (told_off script o r r.due) { whole_turn = false })
    ∙ told_guards script o r r.due

pub guards_done : (script : ScriptModel) (r : ReactorHalf) (o : ℕ) →
    held_guards (reactor_after_done script r o) ≡ held_guards r
guards_done script r o = ap (count_by is_held) (same_guards script r o)

-- no event makes or unmakes a guard
length-let_go : (guard : Option ℕ) (guards : List Bool) → length (let_go guard guards) ≡ length guards
length-let_go None guards = refl
length-let_go (Some guard) guards = length-set guards guard false

length-performed : (script : ScriptModel) (a : ℕ) (found : Option Act) (r : ReactorHalf) →
    length (performed_by script a found r).guards ≡ length r.guards
length-performed script a None r = refl
length-performed script a (Some it) r = ap length (guards-act script a it r) ∙ length-let_go (guard_in it) r.guards

pub length-guards : (script : ScriptModel) (told : Bool) (r : ReactorHalf) (shown : Event) →
    length (reactor_after script told r shown).guards ≡ length r.guards
length-guards script told r (event.Take a) =
    ap length (guards-settled told (performed script a r)) ∙ length-performed script a (act_of script a) r
length-guards script told r (event.Done o given size) = ap length (same_guards script r o)
length-guards script told r (event.Tick now) = ap length (guards-settled told (at_time script told now r))
length-guards script told r event.Last = ap length (guards-settled told (at_last told r))
length-guards script told r event.Fault = refl
length-guards script told r other = refl
