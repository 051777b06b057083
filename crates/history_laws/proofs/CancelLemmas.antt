-- The law of cancellation: what is pending where an act is taken that reaches it begins as aborted.
use Rattle.std.proofs.Common.{◌≡◌, ℕ, ◌<◌, ◌≤◌, ◌==◌, zero, suc, Bool, true, false, cond, List, [], ◌∷◌, Option, Some, None, find, get_or, length, take, inl, inr, refl, sym, ap, subst, ◌∙◌, arith}
use Rattle.std.specs.List.{All, count_by, slice_index_or}
use Rattle.std.specs.Prelude.{IfSome}
use Rattle.std.proofs.lemmas.Bool.{and_parts, cases_eq, eqb-true}
use Rattle.std.proofs.lemmas.List.Elements.{All-nil}
use Rattle.std.proofs.lemmas.List.Sums.{sum_by-cons}
use Rattle.asio_types.specs.declared.code.Code.{Code}
use Rattle.asio_types.specs.declared.code.Code.TheVariants as code
use Rattle.asio_types.specs.declared.event.Event.{Event}
use Rattle.asio_types.specs.declared.event.Event.TheVariants as event
use Rattle.session_script.specs.declared.act.Act.{Act}
use Rattle.session_script.specs.declared.act.Act.TheVariants as act
use Rattle.session_script.specs.Script.{ScriptModel, act_of}
use Rattle.session_script.specs.WellFormed.{FitsAct, IsWellFormed, header_of}
use Rattle.session_script.proofs.PlacingLemmas.{act_fits}
use Rattle.stream_rules.specs.declared.queue.Completion.{Completion}
use Rattle.history_rules.specs.Kinds.{slot_of, stream_of}
use Rattle.history_rules.specs.Legal.{IsLegalSoFar}
use Rattle.history_rules.specs.Order.{was_taken}
use Rattle.history_rules.specs.Performing.{emitted, is_reached, is_wait_for, is_wait_of, one_wait_cancelled, performed_act}
use Rattle.history_rules.specs.Requests.{MayTake, slot_in}
use Rattle.history_rules.specs.State.{ReactorHalf, State, first_state, phase_at}
use Rattle.history_rules.specs.declared.phase.ActPhase.{ActPhase}
use Rattle.history_rules.specs.declared.phase.ActPhase.TheVariants as phase
use Rattle.history_rules.specs.declared.wait.Wait.{Wait}
use Rattle.history_laws.specs.AfterCompletion.{IsAsynchronous}
use Rattle.history_laws.specs.Cancelled.{IsPendingAt, Reaches, is_this, may_cancel}
use Rattle.history_laws.specs.Cancelled.{is_wait_of as is_wait_on}
use Rattle.history_laws.specs.Clock.{IsWaitOf}
use Rattle.history_laws.specs.Events.{StandsAt}
use Rattle.history_laws.proofs.ConnectedLemmas.{IsPlugged, first_plugged, plugged_after}
use Rattle.history_laws.proofs.CountLemmas.{one_if, same-is}
use Rattle.history_laws.proofs.HeededLemmas.{AbortsOnly, IsAborting, IsOther, cancels_aborting, heeds, reached_taken, wait_asks, waits_gone, waits_left}
use Rattle.history_laws.proofs.HeldLemmas.{found_in}
use Rattle.history_laws.proofs.KeptLemmas.{IsKept, Timed, first_kept, kept_after, one_timer}
use Rattle.history_laws.proofs.LaterLemmas.{at, happens}
use Rattle.history_laws.proofs.LawLemmas.{shown_at, stands_before}
use Rattle.history_laws.proofs.OrderedLemmas.{one_or_none}
use Rattle.history_laws.proofs.ReachLemmas.{along, legal_take}
use Rattle.history_laws.proofs.ReachedLemmas.{close_aborts, emit_aborts}
use Rattle.history_laws.proofs.ShownLemmas.{completions_shown}
use Rattle.history_laws.proofs.ShutLemmas.{IsShut, first_shut, shut_after}
use Rattle.history_laws.proofs.Sound.{may_pend}
use Rattle.history_laws.proofs.SoundLemmas.{pend_phase}
use Rattle.history_laws.proofs.TimerLawLemmas.{kept_at}
use Rattle.history_laws.proofs.WaitingLemmas.{AreInOrder, found_first, order_after}

this_is : (n : ℕ) (given : Option ℕ) → is_this n given ≡ true → given ≡ Some n
this_is n None is = absurd (cc)
this_is n (Some other) is = ap Some (eqb-true other n is)

-- the slot of an act is one of the script's
plug_fits : (script : ScriptModel) (given : Act) → FitsAct (header_of script) given →
    IfSome (slot_of given) (λ slot. slot < script.slots)
plug_fits script (act.Wait timer strand slot kinds) fits = fits.2.0
plug_fits script (act.ReadSome stream size strand slot kinds) fits = fits.3.0
plug_fits script (act.ReadAll stream size strand slot kinds) fits = fits.3.0
plug_fits script (act.Until stream delimiter max strand slot kinds) fits = fits.4.0
plug_fits script (act.WriteSome stream bytes strand slot kinds) fits = fits.3.0
plug_fits script (act.WriteAll stream bytes strand slot kinds) fits = fits.3.0
plug_fits script _ fits = tt

-- what has a timer waits for it
wait_target : (script : ScriptModel) (timer n : ℕ) (target : Act) → act_of script n ≡ Some target →
    is_wait_on timer target ≡ true →
    IsWaitOf script timer n
wait_target script timer n (act.Wait other strand slot kinds) is waits = record {
  strand = strand;
  slot = slot;
  filter = kinds;
  act = is ∙ ap (λ timer. Some (act.Wait timer strand slot kinds)) (eqb-true other timer waits);
}
wait_target script timer n _ is waits = absurd (cc)

-- what may be cancelled is an asynchronous operation
stream_asks : (script : ScriptModel) (stream n : ℕ) (target : Act) → act_of script n ≡ Some target →
    stream_of target ≡ Some stream → IsAsynchronous script n
stream_asks script stream n (act.ReadSome other size strand slot kinds) is on =
    record { operation = rw is refl; unposted = rw is refl }
stream_asks script stream n (act.ReadAll other size strand slot kinds) is on =
    record { operation = rw is refl; unposted = rw is refl }
stream_asks script stream n (act.Until other delimiter max strand slot kinds) is on =
    record { operation = rw is refl; unposted = rw is refl }
stream_asks script stream n (act.WriteSome other bytes strand slot kinds) is on =
    record { operation = rw is refl; unposted = rw is refl }
stream_asks script stream n (act.WriteAll other bytes strand slot kinds) is on =
    record { operation = rw is refl; unposted = rw is refl }
stream_asks script stream n _ is on = absurd (cc)

slot_asks : (script : ScriptModel) (slot n : ℕ) (target : Act) → act_of script n ≡ Some target → slot_of target ≡ Some slot →
    IsAsynchronous script n
slot_asks script slot n (act.Wait timer strand other kinds) is on = record { operation = rw is refl; unposted = rw is refl }
slot_asks script slot n (act.ReadSome stream size strand other kinds) is on =
    record { operation = rw is refl; unposted = rw is refl }
slot_asks script slot n (act.ReadAll stream size strand other kinds) is on =
    record { operation = rw is refl; unposted = rw is refl }
slot_asks script slot n (act.Until stream delimiter max strand other kinds) is on =
    record { operation = rw is refl; unposted = rw is refl }
slot_asks script slot n (act.WriteSome stream bytes strand other kinds) is on =
    record { operation = rw is refl; unposted = rw is refl }
slot_asks script slot n (act.WriteAll stream bytes strand other kinds) is on =
    record { operation = rw is refl; unposted = rw is refl }
slot_asks script slot n _ is on = absurd (cc)

asks : (script : ScriptModel) (n : ℕ) (by target : Act) → act_of script n ≡ Some target → may_cancel by target ≡ true →
    IsAsynchronous script n
asks script n (act.Expires timer after) target is may = wait_asks script timer n (wait_target script timer n target is may)
asks script n (act.ExpiresAt timer at) target is may = wait_asks script timer n (wait_target script timer n target is may)
asks script n (act.Cancel timer) target is may = wait_asks script timer n (wait_target script timer n target is may)
asks script n (act.CancelOne timer) target is may = wait_asks script timer n (wait_target script timer n target is may)
asks script n (act.Emit slot types) target is may =
    let both = and_parts (is_this slot (slot_of target)) (is_reached target types) may in
    slot_asks script slot n target is (this_is slot (slot_of target) both.0)
asks script n (act.Close stream) target is may = stream_asks script stream n target is (this_is stream (stream_of target) may)
asks script n _ target is may = absurd (cc)

-- nothing passes where nothing is found
find_none : {X : Type 0} (test : X → Bool) (xs : List X) (k : ℕ) (d : X) → find test xs ≡ None → k < length xs →
    test (get_or xs k d) ≡ true → ⊥
find_none test [] k d none within passes = absurd (omega (arith, within))
find_none {X} test (x ∷ xs) k d none within passes =
    by_test (test x) refl none (λ k none within passes. find_none test xs k d none within passes) k within passes
  where
    by_test : (b : Bool) → test x ≡ b → cond b (Some x) (find test xs) ≡ None →
        ((k : ℕ) → find test xs ≡ None → k < length xs → test (get_or xs k d) ≡ true → ⊥) → (k : ℕ) → k < length (x ∷ xs) →
        test (get_or (x ∷ xs) k d) ≡ true → ⊥
    by_test true tested none rest k within passes = absurd (cc)
    by_test false tested none rest zero within passes = absurd (let wrong : true ≡ false = sym passes ∙ tested in cc)
    by_test false tested none rest (suc k) within passes = rest k none (omega (arith, within)) passes

-- what is found is counted
found_counts : (test : Wait → Bool) (waits : List Wait) (found : Wait) → find test waits ≡ Some found →
    1 ≤ count_by (is_wait_for found.op) waits
found_counts test [] found is = absurd (cc)
found_counts test (wait ∷ waits) found is = by_test (test wait) is (λ is. found_counts test waits found is)
  where
    by_test : (b : Bool) → cond b (Some wait) (find test waits) ≡ Some found →
        (find test waits ≡ Some found → 1 ≤ count_by (is_wait_for found.op) waits) →
        1 ≤ count_by (is_wait_for found.op) (wait ∷ waits)
    by_test true is rest =
        let same : wait ≡ found = cc in
        let one = sum_by-cons (λ other. cond (is_wait_for found.op other) 1 0) wait waits in
        let here : one_if (is_wait_for found.op wait) ≡ 1 =
        ap (λ (wait : Wait). one_if (is_wait_for found.op wait)) same ∙ ap one_if (same-is found.op) in
        omega (arith, one, here)
    by_test false is rest =
        let one = sum_by-cons (λ other. cond (is_wait_for found.op other) 1 0) wait waits in omega (arith, one, rest is)

pending_shown : (p : ActPhase) (taken : Bool) → p ≡ phase.Requested → 1 ≤ one_if (may_pend p taken) →
    (1 ≤ one_if taken) × (completions_shown p ≡ 0)
pending_shown p taken is pends =
    let one = ap (λ p. one_if (may_pend p taken)) is in (omega (arith, one, pends), ap completions_shown is)

module _ (script : ScriptModel) (well : IsWellFormed script) (told : Bool) (events : List Event)
    (legal : IsLegalSoFar script told events) where
  abbrev s : ℕ → State
  s place = at script well told events legal place

  kept : (place : ℕ) → IsKept script (take place events) (s place).reactor
  kept place = kept_at script well told events legal place

  legal_at : (place : ℕ) → IsLegalSoFar script told (take place events)
  legal_at place = legal_take script told (first_state script told) events place legal

  shut : (place : ℕ) → IsShut (s place).reactor
  shut place =
      along script told (λ before s. IsShut s.reactor) (λ before s e shut may. shut_after script told s e shut) []
      (first_state script told) (first_shut script told) (take place events) (legal_at place)

  record IsOrdered (before : List Event) (r : ReactorHalf) : Type 0 where
    kept : IsKept script before r
    order : AreInOrder before r.waits

  ordered : (place : ℕ) → IsOrdered (take place events) (s place).reactor
  ordered place =
      along script told (λ before s. IsOrdered before s.reactor)
      (λ before s e is may. record {
        kept = kept_after script told before s e is.kept may;
        order = order_after script told before s e is.kept is.order may;
      }) [] (first_state script told) (record { kept = first_kept script told; order = tt }) (take place events) (legal_at place)

  plugged : (n slot place : ℕ) → (plug : slot_in (act_of script n) ≡ Some slot) → (within : slot < script.slots) →
      IsPlugged script told n slot plug within (take place events) (s place).reactor
  plugged n slot place plug within =
      along script told (λ before s. IsPlugged script told n slot plug within before s.reactor)
      (λ before s e is may. plugged_after script told n slot plug within before s e is may) [] (first_state script told)
      (first_plugged script told n slot plug within) (take place events) (legal_at place)

  module _ (place n canceller : ℕ) (takes : StandsAt events place (event.Take canceller))
      (pending : IsPendingAt events place n) where
    abbrev r : ReactorHalf
    r = (s place).reactor

    may : MayTake script (s place) canceller
    may = happens script well told events legal place (event.Take canceller) takes

    none : r.due ≡ []
    none = may.turn.told

    taken_there : (k : ℕ) × StandsAt (take place events) k (event.Take n)
    taken_there =
        let shown = shown_at script well told events legal place in
        shown.taken n (one_true (was_taken r n) (omega (arith, pending.taken, shown.takes n)))
      where
        one_true : (b : Bool) → 1 ≤ one_if b → b ≡ true
        one_true true is = refl
        one_true false is = absurd (omega (arith, is))

    -- a wait that is found is pending
    found_pending : (test : Wait → Bool) (found : Wait) → find test r.waits ≡ Some found → IsPendingAt events place found.op
    found_pending test found is =
        let shown = shown_at script well told events legal place in
        let some = found_counts test r.waits found is in
        let pends : 1 ≤ one_if (may_pend (phase_at (s place).context found.op) (was_taken r found.op)) =
        (let most = shown.sound.pending found.op in omega (arith, most, some)) in
        elim (pend_phase (phase_at (s place).context found.op) (was_taken r found.op) pends) [
          | inl requested ↦
              let both = pending_shown (phase_at (s place).context found.op) (was_taken r found.op) requested pends in
              let few = few_one (was_taken r found.op) in
              record {
                taken = omega (arith, shown.takes found.op, both.0, few);
                uncompleted = omega (arith, shown.completions found.op, both.1);
              }
          | inr dropped ↦
              let over = shown.sound.dropped found.op dropped in
              absurd (let wrong : true ≡ false = sym over.1 ∙ may.turn.round.alive in cc)
        ]
      where
        few_one : (b : Bool) → one_if b ≤ 1
        few_one true = omega arith
        few_one false = omega arith

    module _ (timer : ℕ) (wait : IsWaitOf script timer n)
        (oldest : Reaches script events place n (act.CancelOne timer)) where
      abbrev no_wait : Wait
      no_wait = record { op = 0; timer = 0 }

      nothing_due : All (AbortsOnly n) r.due
      nothing_due = subst (λ (due : List Completion). All (AbortsOnly n) due) (sym none) (All-nil (AbortsOnly n))

      passes : (k : ℕ) → k < length r.waits → (get_or r.waits k no_wait).op ≡ n →
          is_wait_of timer (get_or r.waits k no_wait) ≡ true
      passes k within same =
          let of = (kept place).held.waits k no_wait within in
          let timers : (get_or r.waits k no_wait).timer ≡ timer =
          one_timer script (get_or r.waits k no_wait).timer timer n
          (subst (IsWaitOf script (get_or r.waits k no_wait).timer) same of.0) wait in
          ap (λ t. t == timer) timers ∙ same-is timer

      -- the wait that is found is it, or it isn't there
      found_it : (found : Wait) → find (is_wait_of timer) r.waits ≡ Some found → (k : ℕ) → k < length r.waits →
          (get_or r.waits k no_wait).op ≡ n → found.op ≡ n
      found_it found is k within here =
          elim (found_first (take place events) (is_wait_of timer) r.waits found n k no_wait is (ordered place).order within here
          (passes k within here)) [
            | inl same ↦ same
            | inr before ↦
                let of =
                found_in (is_wait_of timer) (λ (wait : Wait). Timed script (take place events) wait.timer wait.op) r.waits found
                is (kept place).held.waits in
                let its : IsWaitOf script timer found.op =
                subst (λ (timer : ℕ). IsWaitOf script timer found.op) (eqb-true found.timer timer of.0) of.1.0 in
                let first = stands_before events place before.earlier (event.Take found.op) before.takes in
                let second = stands_before events place before.later (event.Take n) before.takes_later in
                absurd (oldest found.op before.earlier before.later its first.1 second.1 before.less
                (found_pending (is_wait_of timer) found is))
          ]

      one_goes : (given : Option Wait) → find (is_wait_of timer) r.waits ≡ given →
          IsAborting script n (one_wait_cancelled given r)
      one_goes given is =
          elim (one_or_none (λ (wait : Wait). wait.op ≡ n) (λ wait. IsOther n wait.op)
          (λ wait. cases_eq wait.op n) no_wait r.waits) [
            | inl pends ↦ by_found given is pends.0 pends.1 pends.2
            | inr others ↦ by_none given others
          ]
        where
          by_found : (given : Option Wait) → find (is_wait_of timer) r.waits ≡ given → (k : ℕ) → k < length r.waits →
              (get_or r.waits k no_wait).op ≡ n → IsAborting script n (one_wait_cancelled given r)
          by_found None is k within here = absurd (find_none (is_wait_of timer) r.waits k no_wait is within
              (passes k within here))
          by_found (Some found) is k within here =
              let same = found_it found is k within here in
              waits_gone script timer n wait (is_wait_for found.op) (take place events) r r (kept place) none
              (λ k d within of other. ap (λ op. op == found.op) (other ∙ sym same) ∙ same-is found.op) refl refl refl

          by_none : (given : Option Wait) → All (λ (wait : Wait). IsOther n wait.op) r.waits →
              IsAborting script n (one_wait_cancelled given r)
          by_none None others =
              waits_left script timer n wait (take place events) r r (kept place)
              (λ k d within. (((kept place).held.waits k d within).0, others k d within)) refl nothing_due
          by_none (Some found) others =
              waits_gone script timer n wait (is_wait_for found.op) (take place events) r r (kept place) none
              (λ k d within of other. absurd (others k d within other)) refl refl refl

    emit_goes : (slot types : ℕ) (target : Act) → act_of script n ≡ Some target → slot_of target ≡ Some slot →
        is_reached target types ≡ true → Reaches script events place n (act.Emit slot types) →
        IsAborting script n (emitted script (slice_index_or r.slots slot None) types r)
    emit_goes slot types target is on reached connected =
        let plug : slot_in (act_of script n) ≡ Some slot = ap slot_in is ∙ on in
        let within : slot < script.slots =
        subst (λ (slot : Option ℕ). IfSome slot (λ slot. slot < script.slots)) on
        (plug_fits script target (act_fits script n well target is)) in
        let stands = stands_before events place taken_there.0 (event.Take n) taken_there.1 in
        let holds = (plugged n slot place plug within).holds taken_there.0 taken_there.1
        (λ other later there less on_it.
        let before = stands_before events place later (event.Take other) there in
        connected other taken_there.0 later stands.1 before.1 less before.0 on_it) pending.uncompleted in
        subst (λ (op : Option ℕ). IsAborting script n (emitted script op types r)) (sym holds)
        (emit_aborts script n (take place events) target types r is
        (λ unplugged. let wrong : None ≡ Some slot = sym unplugged ∙ on in absurd (cc)) reached (kept place) none)

    -- what the act leaves of it
    leaves : (by target : Act) → act_of script n ≡ Some target → may_cancel by target ≡ true → Reaches script events place n by →
        IsAborting script n (performed_act script canceller by r)
    leaves (act.Expires timer after) target is cancels reaches =
        cancels_aborting script timer n (wait_target script timer n target is cancels) canceller (act.Expires timer after) r
        (same-is timer) (take place events) (kept place) none
    leaves (act.ExpiresAt timer at) target is cancels reaches =
        cancels_aborting script timer n (wait_target script timer n target is cancels) canceller (act.ExpiresAt timer at) r
        (same-is timer) (take place events) (kept place) none
    leaves (act.Cancel timer) target is cancels reaches =
        cancels_aborting script timer n (wait_target script timer n target is cancels) canceller
        (act.Cancel timer) r (same-is timer)
        (take place events) (kept place) none
    leaves (act.CancelOne timer) target is cancels reaches =
        one_goes timer (wait_target script timer n target is cancels) reaches (find (is_wait_of timer) r.waits) refl
    leaves (act.Emit slot types) target is cancels reaches =
        let both = and_parts (is_this slot (slot_of target)) (is_reached target types) cancels in
        emit_goes slot types target is (this_is slot (slot_of target) both.0) both.1 reaches
    leaves (act.Close stream) target is cancels reaches =
        close_aborts script n (take place events) stream r
        (record { act = target; is = is; on = this_is stream (stream_of target) cancels }) (kept place) none (shut place)
    leaves _ target is cancels reaches = absurd (cc)

  pub heeded : (n canceller place later : ℕ) (by target : Act) (given : Code) (size : ℕ) → act_of script canceller ≡ Some by →
      act_of script n ≡ Some target → may_cancel by target ≡ true → Reaches script events place n by →
      StandsAt events place (event.Take canceller) → IsPendingAt events place n →
      StandsAt events later (event.Begin n given size) → given ≡ code.Aborted
  heeded n canceller place later by target given size is_by is cancels reaches takes pending begins =
      heeds script well told events legal n
      (asks script n by target is cancels) canceller place later given size takes pending begins
      (reached_taken script told n canceller by (s place).reactor is_by
      (leaves place n canceller takes pending by target is cancels reaches))
