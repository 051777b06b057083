-- What holds of each state that a legal history comes to.
use Rattle.std.proofs.Common.{◌≡◌, ℕ, ◌≤◌, Bool, true, false, List, [], ◌∷◌, ◌++◌, Some, None, length, refl, sym, subst, ◌∙◌, arith}
use Rattle.std.specs.List.{count_by}
use Rattle.asio_types.specs.declared.event.Event.{Event}
use Rattle.asio_types.specs.declared.event.Event.TheVariants as event
use Rattle.session_script.specs.Script.{ScriptModel}
use Rattle.session_script.specs.WellFormed.{IsWellFormed}
use Rattle.history_rules.specs.Legal.{IsLegalSoFar, MayHappen, after_event, state_of}
use Rattle.history_rules.specs.State.{State, act_at, first_state, fresh}
use Rattle.history_rules.specs.Time.{at_time}
use Rattle.history_laws.specs.AfterStop.{is_round_end}
use Rattle.history_laws.proofs.CountLemmas.{count-push}
use Rattle.history_laws.proofs.FirstLemmas.{first_act}
use Rattle.history_laws.proofs.HistoryLemmas.{moves_after}
use Rattle.history_laws.proofs.LengthLemmas.{IsCounted, counted_next, counted_so_far}
use Rattle.history_laws.proofs.ReachLemmas.{along}
use Rattle.history_laws.proofs.ReactorLemmas.{stays_settled, stays_told}
use Rattle.history_laws.proofs.StopLemmas.{closings_after}
use Rattle.history_laws.proofs.TakingLemmas.{kept, settle}
use Rattle.history_progress.specs.Next.{is_last_point}
use Rattle.history_progress.proofs.DatedLemmas.{AreDated, DropsLate, dated_after, first_dated, late_after}
use Rattle.history_progress.proofs.FreeLemmas.{AreLanes, first_lanes, lanes_after}
use Rattle.history_progress.proofs.GuardLemmas.{AreGuards, first_guards, guards_after}
use Rattle.history_progress.proofs.MakingLemmas.{AreMaking, first_making, making_after}
use Rattle.history_progress.proofs.MarkedLemmas.{IsEmptying, emptying_after, first_emptying}
use Rattle.history_progress.proofs.OrderlyLemmas.{FitsKind, kind_stays}
use Rattle.history_progress.proofs.StandsLemmas.{AreStanding, first_standing, standing_after}

pub record IsOrderly (script : ScriptModel) (told : Bool) (before : List Event) (s : State) : Type 0 where
  pub counted : IsCounted script told before s
  pub making : AreMaking script s.context
  pub lanes : AreLanes script s.context
  pub kinds : (n : ℕ) → FitsKind script n (act_at s.context n)
  pub dated : AreDated script s.context
  pub late : DropsLate script s
  pub standing : AreStanding script s
  pub guards : AreGuards script s.reactor
  pub emptying : told ≡ true → IsEmptying s.reactor
  pub last : s.reactor.last ≡ true → 1 ≤ count_by is_last_point before
  pub rounds : (count_by is_round_end before ≡ s.context.closings) × (s.context.closings ≤ length script.rounds)

emptying_next : (script : ScriptModel) (told : Bool) (s : State) (e : Event) → MayHappen script told s e →
    (told ≡ true → IsEmptying s.reactor) → told ≡ true → IsEmptying (after_event script told s e).reactor
emptying_next script true s e may is same = emptying_after script s e may (is refl)
emptying_next script false s e may is same = absurd (cc)

module _ (script : ScriptModel) (well : IsWellFormed script) (told : Bool) where
  last_before : (before : List Event) (s : State) → IsOrderly script told before s → (e : Event) →
      s.reactor.last ≡ true → 1 ≤ count_by is_last_point (before ++ e ∷ [])
  last_before before s o e was = let pushed = count-push is_last_point before e in omega (arith, pushed, o.last was)

  last_next : (before : List Event) (s : State) → IsOrderly script told before s → (e : Event) → MayHappen script told s e →
      (after_event script told s e).reactor.last ≡ true → 1 ≤ count_by is_last_point (before ++ e ∷ [])
  last_next before s o (event.Take a) may is =
      let sound = o.counted.shown.sound in
      last_before before s o (event.Take a)
      (sym ((settle script well told s sound a may).last ∙ (kept script well told s sound a may).last) ∙ is)
  last_next before s o (event.Done n given size) may is =
      last_before before s o (event.Done n given size) (sym (stays_told script n s.reactor).last ∙ is)
  last_next before s o (event.Tick now) may is =
      last_before before s o (event.Tick now) (sym (stays_settled told (at_time script told now s.reactor)).last ∙ is)
  last_next before s o event.Last may is = let pushed = count-push is_last_point before event.Last in omega (arith, pushed)
  last_next before s o (event.Stop (Some a)) may is =
      let pushed = count-push is_last_point before (event.Stop (Some a)) in omega (arith, pushed, o.last is)
  last_next before s o (event.Stop None) may is =
      let pushed = count-push is_last_point before (event.Stop None) in omega (arith, pushed, o.last is)
  last_next before s o e may is = let pushed = count-push is_last_point before e in omega (arith, pushed, o.last is)

  orderly_next : (before : List Event) (s : State) (e : Event) → IsOrderly script told before s → MayHappen script told s e →
      IsOrderly script told (before ++ e ∷ []) (after_event script told s e)
  orderly_next before s e o may =
      let sound = o.counted.shown.sound in
      record {
        counted = counted_next script well told before s e o.counted may;
        making = making_after script well told s sound o.making e may;
        lanes = lanes_after script well told s sound o.lanes e may;
        kinds = λ n.
            kind_stays script n e (act_at s.context n) (act_at (after_event script told s e).context n)
            (moves_after script well told s sound e may n) (o.kinds n);
        dated = dated_after script well told before s o.counted o.making o.dated e may;
        late = late_after script well told s sound o.late e may;
        standing = standing_after script well told s sound o.standing e may;
        guards = guards_after script well told s sound e may o.guards;
        emptying = emptying_next script told s e may o.emptying;
        last = last_next before s o e may;
        rounds =
            let after = closings_after script well told s sound e may o.rounds.1 in
            let pushed = count-push is_round_end before e in
            let then = o.rounds.0 in
            (omega (arith, pushed, after.0, then), after.1);
      }

  first_fits : (n : ℕ) → FitsKind script n fresh
  first_fits n = record { inline = λ is. tt; control = λ is called. absurd (called refl) }

  first_orderly : IsOrderly script told [] (first_state script told)
  first_orderly = record {
    counted = counted_so_far script well told [] tt;
    making = first_making script told;
    lanes = first_lanes script told;
    kinds = λ n. subst (FitsKind script n) (sym (first_act script told n)) (first_fits n);
    dated = first_dated script told;
    late = λ is. absurd (cc);
    standing = first_standing script told;
    guards = first_guards script told;
    emptying = first_empties told;
    last = λ is. absurd (cc);
    rounds = (refl, omega arith);
  }
    where
      first_empties : (told : Bool) → told ≡ true → IsEmptying (first_state script told).reactor
      first_empties true same = first_emptying script
      first_empties false same = absurd (cc)

  -- each state of a legal history is so
  pub orderly_so_far : (events : List Event) → IsLegalSoFar script told events →
      IsOrderly script told events (state_of script told events)
  orderly_so_far events legal =
      along script told (IsOrderly script told) orderly_next [] (first_state script told) first_orderly events legal
