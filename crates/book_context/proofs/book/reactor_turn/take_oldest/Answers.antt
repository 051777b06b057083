use Rattle.std.proofs.Common.{inl, refl, sym, ap, subst, ◌∙◌}
use Rattle.history_rules.specs.Requests.{reactor_after_take}
use Rattle.proactor_core.specs.Proactor.{Follows, tells}
use Rattle.book_context.specs.Recorded.{recorded_half}
use Rattle.book_context.specs.Oldest.{with_request}
use Rattle.book_context.proofs.BookHistoryLemmas.{some_behind}
use Rattle.reactor_turns.proofs.TurnedLemmas.{now-take}
use Rattle.book_context.proofs.ReactorTurnLemmas.{begun_turn, broken_faulted, broken_keeps, can_turn, may_take, now_turned, whole_keeps, whole_turned}
use Rattle.book_context.proofs.book.reactor_turn.take_oldest.Goals as goal

pub take-requires-clause-sound : goal.take-requires-clause-sound
take-requires-clause-sound g c =
    (now_turned g.X.Reactor.state g.X.Reactor.told g.X.Reactor.faults g.N.Session.told g.N.Session.faults
    c.args.recording.now c.args.proactor.now c.requires.reactor c.requires.going).telling.sound

pub take-requires-clause-nothing_due : goal.take-requires-clause-nothing_due
take-requires-clause-nothing_due g c =
    (now_turned g.X.Reactor.state g.X.Reactor.told g.X.Reactor.faults g.N.Session.told g.N.Session.faults
    c.args.recording.now c.args.proactor.now c.requires.reactor c.requires.going).told_all

pub take-requires-clause-untaken : goal.take-requires-clause-untaken
take-requires-clause-untaken g c =
    may_take g.X.Reactor.state g.X.Reactor.told g.X.Reactor.faults g.N.Session.told g.N.Session.faults c.args.recording.now
    c.args.proactor.now c.requires.reactor c.args.a c.requires.going c.requires.history.recorded
    (c.turns_are_recorded.ensures.takes g.N.Session.told (with_request c.args.a c.args.recording.now) c.args.a
    c.args.recording.now.requests c.requires.history.recorded
    (let can =
    can_turn g.X.Reactor.state g.X.Reactor.told g.X.Reactor.faults g.N.Session.told g.N.Session.faults
    c.args.recording.now c.args.proactor.now c.requires.reactor c.requires.going c.requires.round in
    record {
      round = record { left = can.round.left; restarted = can.round.restarted };
      going = can.going;
      working = can.working;
      nothing_due = can.nothing_due;
      drained = can.drained;
    }) refl)

pub begin_take-requires-clause-history : goal.begin_take-requires-clause-history
begin_take-requires-clause-history g c =
    c.requires.history

pub begin_take-requires-clause-can : goal.begin_take-requires-clause-can
begin_take-requires-clause-can g c =
    can_turn g.X.Reactor.state g.X.Reactor.told g.X.Reactor.faults g.N.Session.told g.N.Session.faults c.args.recording.now
    c.args.proactor.now c.requires.reactor c.requires.going c.requires.round

pub begin_take-requires-in-Err-clause-history : goal.begin_take-requires-in-Err-clause-history
begin_take-requires-in-Err-clause-history g c =
    c.requires.history

pub begin_take-requires-in-Err-clause-can : goal.begin_take-requires-in-Err-clause-can
begin_take-requires-in-Err-clause-can g c =
    can_turn g.X.Reactor.state g.X.Reactor.told g.X.Reactor.faults g.N.Session.told g.N.Session.faults c.args.recording.now
    c.args.proactor.now c.requires.reactor c.requires.going c.requires.round

pub tell_all-requires-clause-history : goal.tell_all-requires-clause-history
tell_all-requires-clause-history g c =
    c.begin_take.ensures.history

pub tell_all-requires-clause-turn : goal.tell_all-requires-clause-turn
tell_all-requires-clause-turn g c =
    begun_turn g.X.Reactor.state g.X.Reactor.told g.X.Reactor.faults g.N.Session.told g.N.Session.faults
    c.args.recording.now c.args.proactor.now c.requires.reactor c.requires.going c.begin_take.new.recording
    (reactor_after_take c.args.recording.now.script g.N.Session.told (recorded_half g.N.Session.told c.args.recording.now)
    c.args.a) c.begin_take.ensures.begun c.take.new.self c.take.ensures.script c.take.ensures.tells
    c.take.ensures.up
    (c.take.ensures.now ∙ c.requires.reactor.in_step.now
    ∙ sym (now-take c.args.recording.now.script g.N.Session.told (recorded_half g.N.Session.told c.args.recording.now)
    c.args.a))
    c.in-Ok.ensures.sound
    (subst
    (λ b.
    Follows g.X.Reactor.told c.take.new.self
    (reactor_after_take c.args.recording.now.script b (recorded_half g.N.Session.told c.args.recording.now) c.args.a))
    c.requires.reactor.in_step.tells (subst
    (λ s.
    Follows g.X.Reactor.told c.take.new.self (reactor_after_take s
    (tells (g.X.Reactor.told c.args.proactor.now.reactor))
    (recorded_half g.N.Session.told c.args.recording.now) c.args.a)) c.requires.reactor.script
    (c.in-Ok.ensures.follows (recorded_half g.N.Session.told c.args.recording.now)
    (now_turned g.X.Reactor.state g.X.Reactor.told g.X.Reactor.faults g.N.Session.told g.N.Session.faults
    c.args.recording.now c.args.proactor.now c.requires.reactor c.requires.going).telling.follows)))

pub fail-requires-clause-history : goal.fail-requires-clause-history
fail-requires-clause-history g c =
    c.begin_take-in-Err.ensures.history

pub fail-requires-clause-round : goal.fail-requires-clause-round
fail-requires-clause-round g c =
    c.begin_take-in-Err.ensures.begun.round

pub fail-requires-clause-works : goal.fail-requires-clause-works
fail-requires-clause-works g c =
    c.begin_take-in-Err.ensures.begun.works

pub fail-requires-clause-untold : goal.fail-requires-clause-untold
fail-requires-clause-untold g c =
    inl c.begin_take-in-Err.ensures.begun.whole

pub fail-requires-clause-some : goal.fail-requires-clause-some
fail-requires-clause-some g c =
    some_behind c.args.recording.now.events c.begin_take-in-Err.ensures.begun.event c.begin_take-in-Err.new.recording.events
    c.begin_take-in-Err.ensures.begun.is

pub returns-in-Ok-clause-history : goal.returns-in-Ok-clause-history
returns-in-Ok-clause-history g c =
    c.tell_all.ensures.history

pub returns-in-Ok-clause-reactor : goal.returns-in-Ok-clause-reactor
returns-in-Ok-clause-reactor g c =
    whole_keeps g.X.Reactor.state g.X.Reactor.told g.X.Reactor.faults g.N.Session.told g.N.Session.faults
    c.args.recording.now c.args.proactor.now c.requires.reactor c.requires.going c.begin_take.new.recording
    (reactor_after_take c.args.recording.now.script g.N.Session.told (recorded_half g.N.Session.told c.args.recording.now)
    c.args.a) c.begin_take.ensures.begun c.tell_all.new.recording c.tell_all.ensures.told c.tell_all.new.proactor
    c.tell_all.ensures.turn c.tell_all.ensures.whole
    (ap g.X.Reactor.faults c.tell_all.ensures.reactor ∙ c.in-Ok.ensures.counted)

pub returns-in-Ok-clause-script : goal.returns-in-Ok-clause-script
returns-in-Ok-clause-script g c =
    c.tell_all.ensures.told.script ∙ c.begin_take.ensures.begun.script

pub returns-in-Ok-clause-spent : goal.returns-in-Ok-clause-spent
returns-in-Ok-clause-spent g c n = c.tell_all.ensures.told.spent n ∙ c.begin_take.ensures.begun.spent n

pub returns-in-Ok-clause-turned : goal.returns-in-Ok-clause-turned
returns-in-Ok-clause-turned g c = (
  whole_turned g.X.Reactor.state g.X.Reactor.told g.X.Reactor.faults g.N.Session.told g.N.Session.faults
      c.args.recording.now c.args.proactor.now c.requires.reactor c.requires.going c.begin_take.new.recording
      (reactor_after_take c.args.recording.now.script g.N.Session.told (recorded_half g.N.Session.told c.args.recording.now)
      c.args.a) c.begin_take.ensures.begun c.tell_all.new.recording c.tell_all.ensures.told c.tell_all.new.proactor
      c.tell_all.ensures.turn c.tell_all.ensures.whole
      (ap g.X.Reactor.faults c.tell_all.ensures.reactor ∙ c.in-Ok.ensures.counted),
  (ap g.X.Reactor.faults c.tell_all.ensures.reactor ∙ c.in-Ok.ensures.counted),
)

pub returns-in-Err-clause-history : goal.returns-in-Err-clause-history
returns-in-Err-clause-history g c =
    c.fail.ensures.history

pub returns-in-Err-clause-reactor : goal.returns-in-Err-clause-reactor
returns-in-Err-clause-reactor g c =
    broken_keeps g.X.Reactor.state g.X.Reactor.told g.X.Reactor.faults g.N.Session.told g.N.Session.faults
    c.args.recording.now c.args.proactor.now c.requires.reactor c.requires.going c.begin_take-in-Err.new.recording
    (reactor_after_take c.args.recording.now.script g.N.Session.told (recorded_half g.N.Session.told c.args.recording.now)
    c.args.a) c.begin_take-in-Err.ensures.begun c.take.new.self c.take.ensures.script c.take.ensures.tells
    c.take.ensures.up
    (c.take.ensures.now ∙ c.requires.reactor.in_step.now
    ∙ sym (now-take c.args.recording.now.script g.N.Session.told (recorded_half g.N.Session.told c.args.recording.now)
    c.args.a)) c.fail.new.recording c.fail.ensures.broken c.in-Err.ensures.failed c.take.ensures.later
    c.in-Err.ensures.rose

pub returns-in-Err-clause-script : goal.returns-in-Err-clause-script
returns-in-Err-clause-script g c =
    c.fail.ensures.broken.script ∙ c.begin_take-in-Err.ensures.begun.script

pub returns-in-Err-clause-spent : goal.returns-in-Err-clause-spent
returns-in-Err-clause-spent g c n = c.fail.ensures.broken.spent n ∙ c.begin_take-in-Err.ensures.begun.spent n

pub returns-in-Err-clause-turned : goal.returns-in-Err-clause-turned
returns-in-Err-clause-turned g c = (
  broken_faulted g.X.Reactor.state g.X.Reactor.told g.X.Reactor.faults g.N.Session.told g.N.Session.faults
      c.args.recording.now c.args.proactor.now c.requires.reactor c.requires.going c.begin_take-in-Err.new.recording
      (reactor_after_take c.args.recording.now.script g.N.Session.told (recorded_half g.N.Session.told c.args.recording.now)
      c.args.a) c.begin_take-in-Err.ensures.begun c.take.new.self c.take.ensures.script c.take.ensures.tells
      c.take.ensures.up
      (c.take.ensures.now ∙ c.requires.reactor.in_step.now
      ∙ sym (now-take c.args.recording.now.script g.N.Session.told (recorded_half g.N.Session.told c.args.recording.now)
      c.args.a)) c.fail.new.recording c.fail.ensures.broken,
  c.in-Err.ensures.rose,
)
