use Rattle.std.proofs.Common.{sym, ap, subst, ◌∙◌}
use Rattle.history_rules.specs.Time.{next_time}
use Rattle.proactor_core.specs.Proactor.{Follows, after_point, tells}
use Rattle.book_context.specs.Recorded.{recorded_half}
use Rattle.reactor_turns.proofs.TurnedLemmas.{next_moved, now-point}
use Rattle.book_context.proofs.ReactorTurnLemmas.{begun_turn, lost_keeps, now_turned, whole_keeps, whole_turned}
use Rattle.book_context.proofs.book.reactor_turn.tick.Goals as goal

pub tick-requires-clause-sound : goal.tick-requires-clause-sound
tick-requires-clause-sound g c =
    (now_turned g.X.Reactor.state g.X.Reactor.told g.X.Reactor.faults g.N.Session.told g.N.Session.faults
    c.args.recording.now c.args.proactor.now c.requires.reactor c.requires.waiting.turn.going).telling.sound

pub tick-requires-clause-nothing_due : goal.tick-requires-clause-nothing_due
tick-requires-clause-nothing_due g c =
    (now_turned g.X.Reactor.state g.X.Reactor.told g.X.Reactor.faults g.N.Session.told g.N.Session.faults
    c.args.recording.now c.args.proactor.now c.requires.reactor c.requires.waiting.turn.going).told_all

pub begin_tick-requires-clause-history : goal.begin_tick-requires-clause-history
begin_tick-requires-clause-history g c =
    c.requires.history

pub begin_tick-requires-clause-waiting : goal.begin_tick-requires-clause-waiting
begin_tick-requires-clause-waiting g c =
    c.requires.waiting

pub begin_tick-requires-clause-next : goal.begin_tick-requires-clause-next
begin_tick-requires-clause-next g c =
    ap (λ s. next_time s (recorded_half g.N.Session.told c.args.recording.now)) (sym c.requires.reactor.script)
    ∙ c.in-Ok.ensures.next (recorded_half g.N.Session.told c.args.recording.now)
    (now_turned g.X.Reactor.state g.X.Reactor.told g.X.Reactor.faults g.N.Session.told g.N.Session.faults
    c.args.recording.now c.args.proactor.now c.requires.reactor c.requires.waiting.turn.going).telling.follows

pub tell_all-requires-clause-history : goal.tell_all-requires-clause-history
tell_all-requires-clause-history g c =
    c.begin_tick.ensures.history

pub tell_all-requires-clause-turn : goal.tell_all-requires-clause-turn
tell_all-requires-clause-turn g c =
    begun_turn g.X.Reactor.state g.X.Reactor.told g.X.Reactor.faults g.N.Session.told g.N.Session.faults
    c.args.recording.now c.args.proactor.now c.requires.reactor c.requires.waiting.turn.going c.begin_tick.new.recording
    (after_point c.args.recording.now.script g.N.Session.told c.in-Ok.point
    (recorded_half g.N.Session.told c.args.recording.now)) c.begin_tick.ensures.begun c.tick.new.self
    c.tick.ensures.script c.tick.ensures.tells c.tick.ensures.up
    (now-point c.args.recording.now.script g.N.Session.told c.in-Ok.point (g.X.Reactor.state c.args.proactor.now.reactor)
    (g.X.Reactor.state c.tick.new.self.reactor) (recorded_half g.N.Session.told c.args.recording.now)
    c.in-Ok.ensures.state c.requires.reactor.in_step.now)
    c.in-Ok.ensures.sound
    (subst
    (λ b.
    Follows g.X.Reactor.told c.tick.new.self
    (after_point c.args.recording.now.script b c.in-Ok.point (recorded_half g.N.Session.told c.args.recording.now)))
    c.requires.reactor.in_step.tells (subst
    (λ s.
    Follows g.X.Reactor.told c.tick.new.self (after_point s
    (tells (g.X.Reactor.told c.args.proactor.now.reactor)) c.in-Ok.point
    (recorded_half g.N.Session.told c.args.recording.now))) c.requires.reactor.script
    (c.in-Ok.ensures.follows (recorded_half g.N.Session.told c.args.recording.now)
    (now_turned g.X.Reactor.state g.X.Reactor.told g.X.Reactor.faults g.N.Session.told g.N.Session.faults
    c.args.recording.now c.args.proactor.now c.requires.reactor c.requires.waiting.turn.going).telling.follows)))

pub returns-in-Ok-clause-history : goal.returns-in-Ok-clause-history
returns-in-Ok-clause-history g c =
    c.tell_all.ensures.history

pub returns-in-Ok-clause-reactor : goal.returns-in-Ok-clause-reactor
returns-in-Ok-clause-reactor g c =
    whole_keeps g.X.Reactor.state g.X.Reactor.told g.X.Reactor.faults g.N.Session.told g.N.Session.faults
    c.args.recording.now c.args.proactor.now c.requires.reactor c.requires.waiting.turn.going c.begin_tick.new.recording
    (after_point c.args.recording.now.script g.N.Session.told c.in-Ok.point
    (recorded_half g.N.Session.told c.args.recording.now)) c.begin_tick.ensures.begun c.tell_all.new.recording
    c.tell_all.ensures.told c.tell_all.new.proactor c.tell_all.ensures.turn c.tell_all.ensures.whole
    (ap g.X.Reactor.faults c.tell_all.ensures.reactor ∙ c.in-Ok.ensures.counted)

pub returns-in-Ok-clause-script : goal.returns-in-Ok-clause-script
returns-in-Ok-clause-script g c =
    c.tell_all.ensures.told.script ∙ c.begin_tick.ensures.begun.script

pub returns-in-Ok-clause-spent : goal.returns-in-Ok-clause-spent
returns-in-Ok-clause-spent g c n = c.tell_all.ensures.told.spent n ∙ c.begin_tick.ensures.begun.spent n

pub returns-in-Ok-clause-turned : goal.returns-in-Ok-clause-turned
returns-in-Ok-clause-turned g c = (
  whole_turned g.X.Reactor.state g.X.Reactor.told g.X.Reactor.faults g.N.Session.told g.N.Session.faults
      c.args.recording.now c.args.proactor.now c.requires.reactor c.requires.waiting.turn.going c.begin_tick.new.recording
      (after_point c.args.recording.now.script g.N.Session.told c.in-Ok.point
      (recorded_half g.N.Session.told c.args.recording.now)) c.begin_tick.ensures.begun c.tell_all.new.recording
      c.tell_all.ensures.told c.tell_all.new.proactor c.tell_all.ensures.turn c.tell_all.ensures.whole
      (ap g.X.Reactor.faults c.tell_all.ensures.reactor ∙ c.in-Ok.ensures.counted),
  (ap g.X.Reactor.faults c.tell_all.ensures.reactor ∙ c.in-Ok.ensures.counted),
)

pub break_off-requires-clause-history : goal.break_off-requires-clause-history
break_off-requires-clause-history g c = c.requires.history

pub break_off-requires-clause-waiting : goal.break_off-requires-clause-waiting
break_off-requires-clause-waiting g c = c.requires.waiting

pub break_off-requires-clause-next : goal.break_off-requires-clause-next
break_off-requires-clause-next g c =
    next_moved g.X.Reactor.told c.args.recording.now.script c.args.proactor.now
    (recorded_half g.N.Session.told c.args.recording.now) c.in-Err.fault.moved c.requires.reactor.script
    (now_turned g.X.Reactor.state g.X.Reactor.told g.X.Reactor.faults g.N.Session.told g.N.Session.faults
    c.args.recording.now c.args.proactor.now c.requires.reactor c.requires.waiting.turn.going).telling.follows
    c.in-Err.ensures.to_next

pub returns-in-Err-clause-history : goal.returns-in-Err-clause-history
returns-in-Err-clause-history g c = c.break_off.ensures.history

pub returns-in-Err-clause-reactor : goal.returns-in-Err-clause-reactor
returns-in-Err-clause-reactor g c =
    lost_keeps g.X.Reactor.state g.X.Reactor.told g.X.Reactor.faults g.N.Session.told g.N.Session.faults
    c.args.recording.now c.args.proactor.now c.requires.reactor c.break_off.new.recording c.in-Err.fault.moved
    c.break_off.ensures.broken c.tick.new.self c.tick.ensures.script c.tick.ensures.tells c.tick.ensures.up
    c.in-Err.ensures.moved c.in-Err.ensures.failed c.tick.ensures.later c.in-Err.ensures.rose

pub returns-in-Err-clause-script : goal.returns-in-Err-clause-script
returns-in-Err-clause-script g c = c.break_off.ensures.broken.script

pub returns-in-Err-clause-spent : goal.returns-in-Err-clause-spent
returns-in-Err-clause-spent g c n = c.break_off.ensures.broken.spent n

pub returns-in-Err-clause-turned : goal.returns-in-Err-clause-turned
returns-in-Err-clause-turned g c = (c.break_off.ensures.broken.broke, c.in-Err.ensures.rose)
