use Rattle.std.proofs.Common.{ap, subst, sym, ◌∙◌}
use Rattle.std.specs.Prelude.{◌≡◌, ◌∷◌, None, Some, true}
use Rattle.io_rules.specs.declared.control.Control.TheVariants as control
use Rattle.io_rules.specs.declared.event.Event.TheVariants as event
use Rattle.io_rules.specs.Cancelling.{is_out_for}
use Rattle.io_rules.specs.Legal.{state_of}
use Rattle.io_rules.specs.Names.{Names, is_alive}
use Rattle.io_rules.specs.Serving.{first_of}
use Rattle.io_rules.specs.State.{stream_at}
use Rattle.io_names.specs.Tables.{names_of}
use Rattle.io_scheduler.specs.Opened.{socket_kind}
use Rattle.io_scheduler.specs.Closing.{frees}
use Rattle.io_scheduler.specs.Come.{LeadTo}
use Rattle.io_scheduler.proofs.ClosedByLemmas.{frees_there, there_alive, there_kind}
use Rattle.io_scheduler.proofs.GoneLemmas.{alive_used, closed_come, first_closing, socket_within}
use Rattle.io_scheduler.proofs.scheduler.Scheduler.close_alive_by.Goals as goal

pub mark_tried-requires : goal.mark_tried-requires
mark_tried-requires g c =
    let s = state_of g.C.Named.limits c.self.inside.keeper.past in
    record {
      within =
          socket_within g.H.Handler.marks g.C.Named.limits c.self.inside.streams s c.args.name c.self.invariant.4
          (there_alive s c.args.name c.args.listener (rw (← c.self.view_is) at c.requires.there));
      busy = λ side.
          subst (λ xs. is_out_for side (stream_at xs c.args.name).out ≡ true → first_of side (stream_at xs c.args.name) ≡ None → ⊥)
          (sym c.self.invariant.4.streams_are) (c.self.invariant.4.busy c.args.name side);
    }

pub begin_close-left-requires : goal.begin_close-left-requires
begin_close-left-requires g c = record {
  table = c.requires.table;
  none = rw c.learn.ensures.same c.self.invariant.0;
  going = rw c.learn.ensures.same c.self.invariant.1.going;
}

pub close_freed-requires : goal.close_freed-requires
close_freed-requires g c =
    let s = state_of g.C.Named.limits c.self.inside.keeper.past in
    let there = rw (← c.self.view_is) at c.requires.there in
    let alive = there_alive s c.args.name c.args.listener there in
    let is = c.begin_close-left.ensures.come.is
    ∙ ap (λ k. event.Changed (Some c.args.running.op) (control.Free (socket_kind c.args.listener) c.args.name) ∷ k.past)
    c.learn.ensures.same in
    record {
      table = c.requires.table;
      none = c.begin_close-left.ensures.none;
      closing = rw is (first_closing g.H.Handler.marks g.C.Named.limits c.self.inside.keeper.past c.self.inside.counts
          (names_of c.self.inside.names) c.self.inside.strands.items c.self.inside.jobs c.self.inside.timers
          c.self.inside.streams c.self.inside.tally c.args.name (Some c.args.running.op) c.args.listener
          (rw c.learn.ensures.same at c.learn.ensures.legal) alive
          c.self.invariant.1 c.self.invariant.2 c.self.invariant.3 c.self.invariant.4 c.holds.ensures
          (there_kind s c.args.name c.args.listener there)
          _ c.mark_tried.ensures).0;
      used =
          alive_used (names_of c.self.inside.names).streams c.args.name
          (subst (λ (ns : Names). is_alive ns.streams c.args.name ≡ true) (sym c.self.invariant.1.names_are) alive);
    }

pub invariant_of-self : goal.invariant_of-self
invariant_of-self g c = (
  c.close_freed.ensures.none,
  c.close_freed.ensures.shows,
  c.close_freed.ensures.tally,
  c.close_freed.ensures.waits,
  c.close_freed.ensures.streams,
)

pub returns-clause-changed : goal.returns-clause-changed
returns-clause-changed g c =
    let s = state_of g.C.Named.limits c.self.inside.keeper.past in
    let there = rw (← c.self.view_is) at c.requires.there in
    let alive = there_alive s c.args.name c.args.listener there in
    let come = closed_come g.H.Handler.marks g.C.Named.limits c.self.inside.keeper.past c.self.inside.counts
    (names_of c.self.inside.names) c.self.inside.strands.items c.self.inside.jobs c.self.inside.timers
    c.self.inside.streams c.self.inside.tally c.args.name (Some c.args.running.op) c.args.listener
    (rw c.learn.ensures.same at c.learn.ensures.legal) alive
    c.self.invariant.1 c.self.invariant.2 c.self.invariant.3 c.self.invariant.4 c.holds.ensures
    (there_kind s c.args.name c.args.listener there)
    _ c.mark_tried.ensures _ _ (rw c.learn.ensures.same at c.begin_close-left.ensures.come) c.close_freed.ensures.aborted in
    subst
    (λ v. LeadTo (frees (Some c.args.running.op) (socket_kind c.args.listener) c.args.name v) v (state_of g.C.Named.limits c.close_freed.new.keeper.past))
    c.self.view_is
    (frees_there g.C.Named.limits c.args.running.op c.args.name c.args.listener c.self.inside.keeper.past _ there come)
