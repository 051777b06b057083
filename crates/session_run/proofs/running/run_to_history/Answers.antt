use Rattle.std.proofs.Common.{◌∙◌, ◌+◌, ap, arith, false, length, subst}
use Rattle.std.specs.Option.{option_flatten}
use Rattle.std.specs.Prelude.{slice_get}
use Rattle.history_rules.specs.Legal.{state_of}
use Rattle.execution_laws.specs.LetGo.{let_go_marks}
use Rattle.proactor_core.specs.Proactor.{CountsRefusal, tells}
use Rattle.session_run.specs.RackMarks.{drop_mark}
use Rattle.session_run.proofs.LetGoLemmas.{all_told, marks_left}
use Rattle.session_run.proofs.RackLemmas.{all_taken, all_taken_kept, all_taken_told}
use Rattle.session_run.proofs.RunLemmas.{run_of}
use Rattle.session_run.proofs.SetupLemmas.{broken_run}
use Rattle.session_run.proofs.running.run_to_history.Goals as goal

pub returns-in-Err-Failed-default-clause-ran : goal.returns-in-Err-Failed-default-clause-ran
returns-in-Err-Failed-default-clause-ran g c =
    let back = c.in-Err-Failed-default in
    let spent = c.discard_rest in
    rw c.in-Ok.ensures
    (broken_run g.H.CompletionHandler.marks c.args.script.now _ c.args.rack.now spent.new.self
    c.scripts_are_well_formed.ensures
    (all_taken_kept c.args.rack.now c.run_script.new.rack spent.new.self back.ensures.kept spent.ensures.taken)
    (spent.ensures.let_go
    ∙ marks_left g.H.CompletionHandler.marks (λ n. false) c.args.rack.now c.run_script.new.rack
    (ap length back.ensures.kept) (λ n. ap (λ hs. option_flatten (slice_get hs n)) back.ensures.kept))
    (back.ensures.refused.refused back.field-0-0-is)
    (subst (λ fault. CountsRefusal fault (g.X.Reactor.faults c.args.reactor) (g.X.Reactor.faults back.reactor))
    back.field-0-0-is back.ensures.refused.counts))

pub returns-in-Ok-run_script-clause-ran : goal.returns-in-Ok-run_script-clause-ran
returns-in-Ok-run_script-clause-ran g c =
    let ran = c.in-Ok-run_script in
    run_of g.H.CompletionHandler.marks c.args.script.now (tells (g.X.Reactor.told c.args.reactor)) (g.X.Reactor.faults c.args.reactor)
    (g.X.Reactor.faults ran.ran.1) ran.ran.0.events (g.X.Reactor.state ran.ran.1)
    (g.X.Reactor.told c.args.reactor) (g.X.Reactor.told ran.ran.1) c.args.rack.now c.note.new.self
    (all_taken_told c.args.rack.now c.discard_rest-rest.new.self c.note.new.self c.note.ensures.handlers
    (all_taken c.args.rack.now c.run_script.new.rack c.discard_rest-rest.new.self ran.ensures.taken.count
    c.discard_rest-rest.ensures.taken))
    (c.note.ensures.let_go
    ∙ (ap (λ n. n + c.discard_rest-rest.result) (c.let_go-uninitiated.ensures ∙ ran.ensures.let_go)
    ∙ (ap (λ n. let_go_marks c.args.script.now (tells (g.X.Reactor.told c.args.reactor))
    (drop_mark g.H.CompletionHandler.marks c.args.rack.now) ran.ran.0.events + n) c.discard_rest-rest.ensures.marks
    ∙ all_told g.H.CompletionHandler.marks c.args.script.now
    (state_of c.args.script.now (tells (g.X.Reactor.told c.args.reactor)) ran.ran.0.events) c.args.rack.now c.run_script.new.rack
    ran.ensures.taken.count (omega (arith, c.acts.ensures.count, c.acts.ensures.limit, c.requires.count)) ran.ensures.taken.left)))
    c.holds_events.ensures c.scripts_are_well_formed.ensures ran.ensures.ended
