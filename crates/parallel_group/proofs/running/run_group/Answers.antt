use Rattle.std.proofs.Common.{◌≡◌, ℕ, Bool, Option, sym, subst}
use Rattle.asio_types.specs.declared.outside.SetupFault.{SetupFault}
use Rattle.asio_types.specs.declared.outside.SetupFault.TheVariants as setup_fault
use Rattle.reactor_trait.specs.Reactor.{Outside, ReactorState}
use Rattle.session_script.specs.Script.{ScriptModel}
use Rattle.history_rules.specs.Legal.{state_of}
use Rattle.execution_laws.specs.LetGo.{is_initiated}
use Rattle.execution_laws.specs.Setup.{IsRefused}
use Rattle.proactor_core.specs.Proactor.{tells}
use Rattle.group_script.specs.declared.member.GroupFault.{GroupFault}
use Rattle.group_script.specs.Group.{Group, group_of}
use Rattle.group_script.specs.Limits.{IsGroup}
use Rattle.session_run.specs.RackMarks.{drop_marks_but}
use Rattle.parallel_group.specs.Refusing.{RefusesGroup, fault_of}
use Rattle.parallel_group.proofs.running.run_group.Goals as goal

pub returns-in-Ok-run_script-clause-ended : goal.returns-in-Ok-run_script-clause-ended
returns-in-Ok-run_script-clause-ended g c =
    rw (← c.in-Ok.ensures.script) c.in-Ok-run_script.ensures.ended

pub returns-in-Ok-run_script-clause-let_go : goal.returns-in-Ok-run_script-clause-let_go
returns-in-Ok-run_script-clause-let_go g c =
    let told = tells (g.X.Reactor.told c.args.reactor) in
    let report = c.in-Ok-run_script.report in
    subst (λ (script : ScriptModel). report.let_go
    ≡ drop_marks_but g.H.CompletionHandler.marks (is_initiated script (state_of script told report.history.events))
    c.args.rack) c.in-Ok.ensures.script c.in-Ok-run_script.ensures.let_go

refused_by : (g : Group) → IsGroup g → (told : Bool) (before after : ℕ) (state : ReactorState) (outside : Option Outside)
    (fault : SetupFault) → IsRefused told before after state outside fault →
    RefusesGroup g told before after state outside (fault_of fault)
refused_by g is told before after state outside setup_fault.Failed refused = (is, refused)
refused_by g is told before after state outside setup_fault.NoMemory refused = refused

pub returns-clause-refused : goal.returns-clause-refused
returns-clause-refused g c =
    let all : Group = group_of c.args.world.now c.args.members.now c.args.rule c.args.types c.args.workers in
    let told = tells (g.X.Reactor.told c.args.reactor) in
    let back = c.in-Err-run_script.reactor in
    subst (λ (f : GroupFault). RefusesGroup all told (g.X.Reactor.faults c.args.reactor) (g.X.Reactor.faults back)
    (g.X.Reactor.state back) (g.X.Reactor.told back) f) (sym c.fault_of.ensures)
    (refused_by all c.in-Ok.ensures.within told (g.X.Reactor.faults c.args.reactor) (g.X.Reactor.faults back)
    (g.X.Reactor.state back) (g.X.Reactor.told back) c.in-Err-run_script.fault c.in-Err-run_script.ensures.refused)
