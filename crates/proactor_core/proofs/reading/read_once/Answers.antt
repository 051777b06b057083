use Rattle.std.proofs.Common.{ap, sym, ◌∙◌}
use Rattle.composed_ops.specs.Machine.{progress_of}
use Rattle.proactor_core.specs.Held.{HeldBytes}
use Rattle.proactor_core.specs.Round.{round_of}
use Rattle.proactor_core.proofs.GivingLemmas.{finish-allowed}
use Rattle.proactor_core.proofs.ReadingLemmas.{finish-follows, held-follows}
use Rattle.proactor_core.proofs.reading.read_once.Goals as goal

pub returns-in-Held-clause-follows : goal.returns-in-Held-clause-follows
returns-in-Held-clause-follows g c =
    let may = c.requires.may_read in
    let progress = progress_of c.args.machine.now in
    let wants = rw c.as_slice.ensures.value at c.in-Held.ensures.wanted in
    let keeps = ap (λ (h : HeldBytes). h.bytes) c.consume.ensures in
    let turns = c.round_of.ensures ∙ ap round_of c.got.ensures.step in
    held-follows (g.X.Reactor.told c.args.reactor.now) c.args.stream progress (progress_of c.got.new.self)
    c.args.held.now.bytes c.consume.new.self.bytes c.in-Held.count c.round_of.result may.under_way may.searched
    (sym wants) c.requires.gathered keeps c.got.ensures.progress turns

pub returns-in-Finish-clause-allowed : goal.returns-in-Finish-clause-allowed
returns-in-Finish-clause-allowed g c =
    let progress = progress_of c.args.machine.now in
    let wants = rw c.as_slice.ensures.value at c.in-Finish.ensures.wanted in
    finish-allowed progress.asks progress.moved c.in-Finish.size c.args.held.now.bytes c.in-Finish.code (sym wants)

pub returns-in-Finish-clause-follows : goal.returns-in-Finish-clause-follows
returns-in-Finish-clause-follows g c =
    let may = c.requires.may_read in
    let progress = progress_of c.args.machine.now in
    let wants = rw c.as_slice.ensures.value at c.in-Finish.ensures.wanted in
    let keeps = ap (λ (h : HeldBytes). h.bytes) c.consume-in-Finish.ensures in
    finish-follows (g.X.Reactor.told c.args.reactor.now) c.args.stream progress c.args.held.now.bytes
    c.consume-in-Finish.new.self.bytes c.in-Finish.code c.in-Finish.size may.under_way may.searched (sym wants) keeps
