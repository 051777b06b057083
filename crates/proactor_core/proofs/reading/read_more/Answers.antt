use Rattle.std.proofs.Common.{◌-◌, ap, take, ◌∙◌}
use Rattle.stream_rules.specs.Moving.{moved_count}
use Rattle.composed_ops.specs.StreamOperation.{most_moved}
use Rattle.composed_ops.specs.Machine.{progress_of}
use Rattle.proactor_core.specs.Round.{round_of}
use Rattle.proactor_core.proofs.GivingLemmas.{fits-within, gives-allowed}
use Rattle.proactor_core.proofs.ReadingLemmas.{read-follows, wait-follows}
use Rattle.proactor_core.proofs.reading.read_more.Goals as goal

pub returns-in-NotYet-clause-follows : goal.returns-in-NotYet-clause-follows
returns-in-NotYet-clause-follows g c =
    let may = c.requires.may_read in
    let told = g.X.Reactor.told c.args.reactor.now in
    let left = g.X.Reactor.told c.read_piece.new.reactor in
    let read = c.in_ok-moved.ensures in
    wait-follows told left c.args.stream (progress_of c.args.machine.now) c.args.held.now.bytes c.args.most
    c.in_ok-moved.moved may.under_way may.searched c.requires.wants c.requires.servable.there read.told_answer
    c.in-NotYet.is read.told_gives

pub returns-clause-allowed : goal.returns-clause-allowed
returns-clause-allowed g c =
    let progress = progress_of c.args.machine.now in
    let turns = c.round_of.ensures ∙ ap round_of c.got.ensures.step in
    rw turns (gives-allowed progress c.in_ok-moved.moved c.requires.may_read.under_way (fits-within
    (most_moved progress.asks - progress.moved) c.args.most c.in_ok-moved.moved c.requires.within.1
    c.in_ok-moved.ensures.within))

pub returns-clause-follows : goal.returns-clause-follows
returns-clause-follows g c =
    let may = c.requires.may_read in
    let told = g.X.Reactor.told c.args.reactor.now in
    let left = g.X.Reactor.told c.read_piece.new.reactor in
    let read = c.in_ok-moved.ensures in
    let turns = c.round_of.ensures ∙ ap round_of c.got.ensures.step in
    read-follows told left c.args.stream (progress_of c.args.machine.now) (progress_of c.got.new.self)
    c.args.held.now.bytes c.keep_piece.new.held.bytes (take (moved_count c.in_ok-moved.moved) c.read_piece.new.buffer)
    c.args.most c.in_ok-moved.moved c.round_of.result may.under_way may.searched c.requires.wants
    c.requires.servable.there read.told_answer read.told_gives read.told_bytes c.keep_piece.ensures.held
    c.got.ensures.progress turns
