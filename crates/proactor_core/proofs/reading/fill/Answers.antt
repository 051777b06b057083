use Rattle.std.proofs.Common.{◌-◌, ◌≤◌, ap, take, rules, arith, ◌∙◌}
use Rattle.stream_rules.specs.Moving.{moved_count}
use Rattle.proactor_core.specs.Held.{HeldBytes}
use Rattle.proactor_core.specs.Reactor.{ChangesOne}
use Rattle.proactor_core.proofs.ReadingLemmas.{changes-on, dry-left, filling-keeps, stop-filled, stop-keeps, there-still}
use Rattle.proactor_core.proofs.reading.fill.Goals as goal

pub loop-held-preserved : goal.loop-held-preserved
loop-held-preserved g c =
    let before = c.loop-held.invariant in
    let first = g.X.Reactor.told c.args.reactor.now in
    let told = g.X.Reactor.told c.loop-held.reactor in
    let left = g.X.Reactor.told c.read_piece.new.reactor in
    let read = c.in_ok-count.ensures in
    let number = c.args.stream in
    let count = moved_count c.in_ok-count.field-0 in
    let piece = take count c.read_piece.new.buffer in
    let changed : ChangesOne number told left = search rules in
    let keeps = ap (λ (h : HeldBytes). h.bytes) c.append.ensures in
    record {
      keeps = read.keeps ∙ before.keeps;
      faults = read.counts ∙ before.faults;
      telling = read.tells ∙ before.telling;
      room = ap (λ (h : HeldBytes). h.room) c.append.ensures ∙ before.room;
      there = there-still told left number changed before.there;
      told = changes-on first told left number before.told changed;
      same =
          filling-keeps first told left number count c.args.held.now.bytes c.loop-held.held.bytes
          c.append.new.self.bytes piece before.there read.told_bytes read.told_gives (rw c.in-Took.is keeps)
          before.told before.same;
    }

pub returns-in_default : goal.returns-in_default
returns-in_default g c =
    let before = c.loop-held.invariant in
    let first = g.X.Reactor.told c.args.reactor.now in
    let told = g.X.Reactor.told c.loop-held.reactor in
    let left = g.X.Reactor.told c.read_piece.new.reactor in
    let read = c.in_ok-count.ensures in
    let number = c.args.stream in
    let most = c.args.size - c.len-in-loop-held.result in
    let some : 1 ≤ most = omega arith in
    let changed : ChangesOne number told left = search rules in
    let dry =
    dry-left told left number most c.in_ok-count.field-0 some before.there c.in_default.not-Took read.told_answer
    read.told_gives in
    record {
      keeps = read.keeps ∙ before.keeps;
      counts = read.counts ∙ before.faults;
      later = (let same = read.counts ∙ before.faults in omega arith);
      tells = read.tells ∙ before.telling;
      room = before.room;
      told = changes-on first told left number before.told changed;
      same = stop-keeps first told left number c.args.held.now.bytes c.loop-held.held.bytes dry before.told before.same;
      filled = stop-filled first told left number c.args.size c.loop-held.held.bytes dry before.told;
    }
