use Rattle.std.proofs.Common.{arith, refl}
use Rattle.std.proofs.lemmas.List.{get_or_read, length-set}
use Rattle.std.specs.List.{slice_set}
use Rattle.io_queues.specs.Linked.{put_between, taken_out}
use Rattle.io_queues.proofs.links.put_before.Goals as goal

pub index_mut-requires-3 : goal.index_mut-requires-3
unfolding taken_out
index_mut-requires-3 c =
    let behind = get_or_read _ c.args.node c.index-behind.result.now c.requires.moves c.index-behind.ensures 0 in
    let ahead =
    get_or_read _ c.args.node c.index-ahead.result.now (omega (arith, c.requires.moves, c.requires.same)) c.index-ahead.ensures 0 in
    let many = length-set c.args.before.now.items c.index-behind.result.now c.index-ahead.result.now in
    let last = get_or_read (slice_set c.args.before.now.items c.index-behind.result.now c.index-ahead.result.now) c.args.other
    c.index-last.result.now (omega (arith, many, c.requires.place, c.requires.same)) c.index-last.ensures 0 in
    let low = c.requires.last in
    rw (last, behind, ahead) (omega (arith, low))

pub returns-clause-next : goal.returns-clause-next
unfolding taken_out put_between
returns-clause-next c =
    let behind = get_or_read _ c.args.node c.index-behind.result.now c.requires.moves c.index-behind.ensures 0 in
    let ahead =
    get_or_read _ c.args.node c.index-ahead.result.now (omega (arith, c.requires.moves, c.requires.same)) c.index-ahead.ensures 0 in
    let many = length-set c.args.before.now.items c.index-behind.result.now c.index-ahead.result.now in
    let last = get_or_read (slice_set c.args.before.now.items c.index-behind.result.now c.index-ahead.result.now) c.args.other
    c.index-last.result.now (omega (arith, many, c.requires.place, c.requires.same)) c.index-last.ensures 0 in
    rw (last, behind, ahead) refl

pub returns-clause-before : goal.returns-clause-before
unfolding taken_out put_between
returns-clause-before c =
    let behind = get_or_read _ c.args.node c.index-behind.result.now c.requires.moves c.index-behind.ensures 0 in
    let ahead =
    get_or_read _ c.args.node c.index-ahead.result.now (omega (arith, c.requires.moves, c.requires.same)) c.index-ahead.ensures 0 in
    let many = length-set c.args.before.now.items c.index-behind.result.now c.index-ahead.result.now in
    let last = get_or_read (slice_set c.args.before.now.items c.index-behind.result.now c.index-ahead.result.now) c.args.other
    c.index-last.result.now (omega (arith, many, c.requires.place, c.requires.same)) c.index-last.ensures 0 in
    rw (last, behind, ahead) refl
