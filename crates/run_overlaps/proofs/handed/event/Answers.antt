use Rattle.run_overlaps.proofs.HandedLemmas.{event_of}
use Rattle.run_overlaps.proofs.handed.event.Goals as goal

pub returns : goal.returns
returns c = λ past watch.
    event_of c.args.line.now past c.in_ok-note.note c.strand_at-strand.result c.args.watch.now c.note.new.watch
    (λ op one w begun is. c.strand_at-strand.ensures.turn past op one w begun is)
    (λ op one w plain frame is. c.strand_at-strand.ensures.own past op one w plain frame is) (λ w. c.in_ok-note.ensures past w) watch
