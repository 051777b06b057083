use Rattle.stream_rules.specs.Stream.{closed_stream}
use Rattle.history_book.proofs.PlayedLemmas.{played-changed}
use Rattle.history_book.proofs.played.PlayedWorld.close.Goals as goal

pub returns : goal.returns
returns c =
    let s = c.self.inside in
    let at = c.in-Some.ensures.item in
    rw (← c.self.view_is) (played-changed (closed_stream) s.told s.schedule s.pipes.items c.args.stream
    c.in-Some.pipe.now c.close.new.self at.3.0 c.in-Some.ensures.value c.close.ensures.stream)
