use Rattle.std.proofs.Common.{arith}
use Rattle.std.proofs.lemmas.List.{length-map}
use Rattle.stream_rules.specs.Pipes.{pipe_stream}
use Rattle.stream_rules.specs.Stream.{Stream}
use Rattle.history_book.specs.Asking.{queues_of}
use Rattle.history_rules.specs.Settling.{served_stream}
use Rattle.history_book.proofs.PlayedLemmas.{played-changed}
use Rattle.history_book.proofs.played.PlayedWorld.serve.Goals as goal

pub returns-clause-stream : goal.returns-clause-stream
returns-clause-stream c =
    let s = c.self.inside in
    let there = rw (← c.self.view_is) at c.requires.there in
    let serve = λ (stream : Stream).
    (served_stream stream (queues_of c.args.asking.now.script.now c.args.queues.now)).stream in
    rw (← c.self.view_is) (played-changed serve s.told s.schedule s.pipes.items c.args.stream
    c.index_mut-pipe.result.now c.serve_stream.new.pipe (omega (arith, length-map s.pipes.items pipe_stream))
    c.index_mut-pipe.ensures.value c.serve_stream.ensures.stream)
