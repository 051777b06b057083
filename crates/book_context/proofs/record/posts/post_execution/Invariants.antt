use Rattle.std.specs.Prelude.{vec_capacity}
use Rattle.book_context.proofs.record.posts.post_execution.Given as goal

abbrev pub ghosts-post_from : goal.ghosts-post_from
ghosts-post_from g a = record { script = a.script.now; position = a.position; room = vec_capacity a.calls }
