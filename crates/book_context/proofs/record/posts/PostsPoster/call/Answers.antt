use Rattle.std.proofs.Common.{subst, sym}
use Rattle.book_context.specs.Posts.{PostsView, TakesPosts}
use Rattle.book_context.proofs.PostsLemmas.{rest_taken}
use Rattle.book_context.proofs.record.posts.PostsPoster.call.Goals as goal

pub returns-clause-rest : goal.returns-clause-rest
returns-clause-rest g c rest taken =
    subst (λ (v : PostsView). TakesPosts v rest) (sym c.keep.ensures) (rest_taken _ _ rest taken)
