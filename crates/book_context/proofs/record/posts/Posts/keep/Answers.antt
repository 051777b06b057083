use Rattle.std.proofs.Common.{◌≡◌, [], ◌∷◌, length, subst, sym, arith, vec_capacity}
use Rattle.strand_core.specs.Execution.{events_of}
use Rattle.book_context.specs.Posts.{PostsView}
use Rattle.book_context.specs.Recording.{IsPlaced}
use Rattle.book_context.proofs.PostsLemmas.{posted_on}
use Rattle.book_context.proofs.record.posts.Posts.keep.Goals as goal

pub invariant_of-self : goal.invariant_of-self
invariant_of-self g c =
    let posts : PostsView = record {
      script = c.self.inside.script.now;
      position = c.self.inside.position;
      calls = c.self.inside.calls.items;
      room = vec_capacity c.self.inside.calls;
    } in
    let events : c.args.events ≡ length (events_of posts.script (c.args.call ∷ [])) =
    subst (λ (v : PostsView). c.args.events ≡ length (events_of v.script (c.args.call ∷ []))) (sym c.self.view_is)
    c.requires.events in
    posted_on g.S.HistoryStart.script g.S.HistoryStart.position g.S.HistoryStart.room posts c.args.call _ _ _ c.self.invariant
    (subst (λ (v : PostsView). IsPlaced v.position c.args.call) (sym c.self.view_is) c.requires.placed)
    (omega (arith, events)) c.push_reserved.ensures.items c.push_reserved.ensures.capacity
