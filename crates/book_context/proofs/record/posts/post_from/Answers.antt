use Rattle.std.proofs.Common.{◌≡◌, ◌++◌, List, length, ap, subst, sym, ◌∙◌, arith}
use Rattle.session_script.specs.Script.{ScriptModel}
use Rattle.strand_core.specs.Execution.{IsWholeExecution}
use Rattle.strand_core.specs.Hands.{HasRunMark, begins_among, held_at, left_at}
use Rattle.strand_core.specs.declared.posted.Posted.{Posted}
use Rattle.book_context.specs.Posts.{PostsView}
use Rattle.book_context.specs.Recording.{ArePlaced}
use Rattle.book_context.proofs.RecordLemmas.{calls_fit}
use Rattle.book_context.proofs.record.posts.post_from.Goals as goal

pub execute-requires-clause-takes : goal.execute-requires-clause-takes
execute-requires-clause-takes g c can calls whole = record {
  room =
      omega (
        arith,
        ap length c.requires.none,
        calls_fit c.args.script.now calls,
        c.requires.room calls whole,
      );
  positions = omega (arith, c.requires.room calls whole, c.requires.positions);
}

pub returns-clause-posted : goal.returns-clause-posted
returns-clause-posted g c =
    let ran = c.in-Whole.ensures.executed in
    let items : List Posted = c.posts.inside.calls.items in
    let is : c.posts.inside.calls.items ≡ ran.calls =
    ap (λ (v : PostsView). v.calls) c.posts.view_is ∙ ran.did.made ∙ ap (λ xs. xs ++ ran.calls) c.requires.none in
    record {
      whole =
          subst
          (λ calls.
          IsWholeExecution c.args.script.now (HasRunMark g.H.CompletionHandler.marks c.args.hands.now) c.args.op
          c.args.code c.args.size calls) (sym is)
          (subst
          (λ (s : ScriptModel).
          IsWholeExecution s (HasRunMark g.H.CompletionHandler.marks c.args.hands.now) c.args.op c.args.code
          c.args.size ran.calls) c.requires.script ran.whole);
      placed =
          subst (λ (s : ScriptModel). ArePlaced s c.args.position items) (c.posts.invariant.script_is ∙ c.requires.names)
          (subst (λ n. ArePlaced c.posts.inside.script.now n items) c.requires.start c.posts.invariant.placed);
      script_is = ran.did.script;
      spent = λ n.
          ran.did.spent n
          ∙ ap (λ calls. left_at (begins_among n calls) (held_at c.args.hands.now n)) (sym is);
    }

pub returns-clause-room : goal.returns-clause-room
returns-clause-room g c = c.posts.invariant.room_is ∙ c.requires.buffer
