-- Calls that are posted one after another, each begin with its position.
use Rattle.std.proofs.Common.{◌≡◌, ℕ, ◌+◌, List, [], ◌∷◌, ◌++◌, length, ap, subst, sym, ◌∙◌, arith}
use Rattle.std.proofs.lemmas.List.{length_push}
use Rattle.session_script.specs.Script.{ScriptModel}
use Rattle.strand_core.specs.Execution.{events_of}
use Rattle.strand_core.specs.declared.posted.Posted.{Posted}
use Rattle.book_context.specs.Posts.{ArePostedFrom, PostsView, TakesPosts, with_call}
use Rattle.book_context.specs.Recording.{ArePlaced, IsPlaced}
use Rattle.book_context.proofs.RecordLemmas.{length-events}

pub rest_taken : (posts : PostsView) (call : Posted) (rest : List Posted) → TakesPosts posts (call ∷ rest) →
    TakesPosts (with_call call posts) rest
rest_taken posts call rest taken = record {
  room = omega (arith, taken.room, length_push posts.calls call);
  positions = omega (arith, taken.positions, length-events posts.script (call ∷ []) rest);
}

placed_more : (script : ScriptModel) (first : ℕ) (calls : List Posted) (call : Posted) → ArePlaced script first calls →
    IsPlaced (first + length (events_of script calls)) call → ArePlaced script first (calls ++ call ∷ [])
placed_more script first [] call placed here =
    (subst (λ n. IsPlaced n call) (let same : first + 0 ≡ first = omega arith in same) here, tt)
placed_more script first (one ∷ calls) call placed here = (
  placed.0,
  placed_more script (first + length (events_of script (one ∷ []))) calls call placed.1
      (subst (λ n. IsPlaced n call)
      (let both = length-events script (one ∷ []) calls in
      let same : first + length (events_of script (one ∷ calls))
      ≡ first + length (events_of script (one ∷ [])) + length (events_of script calls) = omega (arith, both) in
      same) here),
)

-- one call more, at its position
pub posted_on : (script : ScriptModel) (first all : ℕ) (posts : PostsView) (call : Posted) (position : ℕ)
    (calls : List Posted) (room : ℕ) → ArePostedFrom script first all posts → IsPlaced posts.position call →
    position ≡ posts.position + length (events_of posts.script (call ∷ [])) → calls ≡ posts.calls ++ call ∷ [] →
    room ≡ posts.room →
    ArePostedFrom script first all (record { script = posts.script; position = position; calls = calls; room = room })
posted_on script first all posts call position calls room are here moved more kept = record {
  script_is = are.script_is;
  room_is = kept ∙ are.room_is;
  placed =
      subst (ArePlaced posts.script first) (sym more)
      (placed_more posts.script first posts.calls call are.placed (subst (λ n. IsPlaced n call) are.position here));
  position =
      omega (
        arith,
        are.position,
        moved,
        ap (λ xs. length (events_of posts.script xs)) more,
        length-events posts.script posts.calls (call ∷ []),
      );
}
