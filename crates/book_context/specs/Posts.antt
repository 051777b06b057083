-- What an execution under way has posted.
use Rattle.std.specs.Prelude.{◌≡◌, ◌<◌, ◌≤◌, ℕ, ◌+◌, ◌^◌, List, [], ◌∷◌, ◌++◌, length}
use Rattle.asio_types.specs.declared.code.Code.{Code}
use Rattle.op_handlers.specs.Marks.{Marks}
use Rattle.session_script.specs.Script.{ScriptModel}
use Rattle.strand_core.specs.declared.posted.Posted.{Posted}
use Rattle.strand_core.specs.Execution.{IsWholeExecution, events_of}
use Rattle.strand_core.specs.Hands.{HasRunMark, Held, begins_among, held_at, left_at}
use Rattle.book_context.specs.Recording.{ArePlaced}

-- the calls so far, the position of the next event, and for how many calls there is room in all
pub record PostsView : Type 0 where
  pub script : ScriptModel
  pub position : ℕ
  pub calls : List Posted
  pub room : ℕ

-- one call more
abbrev pub with_call : Posted → PostsView → PostsView
with_call call posts = record posts {
  position = posts.position + length (events_of posts.script (call ∷ []));
  calls = posts.calls ++ call ∷ [];
}

-- there is room for these calls, and the positions of their events are numbers that fit
pub record TakesPosts (posts : PostsView) (calls : List Posted) : Type 0 where
  pub room : length posts.calls + length calls ≤ posts.room
  pub positions : posts.position + length (events_of posts.script calls) < 2 ^ 64

-- the calls began at a position of the history, and each begin has its own; there is this room
pub record ArePostedFrom (script : ScriptModel) (first room : ℕ) (posts : PostsView) : Type 0 where
  pub script_is : posts.script ≡ script
  pub room_is : posts.room ≡ room
  pub placed : ArePlaced posts.script first posts.calls
  pub position : posts.position ≡ first + length (events_of posts.script posts.calls)

-- one whole execution was posted from a position on, with the handlers that were held, and those that
-- began in it are spent
pub record HasPosted {H : Type 0} (marks : H → Marks) (script : ScriptModel) (first op : ℕ)
    (code : Code) (size : ℕ) (held left : Held H) (calls : List Posted) : Type 0 where
  pub whole : IsWholeExecution script (HasRunMark marks held) op code size calls
  pub placed : ArePlaced script first calls
  pub script_is : left.script ≡ held.script
  pub spent : (n : ℕ) → held_at left n ≡ left_at (begins_among n calls) (held_at held n)
