-- What is taken and not given back: data that one thread at a time may touch (Overview, "Threads and Boost.Asio": unsafe to make
-- concurrent use of a single object), and mutexes.
use Rattle.std.specs.Prelude.{ℕ, List, [], ◌∷◌, Bool, false, ◌==◌, ◌&&◌, if◌then◌else◌}
use Rattle.std.specs.List.{list_any}
use Rattle.run_lines.specs.declared.line.Doing.{Doing}
use Rattle.run_lines.specs.declared.line.Doing.TheVariants as doing
use Rattle.run_lines.specs.declared.line.Line.{Line}
use Rattle.run_rules.specs.declared.frame.Frame.{Frame}
use Rattle.run_rules.specs.declared.taking.Resource.{Resource}
use Rattle.run_rules.specs.declared.taking.Resource.TheVariants.{Thing, Lock}
use Rattle.run_rules.specs.declared.taking.Taking.{Taking}
use Rattle.run_rules.specs.Stacks.{frame, same_frame}

abbrev pub same_resource : Resource → Resource → Bool
same_resource (Thing thing) (Thing other) = thing == other
same_resource (Lock lock) (Lock other) = lock == other
same_resource (Thing thing) (Lock lock) = false
same_resource (Lock lock) (Thing thing) = false

abbrev pub same_taking : Taking → Taking → Bool
same_taking one other =
    one.thread == other.thread && (same_frame one.frame other.frame && same_resource one.resource other.resource)

-- without the first of these takings
abbrev pub without : Taking → List Taking → List Taking
without gone [] = []
without gone (one ∷ others) = if same_taking one gone then others else one ∷ without gone others

-- what a line of this thread, by this frame, makes of what is taken
abbrev pub taken_after : ℕ → Frame → Doing → List Taking → List Taking
taken_after thread who (doing.Claim thing) taken = record { thread = thread; frame = who; resource = Thing thing } ∷ taken
taken_after thread who (doing.Lock lock) taken = record { thread = thread; frame = who; resource = Lock lock } ∷ taken
taken_after thread who (doing.Release thing) taken =
    without (record { thread = thread; frame = who; resource = Thing thing }) taken
taken_after thread who (doing.Unlock lock) taken = without (record { thread = thread; frame = who; resource = Lock lock }) taken
taken_after thread who _ taken = taken

-- what is taken and not given back, the latest first
abbrev pub taken : List Line → List Taking
taken [] = []
taken (line ∷ past) = taken_after line.thread (frame past line.thread) line.does (taken past)

-- whether a thread has taken this
abbrev pub has_taken : List Line → ℕ → Resource → Bool
has_taken past thread resource =
    list_any (λ (one : Taking). one.thread == thread && same_resource one.resource resource) (taken past)

-- whether a frame has taken anything
abbrev pub has_any : List Line → Frame → Bool
has_any past who = list_any (λ (one : Taking). same_frame one.frame who) (taken past)

-- whether a frame of a thread has taken this
abbrev pub is_taken_by : List Line → ℕ → Frame → Resource → Bool
is_taken_by past thread who resource =
    list_any (λ (one : Taking). same_taking one (record { thread = thread; frame = who; resource = resource })) (taken past)
