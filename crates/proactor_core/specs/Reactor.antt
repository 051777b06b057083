-- What the streams need of their reactor, and what serving one of them leaves as it was.
use Rattle.std.specs.Prelude.{ℕ, ◌≡◌, ◌<◌, ◌++◌, Bool, List, Option, Some, None, IfSome, IsTrue, is_some, length}
use Rattle.std.specs.Option.{option_map}
use Rattle.stream_rules.specs.Stream.{Stream, new_stream}
use Rattle.stream_rules.specs.World.{stream_at}
use Rattle.reactor_trait.specs.Reactor.{IsOpen, Outside, ReactorState, stream_count, with_stream}

-- whether a reactor tells its bytes
abbrev pub tells : Option Outside → Bool
tells told = is_some told

-- a stream of a reactor that tells its bytes; a new one where it doesn't
abbrev pub told_stream : Option Outside → ℕ → Stream
told_stream None number = new_stream
told_stream (Some outside) number = stream_at outside.streams number

-- the stream may be read and written
pub record IsServable (state : ReactorState) (told : Option Outside) (number : ℕ) : Type 0 where
  pub up : IsTrue state.up
  pub known : number < stream_count state
  pub is_open : IsOpen state number
  pub there : IfSome told (λ outside. number < length outside.streams)

-- of the bytes that a reactor tells, those of one stream changed alone
abbrev pub ChangesOne : ℕ → Option Outside → Option Outside → Type 0
ChangesOne number old new = new ≡ option_map (with_stream number (λ _. told_stream new number)) old

-- the stream as the rules see it: the held bytes come first
abbrev pub whole_told : List ℕ → Option Outside → ℕ → Stream
whole_told held told number =
    let stream = told_stream told number in record stream { arrived = held ++ stream.arrived }
