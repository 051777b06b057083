-- Runs of a channel: lists of calls and completions, oldest first, in which each call keeps its
-- conditions and each completion is the one that is due. A call is named by its place in the list,
-- since the number of an operation may come again.
use Rattle.std.specs.Prelude.{◌≡◌, ◌≤◌, ℕ, ◌+◌, ◌==◌, Bool, true, false, List, [], ◌∷◌, ◌++◌, Option, Some, None, filter, map, if◌then◌else◌}
use Rattle.chan_core.specs.declared.done.ChanCode.{ChanCode}
use Rattle.chan_core.specs.declared.done.ChanCode.TheVariants as chan_code
use Rattle.chan_core.specs.declared.done.ChanDone.{ChanDone}
use Rattle.chan_core.specs.Channel.{Channel, cancelled, closed, is_pending, lapsed, new_channel, received, sent, spare_in}

-- a call of a channel
pub data ChanCall : Type 0 where
  Send : (op value : ℕ) (deadline : Option ℕ) → ChanCall
  Receive : (op : ℕ) (deadline : Option ℕ) → ChanCall
  Close : ChanCall
  Cancel : ChanCall
  Lapse : (wait : ℕ) → ChanCall

-- what happens at a channel
pub data ChanEvent : Type 0 where
  Called : (call : ChanCall) → ChanEvent
  Told : (done : ChanDone) → ChanEvent

-- the operation of this number may begin
pub record MayBegin (op : ℕ) (c : Channel) : Type 0 where
  pub room : 1 ≤ spare_in c
  pub free : is_pending op c ≡ false

-- what a call asks for, beside that nothing is due
abbrev pub MayCall : ChanCall → Channel → Type 0
MayCall (Send op value deadline) c = MayBegin op c
MayCall (Receive op deadline) c = MayBegin op c
MayCall Close c = Unit {0}
MayCall Cancel c = Unit {0}
MayCall (Lapse wait) c = Unit {0}

abbrev pub after_call : ChanCall → Channel → Channel
after_call (Send op value deadline) c = sent op value deadline c
after_call (Receive op deadline) c = received op deadline c
after_call Close c = closed c
after_call Cancel c = cancelled c
after_call (Lapse wait) c = lapsed wait c

-- the run of a channel from its making to where it is now
pub data IsRun (capacity room : ℕ) : List ChanEvent → Channel → Type 0 where
  newly_made : IsRun capacity room [] (new_channel capacity room)
  after_call_of : (events : List ChanEvent) (c : Channel) (call : ChanCall) →
      IsRun capacity room events c → c.due ≡ [] → MayCall call c →
      IsRun capacity room (events ++ Called call ∷ []) (after_call call c)
  after_telling : (events : List ChanEvent) (c : Channel) (done : ChanDone) (rest : List ChanDone) →
      IsRun capacity room events c → c.due ≡ done ∷ rest →
      IsRun capacity room (events ++ Told done ∷ []) (record c { due = rest })

-- whether a call begins the operation of this number
abbrev pub begins : ℕ → ChanCall → Bool
begins op (Send other value deadline) = other == op
begins op (Receive other deadline) = other == op
begins op Close = false
begins op Cancel = false
begins op (Lapse wait) = false

-- how the operation of this number ended that a call has begun before these events: by the first
-- completion of its number
abbrev pub code_after : ℕ → List ChanEvent → Option ChanCode
code_after op [] = None
code_after op (Called call ∷ later) = code_after op later
code_after op (Told done ∷ later) =
    if done.op == op then Some done.code else code_after op later

-- a call of send, and how it completed, if it did
pub record SendMade : Type 0 where
  pub op : ℕ
  pub value : ℕ
  pub deadline : Option ℕ
  pub code : Option ChanCode

-- what the call of a send adds, where this comes after it
abbrev pub send_made : ChanCall → List ChanEvent → List SendMade → List SendMade
send_made (Send op value deadline) later made =
    record { op = op; value = value; deadline = deadline; code = code_after op later } ∷ made
send_made (Receive op deadline) later made = made
send_made Close later made = made
send_made Cancel later made = made
send_made (Lapse wait) later made = made

-- the calls of send, in order
abbrev pub sends_in : List ChanEvent → List SendMade
sends_in [] = []
sends_in (Called call ∷ later) = send_made call later (sends_in later)
sends_in (Told done ∷ later) = sends_in later

abbrev pub is_ok : Option ChanCode → Bool
is_ok None = false
is_ok (Some chan_code.Ok) = true
is_ok (Some chan_code.Cancelled) = false
is_ok (Some chan_code.Closed) = false

abbrev pub was_accepted : SendMade → Bool
was_accepted made = is_ok made.code

abbrev pub value_of : SendMade → ℕ
value_of made = made.value

-- the values of the sends that completed with Ok, in the order of their calls
abbrev pub accepted_in : List ChanEvent → List ℕ
accepted_in events = map value_of (filter was_accepted (sends_in events))

abbrev pub with_value : Option ℕ → List ℕ → List ℕ
with_value None values = values
with_value (Some value) values = value ∷ values

-- the values that receives got, in the order of their completions
abbrev pub received_in : List ChanEvent → List ℕ
received_in [] = []
received_in (Called call ∷ later) = received_in later
received_in (Told done ∷ later) = with_value done.value (received_in later)

-- how often operations of this number complete before the next call that begins one
abbrev pub completions : ℕ → List ChanEvent → ℕ
completions op [] = 0
completions op (Called call ∷ later) = if begins op call then 0 else completions op later
completions op (Told done ∷ later) =
    if done.op == op then completions op later + 1 else completions op later

-- what a channel keeps
pub record KeepsOrder (events : List ChanEvent) (c : Channel) : Type 0 where
  -- the values received and then those of the buffer are the accepted ones, in the order of their
  -- sends, whenever nothing is due
  pub order : c.due ≡ [] → received_in events ++ c.buffer ≡ accepted_in events
  -- the call at any place completes at most once, and before its number is used again
  pub once : (op : ℕ) (call : ChanCall) (before later : List ChanEvent) → begins op call ≡ true →
      events ≡ before ++ Called call ∷ later → completions op later ≤ 1
  -- nothing completes that no call began
  pub begun : (op : ℕ) → completions op events ≡ 0

-- a channel gives each value that it accepted to at most one receive, in order
abbrev pub ChannelsKeepOrder : Type 0
ChannelsKeepOrder = (capacity room : ℕ) (events : List ChanEvent) (c : Channel) →
    IsRun capacity room events c → KeepsOrder events c
