-- The production of acts, and the bodies that nest them.
use Rattle.std.specs.Prelude.{ℕ, zero, suc, Bool, true, false, not, ◌&&◌, ◌==◌, nat_le, List, [], ◌∷◌, ◌++◌, length, Option, Some, None, Result, Ok, Err, if◌then◌else◌}
use Rattle.std.specs.Str.{bytes_eq}
use lib.Chars.{codes}
use Rattle.asio_types.specs.declared.code.Class.TheVariants as class
use Rattle.session_script.specs.declared.act.Act.{Act}
use Rattle.session_script.specs.declared.act.Act.TheVariants as act
use Rattle.session_script.specs.declared.refusal.Rule.{Rule}
use Rattle.session_script.specs.declared.refusal.Rule.TheVariants as rule
use Rattle.session_script.specs.declared.refusal.Refusal.{Refusal}
use Rattle.session_script.specs.declared.parts.Header.{Header}
use Rattle.session_script.specs.declared.reader.act_word.ActWord.{ActWord}
use Rattle.session_script.specs.declared.reader.act_word.ActWord.TheVariants as words
use Rattle.session_script.specs.declared.act.Bodies.{Bodies}
use Rattle.session_script.specs.declared.act.Bodies.TheVariants as bodies
use Rattle.session_script.specs.Script.{Place, Entry}
use Rattle.session_script.specs.Tokens.{Tokens, begins, goes_on}
use Rattle.session_script.specs.Kinds.{misplaced}
use Rattle.session_script.specs.Productions.{◌>>=◌, done, one, repeated, word, another, bounded, declared_number, optional, types, plug, bytes}

-- the words of postings, of `release` and of `stop`
unfoldable pub context_word : List ℕ → Option ActWord
context_word bytes =
    if bytes_eq bytes (codes "post") then Some words.Post
    else (if bytes_eq bytes (codes "defer") then Some words.Defer
    else (if bytes_eq bytes (codes "dispatch") then Some words.Dispatch
    else (if bytes_eq bytes (codes "release") then Some words.Release
    else (if bytes_eq bytes (codes "stop") then Some words.Stop
    else None))))

-- the words of acts on timers and slots; `expiresat` belongs to version 2 alone
unfoldable pub timer_word : ℕ → List ℕ → Option ActWord
timer_word version bytes =
    if bytes_eq bytes (codes "expires") then Some words.Expires
    else (if bytes_eq bytes (codes "expiresat") && not (version == 1) then Some words.ExpiresAt
    else (if bytes_eq bytes (codes "wait") then Some words.Wait
    else (if bytes_eq bytes (codes "cancel") then Some words.Cancel
    else (if bytes_eq bytes (codes "cancelone") then Some words.CancelOne
    else (if bytes_eq bytes (codes "emit") then Some words.Emit
    else None)))))

-- the words of acts on streams
unfoldable pub stream_word : List ℕ → Option ActWord
stream_word bytes =
    if bytes_eq bytes (codes "readsome") then Some words.ReadSome
    else (if bytes_eq bytes (codes "read") then Some words.Read
    else (if bytes_eq bytes (codes "until") then Some words.Until
    else (if bytes_eq bytes (codes "writesome") then Some words.WriteSome
    else (if bytes_eq bytes (codes "write") then Some words.Write
    else (if bytes_eq bytes (codes "close") then Some words.Close
    else None)))))

abbrev pub or_else : Option ActWord → Option ActWord → Option ActWord
or_else (Some found) other = Some found
or_else None other = other

-- the words that begin an act
unfoldable pub act_word_of : ℕ → List ℕ → Option ActWord
act_word_of version bytes =
    or_else (context_word bytes) (or_else (timer_word version bytes) (stream_word bytes))

-- an act word, while there is room for one more act
abbrev pub while_room : Bool → List ℕ → Option ActWord → Result ActWord Rule
while_room full bytes (Some found) = if full then Err rule.Limit else Ok found
while_room full bytes None = Err (misplaced bytes)

unfoldable pub act_word : ℕ → Bool → List ℕ → Result ActWord Rule
act_word version full bytes = while_room full bytes (act_word_of version bytes)

-- what an act has after its word, without its bodies
unfoldable pub fields : Header → ActWord → Tokens → Result (Act × Tokens) Refusal
fields h words.Post = optional h.strands >>= λ strand. done (act.Post strand)
fields h words.Defer = optional h.strands >>= λ strand. done (act.Defer strand)
fields h words.Dispatch = optional h.strands >>= λ strand. done (act.Dispatch strand)
fields h words.Expires = do
  timer ← declared_number h.timers
  after ← bounded 0 h.limits.time
  done (act.Expires timer after)
fields h words.ExpiresAt = do
  timer ← declared_number h.timers
  at ← bounded 0 h.limits.time
  done (act.ExpiresAt timer at)
fields h words.Wait = do
  timer ← declared_number h.timers
  strand ← optional h.strands
  plugged ← plug h
  done (act.Wait timer strand plugged.0 plugged.1)
fields h words.Cancel = declared_number h.timers >>= λ timer. done (act.Cancel timer)
fields h words.CancelOne = declared_number h.timers >>= λ timer. done (act.CancelOne timer)
fields h words.Emit = do
  slot ← declared_number h.slots
  kinds ← types
  done (act.Emit slot kinds)
fields h words.ReadSome = do
  stream ← declared_number h.streams
  size ← bounded 1 h.limits.size
  strand ← optional h.strands
  plugged ← plug h
  done (act.ReadSome stream size strand plugged.0 plugged.1)
fields h words.Read = do
  stream ← declared_number h.streams
  size ← bounded 1 h.limits.size
  strand ← optional h.strands
  plugged ← plug h
  done (act.ReadAll stream size strand plugged.0 plugged.1)
fields h words.Until = do
  stream ← declared_number h.streams
  delimiter ← bytes h.limits.delimiter
  max ← bounded 1 h.limits.size
  strand ← optional h.strands
  plugged ← plug h
  done (act.Until stream delimiter max strand plugged.0 plugged.1)
fields h words.WriteSome = do
  stream ← declared_number h.streams
  written ← bytes h.limits.size
  strand ← optional h.strands
  plugged ← plug h
  done (act.WriteSome stream written strand plugged.0 plugged.1)
fields h words.Write = do
  stream ← declared_number h.streams
  written ← bytes h.limits.size
  strand ← optional h.strands
  plugged ← plug h
  done (act.WriteAll stream written strand plugged.0 plugged.1)
fields h words.Close = declared_number h.streams >>= λ stream. done (act.Close stream)
fields h words.Release = declared_number h.guards >>= λ guard. done (act.Release guard)
fields h words.Stop = done act.Stop

-- which bodies follow an act
abbrev pub bodies_of : Act → Bodies
bodies_of (act.Post strand) = bodies.Posting
bodies_of (act.Defer strand) = bodies.Posting
bodies_of (act.Dispatch strand) = bodies.Posting
bodies_of (act.Expires timer after) = bodies.Nothing
bodies_of (act.ExpiresAt timer at) = bodies.Nothing
bodies_of (act.Wait timer strand slot filter) = bodies.Operation
bodies_of (act.Cancel timer) = bodies.Nothing
bodies_of (act.CancelOne timer) = bodies.Nothing
bodies_of (act.Emit slot kinds) = bodies.Nothing
bodies_of (act.ReadSome stream size strand slot filter) = bodies.Operation
bodies_of (act.ReadAll stream size strand slot filter) = bodies.Operation
bodies_of (act.Until stream delimiter max strand slot filter) = bodies.Operation
bodies_of (act.WriteSome stream written strand slot filter) = bodies.Operation
bodies_of (act.WriteAll stream written strand slot filter) = bodies.Operation
bodies_of (act.Close stream) = bodies.Nothing
bodies_of (act.Release guard) = bodies.Nothing
bodies_of act.Stop = bodies.Nothing

-- a reader of bodies: it appends the acts of one body, which stands in a place
abbrev pub BodyReader : Type 0
BodyReader = Place → List Entry → Tokens → Result (List Entry × Tokens) Refusal

-- a body after its word, if the word is there
unfoldable pub branch : List ℕ → BodyReader → Place → List Entry → Tokens →
    Result (List Entry × Tokens) Refusal
branch text body place entries tokens =
    if begins text tokens then (word text >>= λ _. body place entries) tokens
    else Ok (entries, tokens)

-- bodies = body ("abort" body)? ("other" body)?
unfoldable pub branches : BodyReader → ℕ → List Entry → Tokens →
    Result (List Entry × Tokens) Refusal
branches body op entries = do
  after_ok ← body (Some (op, class.Ok)) entries
  after_abort ← branch (codes "abort") body (Some (op, class.Abort)) after_ok
  branch (codes "other") body (Some (op, class.Other)) after_abort

-- the bodies of an operation
abbrev pub bodies_after : BodyReader → ℕ → Bodies → List Entry → Tokens →
    Result (List Entry × Tokens) Refusal
bodies_after body op bodies.Nothing = done
bodies_after body op bodies.Posting = body (Some (op, class.Ok))
bodies_after body op bodies.Operation = branches body op

-- an act with its bodies; its number is how many acts stand before it
unfoldable pub entry : Header → BodyReader → Place → List Entry → Tokens →
    Result (List Entry × Tokens) Refusal
entry h body place entries = do
  begun ← one (act_word h.version (nat_le h.limits.acts (length entries)))
  made ← fields h begun
  bodies_after body (length entries) (bodies_of made)
      (entries ++ record { act = made; parent = place } ∷ [])

-- "{" act* "}", with a reader of the bodies in it
unfoldable pub braced : Header → Bool → BodyReader → BodyReader
braced h full inner place entries = do
  _ ← another (codes "{") full
  filled ← repeated (goes_on (codes "}")) (entry h inner place) entries
  _ ← word (codes "}")
  done filled

-- body = "{" act* "}", where so many levels are left, this one among them; with none left the brace
-- is refused
unfoldable pub body : Header → ℕ → BodyReader
body h zero = braced h true (λ place entries. done entries)
body h (suc levels) = braced h false (body h levels)
