-- What a script is, and the first fault of what is none.
use Rattle.std.specs.Prelude.{◌≡◌, ℕ, zero, suc, Bool, true, false, ◌&&◌, ◌||◌, ◌==◌, nat_lt, List, [], length, take, Option, Some, None, Result, Ok, Err, if◌then◌else◌}
use Rattle.std.specs.List.{list_any, prefix_len}
use lib.Chars.{codes}
use Rattle.session_script.specs.declared.act.Act.{Act}
use Rattle.session_script.specs.declared.act.Act.TheVariants as act
use Rattle.session_script.specs.declared.refusal.Rule.TheVariants as rule
use Rattle.session_script.specs.declared.refusal.Refusal.{Refusal}
use Rattle.session_script.specs.Script.{Entry, ScriptModel}
use Rattle.session_script.specs.Tokens.{Tokens, end, token, is_printable, tokens_of, end_of}
use Rattle.session_script.specs.Limits.{most_bytes}
use Rattle.session_script.specs.Kinds.{misplaced}
use Rattle.session_script.specs.Productions.{refused, ◌>>=◌, done, word, header, world_lines, session_rounds}
use Rattle.session_script.specs.Acts.{body}

-- an act that releases this guard
abbrev pub releases : ℕ → Act → Bool
releases guard (act.Release released) = released == guard
releases guard _ = false

-- some act releases this guard
unfoldable pub is_released : ℕ → List Entry → Bool
is_released guard entries = list_any (λ entry. releases guard entry.act) entries

-- each of so many guards is released by some act
unfoldable pub are_released : ℕ → List Entry → Bool
are_released zero entries = true
are_released (suc guard) entries = is_released guard entries && are_released guard entries

-- the end of the text
abbrev pub ends : ℕ → List Entry → Tokens → Result (Unit × Tokens) Refusal
ends guards entries (end at) =
    if are_released guards entries then Ok (tt, end at) else Err (refused rule.Guard at)
ends guards entries (token bytes at rest) = Err (refused (misplaced bytes) at)

-- script = "session" ("1" | "2") decls line* "open" body round+
unfoldable pub script : Tokens → Result (ScriptModel × Tokens) Refusal
script = do
  head ← header
  lines ← world_lines head
  _ ← word (codes "open")
  acts ← body head head.limits.nesting None []
  rounds ← session_rounds head
  _ ← ends head.guards acts
  done (record {
    version = head.version;
    strands = head.strands;
    timers = head.timers;
    slots = head.slots;
    guards = head.guards;
    acts = acts;
    world = record { streams = head.streams; lines = lines };
    rounds = rounds;
  })

-- a byte that may stand in a script: a printable one, a space, TAB, LF or CR
unfoldable pub is_text : ℕ → Bool
is_text b = is_printable b || (b == 32) || (b == 9) || (b == 10) || (b == 13)

-- how many bytes stand before the first that is no text
abbrev pub text_len : List ℕ → ℕ
text_len bytes = prefix_len is_text bytes

abbrev pub whole : Result (ScriptModel × Tokens) Refusal → Result ScriptModel Refusal
whole (Ok read) = Ok read.0
whole (Err refusal) = Err refusal

-- what the bytes say, or their first fault
unfoldable pub reading : List ℕ → Result ScriptModel Refusal
reading bytes =
    if nat_lt most_bytes (length bytes)
    then Err (record { rule = rule.TooLong; line = 0; token = 0 })
    else (if nat_lt (text_len bytes) (length bytes)
    then Err (refused rule.NotText (end_of (tokens_of (take (text_len bytes) bytes))))
    else whole (script (tokens_of bytes)))

-- the bytes are a text of this script
unfoldable pub IsScript : List ℕ → ScriptModel → Type 0
IsScript bytes model = reading bytes ≡ Ok model

abbrev pub fault_of : Result ScriptModel Refusal → Option Refusal
fault_of (Ok model) = None
fault_of (Err refusal) = Some refusal

-- the first fault, unless the bytes are a script
unfoldable pub first_fault : List ℕ → Option Refusal
first_fault bytes = fault_of (reading bytes)
