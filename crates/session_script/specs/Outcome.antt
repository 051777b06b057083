-- How what the code answers is what the grammar says.
use Rattle.std.specs.Prelude.{◌≡◌, List, map, Option, Some, Result, Ok, Err}
use Rattle.session_script.specs.declared.refusal.Refusal.{Refusal}
use Rattle.session_script.specs.declared.refusal.Rule.TheVariants as rule
use Rattle.session_script.specs.declared.refusal.ScriptFault.{ScriptFault}
use Rattle.session_script.specs.declared.refusal.ScriptFault.TheVariants as fault
use Rattle.session_script.specs.declared.parts.PlacedAct.{PlacedAct}
use Rattle.session_script.specs.declared.parts.ScriptParts.{ScriptParts}
use Rattle.session_script.specs.Script as script
use Rattle.session_script.specs.declared.token.Token.{Token}
use Rattle.session_script.specs.Tokens.{Tokens, end, token}
use Rattle.session_script.specs.Productions.{refused}

-- a fault is the refusal that reading gives, unless memory ran out
abbrev pub Fails : {Y : Type 0} → ScriptFault → Result Y Refusal → Type 0
Fails fault.NoMemory read = Unit {0}
Fails (fault.Refused refusal) read = read ≡ Err refusal

-- the refusal at the end of the text
abbrev pub Misses : Tokens → ScriptFault → Type 0
Misses (end at) missing = missing ≡ fault.Refused (refused rule.Shape at)
Misses (token bytes at rest) missing = ⊥

-- the next token is taken; the end of the text refuses
abbrev pub Takes : Result Token ScriptFault → Tokens → Tokens → Type 0
Takes (Ok next) rest before = before ≡ token next.bytes.now next.at rest
Takes (Err missing) rest before = Misses before missing

-- an answer, and the tokens after it, are what reading gives, unless memory ran out
abbrev pub Gives : {X Y : Type 0} → (X → Y) → Result X ScriptFault → Tokens →
    Result (Y × Tokens) Refusal → Type 0
Gives view (Ok value) rest read = read ≡ Ok (view value, rest)
Gives view (Err missing) rest read = Fails missing read

-- the same, for what was appended to
abbrev pub Leaves : {Y : Type 0} → Result (Unit {0}) ScriptFault → Y → Tokens →
    Result (Y × Tokens) Refusal → Type 0
Leaves (Ok value) left rest read = read ≡ Ok (left, rest)
Leaves (Err missing) left rest read = Fails missing read

-- the answer for a whole text is what it says, unless memory ran out
abbrev pub Agrees : {X Y : Type 0} → (X → Y) → Result X ScriptFault → Result Y Refusal → Type 0
Agrees view (Ok value) read = read ≡ Ok (view value)
Agrees view (Err missing) read = Fails missing read

-- a refusal names this fault
abbrev pub Names : ScriptFault → Option Refusal → Type 0
Names fault.NoMemory first = Unit {0}
Names (fault.Refused refusal) first = first ≡ Some refusal

-- an act as the model has it
abbrev pub entry_of : PlacedAct → script.Entry
entry_of entry = record { act = entry.act; parent = entry.parent }

abbrev pub entries_of : List PlacedAct → List script.Entry
entries_of entries = map entry_of entries

-- the model of what was read
unfoldable pub model_of : ScriptParts → script.ScriptModel
model_of parts = record {
  version = parts.version;
  strands = parts.strands;
  timers = parts.timers;
  slots = parts.slots;
  guards = parts.guards;
  acts = entries_of parts.acts.items;
  world = parts.world;
  rounds = parts.rounds.items;
}
