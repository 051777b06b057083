-- The one text that a script is written as.
use Rattle.std.specs.Prelude.{ℕ, zero, suc, ◌+◌, ◌/◌, ◌%◌, ◌==◌, nat_lt, List, [], ◌∷◌, ◌++◌, Option, Some, None, if◌then◌else◌}
use Rattle.std.specs.List.{flat_map}
use Rattle.std.specs.Fmt.{decimal}
use lib.Chars.{codes}
use Rattle.asio_types.specs.declared.code.Class.TheVariants as class
use Rattle.asio_types.specs.declared.world.Line.{Line}
use Rattle.asio_types.specs.declared.world.What.{What}
use Rattle.asio_types.specs.declared.world.What.TheVariants as what
use Rattle.session_script.specs.declared.act.Act.{Act}
use Rattle.session_script.specs.declared.act.Act.TheVariants as act
use Rattle.session_script.specs.declared.round.Round.{Round}
use Rattle.session_script.specs.declared.act.Bodies.{Bodies}
use Rattle.session_script.specs.declared.act.Bodies.TheVariants as bodies
use Rattle.session_script.specs.Script.{ScriptModel, act_of, opening_of, branch_of}
use Rattle.session_script.specs.Limits.{limits_of}
use Rattle.session_script.specs.Acts.{bodies_of}
use Rattle.session_script.specs.Text.{Words, act_text, pace_text}

-- a text and further words, each after one space
abbrev pub written : List ℕ → Words → List ℕ
written text [] = text
written text (word ∷ words) = written (text ++ 32 ∷ word) words

-- a number, or `-` for none
abbrev pub number_or_dash : Option ℕ → List ℕ
number_or_dash None = codes "-"
number_or_dash (Some n) = decimal n

-- `0` to `9` and `a` to `f`
abbrev pub digit_of : ℕ → ℕ
digit_of n = if nat_lt n 10 then 48 + n else 87 + n

-- two digits a byte
abbrev pub encoded : List ℕ → List ℕ
encoded [] = []
encoded (byte ∷ bytes) = digit_of (byte / 16) ∷ digit_of (byte % 16) ∷ encoded bytes

abbrev pub data_text : List ℕ → List ℕ
data_text bytes = 120 ∷ encoded bytes

-- a declaration; one of 0 is left out
abbrev pub count_words : List ℕ → ℕ → Words
count_words text n = if n == 0 then [] else text ∷ decimal n ∷ []

abbrev pub what_words : ℕ → What → Words
what_words stream (what.Feed bytes) = codes "feed" ∷ decimal stream ∷ data_text bytes ∷ []
what_words stream what.End = codes "end" ∷ decimal stream ∷ []
what_words stream what.Reset = codes "reset" ∷ decimal stream ∷ []
what_words stream (what.Room room) = codes "room" ∷ decimal stream ∷ decimal room ∷ []

abbrev pub line_words : Line → Words
line_words line = codes "at" ∷ decimal line.time ∷ what_words line.stream line.what

-- a slot and the types that it lets through; all of them are left out
abbrev pub plug_words : Option ℕ → ℕ → Words
plug_words slot filter =
    if filter == 7 then number_or_dash slot ∷ []
    else number_or_dash slot ∷ codes "only" ∷ decimal filter ∷ []

-- what an act does: to which object, and how much
abbrev pub object_words : Act → Words
object_words (act.Post strand) = []
object_words (act.Defer strand) = []
object_words (act.Dispatch strand) = []
object_words (act.Expires timer after) = decimal timer ∷ decimal after ∷ []
object_words (act.ExpiresAt timer at) = decimal timer ∷ decimal at ∷ []
object_words (act.Wait timer strand slot filter) = decimal timer ∷ []
object_words (act.Cancel timer) = decimal timer ∷ []
object_words (act.CancelOne timer) = decimal timer ∷ []
object_words (act.Emit slot kinds) = decimal slot ∷ decimal kinds ∷ []
object_words (act.ReadSome stream size strand slot filter) = decimal stream ∷ decimal size ∷ []
object_words (act.ReadAll stream size strand slot filter) = decimal stream ∷ decimal size ∷ []
object_words (act.Until stream delimiter max strand slot filter) =
    decimal stream ∷ data_text delimiter ∷ decimal max ∷ []
object_words (act.WriteSome stream bytes strand slot filter) = decimal stream ∷ data_text bytes ∷ []
object_words (act.WriteAll stream bytes strand slot filter) = decimal stream ∷ data_text bytes ∷ []
object_words (act.Close stream) = decimal stream ∷ []
object_words (act.Release guard) = decimal guard ∷ []
object_words act.Stop = []

-- a strand, a slot and the types that it lets through
abbrev pub tail_words : Option ℕ → Option ℕ → ℕ → Words
tail_words strand slot filter = number_or_dash strand ∷ plug_words slot filter

-- where the handler of an act executes, and by what it is cancelled
abbrev pub handler_words : Act → Words
handler_words (act.Post strand) = number_or_dash strand ∷ []
handler_words (act.Defer strand) = number_or_dash strand ∷ []
handler_words (act.Dispatch strand) = number_or_dash strand ∷ []
handler_words (act.Expires timer after) = []
handler_words (act.ExpiresAt timer at) = []
handler_words (act.Wait timer strand slot filter) = tail_words strand slot filter
handler_words (act.Cancel timer) = []
handler_words (act.CancelOne timer) = []
handler_words (act.Emit slot kinds) = []
handler_words (act.ReadSome stream size strand slot filter) = tail_words strand slot filter
handler_words (act.ReadAll stream size strand slot filter) = tail_words strand slot filter
handler_words (act.Until stream delimiter max strand slot filter) = tail_words strand slot filter
handler_words (act.WriteSome stream bytes strand slot filter) = tail_words strand slot filter
handler_words (act.WriteAll stream bytes strand slot filter) = tail_words strand slot filter
handler_words (act.Close stream) = []
handler_words (act.Release guard) = []
handler_words act.Stop = []

-- what an act has after its word, without its bodies
abbrev pub field_words : Act → Words
field_words act = object_words act ++ handler_words act

-- the words of a body with these acts
abbrev pub BodyWords : Type 0
BodyWords = List ℕ → Words

-- a further body after its word; an empty one is left out
abbrev pub branch_words : BodyWords → List ℕ → List ℕ → Words
branch_words body text [] = []
branch_words body text (first ∷ others) = text ∷ body (first ∷ others)

-- the bodies of an operation
abbrev pub bodies_words : BodyWords → ScriptModel → ℕ → Bodies → Words
bodies_words body script op bodies.Nothing = []
bodies_words body script op bodies.Posting = body (branch_of script op class.Ok)
bodies_words body script op bodies.Operation =
    body (branch_of script op class.Ok)
    ++ (branch_words body (codes "abort") (branch_of script op class.Abort)
    ++ branch_words body (codes "other") (branch_of script op class.Other))

-- an act with its bodies
abbrev pub entry_words : BodyWords → ScriptModel → ℕ → Words
entry_words body script n = words_in (act_of script n)
  where
    words_in : Option Act → Words
    words_in None = []
    words_in (Some found) =
        act_text found ∷ (field_words found ++ bodies_words body script n (bodies_of found))

-- a body, where so many levels are left
abbrev pub body_words : ℕ → ScriptModel → BodyWords
body_words zero script acts = []
body_words (suc levels) script acts =
    codes "{" ∷ (flat_map (entry_words (body_words levels script) script) acts ++ codes "}" ∷ [])

abbrev pub round_words : Round → Words
round_words round =
    if round.restart then codes "restart" ∷ pace_text round.pace ∷ decimal round.workers ∷ []
    else pace_text round.pace ∷ decimal round.workers ∷ []

abbrev pub declared_words : ScriptModel → Words
declared_words script =
    count_words (codes "strands") script.strands
    ++ (count_words (codes "timers") script.timers
    ++ (count_words (codes "slots") script.slots
    ++ (count_words (codes "streams") script.world.streams
    ++ count_words (codes "guards") script.guards)))

-- all words but the first
unfoldable pub words_after_session : ScriptModel → Words
words_after_session script =
    decimal script.version
    ∷ (declared_words script
    ++ (flat_map line_words script.world.lines ++ codes "open"
    ∷ (body_words (limits_of script.version).nesting script (opening_of script)
    ++ flat_map round_words script.rounds)))

-- the text of a script: its words with one space between two, and nothing before the first or after
-- the last
unfoldable pub spelling_of : ScriptModel → List ℕ
spelling_of script = written (codes "session") (words_after_session script)

-- the same session in version 2
abbrev pub upgraded : ScriptModel → ScriptModel
upgraded script = record script { version = 2 }
