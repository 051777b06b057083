-- The grammar as it is written: which words spell a script, apart from how they are read. Each
-- production relates what is spelled to the words from some word on and the words after it.
use Rattle.std.specs.Prelude.{◌≡◌, ℕ, suc, ◌≤◌, ◌⊎◌, Bool, true, false, List, [], ◌∷◌, ◌++◌, length, Option, Some, None, Ok}
use lib.Chars.{codes}
use Rattle.asio_types.specs.declared.code.Class.TheVariants as class
use Rattle.asio_types.specs.declared.world.Line.{Line}
use Rattle.asio_types.specs.declared.world.What.{What}
use Rattle.asio_types.specs.declared.world.What.TheVariants as what
use Rattle.session_script.specs.declared.act.Act.{Act}
use Rattle.session_script.specs.declared.act.Act.TheVariants as act
use Rattle.session_script.specs.declared.round.Round.{Round}
use Rattle.session_script.specs.declared.round.Pace.{Pace}
use Rattle.session_script.specs.declared.round.Pace.TheVariants as pace
use Rattle.session_script.specs.declared.act.Bodies.{Bodies}
use Rattle.session_script.specs.declared.act.Bodies.TheVariants as bodies
use Rattle.session_script.specs.Script.{Place, Entry, ScriptModel}
use Rattle.session_script.specs.Tokens.{Tokens, end, token}
use Rattle.session_script.specs.Kinds.{number, data_digits, decoded}
use Rattle.session_script.specs.Limits.{limits_of}
use Rattle.session_script.specs.Acts.{bodies_of}

-- the words of a list of tokens
abbrev pub words_of : Tokens → List (List ℕ)
words_of (end at) = []
words_of (token bytes at rest) = bytes ∷ words_of rest

abbrev pub Words : Type 0
Words = List (List ℕ)

-- a quoted word, or a brace
abbrev pub IsWord : List ℕ → Words → Words → Type 0
IsWord text ws rest = ws ≡ text ∷ rest

-- N
abbrev pub IsN : ℕ → Words → Words → Type 0
IsN n ws rest = (w : List ℕ) × (number w ≡ Ok n) × (ws ≡ w ∷ rest)

-- "-" | N
abbrev pub IsDashOrN : Option ℕ → Words → Words → Type 0
IsDashOrN None ws rest = IsWord (codes "-") ws rest
IsDashOrN (Some n) ws rest = IsN n ws rest

-- of what version 1 doesn't have
abbrev pub IsLater : ℕ → Type 0
IsLater version = version ≡ 1 → ⊥

-- PLUG = "-" | SLOT | SLOT "only" N, the last in version 2 alone; without a filter all types pass
abbrev pub IsPlugText : ℕ → Option ℕ → ℕ → Words → Words → Type 0
IsPlugText version slot filter ws rest =
    (IsDashOrN slot ws rest × (filter ≡ 7))
    ⊎ (IsLater version
    × ((n : ℕ) × (a : Words) × (b : Words) × (slot ≡ Some n) × IsN n ws a
    × IsWord (codes "only") a b × IsN filter b rest))

-- DATA
abbrev pub IsDataText : List ℕ → Words → Words → Type 0
IsDataText bytes ws rest =
    (w : List ℕ) × (most : ℕ) × (digits : List ℕ) × (data_digits most w ≡ Ok digits)
    × (bytes ≡ decoded digits) × (ws ≡ w ∷ rest)

-- (word N)?
abbrev pub IsCountText : List ℕ → ℕ → Words → Words → Type 0
IsCountText text n ws rest =
    ((n ≡ 0) × (ws ≡ rest)) ⊎ ((a : Words) × IsWord text ws a × IsN n a rest)

-- line = "at" TIME ("feed" STREAM DATA | "end" STREAM | "reset" STREAM | "room" STREAM N)
abbrev pub IsWhatText : What → ℕ → Words → Words → Type 0
IsWhatText (what.Feed bytes) stream ws rest =
    (a : Words) × (b : Words) × IsWord (codes "feed") ws a × IsN stream a b
    × IsDataText bytes b rest
IsWhatText what.End stream ws rest = (a : Words) × IsWord (codes "end") ws a × IsN stream a rest
IsWhatText what.Reset stream ws rest = (a : Words) × IsWord (codes "reset") ws a × IsN stream a rest
IsWhatText (what.Room room) stream ws rest =
    (a : Words) × (b : Words) × IsWord (codes "room") ws a × IsN stream a b × IsN room b rest

abbrev pub IsLineText : Line → Words → Words → Type 0
IsLineText line ws rest =
    (a : Words) × (b : Words) × IsWord (codes "at") ws a × IsN line.time a b
    × IsWhatText line.what line.stream b rest

abbrev pub IsLinesText : List Line → Words → Words → Type 0
IsLinesText [] ws rest = ws ≡ rest
IsLinesText (line ∷ lines) ws rest = (a : Words) × IsLineText line ws a × IsLinesText lines a rest

-- round = "restart"? ("run" | "poll") N
abbrev pub pace_text : Pace → List ℕ
pace_text pace.Run = codes "run"
pace_text pace.Poll = codes "poll"

abbrev pub IsRestartText : Bool → Words → Words → Type 0
IsRestartText restart ws rest =
    ((restart ≡ false) × (ws ≡ rest)) ⊎ ((restart ≡ true) × IsWord (codes "restart") ws rest)

abbrev pub IsRoundText : Round → Words → Words → Type 0
IsRoundText round ws rest =
    (a : Words) × (b : Words) × IsRestartText round.restart ws a × IsWord (pace_text round.pace) a b
    × IsN round.workers b rest

abbrev pub IsRoundsText : List Round → Words → Words → Type 0
IsRoundsText [] ws rest = ws ≡ rest
IsRoundsText (round ∷ rounds) ws rest =
    (a : Words) × IsRoundText round ws a × IsRoundsText rounds a rest

-- what stands after the timer or the stream of an operation
abbrev pub IsTail : ℕ → Option ℕ → Option ℕ → ℕ → Words → Words → Type 0
IsTail version strand slot filter ws rest =
    (a : Words) × IsDashOrN strand ws a × IsPlugText version slot filter a rest

-- the word of an act
abbrev pub act_text : Act → List ℕ
act_text (act.Post strand) = codes "post"
act_text (act.Defer strand) = codes "defer"
act_text (act.Dispatch strand) = codes "dispatch"
act_text (act.Expires timer after) = codes "expires"
act_text (act.ExpiresAt timer at) = codes "expiresat"
act_text (act.Wait timer strand slot filter) = codes "wait"
act_text (act.Cancel timer) = codes "cancel"
act_text (act.CancelOne timer) = codes "cancelone"
act_text (act.Emit slot kinds) = codes "emit"
act_text (act.ReadSome stream size strand slot filter) = codes "readsome"
act_text (act.ReadAll stream size strand slot filter) = codes "read"
act_text (act.Until stream delimiter max strand slot filter) = codes "until"
act_text (act.WriteSome stream bytes strand slot filter) = codes "writesome"
act_text (act.WriteAll stream bytes strand slot filter) = codes "write"
act_text (act.Close stream) = codes "close"
act_text (act.Release guard) = codes "release"
act_text act.Stop = codes "stop"

-- what an act has after its word, without its bodies
abbrev pub IsFieldsText : ℕ → Act → Words → Words → Type 0
IsFieldsText version (act.Post strand) ws rest = IsDashOrN strand ws rest
IsFieldsText version (act.Defer strand) ws rest = IsDashOrN strand ws rest
IsFieldsText version (act.Dispatch strand) ws rest = IsDashOrN strand ws rest
IsFieldsText version (act.Expires timer after) ws rest =
    (a : Words) × IsN timer ws a × IsN after a rest
IsFieldsText version (act.ExpiresAt timer at) ws rest = (a : Words) × IsN timer ws a × IsN at a rest
IsFieldsText version (act.Wait timer strand slot filter) ws rest =
    (a : Words) × IsN timer ws a × IsTail version strand slot filter a rest
IsFieldsText version (act.Cancel timer) ws rest = IsN timer ws rest
IsFieldsText version (act.CancelOne timer) ws rest = IsN timer ws rest
IsFieldsText version (act.Emit slot kinds) ws rest = (a : Words) × IsN slot ws a × IsN kinds a rest
IsFieldsText version (act.ReadSome stream size strand slot filter) ws rest =
    (a : Words) × (b : Words) × IsN stream ws a × IsN size a b
    × IsTail version strand slot filter b rest
IsFieldsText version (act.ReadAll stream size strand slot filter) ws rest =
    (a : Words) × (b : Words) × IsN stream ws a × IsN size a b
    × IsTail version strand slot filter b rest
IsFieldsText version (act.Until stream delimiter max strand slot filter) ws rest =
    (a : Words) × (b : Words) × (c : Words) × IsN stream ws a × IsDataText delimiter a b
    × IsN max b c
    × IsTail version strand slot filter c rest
IsFieldsText version (act.WriteSome stream bytes strand slot filter) ws rest =
    (a : Words) × (b : Words) × IsN stream ws a × IsDataText bytes a b
    × IsTail version strand slot filter b rest
IsFieldsText version (act.WriteAll stream bytes strand slot filter) ws rest =
    (a : Words) × (b : Words) × IsN stream ws a × IsDataText bytes a b
    × IsTail version strand slot filter b rest
IsFieldsText version (act.Close stream) ws rest = IsN stream ws rest
IsFieldsText version (act.Release guard) ws rest = IsN guard ws rest
IsFieldsText version act.Stop ws rest = ws ≡ rest

-- `expiresat` belongs to version 2 alone
abbrev pub BelongsTo : ℕ → Act → Type 0
BelongsTo version (act.ExpiresAt timer at) = IsLater version
BelongsTo version _ = Unit {0}

-- an act, without its bodies
abbrev pub IsActText : ℕ → Act → Words → Words → Type 0
IsActText version made ws rest =
    (a : Words) × BelongsTo version made × IsWord (act_text made) ws a
    × IsFieldsText version made a rest

mutual
  -- body = "{" act* "}", where so many levels are left, this one among them: the acts in it are
  -- appended to those before, and stand in this place
  pub data IsBodyText (version : ℕ)
      : ℕ → Place → List Entry → List Entry → Words → Words → Type 0 where
    in_braces : {levels : ℕ} {place : Place} {before after : List Entry} {ws rest : Words}
        (a b : Words) → IsWord (codes "{") ws a →
        IsActsText version levels place before after a b → IsWord (codes "}") b rest →
        IsBodyText version (suc levels) place before after ws rest

  -- act*
  pub data IsActsText (version : ℕ)
      : ℕ → Place → List Entry → List Entry → Words → Words → Type 0 where
    no_act : {levels : ℕ} {place : Place} {acts : List Entry} {ws : Words} →
        IsActsText version levels place acts acts ws ws
    an_act : {levels : ℕ} {place : Place} {before after : List Entry} {ws rest : Words} (made : Act)
        (with_bodies : List Entry) (a b : Words) → IsActText version made ws a →
        IsBodiesText version levels (bodies_of made) (length before)
        (before ++ record { act = made; parent = place } ∷ []) with_bodies a b →
        IsActsText version levels place with_bodies after b rest →
        IsActsText version levels place before after ws rest

  -- the bodies of an act: none, the one of a posting, or bodies = body ("abort" body)? ("other"
  -- body)?
  pub data IsBodiesText (version : ℕ)
      : ℕ → Bodies → ℕ → List Entry → List Entry → Words → Words → Type 0 where
    no_body : {levels op : ℕ} {acts : List Entry} {ws : Words} →
        IsBodiesText version levels bodies.Nothing op acts acts ws ws
    one_body : {levels op : ℕ} {before after : List Entry} {ws rest : Words} →
        IsBodyText version levels (Some (op, class.Ok)) before after ws rest →
        IsBodiesText version levels bodies.Posting op before after ws rest
    all_bodies : {levels op : ℕ} {before after : List Entry} {ws rest : Words}
        (after_ok after_abort : List Entry) (a b : Words) →
        IsBodyText version levels (Some (op, class.Ok)) before after_ok ws a →
        IsBranchText version levels (codes "abort") (Some (op, class.Abort)) after_ok after_abort a
        b →
        IsBranchText version levels (codes "other") (Some (op, class.Other)) after_abort after b
        rest → IsBodiesText version levels bodies.Operation op before after ws rest

  -- (word body)?
  pub data IsBranchText (version : ℕ)
      : ℕ → List ℕ → Place → List Entry → List Entry → Words → Words → Type 0 where
    left_out : {levels : ℕ} {text : List ℕ} {place : Place} {acts : List Entry} {ws : Words} →
        IsBranchText version levels text place acts acts ws ws
    spelled_out : {levels : ℕ} {text : List ℕ} {place : Place} {before after : List Entry}
        {ws rest : Words} (a : Words) → IsWord text ws a →
        IsBodyText version levels place before after a rest →
        IsBranchText version levels text place before after ws rest

-- decls
abbrev pub IsDeclsText : ScriptModel → Words → Words → Type 0
IsDeclsText script ws rest =
    (a : Words) × (b : Words) × (c : Words) × (d : Words)
    × IsCountText (codes "strands") script.strands ws a
    × IsCountText (codes "timers") script.timers a b × IsCountText (codes "slots") script.slots b c
    × IsCountText (codes "streams") script.world.streams c d
    × IsCountText (codes "guards") script.guards d rest

-- script = "session" N decls line* "open" body round+
pub record IsScriptText (script : ScriptModel) (ws : Words) : Type 0 where
  pub at_version : Words
  pub at_decls : Words
  pub at_lines : Words
  pub at_open : Words
  pub at_body : Words
  pub at_rounds : Words
  pub session : IsWord (codes "session") ws at_version
  pub version : IsN script.version at_version at_decls
  pub decls : IsDeclsText script at_decls at_lines
  pub lines : IsLinesText script.world.lines at_lines at_open
  pub open_word : IsWord (codes "open") at_open at_body
  pub acts : IsBodyText script.version (limits_of script.version).nesting None [] script.acts
      at_body at_rounds
  pub some_round : 1 ≤ length script.rounds
  pub rounds : IsRoundsText script.rounds at_rounds []
