-- Where the fault of a script or a trace stands in its file.
use Rattle.std.specs.Prelude.{◌≡◌, ◌≢◌, ◌<◌, ◌≤◌, ◌+◌, ◌==◌, ◌⊎◌, ℕ, false, List, length, take, slice_index, if◌then◌else◌, Option, IfSome}
use Rattle.session_script.specs.declared.refusal.Refusal.{Refusal}
use Rattle.session_script.specs.declared.refusal.Rule.{Rule}
use Rattle.session_script.specs.declared.refusal.Rule.TheVariants as rule
use Rattle.text_places.specs.Column.{IsColumn}
use Rattle.text_places.specs.Lines.{IsLineAt, line_feeds}
use Rattle.text_places.specs.Tokens.{IsTokenAt, tokens_begun}
use Rattle.fault_reports.specs.declared.fault.Place.{Place}

-- the line of the file, whose script has these comments at its head; 0 where the whole file is meant
abbrev pub fault_line : Refusal → List ℕ → ℕ
fault_line refusal head = if refusal.line == 0 then 0 else refusal.line + line_feeds head

-- the token with this number begins here, or it is missing at the end of the text
abbrev pub IsTokenPlace : List ℕ → ℕ → ℕ → Type 0
IsTokenPlace script number at =
    IsTokenAt script number at ⊎ ((at ≡ length script) × (0 < number → tokens_begun false script < number))

-- where a script is refused by a rule: at the token, or, by the rule on its text, within it
abbrev pub IsPlaceBy : Rule → List ℕ → ℕ → ℕ → Type 0
IsPlaceBy rule.NotText script token at = at < length script
IsPlaceBy other script token at = IsTokenPlace script token at

abbrev pub IsFaultPlace : List ℕ → Refusal → ℕ → Type 0
IsFaultPlace script refusal at = IsPlaceBy refusal.rule script refusal.token at

-- the place in a file, behind so many bytes, of what is so in the part behind them; with its column
abbrev pub IsFileSpot : List ℕ → ℕ → (ℕ → Type 0) → Place → Type 0
IsFileSpot file before Is place =
    (at : ℕ) × Is at × (place.at ≡ before + at) × IsColumn file place.at place.column

-- the line of the file in which a line of a trace stands that begins behind so many bytes
abbrev pub trace_fault_line : ℕ → List ℕ → ℕ → ℕ
trace_fault_line line file before = line + line_feeds (take before file)

-- a place is on the line that begins there: no line feed stands between
abbrev pub IsInLine : List ℕ → ℕ → ℕ → Type 0
IsInLine text begin at =
    (begin ≤ at) × (at ≤ length text) × ((k : ℕ) → begin ≤ k → k < at → slice_index text k ≢ 10)

-- a place is on the line with this number, from 1
abbrev pub IsOnLine : List ℕ → ℕ → ℕ → Type 0
IsOnLine text line at = (begin : ℕ) × IsLineAt text line begin × IsInLine text begin at

-- the place, if there is one, in the file of a trace that stands there behind so many bytes, on a line of it
abbrev pub IsTraceSpot : List ℕ → ℕ → List ℕ → ℕ → Option Place → Type 0
IsTraceSpot file before text line place =
    before + length text ≤ length file → IfSome place (IsFileSpot file before (IsOnLine text line))
