-- The summary of a session that a number makes, computed from its script alone.
use Rattle.std.specs.Prelude.{◌≡◌, ◌≤◌, ℕ, ◌+◌, ◌==◌, nat_lt, max, Bool, false, ◌&&◌, List, [], ◌∷◌, length, count_by, if◌then◌else◌}
use Rattle.std.specs.List.{list_any, flat_map}
use Rattle.asio_types.specs.declared.event.Event.{Event}
use Rattle.asio_types.specs.declared.event.Event.TheVariants as event
use Rattle.session_script.specs.declared.act.Act.{Act}
use Rattle.session_script.specs.declared.act.Act.TheVariants as act
use Rattle.session_script.specs.Script.{Entry, is_operation}
use Rattle.history_rules.specs.FromOutside.{has_fault, has_outside_stop}
use Rattle.history_rules.specs.Legal.{IsLegal}
use Rattle.history_rules.specs.Marks.{HasMarks}
use Rattle.generated_session.specs.declared.tally.Closing.TheVariants as closing
use Rattle.generated_session.specs.Generator.{acts_from, generated, most_size}
use Rattle.generated_session.specs.Summary.{SummaryTally, lines_of, summary_of, text_of_line}

-- the act sets the expiry of this timer (Asio reference, steady_timer::expires_after)
abbrev pub is_expiry_of : ℕ → Act → Bool
is_expiry_of timer (act.Expires other after) = timer == other
is_expiry_of timer _ = false

-- one of these acts sets it
abbrev pub is_set_again : ℕ → List Entry → Bool
is_set_again timer later = list_any (λ entry. is_expiry_of timer entry.act) later

-- The wait that stands just after an expiry is cancelled where a later act sets its timer again,
-- unless it expires at once: then it has completed before.
abbrev pub is_cut_off : ℕ → ℕ → List Entry → Bool
is_cut_off timer after later = nat_lt 0 after && is_set_again timer later

-- how many of the waits of this act the later ones cancel
abbrev pub cut_off_by : Act → List Entry → ℕ
cut_off_by (act.Expires timer after) later = if is_cut_off timer after later then 1 else 0
cut_off_by _ later = 0

-- the time to which its wait moves the session, if it isn't cancelled
abbrev pub lasting_by : Act → List Entry → ℕ
lasting_by (act.Expires timer after) later = if is_cut_off timer after later then 0 else after
lasting_by _ later = 0

-- how many waits of these acts are cancelled
abbrev pub plain_aborted : List Entry → ℕ
plain_aborted [] = 0
plain_aborted (entry ∷ later) = cut_off_by entry.act later + plain_aborted later

-- the time of the last wait of these acts that isn't cancelled, or 0
abbrev pub plain_time : List Entry → ℕ
plain_time [] = 0
plain_time (entry ∷ later) = max (lasting_by entry.act later) (plain_time later)

-- the sum of the run marks of the operations, the first of these acts being number n
abbrev pub plain_marks : (ℕ → ℕ) → ℕ → List Entry → ℕ
plain_marks run n [] = 0
plain_marks run n (entry ∷ later) =
    (if is_operation entry.act then run n else 0) + plain_marks run (n + 1) later

-- what a summary says of a session with these acts: each is called and each operation executed
abbrev pub plain_tally : (ℕ → ℕ) → List Entry → SummaryTally
plain_tally run acts = record {
  acts = length acts;
  executed = count_by (λ entry. is_operation entry.act) acts;
  dropped = 0;
  aborted = plain_aborted acts;
  marks = plain_marks run 0 acts;
  time = plain_time acts;
  fault = false;
  closing = closing.Ended;
}

-- the eight lines
abbrev pub plain_summary : ℕ → ℕ → (ℕ → ℕ) → List ℕ
plain_summary start size run =
    flat_map text_of_line (lines_of start size (plain_tally run (acts_from size 0 start)))

-- The script alone tells the summary of each legal history in which the reactor doesn't fail and
-- nothing else stops the context.
abbrev pub SummariesArePlain : Type 0
SummariesArePlain =
    (start size : ℕ) → size ≤ most_size → (told : Bool) (events : List Event) →
    IsLegal (generated start size) told events →
    has_fault events ≡ false → has_outside_stop events ≡ false →
    (run drop : ℕ → ℕ) → HasMarks run drop events →
    summary_of start size events ≡ plain_summary start size run
