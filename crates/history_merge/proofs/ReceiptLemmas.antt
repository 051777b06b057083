-- A note that was seen was put behind its completion, or by the call of a posting; so receipts hold in the history, and
-- those of one lane come in the order of their places.
use Rattle.std.proofs.Common.{◌≡◌, ◌≢◌, inl, inr, ℕ, ◌<◌, false, List, Option, Some, length, refl, sym, ap, subst, ◌∙◌, arith}
use Rattle.std.proofs.lemmas.Bool.{cases_lt, eq-eqb}
use mathlib.Core.Option.{some, some-injective}
use lib.ListN.{get_elem?}
use Rattle.atomic_table.proofs.Lists.{at_longer}
use Rattle.asio_types.specs.declared.event.Event.{Event}
use Rattle.asio_types.specs.declared.event.Event.TheVariants as event
use Rattle.session_script.specs.Script.{ScriptModel}
use Rattle.session_script.specs.WellFormed.{IsWellFormed}
use Rattle.history_rules.specs.Kinds.{is_act, is_posting}
use Rattle.lane_clock.specs.declared.found.Change.TheVariants as change
use Rattle.lane_clock.specs.declared.note.Note.{Note}
use Rattle.lane_clock.specs.declared.step.ClockStep.TheVariants.{Draw, Look}
use Rattle.lane_clock.specs.History.{ClockEvent, steps_under}
use Rattle.lane_clock.specs.Rule.{by_draw, StepAt}
use Rattle.lane_clock.proofs.KnownLemmas.{at_within}
use Rattle.lane_clock.proofs.MomentLemmas.{tail_refl}
use Rattle.lane_map.specs.LaneNumbers.{home_lane, reactor_lane}
use Rattle.lane_logs.specs.declared.receipt.Receipt.{Receipt}
use Rattle.lane_logs.specs.Drops.{is_call_of}
use Rattle.lane_logs.specs.Labels.{Labelled, allots, shows, silent, step_of}
use Rattle.lane_logs.specs.Logs.{AreLogs, LogsView}
use Rattle.lane_logs.specs.Names.{SessionNames}
use Rattle.lane_logs.specs.Receipts.{IsReceiptOf, note_of}
use Rattle.lane_logs.specs.SeatNumbers.{lane_count}
use Rattle.history_merge.specs.Merging.{IsMerging}
use Rattle.history_merge.specs.Receipts.{AreOfOneLane, CompletesBefore, HoldsIn, ReceiptsHold, done_of}
use Rattle.history_merge.proofs.AlikeLemmas.{never}
use Rattle.history_merge.proofs.FirstLemmas.{called_before}
use Rattle.history_merge.proofs.HistoryLemmas.{AreLabelled, shown_at, shown_in}
use Rattle.history_merge.proofs.InductionLemmas.{so_at}
use Rattle.history_merge.proofs.LabellingLemmas.{AreLabels, are_labels, labels_under}
use Rattle.history_merge.proofs.MergedLemmas.{merged_is, passes_any}
use Rattle.history_merge.proofs.NoteLemmas.{IsDoneNote, IsNoted, call_note_op, noted_op, seen}
use Rattle.history_merge.proofs.PartLemmas.{label_of_step, step_of_label}
use Rattle.history_merge.proofs.SoLemmas.{IsSo, state_so}
use Rattle.history_merge.proofs.StagedLemmas.{labelled_to, reactor_within, seats}
use Rattle.history_merge.proofs.TimeLemmas.{IsMade, before_by_index, made_of, made_shown, made_there, placed_once, places_rise}

silent_look : (label : Labelled) (lane place : ℕ) (held : Option Note) → step_of label ≡ Look lane place held →
    label ≡ silent (Look lane place held)
silent_look (silent step) lane place held is = ap silent is
silent_look (shows shown changes found) lane place held is = absurd (cc)
silent_look (allots act at where_at) lane place held is = absurd (cc)

module _ (names : SessionNames) (well : IsWellFormed names.script) (logs : LogsView) (labels : ℕ → List Labelled)
    (logged : AreLogs names logs) (are : AreLabels names logs labels) (so : IsSo names logs labels are logged.closed.history)
  where
    abbrev script : ScriptModel
    script = names.script

    abbrev r : ℕ
    r = reactor_lane names.script

    abbrev whole : List ClockEvent
    whole = logged.closed.history

    abbrev all : AreLabelled labels whole
    all = labelled_to names well logs labels logged are whole (tail_refl whole)

    abbrev within : reactor_lane names.script < lane_count names.script
    within = reactor_within names well logs labels logged are

    abbrev Noted : ℕ → ℕ → Note → Type 0
    Noted lane place note = IsNoted names logs labels are within whole lane place note

    -- a look of a list was made
    pub look_made : (n i lane place : ℕ) (held : Option Note) → StepAt logs.lists n i (Look lane place held) →
        IsMade labels whole n (silent (Look lane place held))
    look_made n i lane place held at =
        let found = label_of_step (labels n) i (Look lane place held) (ap (λ xs. get_elem? xs i) (are.steps n) ∙ at) in
        let is = silent_look found.0 lane place held found.2 in
        let less =
        at_within (steps_under n whole) i (Look lane place held)
        (subst (λ xs. get_elem? xs i ≡ some (Look lane place held)) (logged.closed.all n) at) in
        (made_of labels whole all n i (silent (Look lane place held)) (found.1 ∙ ap some is) less).0

    -- the note that it saw was put
    pub note_put : (n i lane place : ℕ) (note : Note) → StepAt logs.lists n i (Look lane place (Some note)) →
        Noted lane place note
    note_put n i lane place note at =
        seen names logs labels are within names.script.guards (seats names well logs labels logged are) whole
        logged.closed.sound all n lane place note (look_made n i lane place (Some note) at)

    abbrev noted : (n : ℕ) (receipt : Receipt) → (is : IsReceiptOf script (logs.lists n) receipt) →
        Noted is.lane receipt.place (note_of receipt)
    noted n receipt is = note_put n is.at is.lane receipt.place (note_of receipt) is.saw

    -- it was on the operation's lane
    on_lane : (n : ℕ) (receipt : Receipt) (is : IsReceiptOf script (logs.lists n) receipt) →
        is.lane ≡ home_lane script receipt.op
    on_lane n receipt is =
        sym (noted_op names logs labels are within well whole all (state_so names logs labels are whole).context so.dates is.lane
        receipt.place (note_of receipt) is.off (noted n receipt is)).home

    -- of an asynchronous operation it was put behind its completion
    done_noted : (n : ℕ) (receipt : Receipt) → IsReceiptOf script (logs.lists n) receipt →
        is_act is_posting script receipt.op ≡ false →
        IsDoneNote names logs labels are within whole (home_lane script receipt.op) receipt.place (note_of receipt)
    done_noted n receipt is unposted =
        subst (λ lane. IsDoneNote names logs labels are within whole lane receipt.place (note_of receipt)) (on_lane n receipt is)
        (by_noted (noted n receipt is))
      where
        by_noted : Noted is.lane receipt.place (note_of receipt) →
            IsDoneNote names logs labels are within whole is.lane receipt.place (note_of receipt)
        by_noted (inl called) =
            absurd (never (is_act is_posting script receipt.op) unposted
            (call_note_op names logs labels are within well whole all is.lane receipt.place (note_of receipt) is.off called).posts)
        by_noted (inr done) = done

    -- what the lists show is in the history
    module _ (events : List Event) (merging : IsMerging logs events) where
      in_history : (i : ℕ) (shown : Event) → get_elem? (shown_in labels whole) i ≡ some shown → get_elem? events i ≡ some shown
      in_history i shown at =
          subst (λ xs. get_elem? xs i ≡ some shown) (sym merging.is)
          (at_longer merging.drawn logs.drops i shown
          (subst (λ xs. get_elem? xs i ≡ some shown) (sym (merged_is names logs labels logged are events merging)) at))

      holds_by : (lane : ℕ) (receipt : Receipt) → lane ≢ reactor_lane script →
          Noted lane receipt.place (note_of receipt) → HoldsIn script events receipt
      holds_by lane receipt off (inl called) =
          let own =
          called_before names well logs labels logged are whole (tail_refl whole) so called.number receipt.op lane receipt.place
          called.away called.placed in
          let shown = so.dates.called receipt.op own.called in
          inr (record {
            posting =
                (call_note_op names logs labels are within well whole all lane receipt.place (note_of receipt) off called).posts;
            code_is = ap (λ (note : Note). note.code) called.called;
            size_is = ap (λ (note : Note). note.size) called.called;
            called =
                passes_any (is_call_of receipt.op) events shown.at (event.Call receipt.op)
                (in_history shown.at (event.Call receipt.op) shown.there) (eq-eqb receipt.op receipt.op refl);
          })
      holds_by lane receipt off (inr done) =
          let shown = made_shown labels whole r (done_of receipt) change.Same done.found done.told in
          inl (record { at = shown.at; there = in_history shown.at (done_of receipt) shown.there })

      -- a completion stands at the position that it drew
      done_at : (lane place : ℕ) (receipt : Receipt) →
          (done : IsDoneNote names logs labels are within whole lane place (note_of receipt)) →
          get_elem? events done.found.clock ≡ some (done_of receipt)
      done_at lane place receipt done =
          in_history done.found.clock (done_of receipt)
          (shown_at labels names.script.guards (seats names well logs labels logged are) logged.closed.few.0 whole
          logged.closed.sound all done.told.e done.told.older done.told.tail (done_of receipt) change.Same done.found done.told.is)

      -- what the reactor told it drew
      draws_done : (lane place : ℕ) (note : Note) (done : IsDoneNote names logs labels are within whole lane place note) →
          StepAt logs.lists r (length (steps_under r done.told.older)) (Draw (event.Done note.op note.code note.size) change.Same done.found)
      draws_done lane place note done =
          let i : ℕ = length (steps_under r done.told.older) in
          ap (λ xs. get_elem? xs i) (sym (are.steps r))
          ∙ step_of_label (labels r) i (shows (event.Done note.op note.code note.size) change.Same done.found)
          (made_there labels whole all r (shows (event.Done note.op note.code note.size) change.Same done.found) done.told)

      module _ (one other : Receipt) (lane : ℕ)
          (first : IsDoneNote names logs labels are within whole lane one.place (note_of one))
          (second : IsDoneNote names logs labels are within whole lane other.place (note_of other))
          (differ : one.op ≢ other.op) where
        not_at_once : one.place ≢ other.place
        not_at_once same =
            differ (placed_once labels lane names.script.guards (seats names well logs labels logged are) whole
            logged.closed.sound all r r one.op other.op other.place
            (subst (λ place. IsMade labels whole r (allots one.op lane place)) same first.placed) second.placed)

        -- places rise in the order in which the reactor got them
        placed_first : one.place < other.place →
            length (steps_under r first.placed.older) < length (steps_under r second.placed.older)
        placed_first less = elim (cases_lt (length (steps_under r first.placed.older)) (length (steps_under r second.placed.older))) [
          | inl before ↦ before
          | inr most ↦ elim (cases_lt (length (steps_under r second.placed.older)) (length (steps_under r first.placed.older))) [
            | inl behind ↦
                absurd (let wrong =
                places_rise labels lane names.script.guards (seats names well logs labels logged are) whole logged.closed.sound
                all r r other.op one.op other.place one.place second.placed first.placed
                (before_by_index labels whole r r (allots other.op lane other.place) (allots one.op lane one.place) second.placed
                first.placed refl behind) in
                omega (arith, less, wrong))
            | inr least ↦
                absurd (let same : length (steps_under r first.placed.older) ≡ length (steps_under r second.placed.older) =
                omega (arith, most, least) in
                let here = made_there labels whole all r (allots one.op lane one.place) first.placed in
                let there = made_there labels whole all r (allots other.op lane other.place) second.placed in
                let is : allots one.op lane one.place ≡ allots other.op lane other.place =
                some-injective (allots one.op lane one.place) (allots other.op lane other.place)
                (sym here ∙ (ap (get_elem? (labels r)) same ∙ there)) in
                let op : one.op ≡ other.op = cc in
                differ op)
          ]
        ]

        completes_before : one.place < other.place → CompletesBefore events one other
        completes_before less =
            let before = placed_first less in
            let next = first.next in
            let then_next = second.next in
            record {
              at = first.found.clock;
              later = second.found.clock;
              before =
                  logged.closed.rule.draws_once.rises r (length (steps_under r first.told.older))
                  (length (steps_under r second.told.older)) change.Same first.found second.found
                  (omega (arith, before, next, then_next)) (done_of one, draws_done lane one.place (note_of one) first) (
                    Draw (done_of other) change.Same second.found,
                    draws_done lane other.place (note_of other) second,
                    by_draw (done_of other) change.Same second.found,
                  );
              there = done_at lane one.place one first;
              then_there = done_at lane other.place other second;
            }

      -- the other's note was put on the lane of the one
      other_noted : (n : ℕ) (one other : Receipt) → IsReceiptOf script (logs.lists n) other → AreOfOneLane script one other →
          IsDoneNote names logs labels are within whole (home_lane script one.op) other.place (note_of other)
      other_noted n one other is both =
          subst (λ lane. IsDoneNote names logs labels are within whole lane other.place (note_of other)) (sym both.lane)
          (done_noted n other is both.other_too)

      pub receipts_of : ReceiptsHold script logs events
      receipts_of =
          record {
            hold = λ n receipt is. holds_by is.lane receipt is.off (noted n receipt is);
            apart = λ m n one other first second both.
                not_at_once one other (home_lane script one.op) (done_noted m one first both.asynchronous)
                (other_noted n one other second both) both.differ;
            order = λ m n one other first second both.
                completes_before one other (home_lane script one.op) (done_noted m one first both.asynchronous)
                (other_noted n one other second both) both.differ;
          }

pub receipts_hold : (names : SessionNames) (logs : LogsView) (events : List Event) → IsWellFormed names.script →
    AreLogs names logs → IsMerging logs events → ReceiptsHold names.script logs events
receipts_hold names logs events well logged merging =
    receipts_of names well logs (labels_under names logs logged) logged (are_labels names logs logged)
    (so_at names well logs logged logged.closed.history (tail_refl logged.closed.history)) events merging
