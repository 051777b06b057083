-- What tasks got in a session holds in its history.
use Rattle.std.proofs.Common.{◌≡◌, ℕ, zero, suc, ◌<◌, List, [], ◌∷◌, ◌++◌, Option, Some, None, ⊎_elim, length, sym, ap, subst, ◌∙◌, arith}
use Rattle.std.specs.Prelude.{Contains, drop, slice_get}
use Rattle.std.proofs.Math.Seq.{drop-append_seam}
use Rattle.std.proofs.lemmas.Option.{slice_get_cases}
use Rattle.asio_types.specs.declared.event.Event.{Event}
use Rattle.session_script.specs.Script.{ScriptModel}
use Rattle.lane_clock.specs.declared.step.ClockStep.{ClockStep}
use Rattle.lane_clock.specs.Knowledge.{StartOf}
use Rattle.lane_logs.specs.declared.receipt.Receipt.{Receipt}
use Rattle.lane_logs.specs.Logs.{LogsView}
use Rattle.lane_logs.specs.Receipts.{IsReceiptOf}
use Rattle.lane_turns.proofs.ReceiptLemmas.{receipt_stays}
use Rattle.history_merge.specs.Receipts.{ReceiptsHold}
use Rattle.op_future.specs.Sessions.{HaveGot}
use Rattle.op_future.specs.Steps.{AreReceiptsOf, HasGotFrom}
use Rattle.op_future.specs.Tasks.{HasGotThese, TaskState}
use Rattle.op_future.proofs.GotLemmas.{these_on}

module _ (script : ScriptModel) (logs : LogsView) where
  -- somebody found it
  pub record IsFound (receipt : Receipt) : Type 0 where
    pub by : ℕ
    pub is : IsReceiptOf script (logs.lists by) receipt

  abbrev pub AreFound : List Receipt → Type 0
  AreFound [] = Unit {0}
  AreFound (receipt ∷ receipts) = IsFound receipt × AreFound receipts

  found_append : (xs ys : List Receipt) → AreFound xs → AreFound ys → AreFound (xs ++ ys)
  found_append [] ys first second = second
  found_append (x ∷ xs) ys first second = (first.0, found_append xs ys first.1 second)

  found_among : (receipts : List Receipt) (one : Receipt) → AreFound receipts → Contains receipts one → IsFound one
  found_among [] one are (k, less, is) = absurd (omega (arith, less))
  found_among (receipt ∷ receipts) one are (zero, less, is) = subst IsFound is are.0
  found_among (receipt ∷ receipts) one are (suc k, less, is) =
      found_among receipts one are.1 (k, omega (arith, less), is)

  -- a task got receipts that somebody found
  pub record HasGotFound (old new : TaskState) : Type 0 where
    pub more : List Receipt
    pub these : HasGotThese more old new
    pub found : AreFound more

  pub got_found : (n : ℕ) (steps : List ClockStep) (old new : TaskState) → StartOf steps (logs.lists n) →
      HasGotFrom script steps old new → HasGotFound old new
  got_found n steps old new start got =
      record { more = got.more; these = got.these; found = each got.more got.found }
    where
      each : (receipts : List Receipt) → AreReceiptsOf script steps receipts → AreFound receipts
      each [] are = tt
      each (receipt ∷ receipts) are =
          (record { by = n; is = receipt_stays script steps (logs.lists n) receipt start are.0 }, each receipts are.1)

  pub found_on : (a b c : TaskState) → HasGotFound a b → HasGotFound b c → HasGotFound a c
  found_on a b c first second =
      record {
        more = first.more ++ second.more;
        these = these_on first.more second.more a b c first.these second.these;
        found = found_append first.more second.more first.found second.found;
      }

  -- what a task got, by what it had at first and has at last
  abbrev pub got_between : Option TaskState → Option TaskState → List Receipt
  got_between (Some old) (Some new) = drop (length old.receipts) new.receipts
  got_between (Some old) None = []
  got_between None new = []

  between_is : (old new : TaskState) (got : HasGotFound old new) → got_between (Some old) (Some new) ≡ got.more
  between_is old new got =
      ap (drop (length old.receipts)) got.these.receipts ∙ drop-append_seam old.receipts got.more

  module _ (events : List Event) (olds news : List TaskState) (size : length news ≡ length olds)
      (each : (k : ℕ) (old new : TaskState) → slice_get olds k ≡ Some old → slice_get news k ≡ Some new →
      HasGotFound old new) (holds : ReceiptsHold script logs events) where
    abbrev pub more_of : ℕ → List Receipt
    more_of k = got_between (slice_get olds k) (slice_get news k)

    more_is : (k : ℕ) (old new : TaskState) (was : slice_get olds k ≡ Some old) (is : slice_get news k ≡ Some new) →
        more_of k ≡ (each k old new was is).more
    more_is k old new was is =
        ap (λ o. got_between o (slice_get news k)) was ∙ ap (λ o. got_between (Some old) o) is
        ∙ between_is old new (each k old new was is)

    found_by : (k : ℕ) (receipt : Receipt) → k < length olds → Contains (more_of k) receipt → IsFound receipt
    found_by k receipt less among =
        ⊎_elim
        (λ was.
        ⊎_elim
        (λ is.
        let got = each k was.0 is.0 was.2 is.2 in
        found_among got.more receipt got.found
        (subst (λ receipts. Contains receipts receipt) (more_is k was.0 is.0 was.2 is.2) among))
        (λ past. absurd (omega (arith, past.0, size, less)))
        (slice_get_cases news k).1)
        (λ past. absurd (omega (arith, past.0, less)))
        (slice_get_cases olds k).1

    pub have_got : HaveGot script events olds news
    have_got =
        record {
          size = size;
          more = more_of;
          each =
              λ k old new was is.
              subst (λ receipts. HasGotThese receipts old new) (sym (more_is k old new was is))
              (each k old new was is).these;
          hold =
              λ k receipt less among.
              let found = found_by k receipt less among in holds.hold found.by receipt found.is;
          order =
              λ k j one other less below among with_it lane.
              let first = found_by k one less among in
              let second = found_by j other below with_it in
              record {
                apart = holds.apart first.by second.by one other first.is second.is lane;
                order = holds.order first.by second.by one other first.is second.is lane;
              };
        }
