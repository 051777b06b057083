-- Receipts that a task is handed one after another.
use Rattle.std.proofs.Common.{◌≡◌, ◌+◌, List, [], ◌∷◌, ◌++◌, sym, ap, ◌∙◌, arith, length-append}
use Rattle.std.proofs.lemmas.List.{append-nil, append_assoc}
use Rattle.session_script.specs.Script.{ScriptModel}
use Rattle.lane_clock.specs.declared.step.ClockStep.{ClockStep}
use Rattle.lane_clock.specs.Knowledge.{StartOf}
use Rattle.lane_logs.specs.declared.receipt.Receipt.{Receipt}
use Rattle.lane_logs.specs.Receipts.{IsReceiptOf}
use Rattle.lane_turns.proofs.ReceiptLemmas.{receipt_stays}
use Rattle.op_future.specs.Steps.{AreReceiptsOf, HasGotFrom}
use Rattle.op_future.specs.Tasks.{HasGotThese, TaskState}

pub these_none : (task : TaskState) → HasGotThese [] task task
these_none task = record { receipts = sym (append-nil task.receipts); left = omega arith }

pub these_on : (xs ys : List Receipt) (a b c : TaskState) → HasGotThese xs a b → HasGotThese ys b c →
    HasGotThese (xs ++ ys) a c
these_on xs ys a b c first second =
    record {
      receipts =
          second.receipts ∙ ap (λ receipts. receipts ++ ys) first.receipts ∙ append_assoc a.receipts xs ys;
      left = let size = length-append xs ys in omega (arith, size, first.left, second.left);
    }

module _ (script : ScriptModel) where
  receipts_stay : (steps longer : List ClockStep) (receipts : List Receipt) → StartOf steps longer →
      AreReceiptsOf script steps receipts → AreReceiptsOf script longer receipts
  receipts_stay steps longer [] more are = tt
  receipts_stay steps longer (receipt ∷ receipts) more are =
      (receipt_stays script steps longer receipt more are.0, receipts_stay steps longer receipts more are.1)

  receipts_append : (steps : List ClockStep) (xs ys : List Receipt) → AreReceiptsOf script steps xs →
      AreReceiptsOf script steps ys → AreReceiptsOf script steps (xs ++ ys)
  receipts_append steps [] ys first second = second
  receipts_append steps (x ∷ xs) ys first second = (first.0, receipts_append steps xs ys first.1 second)

  pub from_none : (steps : List ClockStep) (task : TaskState) → HasGotFrom script steps task task
  from_none steps task = record { more = []; these = these_none task; found = tt }

  pub from_one : (steps : List ClockStep) (before after : TaskState) (receipt : Receipt) →
      IsReceiptOf script steps receipt → after.receipts ≡ before.receipts ++ receipt ∷ [] →
      after.left + 1 ≡ before.left → HasGotFrom script steps before after
  from_one steps before after receipt is receipts left =
      record { more = receipt ∷ []; these = record { receipts = receipts; left = left }; found = (is, tt) }

  -- who made more steps found them too
  pub from_more : (steps longer : List ClockStep) (old new : TaskState) → StartOf steps longer →
      HasGotFrom script steps old new → HasGotFrom script longer old new
  from_more steps longer old new more got =
      record {
        more = got.more;
        these = got.these;
        found = receipts_stay steps longer got.more more got.found;
      }

  pub from_on : (steps longer : List ClockStep) (a b c : TaskState) → StartOf steps longer →
      HasGotFrom script steps a b → HasGotFrom script longer b c → HasGotFrom script longer a c
  from_on steps longer a b c more first second =
      record {
        more = first.more ++ second.more;
        these = these_on first.more second.more a b c first.these second.these;
        found =
            receipts_append longer first.more second.more (receipts_stay steps longer first.more more first.found)
            second.found;
      }
