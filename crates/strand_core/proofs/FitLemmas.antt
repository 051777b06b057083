-- The events of an execution are within what the handlers show that begin in it.
use Rattle.std.proofs.Common.{◌≡◌, ℕ, ◌+◌, ◌≤◌, Bool, true, false, cond, List, [], ◌∷◌, ◌++◌, Some, length, refl, ap, ◌∙◌, arith, append-nil}
use Rattle.std.specs.Prelude.{if◌then◌else◌}
use Rattle.std.specs.List.{sum_by}
use Rattle.std.proofs.lemmas.List.Sums.{sum_by-append, sum_by-cons}
use Rattle.asio_types.specs.Code.{class_of_code}
use Rattle.asio_types.specs.declared.code.Class.{Class}
use Rattle.asio_types.specs.declared.code.Class.TheVariants as class
use Rattle.asio_types.specs.declared.code.Code.{Code}
use Rattle.asio_types.specs.declared.code.Code.TheVariants as code
use Rattle.asio_types.specs.declared.event.Event.TheVariants as event
use Rattle.op_handlers.specs.declared.call.Call.{Call}
use Rattle.session_script.specs.Script.{ScriptModel, branch_of, stops}
use Rattle.strand_core.specs.Execution.{AnyMark, AreCalls, IsWholeExecution, no_act, outside, inside, events_of, execution_of}
use Rattle.strand_core.specs.Room.{begun_in, shown_by_handler, shown_in}
use Rattle.strand_core.specs.declared.posted.Posted.{Posted}
use Rattle.strand_core.specs.declared.posted.Posted.TheVariants as posted

either_long : {X : Type 0} (b : Bool) (first second : X) (rest : List X) →
    length (cond b (first ∷ second ∷ rest) (first ∷ rest)) ≡ 1 + (if b then 1 else 0) + length rest
either_long true first second rest = omega arith
either_long false first second rest = omega arith

-- the events of calls after calls
pub length_events : (script : ScriptModel) (xs ys : List Posted) →
    length (events_of script (xs ++ ys)) ≡ length (events_of script xs) + length (events_of script ys)
length_events script [] ys = omega arith
length_events script (posted.Begin op code size begun ∷ xs) ys = omega (arith, length_events script xs ys)
length_events script (posted.Call act ∷ xs) ys =
    omega (
      arith,
      length_events script xs ys,
      either_long (stops script act) (event.Call act) (event.Stop (Some act)) (events_of script (xs ++ ys)),
      either_long (stops script act) (event.Call act) (event.Stop (Some act)) (events_of script xs),
    )
length_events script (posted.Back act ∷ xs) ys = omega (arith, length_events script xs ys)
length_events script (posted.End op ran ∷ xs) ys = omega (arith, length_events script xs ys)

begun-append : (xs ys : List Posted) → begun_in (xs ++ ys) ≡ begun_in xs ++ begun_in ys
begun-append [] ys = refl
begun-append (posted.Begin op code size begun ∷ xs) ys = ap (λ rest. op ∷ rest) (begun-append xs ys)
begun-append (posted.Call act ∷ xs) ys = begun-append xs ys
begun-append (posted.Back act ∷ xs) ys = begun-append xs ys
begun-append (posted.End op ran ∷ xs) ys = begun-append xs ys

-- what begins in an execution and in what comes after it
pub begun_around : (op begun mark : ℕ) (given : Code) (size : ℕ) (body calls : List Posted) →
    begun_in (execution_of op given size begun mark body ++ posted.Back op ∷ calls)
    ≡ op ∷ (begun_in body ++ begun_in calls)
begun_around op begun mark given size body calls =
    let end : Posted = posted.End op (record { mark = mark; class = class_of_code given; begun = begun }) in
    ap (λ rest. op ∷ rest)
    (begun-append (body ++ end ∷ []) (posted.Back op ∷ calls)
    ∙ ap (λ first. first ++ begun_in calls) (begun-append body (end ∷ []) ∙ append-nil (begun_in body)))

pub begun_whole : (op begun mark : ℕ) (given : Code) (size : ℕ) (body : List Posted) →
    begun_in (execution_of op given size begun mark body) ≡ op ∷ begun_in body
begun_whole op begun mark given size body =
    let end : Posted = posted.End op (record { mark = mark; class = class_of_code given; begun = begun }) in
    ap (λ rest. op ∷ rest) (begun-append body (end ∷ []) ∙ append-nil (begun_in body))

length_whole : (script : ScriptModel) (op begun mark : ℕ) (given : Code) (size : ℕ) (body : List Posted) →
    length (events_of script (execution_of op given size begun mark body)) ≡ 2 + length (events_of script body)
length_whole script op begun mark given size body =
    let end : Posted = posted.End op (record { mark = mark; class = class_of_code given; begun = begun }) in
    omega (arith, length_events script body (end ∷ []))

-- the acts of one branch are among those of all
branch_shown : (script : ScriptModel) (op : ℕ) (class : Class) →
    2 + shown_in script (branch_of script op class) ≤ shown_by_handler script op
branch_shown script op class.Ok = omega arith
branch_shown script op class.Abort = omega arith
branch_shown script op class.Other = omega arith

module _ (script : ScriptModel) (P : Call → ℕ → Type 0) where
  abbrev shown : ℕ → ℕ
  shown act = 2 + (if stops script act then 1 else 0)

  pub calls_fit : {acts : List ℕ} {calls : List Posted} → AreCalls script P acts calls →
      length (events_of script calls) ≤ shown_in script acts + sum_by (shown_by_handler script) (begun_in calls)
  calls_fit no_act = omega arith
  calls_fit (outside {act} {acts} {calls} isnt more) =
      omega (
        arith,
        calls_fit more,
        sum_by-cons shown act acts,
        either_long (stops script act) (event.Call act) (event.Stop (Some act)) (events_of script (posted.Back act ∷ calls)),
      )
  calls_fit (inside {act} {begun} {mark} {acts} {body} {calls} is marked inner more) =
      let run : List Posted = execution_of act code.Ok 0 begun mark body in
      let begins : sum_by (shown_by_handler script) (begun_in (run ++ posted.Back act ∷ calls))
      ≡ sum_by (shown_by_handler script) (act ∷ (begun_in body ++ begun_in calls)) =
      ap (sum_by (shown_by_handler script)) (begun_around act begun mark code.Ok 0 body calls) in
      omega (
        arith,
        calls_fit inner,
        calls_fit more,
        begins,
        sum_by-cons (shown_by_handler script) act (begun_in body ++ begun_in calls),
        sum_by-append (shown_by_handler script) (begun_in body) (begun_in calls),
        sum_by-cons shown act acts,
        branch_shown script act class.Ok,
        either_long (stops script act) (event.Call act) (event.Stop (Some act))
            (events_of script (run ++ posted.Back act ∷ calls)),
        length_events script run (posted.Back act ∷ calls),
        length_whole script act begun mark code.Ok 0 body,
      )

pub executions_fit : (script : ScriptModel) (op : ℕ) (given : Code) (size : ℕ) (calls : List Posted) →
    IsWholeExecution script AnyMark op given size calls →
    length (events_of script calls) ≤ sum_by (shown_by_handler script) (begun_in calls)
executions_fit script op given size calls whole =
    let begins : sum_by (shown_by_handler script) (begun_in calls)
    ≡ sum_by (shown_by_handler script) (op ∷ begun_in whole.body) =
    ap (λ cs. sum_by (shown_by_handler script) (begun_in cs)) whole.is
    ∙ ap (sum_by (shown_by_handler script)) (begun_whole op whole.begun whole.mark given size whole.body) in
    let long : length (events_of script calls)
    ≡ length (events_of script (execution_of op given size whole.begun whole.mark whole.body)) =
    ap (λ cs. length (events_of script cs)) whole.is in
    omega (
      arith,
      begins,
      long,
      length_whole script op whole.begun whole.mark given size whole.body,
      calls_fit script AnyMark whole.acts,
      sum_by-cons (shown_by_handler script) op (begun_in whole.body),
      branch_shown script op (class_of_code given),
    )
