-- What the last ends of all workers say, and what stays where only the last of them ran.
use Rattle.std.proofs.Common.{◌≡◌, ◌≢◌, ◌⊎◌, inl, inr, ⊎_elim, ℕ, ◌+◌, ◌-◌, ◌<◌, ◌≤◌, true, false, List, Option, Some, None, length, set, refl, sym, ap, subst, ◌∙◌, arith}
use Rattle.std.specs.Prelude.{IfSome, is_some, map, slice_get}
use Rattle.std.proofs.Math.ListN.{length-set}
use Rattle.std.proofs.lemmas.Bool.{cases_lt}
use Rattle.std.proofs.lemmas.Option.{slice_get_cases}
use Rattle.lane_turns.specs.declared.run_end.RunEnd.{RunEnd}
use Rattle.lane_turns.specs.declared.run_end.RunEnd.TheVariants as end
use Rattle.lane_turns.specs.AllWorkers.{NoneFaulted, last_of, log_of}
use Rattle.lane_turns.specs.Attempts.{WorkerState}
use Rattle.lane_turns.specs.Besides.{Besides, besides_of, rests_of}
use Rattle.lane_turns.specs.Gathering.{NoneKeeps, unseated}
use Rattle.lane_turns.specs.KnownFaults.{has_faulted}
use Rattle.lane_turns.specs.LaneValues.{Terms, Tries}
use Rattle.lane_turns.specs.OwnRuns.{LastIsNow}
use Rattle.lane_context.specs.RoundEnds.{FaultCame, OneFaulted, OtherLastsStay, OwnRanLast}
use Rattle.lane_turns.proofs.AllWorkersLemmas.{none_kept, parts_stay, same_images, same_source, source_of}
use Rattle.lane_turns.proofs.AttendingLemmas.{at_or_before, get_set_other, get_set_same}
use Rattle.lane_turns.proofs.BenchLemmas.{same_one}
use Rattle.lane_turns.proofs.MeetAllLemmas.{below_size}

-- whether a last end is a fault
pub faulted_is : (o : Option RunEnd) → has_faulted o ≡ true → o ≡ Some end.Fault
faulted_is None is = absurd (cc is)
faulted_is (Some end.Ended) is = absurd (cc is)
faulted_is (Some end.Stopped) is = absurd (cc is)
faulted_is (Some end.Idle) is = absurd (cc is)
faulted_is (Some end.Fault) is = refl

pub faulted_not : (o : Option RunEnd) → has_faulted o ≡ false → o ≢ Some end.Fault
faulted_not o isnt is = absurd (let so = ap has_faulted is in cc (so, isnt))

-- none of the first workers met a fault
abbrev pub NoneFaultedBelow : {H X : Type 0} → List (WorkerState H X) → ℕ → Type 0
NoneFaultedBelow {H} {X} all count =
    (k : ℕ) (one : WorkerState H X) → k < count → slice_get all k ≡ Some one → one.last ≢ Some end.Fault

module _ {H X : Type 0} (all : List (WorkerState H X)) where
  pub no_faulted_below : NoneFaultedBelow all 0
  no_faulted_below k one less at = absurd (omega (arith, less))

  pub more_none_faulted : (i : ℕ) (one : WorkerState H X) → slice_get all i ≡ Some one → has_faulted one.last ≡ false →
      NoneFaultedBelow all i → NoneFaultedBelow all (i + 1)
  more_none_faulted i one at works none k other less is =
      ⊎_elim (λ (before : k < i). none k other before is)
      (λ (here : k ≡ i).
      subst (λ (w : WorkerState H X). w.last ≢ Some end.Fault) (same_one all i k one other at here is)
      (faulted_not one.last works))
      (at_or_before k i less)

  pub none_faulted_of : (count : ℕ) → NoneFaultedBelow all count → length all ≤ count → NoneFaulted all
  none_faulted_of count none past k one at =
      none k one (let less = below_size all k one at in omega (arith, less, past)) at

-- where all but the last stay
module _ {H X : Type 0} where
  pub last_set : (all : List (WorkerState H X)) (i : ℕ) (old new : WorkerState H X) → i ≡ length all - 1 →
      slice_get all i ≡ Some old → LastIsNow all (set all i new) old new
  last_set all i old new here at =
      record {
        size = length-set all i new;
        was = subst (λ k. slice_get all k ≡ Some old) here at;
        is = subst (λ k. slice_get (set all i new) k ≡ Some new) here (get_set_same all i old new at);
        others =
            λ k below.
            get_set_other all i k new (λ same. absurd (omega (arith, same, below, here)));
      }

  pub last_same : (all : List (WorkerState H X)) (one : WorkerState H X) → slice_get all (length all - 1) ≡ Some one →
      LastIsNow all all one one
  last_same all one at = record { size = refl; was = at; is = at; others = λ k below. refl }

  pub last_and_last : (a b c : List (WorkerState H X)) (one two three four : WorkerState H X) → LastIsNow a b one two →
      LastIsNow b c three four → (LastIsNow a c one four) × (two ≡ three)
  last_and_last a b c one two three four first second =
      let size : length b - 1 ≡ length a - 1 = ap (λ n. n - 1) first.size in (
        record {
          size = second.size ∙ first.size;
          was = first.was;
          is = subst (λ k. slice_get c k ≡ Some four) size second.is;
          others =
              λ k below.
              second.others k (let same = first.size in omega (arith, below, same)) ∙ first.others k below;
        },
        same_one b (length a - 1) (length b - 1) two three first.is size second.was,
      )

  -- its log stays too
  pub last_logs : (olds news : List (WorkerState H X)) (one two : WorkerState H X) → LastIsNow olds news one two →
      log_of two ≡ log_of one → map log_of news ≡ map log_of olds
  last_logs olds news one two only same =
      same_images log_of olds news only.size
      (λ k old new was is.
      ⊎_elim
      (λ (below : k + 1 < length olds).
      ap log_of (same_one news k k new old is refl (only.others k below ∙ was)))
      (λ (past : length olds ≤ k + 1).
      let less = below_size olds k old was in
      let here : length olds - 1 ≡ k = omega (arith, past, less) in
      let now : two ≡ new = same_one news (length olds - 1) k two new only.is (sym here) is in
      let before : one ≡ old = same_one olds (length olds - 1) k one old only.was (sym here) was in
      sym (ap log_of now) ∙ same ∙ ap log_of before)
      (cases_lt (k + 1) (length olds)))

  pub there_is_last : (all : List (WorkerState H X)) → 0 < length all →
      (one : WorkerState H X) × (slice_get all (length all - 1) ≡ Some one)
  there_is_last all some =
      ⊎_elim (λ there. (there.0, there.2)) (λ past. absurd (omega (arith, past.0, some)))
      (slice_get_cases all (length all - 1)).1

  -- what the last ends alone say
  module _ (xs ys : List (WorkerState H X)) (same : map last_of ys ≡ map last_of xs) where
    pub none_faulted_still : NoneFaulted xs → NoneFaulted ys
    none_faulted_still none k one at faulted =
        let from = same_source last_of xs ys k one same at in
        none k from.source from.at (from.is ∙ faulted)

    pub one_faulted_still : OneFaulted xs → OneFaulted ys
    one_faulted_still one =
        let to = same_source last_of ys xs one.index one.worker (sym same) one.at in
        record { index = one.index; worker = to.source; at = to.at; last = to.is ∙ one.last }

    pub came_still : (t : Terms H X) → FaultCame t xs → FaultCame t ys
    came_still t (inl one) = inl (one_faulted_still one)
    came_still t (inr had) = inr had

    pub others_still : (before : List (WorkerState H X)) → OtherLastsStay before xs → OtherLastsStay before ys
    others_still before others k old new below was is =
        let from = same_source last_of xs ys k new same is in
        sym from.is ∙ others k old from.source below was from.at

    pub ran_still : (t : Tries H X) (lanes : ℕ) (now : RunEnd) (before : List (WorkerState H X)) →
        OwnRanLast t lanes now before xs → OwnRanLast t lanes now before ys
    ran_still t lanes now before ran =
        let to = same_source last_of ys xs (length before - 1) ran.after (sym same) ran.is in
        record {
          before = ran.before;
          after = to.source;
          was = ran.was;
          is = to.at;
          from = ran.from;
          ran = ran.ran;
          since = ran.since;
          run = ran.run;
          last = to.is ∙ ran.last;
        }

  -- and what nothing but the seat at the table changes
  pub lasts_of_rests : (xs ys : List (WorkerState H X)) → rests_of besides_of ys ≡ rests_of besides_of xs →
      map last_of ys ≡ map last_of xs
  lasts_of_rests = parts_stay (λ (b : Besides). b.last)

  pub logs_of_rests : (xs ys : List (WorkerState H X)) → rests_of besides_of ys ≡ rests_of besides_of xs →
      map log_of ys ≡ map log_of xs
  logs_of_rests = parts_stay (λ (b : Besides). b.log)

  pub keep_none_still : (xs ys : List (WorkerState H X)) → rests_of besides_of ys ≡ rests_of besides_of xs →
      ((k : ℕ) → IfSome (slice_get xs k) (λ one. one.kept ≡ None)) → (k : ℕ) →
      IfSome (slice_get ys k) (λ one. one.kept ≡ None)
  keep_none_still xs ys same free k = by_case (slice_get ys k) refl
    where
      kept_none : (one : WorkerState H X) → slice_get ys k ≡ Some one → one.kept ≡ None
      kept_none one at =
          let from = same_source besides_of xs ys k one same at in
          let none : from.source.kept ≡ None =
          subst (λ o. IfSome o (λ w. w.kept ≡ None)) from.at (free k) in
          none_kept one.kept
          (sym (ap (λ (b : Besides). b.keeps) from.is) ∙ ap is_some none)

      by_case : (o : Option (WorkerState H X)) → slice_get ys k ≡ o → IfSome o (λ one. one.kept ≡ None)
      by_case None at = tt
      by_case (Some one) at = kept_none one at

-- whose seats were gathered keep no lane
pub gathered_free : {H X : Type 0} (all now : List (WorkerState H X)) → now ≡ map unseated all → NoneKeeps now
gathered_free all now same k =
    subst (λ ws. IfSome (slice_get ws k) (λ one. one.kept ≡ None)) (sym same) (by_case (slice_get (map unseated all) k) refl)
  where
    by_case : (o : Option (WorkerState _ _)) → slice_get (map unseated all) k ≡ o →
        IfSome (slice_get (map unseated all) k) (λ one. one.kept ≡ None)
    by_case None at = subst (λ o. IfSome o (λ one. one.kept ≡ None)) (sym at) tt
    by_case (Some one) at =
        let from = source_of unseated all k one at in
        subst (λ o. IfSome o (λ one. one.kept ≡ None)) (sym at)
        (sym (ap (λ (w : WorkerState _ _). w.kept) from.is))
