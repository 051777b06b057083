-- Tasks that are handed, in their order, what is found of a context at rest.
use Rattle.std.proofs.Common.{◌≡◌, ◌≢◌, ◌∙◌, ◌⊎◌, ℕ, ◌+◌, ◌<◌, ◌≤◌, List, [], ◌∷◌, ◌++◌, Option, Some, ap, arith, ⊎_elim, length, length-append, map, refl, set, subst, sym}
use Rattle.std.specs.Prelude.{slice_get}
use Rattle.std.proofs.Math.ListN.{length-set}
use Rattle.session_script.specs.Script.{ScriptModel}
use Rattle.lane_turns.specs.AtRest.{RestView}
use Rattle.lane_turns.specs.Rooms.{EachAt}
use Rattle.lane_turns.proofs.AllWorkersLemmas.{images_size, source_of}
use Rattle.lane_turns.proofs.AttendingLemmas.{at_or_before, get_set_other, get_set_same}
use Rattle.lane_turns.proofs.BenchLemmas.{same_one}
use Rattle.lane_turns.proofs.MeetAllLemmas.{below_size}
use Rattle.lane_turns.proofs.NewPenLemmas.{each_none, each_pushed}
use Rattle.op_future.specs.declared.task_end.TaskEnd.{TaskEnd}
use Rattle.op_future.specs.Gathering.{AreGathered, EndsAtRest, HasGotAtRest, RestsOn}
use Rattle.op_future.specs.Tasks.{TaskState}
use Rattle.op_future.proofs.RestLemmas.{ends_still, got_still}

module _ {A : Type 0} (state : A → TaskState) (script : ScriptModel) where
  -- how the task of a number ends, as far as it was handed something
  abbrev pub EndsAs : RestView → List A → ℕ → Option TaskEnd → Type 0
  EndsAs rest now k end = (task : A) → slice_get now k ≡ Some task → EndsAtRest script rest end (state task)

  -- the first of the tasks were handed what is found
  pub record AreGatheredTo (n : ℕ) (rest : RestView) (tasks now : List A) (ends : List (Option TaskEnd))
      : Type 0 where
    pub size : length now ≡ length tasks
    pub count : length ends ≡ n
    pub got : (k : ℕ) (old new : A) → k < n → slice_get tasks k ≡ Some old → slice_get now k ≡ Some new →
        HasGotAtRest script rest (state old) (state new)
    pub ended : EachAt (EndsAs rest now) ends
    pub others : (k : ℕ) → n ≤ k → slice_get now k ≡ slice_get tasks k

  pub none_gathered : (rest : RestView) (tasks : List A) (ends : List (Option TaskEnd)) → ends ≡ [] →
      AreGatheredTo 0 rest tasks tasks ends
  none_gathered rest tasks ends none =
      record {
        size = refl;
        count = ap length none;
        got = λ k old new less was is. absurd (omega (arith, less));
        ended = each_none (EndsAs rest tasks) ends none;
        others = λ k past. refl;
      }

  module _ (a b : RestView) (tasks now : List A) (ends longer : List (Option TaskEnd)) (i : ℕ) (one next : A)
      (end : Option TaskEnd) (at : slice_get now i ≡ Some one) (on : RestsOn script a b)
      (got_now : HasGotAtRest script b (state one) (state next)) (ends_now : EndsAtRest script b end (state next))
      (pushed : longer ≡ ends ++ end ∷ []) (before : AreGatheredTo i a tasks now ends) where
    got_next : (k : ℕ) (old new : A) → k < i + 1 → slice_get tasks k ≡ Some old → slice_get (set now i next) k ≡ Some new →
        HasGotAtRest script b (state old) (state new)
    got_next k old new less was is =
        ⊎_elim
        (λ (sooner : k < i).
        let apart : k ≢ i = λ same. absurd (omega (arith, same, sooner)) in
        got_still script a b (state old) (state new) on
        (before.got k old new sooner was (sym (get_set_other now i k next apart) ∙ is)))
        (λ (here : k ≡ i).
        let stood : slice_get now k ≡ Some old = before.others k (omega (arith, here)) ∙ was in
        let is_one : one ≡ old = same_one now i k one old at here stood in
        let is_next : next ≡ new =
        same_one (set now i next) i k next new (get_set_same now i one next at) here is in
        subst (λ t. HasGotAtRest script b (state t) (state new)) is_one
        (subst (λ t. HasGotAtRest script b (state one) (state t)) is_next got_now))
        (at_or_before k i less)

    ends_next : EachAt (EndsAs b (set now i next)) longer
    ends_next =
        each_pushed (EndsAs b (set now i next)) ends longer end pushed
        (λ k was there task is.
        let less : k < i = let within = below_size ends k was there in omega (arith, within, before.count) in
        let apart : k ≢ i = λ same. absurd (omega (arith, same, less)) in
        ends_still script a b was (state task) on
        (before.ended k was there task (sym (get_set_other now i k next apart) ∙ is)))
        (λ task is.
        let is_next : next ≡ task =
        same_one (set now i next) i (length ends) next task (get_set_same now i one next at) before.count is in
        subst (λ t. EndsAtRest script b end (state t)) is_next ends_now)

    pub more_gathered : AreGatheredTo (i + 1) b tasks (set now i next) longer
    more_gathered =
        record {
          size = length-set now i next ∙ before.size;
          count = ap length pushed ∙ length-append ends (end ∷ []) ∙ ap (λ n. n + 1) before.count;
          got = got_next;
          ended = ends_next;
          others =
              λ k past.
              let apart : k ≢ i = λ same. absurd (omega (arith, same, past)) in
              get_set_other now i k next apart ∙ before.others k (omega (arith, past));
        }

  -- all were
  pub all_gathered : (rest : RestView) (tasks now : List A) (ends : List (Option TaskEnd)) (count : ℕ) →
      count ≡ length tasks → AreGatheredTo count rest tasks now ends →
      AreGathered script rest (map state tasks) (map state now) ends
  all_gathered rest tasks now ends count whole gathered =
      record {
        size = images_size state now ∙ gathered.size ∙ sym (images_size state tasks);
        count = gathered.count ∙ whole ∙ sym (images_size state tasks);
        got =
            λ k old new was is.
            let from = source_of state tasks k old was in
            let to = source_of state now k new is in
            let less = below_size tasks k from.source from.at in
            subst (λ t. HasGotAtRest script rest t new) from.is
            (subst (λ t. HasGotAtRest script rest (state from.source) t) to.is
            (gathered.got k from.source to.source (omega (arith, less, whole)) from.at to.at));
        ended =
            λ k end task at is.
            let to = source_of state now k task is in
            subst (λ t. EndsAtRest script rest end t) to.is (gathered.ended k end at to.source to.at);
      }
