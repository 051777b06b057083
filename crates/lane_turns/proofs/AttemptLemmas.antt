-- One attempt of a worker at a lane.
use Rattle.std.proofs.Common.{◌≡◌, ◌⊎◌, ℕ, suc, ◌+◌, ◌<◌, ◌≤◌, Bool, true, false, cond, List, [], ◌∷◌, Option, Some, None, inl, inr, refl, sym, ap, subst, ◌∙◌, arith}
use Rattle.std.proofs.lemmas.Bool.{eq-eqb}
use Rattle.std.specs.Prelude.{not, if◌then◌else◌}
use Rattle.op_handlers.specs.Marks.{Marks}
use Rattle.proactor_core.specs.Proactor.{ProactorView}
use Rattle.strand_core.specs.Hands.{Held}
use Rattle.turn_table.specs.Numbers.{without_number}
use Rattle.turn_table.specs.Seated.{IsSeatOf, Lanes, Seated, with_turn, without_turn}
use Rattle.lane_logs.specs.Names.{SessionNames}
use Rattle.lane_logs.specs.Parts.{takes_place}
use Rattle.lane_turns.specs.declared.one.One.{One}
use Rattle.lane_turns.specs.declared.one.One.TheVariants as one
use Rattle.lane_turns.specs.declared.run_end.RunEnd.{RunEnd}
use Rattle.lane_turns.specs.declared.run_end.RunEnd.TheVariants as end
use Rattle.lane_turns.specs.Answers.{is_done, is_fault, is_nothing}
use Rattle.lane_turns.specs.Attempts.{Gives, HasTried, HoldsTurns, KeepsAfterFault, WorkerAt}
use Rattle.lane_turns.specs.Batons.{LaneView}
use Rattle.lane_turns.specs.Pens.{PenView}
use Rattle.lane_turns.specs.Polling.{CameTo, place_on, with_pen}
use Rattle.lane_turns.specs.ReactorPolling.{FailedNext, FoundNoRequest, FoundOtherWork, HadFailed, LeftRequest, LeftTime, TurnCameTo, TurnedNext}
use Rattle.lane_turns.specs.LaneValues.{HasCome, HasWorked, HearsOf, IsBaton, LaneCameTo, LaneValue, Terms, Tries, home_of}
use Rattle.lane_turns.specs.Workers.{WorkerView}

none_left : (lane : ℕ) (turns : List ℕ) → turns ≡ [] → without_number lane (lane ∷ turns) ≡ []
none_left lane turns none =
    ap (λ turns. without_number lane (lane ∷ turns)) none
    ∙ ap (λ b. cond (not b) (lane ∷ []) []) (eq-eqb lane lane refl)

-- who had no turn and gives the one that it took has none again
pub given_back : (lane : ℕ) (old took new : Seated) → old.turns ≡ [] → took ≡ with_turn lane old →
    new ≡ without_turn lane took → new ≡ old
given_back lane old took new none taken given =
    given ∙ ap (without_turn lane) taken
    ∙ ap (λ turns. record old { turns = turns }) (none_left lane old.turns none ∙ sym none)

-- an answer of nothing is that one, and no fault
pub nothing_is : (answer : One) → is_nothing answer ≡ true → answer ≡ one.Nothing
nothing_is (one.Ran op mark) is = absurd (cc is)
nothing_is one.Turned is = absurd (cc is)
nothing_is one.Nothing is = refl
nothing_is one.Stopped is = absurd (cc is)
nothing_is one.Fault is = absurd (cc is)
nothing_is (one.Missing op) is = absurd (cc is)

-- an attempt stays on its lane
pub same_lane : {H : Type 0} (marks : H → Marks) (one : One) (old new : LaneView) (held left : Held H) →
    CameTo marks one old new held left → new.lane ≡ old.lane
same_lane marks (one.Ran op mark) old new held left came = ap (λ (v : LaneView). v.lane) came.moved
same_lane marks one.Turned old new held left came = absurd came
same_lane marks one.Nothing old new held left came = ap (λ (v : LaneView). v.lane) came.moved
same_lane marks one.Stopped old new held left came = ap (λ (v : LaneView). v.lane) came.moved
same_lane marks one.Fault old new held left came = absurd came
same_lane marks (one.Missing op) old new held left came = ap (λ (v : LaneView). v.lane) came.moved

turned_lane : (b : Bool) (old : LaneView) (pen : PenView) →
    (if b then place_on old pen else with_pen old pen).lane ≡ old.lane
turned_lane true old pen = refl
turned_lane false old pen = refl

lane_turned : (names : SessionNames) (fails : Bool) (old new : LaneView) → TurnedNext names fails old new →
    new.lane ≡ old.lane
lane_turned names fails old new turned =
    ap (λ (v : LaneView). v.lane) turned.moved ∙ turned_lane (takes_place turned.part.start) old new.pen

lane_nothing : (names : SessionNames) (old new : LaneView) →
    FoundNoRequest names old new ⊎ FoundOtherWork names old new → new.lane ≡ old.lane
lane_nothing names old new (inl none) = ap (λ (v : LaneView). v.lane) none.moved
lane_nothing names old new (inr other) = ap (λ (v : LaneView). v.lane) other.moved

lane_stopped : (names : SessionNames) (old new : LaneView) →
    LeftRequest names old new ⊎ (LeftTime names old new ⊎ HadFailed names old new) → new.lane ≡ old.lane
lane_stopped names old new (inl request) = ap (λ (v : LaneView). v.lane) request.moved
lane_stopped names old new (inr (inl time)) = ap (λ (v : LaneView). v.lane) time.moved
lane_stopped names old new (inr (inr failed)) = ap (λ (v : LaneView). v.lane) failed.moved

lane_failed : (names : SessionNames) (old new : LaneView) →
    TurnedNext names true old new ⊎ FailedNext names old new → new.lane ≡ old.lane
lane_failed names old new (inl turned) = lane_turned names true old new turned
lane_failed names old new (inr failed) = ap (λ (v : LaneView). v.lane) failed.moved

pub same_reactor_lane : {X : Type 0} (names : SessionNames) (faults : X → ℕ) (one : One) (old new : LaneView)
    (before after : ProactorView X) → TurnCameTo names faults one old new before after → new.lane ≡ old.lane
same_reactor_lane names faults (one.Ran op mark) old new before after came = absurd came
same_reactor_lane names faults one.Turned old new before after came = lane_turned names false old new came.0
same_reactor_lane names faults one.Nothing old new before after came = lane_nothing names old new came.0
same_reactor_lane names faults one.Stopped old new before after came = lane_stopped names old new came.0
same_reactor_lane names faults one.Fault old new before after came = lane_failed names old new came.0
same_reactor_lane names faults (one.Missing op) old new before after came =
    ap (λ (v : LaneView). v.lane) came.0.moved

-- attempts one after another
module _ {H X : Type 0} (t : Terms H X) where
  pub first_come : (answer : One) (before after : LaneValue H X) → LaneCameTo t answer before after →
      HasCome t 1 answer before after
  first_come answer before after came =
      record { count = 0; few = omega arith; earlier = before; worked = refl; came = came }

  pub more_come : (most : ℕ) (answer next : One) (before mid after : LaneValue H X) →
      HasCome t most answer before mid → is_done answer ≡ true → LaneCameTo t next mid after →
      HasCome t (most + 1) next before after
  more_come most answer next before mid after it done came =
      record {
        count = suc it.count;
        few = omega (arith, it.few);
        earlier = mid;
        worked = (it.earlier, answer, done, it.worked, it.came);
        came = came;
      }

  less_come : (few most : ℕ) (answer : One) (before after : LaneValue H X) → HasCome t few answer before after →
      few ≤ most → HasCome t most answer before after
  less_come few most answer before after it less =
      record {
        count = it.count;
        few = omega (arith, it.few, less);
        earlier = it.earlier;
        worked = it.worked;
        came = it.came;
      }

  pub has_worked : (few most : ℕ) (answer : One) (before after : LaneValue H X) → HasCome t few answer before after →
      few ≤ most → HasWorked t most answer before after
  has_worked few most answer before after it less =
      record { last = after; reached = less_come few most answer before after it less; rest = inl refl }

  -- the one behind the last came to nothing
  pub has_rested : (few most : ℕ) (answer next : One) (before last after : LaneValue H X) →
      HasCome t few answer before last → few + 1 ≤ most → 1 ≤ few → is_done answer ≡ true → is_nothing next ≡ true →
      LaneCameTo t next last after → HasWorked t most answer before after
  has_rested few most answer next before last after it less some done none came =
      record {
        last = last;
        reached = less_come few most answer before last it (omega (arith, less));
        rest =
            inr (
              omega (arith, less, some),
              done,
              subst (λ a. LaneCameTo t a last after) (nothing_is next none) came,
            );
      }

  -- where a lane stands behind so many attempts, in each of which something was done, the last of them with this
  -- answer; before the first it is nothing
  abbrev pub StandsAt : ℕ → One → LaneValue H X → LaneValue H X → Type 0
  StandsAt count last before now =
      ((count ≡ 0) × (last ≡ one.Nothing) × (now ≡ before)) ⊎ (HasCome t count last before now × (is_done last ≡ true))

  pub comes_on : (count : ℕ) (last next : One) (before mid after : LaneValue H X) → StandsAt count last before mid →
      LaneCameTo t next mid after → HasCome t (count + 1) next before after
  comes_on count last next before mid after (inl none) came =
      subst (λ n. HasCome t (n + 1) next before after) (sym none.0)
      (first_come next before after (subst (λ (v : LaneValue H X). LaneCameTo t next v after) none.2 came))
  comes_on count last next before mid after (inr some) came =
      more_come count last next before mid after some.0 some.1 came

  pub stands_on : (count : ℕ) (last next : One) (before mid after : LaneValue H X) → StandsAt count last before mid →
      LaneCameTo t next mid after → is_done next ≡ true → StandsAt (count + 1) next before after
  stands_on count last next before mid after stands came done =
      inr (comes_on count last next before mid after stands came, done)

  -- the next one came to nothing
  pub rests_at : (count most : ℕ) (last next : One) (before mid after : LaneValue H X) →
      StandsAt count last before mid → count + 1 ≤ most → is_nothing next ≡ true → LaneCameTo t next mid after →
      HasWorked t most last before after
  rests_at count most last next before mid after (inl none) less is came =
      subst (λ a. HasWorked t most a before after) (nothing_is next is ∙ sym none.1)
      (has_worked 1 most next before after
      (first_come next before after (subst (λ (v : LaneValue H X). LaneCameTo t next v after) none.2 came))
      (omega (arith, less)))
  rests_at count most last next before mid after (inr some) less is came =
      has_rested count most last next before mid after some.0 less (omega (arith, some.0.few)) some.1 is came

  -- or to something else
  pub ends_at : (count most : ℕ) (last next : One) (before mid after : LaneValue H X) →
      StandsAt count last before mid → count + 1 ≤ most → LaneCameTo t next mid after →
      HasWorked t most next before after
  ends_at count most last next before mid after stands less came =
      has_worked (count + 1) most next before after (comes_on count last next before mid after stands came) less

  -- or there was none
  pub worked_at : (count most : ℕ) (last : One) (before now : LaneValue H X) → StandsAt count last before now →
      0 < count → count ≤ most → HasWorked t most last before now
  worked_at count most last before now (inl none) some less = absurd (omega (arith, none.0, some))
  worked_at count most last before now (inr come) some less = has_worked count most last before now come.0 less

module _ {H X : Type 0} (t : Tries H X) (lane : ℕ) (answer : One) (turns left : Seated)
    (kept : Option (LaneValue H X)) (after : LaneValue H X) where
  pub gives_none : (b : Bool) → b ≡ is_fault answer → b ≡ false → left ≡ turns → kept ≡ None →
      Gives t lane (is_fault answer) after turns left kept
  gives_none b same not_so given none =
      subst (λ c. Gives t lane c after turns left kept) (sym not_so ∙ same) (given, none)

  pub gives_kept : (b : Bool) → b ≡ is_fault answer → b ≡ true → left ≡ with_turn lane turns →
      kept ≡ Some after → Gives t lane (is_fault answer) after turns left kept
  gives_kept b same so given keeps =
      subst (λ c. Gives t lane c after turns left kept) (sym so ∙ same) (given, keeps)

  pub had_turn : (seat mid last : WorkerView) (before told polled : LaneValue H X) → IsBaton t.terms before →
      IsBaton t.terms polled → home_of before ≡ lane → told ≡ before → HearsOf before seat mid →
      HasWorked t.terms t.most answer told polled → home_of polled ≡ home_of told → after ≡ polled → HearsOf polled mid last →
      Gives t lane (is_fault answer) after turns left kept →
      HasTried t lane answer (record { seat = seat; turns = turns }) (record { seat = last; turns = left }) kept
  had_turn seat mid last before told polled is still home same heard came at stays learned given =
      inr (record {
        before = before;
        after = after;
        is = is;
        still = subst (IsBaton t.terms) (sym stays) still;
        home = home;
        stays = ap home_of stays ∙ at ∙ ap home_of same ∙ home;
        mid = mid;
        heard = heard;
        worked =
            subst (λ v. HasWorked t.terms t.most answer before v) (sym stays)
            (subst (λ v. HasWorked t.terms t.most answer v polled) same came);
        learned = subst (λ v. HearsOf v mid last) (sym stays) learned;
        given = given;
      })

module _ {H X : Type 0} (t : Tries H X) (lane : ℕ) (answer : One) (old new : WorkerAt)
    (kept : Option (LaneValue H X)) where
  -- it has the turn of the lane that it keeps, and no other
  pub holds_after : HasTried t lane answer old new kept → old.turns.turns ≡ [] → HoldsTurns kept (Some new.turns)
  holds_after (inl held) none =
      subst (λ k. HoldsTurns k (Some new.turns)) (sym held.none)
      (ap (λ (s : Seated). s.turns) held.missed ∙ none)
  holds_after (inr had) none = by_case (is_fault answer) had.given
    where
      by_case : (b : Bool) → Gives t lane b had.after old.turns new.turns kept → HoldsTurns kept (Some new.turns)
      by_case false given =
          subst (λ k. HoldsTurns k (Some new.turns)) (sym given.1) (ap (λ (s : Seated). s.turns) given.0 ∙ none)
      by_case true given =
          subst (λ k. HoldsTurns k (Some new.turns)) (sym given.1)
          (ap (λ (s : Seated). s.turns) given.0 ∙ ap (λ turns. lane ∷ turns) none
          ∙ ap (λ n. n ∷ []) (sym had.stays))

  -- it keeps a lane only after a fault
  pub keeps_after : HasTried t lane answer old new kept → (last : Option RunEnd) →
      KeepsAfterFault kept (if is_fault answer then Some end.Fault else last)
  keeps_after (inl held) last =
      subst (λ k. KeepsAfterFault k (if is_fault answer then Some end.Fault else last)) (sym held.none) tt
  keeps_after (inr had) last = by_case (is_fault answer) had.given
    where
      by_case : (b : Bool) → Gives t lane b had.after old.turns new.turns kept →
          KeepsAfterFault kept (if b then Some end.Fault else last)
      by_case false given = subst (λ k. KeepsAfterFault k last) (sym given.1) tt
      by_case true given = subst (λ k. KeepsAfterFault k (Some end.Fault)) (sym given.1) refl

  -- its seat is at the same table
  pub seat_after : (lanes : Lanes) → HasTried t lane answer old new kept → IsSeatOf lanes old.turns →
      IsSeatOf lanes new.turns
  seat_after lanes (inl held) fits = subst (IsSeatOf lanes) (sym held.missed) fits
  seat_after lanes (inr had) fits = by_case (is_fault answer) had.given
    where
      by_case : (b : Bool) → Gives t lane b had.after old.turns new.turns kept → IsSeatOf lanes new.turns
      by_case false given = subst (IsSeatOf lanes) (sym given.0) fits
      by_case true given = subst (IsSeatOf lanes) (sym given.0) fits

  -- where it found nothing to do, it keeps no lane
  pub free_after : HasTried t lane answer old new kept → is_fault answer ≡ false → kept ≡ None
  free_after (inl held) works = held.none
  free_after (inr had) works =
      (subst (λ b. Gives t lane b had.after old.turns new.turns kept) works had.given).1

pub no_fault : (answer : One) → is_nothing answer ≡ true → is_fault answer ≡ false
no_fault answer is = ap is_fault (nothing_is answer is)

-- who keeps no lane has no turn
pub free_turns : {H X : Type 0} (kept : Option (LaneValue H X)) (o : Option Seated) (seat : Seated) → kept ≡ None →
    Some seat ≡ o → HoldsTurns kept o → seat.turns ≡ []
free_turns None None seat free same holds = absurd (cc same)
free_turns None (Some other) seat free same holds =
    let it : other ≡ seat = cc same in subst (λ (s : Seated). s.turns ≡ []) it holds
free_turns (Some value) o seat free same holds = absurd (cc free)
