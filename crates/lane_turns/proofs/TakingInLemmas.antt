-- The opener after it took in other seats for good.
use Rattle.std.proofs.Common.{◌≡◌, ◌≢◌, ⊎_elim, ℕ, zero, suc, ◌+◌, ◌<◌, List, [], ◌∷◌, ◌++◌, length, get_or, refl, sym, ap, subst, ◌∙◌, arith, length-append, append_assoc}
use Rattle.std.specs.Prelude.{All, map, take}
use Rattle.std.proofs.lemmas.List.{append-nil, length-map, map-append}
use Rattle.std.proofs.lemmas.List.Elements.{All-cons, All-nil, All-push}
use Rattle.std.proofs.Math.ListN.{get_or-append}
use Rattle.std.proofs.Math.Seq.{get_or-append_seam}
use mathlib.Core.Option.{some, some-ne-none}
use lib.ListN.{get_elem?}
use Rattle.asio_types.specs.declared.event.Event.{Event}
use Rattle.session_script.specs.Script.{ScriptModel}
use Rattle.lane_clock.specs.declared.found.Change.{Change}
use Rattle.lane_clock.specs.declared.found.Found.{Found}
use Rattle.lane_clock.specs.declared.step.ClockStep.{ClockStep}
use Rattle.lane_clock.specs.declared.step.ClockStep.TheVariants.{Draw, Join}
use Rattle.lane_clock.specs.Knowledge.{StartOf, counts}
use Rattle.lane_clock.specs.Seats.{Owns, SeatView, own}
use Rattle.lane_clock.proofs.KeepLemmas.{start_same, start_trans}
use Rattle.lane_logs.specs.declared.log.LogEntry.{LogEntry}
use Rattle.lane_logs.specs.AtRest.{RestsFrom}
use Rattle.lane_logs.specs.Cuts.{EventsAreCuts}
use Rattle.lane_logs.specs.Knowing.{lists_of}
use Rattle.lane_logs.specs.OpenerLog.{IsRestingStep}
use Rattle.lane_logs.specs.SeatNumbers.{opener_seat}
use Rattle.lane_logs.specs.Stand.{stand_of}
use Rattle.lane_turns.specs.Batons.{opener_known}
use Rattle.lane_turns.specs.Openers.{OpenerView}
use Rattle.lane_turns.specs.Pens.{PenView}
use Rattle.lane_turns.specs.TakingIn.{AreTakenIn, HasJoined, IsTakenIn}
use Rattle.lane_turns.proofs.CutLemmas.{cut_outlives}
use Rattle.lane_turns.proofs.GrowingLemmas.{take_start}
use Rattle.lane_turns.proofs.MeetingLemmas.{met_either, start_both}
use Rattle.lane_turns.proofs.RestingLemmas.{rests_behind, rests_here, rests_on}

-- a draw among some steps and a join behind them is among the steps
draw_before : (xs : List ClockStep) (taken : List ℕ) (j : ℕ) (shown : Event) (changes : Change) (found : Found) →
    get_elem? (xs ++ Join taken ∷ []) j ≡ some (Draw shown changes found) →
    (get_elem? xs j ≡ some (Draw shown changes found)) × (j < length xs)
draw_before [] taken zero shown changes found is = absurd (cc is)
draw_before [] taken (suc j) shown changes found is = absurd (some-ne-none _ (sym is))
draw_before (x ∷ xs) taken zero shown changes found is = (is, omega arith)
draw_before (x ∷ xs) taken (suc j) shown changes found is =
    let rest = draw_before xs taken j shown changes found is in (rest.0, omega (arith, rest.1))

module _ (script : ScriptModel) (old new : OpenerView) (other : SeatView) (joined : HasJoined script other old new) where
  abbrev o : ℕ
  o = opener_seat script

  -- what was taken in
  joined_now : Owns other other.number → other.number < o → IsTakenIn script new other
  joined_now owns less =
      let n : ℕ = other.number in
      let apart : n ≢ old.pen.seat.number = λ same. absurd (omega (arith, same, joined.number, less)) in
      let met = joined.met.met in
      let behind : StartOf (lists_of old.pen.seat n) (own other) = joined.theirs n owns in
      record {
        owns = joined.takes n owns;
        all =
            ⊎_elim
            (λ (same : lists_of new.pen.seat n ≡ lists_of old.pen.seat n).
            same
            ∙ start_both (lists_of old.pen.seat n) (own other) behind
            (subst (λ steps. StartOf (own other) steps) same (met.learns n)))
            (λ (same : lists_of new.pen.seat n ≡ own other). same)
            (met_either other old.pen.seat new.pen.seat met n apart);
        behind =
            start_trans (opener_known script other) (lists_of old.pen.seat o) (lists_of new.pen.seat o)
            (met.whole o joined.owns) (met.remembers o);
      }

  -- and what had been before
  joined_later : (seat : SeatView) → seat.number < o → IsTakenIn script old seat → IsTakenIn script new seat
  joined_later seat less taken =
      let n : ℕ = seat.number in
      let apart : n ≢ old.pen.seat.number = λ same. absurd (omega (arith, same, joined.number, less)) in
      let met = joined.met.met in
      record {
        owns = met.keeps n taken.owns;
        all =
            ⊎_elim
            (λ (same : lists_of new.pen.seat n ≡ lists_of old.pen.seat n). same ∙ taken.all)
            (λ (same : lists_of new.pen.seat n ≡ lists_of other n).
            same
            ∙ start_both (lists_of other n) (lists_of old.pen.seat n) (met.whole n taken.owns)
            (subst (λ steps. StartOf (lists_of old.pen.seat n) steps) same (met.remembers n))
            ∙ taken.all)
            (met_either other old.pen.seat new.pen.seat met n apart);
        behind = start_trans _ (lists_of old.pen.seat o) (lists_of new.pen.seat o) taken.behind (met.remembers o);
      }

  joined_number : new.pen.seat.number ≡ o
  joined_number = ap (λ (seat : SeatView). seat.number) joined.met.met.seat ∙ joined.number

  joined_own : lists_of new.pen.seat o ≡ lists_of old.pen.seat o ++ Join (counts other.known) ∷ []
  joined_own =
      ap (lists_of new.pen.seat) (sym joined_number) ∙ joined.met.met.steps
      ∙ ap (λ k. lists_of old.pen.seat k ++ Join (counts other.known) ∷ []) joined.number

  -- a join rests
  joined_rests : RestsFrom script (lists_of new.pen.seat) (length (lists_of old.pen.seat o))
  joined_rests =
      rests_behind script (lists_of old.pen.seat) (lists_of new.pen.seat) (Join (counts other.known) ∷ [])
      (All-cons IsRestingStep (Join (counts other.known)) [] tt (All-nil IsRestingStep)) joined_own

  -- cuts stay cuts
  joined_cuts : EventsAreCuts script (lists_of old.pen.seat) → EventsAreCuts script (lists_of new.pen.seat)
  joined_cuts cuts j n event less =
      let met = joined.met.met in
      let before : List ClockStep = lists_of old.pen.seat o in
      let steps : lists_of new.pen.seat o ≡ before ++ Join (counts other.known) ∷ [] =
      joined_own in
      let drawn = draw_before before (counts other.known) j event.shown event.changes event.found
      (subst (λ xs. get_elem? xs j ≡ some (Draw event.shown event.changes event.found)) steps event.drawn) in
      let front : take (suc j) (lists_of new.pen.seat o) ≡ take (suc j) before =
      take_start (suc j) before (lists_of new.pen.seat o) (met.remembers o) (omega (arith, drawn.1)) in
      cut_outlives script old.pen.seat new.pen.seat j n met.remembers (omega (arith, drawn.1))
      (cuts j n
      (record {
        shown = event.shown;
        changes = event.changes;
        found = event.found;
        drawn = drawn.0;
        opened = ap (λ xs. (stand_of script xs).opening) (sym front) ∙ event.opened;
      })
      less)

  each_later : (pens : List PenView) → All (λ pen. pen.seat.number < o) pens →
      All (λ pen. IsTakenIn script old pen.seat) pens → All (λ pen. IsTakenIn script new pen.seat) pens
  each_later pens apart taken k d less = joined_later _ (apart k d less) (taken k d less)

-- one pen more
pub taken_more : (script : ScriptModel) (first old new : OpenerView) (pens : List PenView) (pen : PenView) →
    HasJoined script pen.seat old new → Owns pen.seat pen.seat.number →
    pen.seat.number < opener_seat script → All (λ pen. pen.seat.number < opener_seat script) pens →
    AreTakenIn script pens first old → AreTakenIn script (pens ++ pen ∷ []) first new
taken_more script first old new pens pen joined owns less apart before =
    record {
      taken =
          All-push (λ (pen : PenView). IsTakenIn script new pen.seat) pens pen
          (each_later script old new pen.seat joined pens apart before.taken)
          (joined_now script old new pen.seat joined owns less);
      remembers =
          λ n. start_trans _ _ (lists_of new.pen.seat n) (before.remembers n) (joined.met.met.remembers n);
      log = joined.met.log ∙ before.log;
      stand = joined.stand ∙ before.stand;
      cuts = λ cuts. joined_cuts script old new pen.seat joined (before.cuts cuts);
      resting =
          rests_on script (lists_of old.pen.seat) (lists_of new.pen.seat)
          (length (lists_of first.pen.seat (opener_seat script))) (joined.met.met.remembers (opener_seat script))
          before.resting (joined_rests script old new pen.seat joined);
    }

-- none at first
pub taken_none : (script : ScriptModel) (first : OpenerView) → AreTakenIn script [] first first
taken_none script first =
    record {
      taken = λ k d less. absurd (omega arith);
      remembers = λ n. start_same _ _ refl;
      log = refl;
      stand = refl;
      cuts = λ cuts. cuts;
      resting = rests_here script (lists_of first.pen.seat) (lists_of first.pen.seat);
    }

-- a list that is gone through: one element more is behind us
pub moved_on : {T : Type 0} (all front rest next : List T) (one : T) → all ≡ front ++ rest → rest ≡ one ∷ next →
    all ≡ (front ++ one ∷ []) ++ next
moved_on all front rest next one is split =
    is ∙ ap (λ xs. front ++ xs) split ∙ sym (append_assoc front (one ∷ []) next)

-- and all of it
pub gone_through : {T : Type 0} (all front rest : List T) → all ≡ front ++ rest → rest ≡ [] → all ≡ front
gone_through all front rest is none = is ∙ ap (λ xs. front ++ xs) none ∙ append-nil front

-- some pens were taken in, and their logs put behind those that were there; the others are to come
pub record IsTaking (script : ScriptModel) (all rest : List PenView) (first now : OpenerView)
    (old logs : List (List LogEntry)) : Type 0 where
  pub front : List PenView
  pub split : all ≡ front ++ rest
  pub taken : AreTakenIn script front first now
  pub put : logs ≡ old ++ map (λ pen. pen.log) front

pub taking_none : (script : ScriptModel) (all rest : List PenView) (first : OpenerView) (old : List (List LogEntry)) →
    rest ≡ all → IsTaking script all rest first first old old
taking_none script all rest first old is =
    record { front = []; split = sym is; taken = taken_none script first; put = sym (append-nil old) }

pub taking_more : (script : ScriptModel) (all rest next : List PenView) (first before now : OpenerView)
    (old logs after : List (List LogEntry)) (pen : PenView) →
    All (λ pen. pen.seat.number < opener_seat script) all → All (λ pen. Owns pen.seat pen.seat.number) all →
    rest ≡ pen ∷ next → HasJoined script pen.seat before now → after ≡ logs ++ pen.log ∷ [] →
    IsTaking script all rest first before old logs → IsTaking script all next first now old after
taking_more script all rest next first before now old logs after pen apart owns split joined pushed taking =
    let here : get_or all (length taking.front) pen ≡ pen =
    ap (λ xs. get_or xs (length taking.front) pen) (taking.split ∙ ap (λ xs. taking.front ++ xs) split)
    ∙ get_or-append_seam taking.front pen next pen in
    let long : length all ≡ length taking.front + suc (length next) =
    ap length (taking.split ∙ ap (λ xs. taking.front ++ xs) split) ∙ length-append taking.front (pen ∷ next) in
    let before_apart : All (λ (pen : PenView). pen.seat.number < opener_seat script) taking.front =
    λ k d less.
    subst (λ (p : PenView). p.seat.number < opener_seat script)
    (ap (λ xs. get_or xs k d) taking.split ∙ get_or-append taking.front rest d k less)
    (apart k d (omega (arith, long, less))) in
    record {
      front = taking.front ++ pen ∷ [];
      split = moved_on all taking.front rest next pen taking.split split;
      taken =
          taken_more script first before now taking.front pen joined
          (subst (λ (p : PenView). Owns p.seat p.seat.number) here (owns (length taking.front) pen (omega (arith, long))))
          (subst (λ (p : PenView). p.seat.number < opener_seat script) here
          (apart (length taking.front) pen (omega (arith, long))))
          before_apart taking.taken;
      put =
          pushed ∙ ap (λ xs. xs ++ pen.log ∷ []) taking.put
          ∙ append_assoc old (map (λ (pen : PenView). pen.log) taking.front) (pen.log ∷ [])
          ∙ ap (λ xs. old ++ xs) (sym (map-append (λ (pen : PenView). pen.log) taking.front (pen ∷ [])));
    }

pub taking_all : (script : ScriptModel) (all rest : List PenView) (first now : OpenerView)
    (old logs : List (List LogEntry)) → rest ≡ [] → IsTaking script all rest first now old logs →
    AreTakenIn script all first now × (logs ≡ old ++ map (λ pen. pen.log) all)
taking_all script all rest first now old logs none taking =
    let same : all ≡ taking.front = gone_through all taking.front rest taking.split none in (
      subst (λ pens. AreTakenIn script pens first now) (sym same) taking.taken,
      taking.put ∙ ap (λ (pens : List PenView). old ++ map (λ pen. pen.log) pens) (sym same),
    )

-- what holds of each pen holds of the one that is next
pub next_holds : (P : PenView → Type 0) (script : ScriptModel) (all rest next : List PenView)
    (first now : OpenerView) (old logs : List (List LogEntry)) (pen : PenView) → All P all → rest ≡ pen ∷ next →
    IsTaking script all rest first now old logs → P pen
next_holds P script all rest next first now old logs pen each split taking =
    let is : all ≡ taking.front ++ pen ∷ next = taking.split ∙ ap (λ xs. taking.front ++ xs) split in
    let long : length all ≡ length taking.front + suc (length next) = ap length is ∙ length-append taking.front (pen ∷ next) in
    subst P (ap (λ xs. get_or xs (length taking.front) pen) is ∙ get_or-append_seam taking.front pen next pen)
    (each (length taking.front) pen (omega (arith, long)))

-- and there is room for its log
pub next_fits : (script : ScriptModel) (all rest next : List PenView) (first now : OpenerView)
    (old logs : List (List LogEntry)) (pen : PenView) → rest ≡ pen ∷ next →
    IsTaking script all rest first now old logs → length logs < length old + length all
next_fits script all rest next first now old logs pen split taking =
    let is : all ≡ taking.front ++ pen ∷ next = taking.split ∙ ap (λ xs. taking.front ++ xs) split in
    omega (
      arith,
      ap length is ∙ length-append taking.front (pen ∷ next),
      ap length taking.put ∙ length-append old (map (λ (pen : PenView). pen.log) taking.front),
      length-map taking.front (λ (pen : PenView). pen.log),
    )
