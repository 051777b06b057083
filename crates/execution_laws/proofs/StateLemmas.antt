-- How a context changes at one act and in one body.
use Rattle.std.proofs.Common.{◌≡◌, ◌≢◌, ℕ, ◌<◌, Bool, true, false, cond, List, Some, None, length, refl, ap, ◌∙◌, arith, map}
use Rattle.std.specs.List.{slice_index_or}
use Rattle.std.proofs.Math.ListN.{length-set}
use Rattle.std.proofs.lemmas.List.{get_or-set_same, get_or-set_other, length-map}
use Rattle.session_script.specs.Script.{Place, ScriptModel, numbers_in}
use Rattle.asio_types.specs.declared.number.Lane.{Lane}
use Rattle.asio_types.specs.declared.number.Lane.TheVariants as lane
use Rattle.session_script.specs.Lanes.{lane_of}
use Rattle.history_rules.specs.Calls.{limited}
use Rattle.history_rules.specs.Stopping.{at_most_one, with_allowance}
use Rattle.history_rules.specs.declared.phase.Allowance.{Allowance}
use Rattle.history_rules.specs.declared.phase.Allowance.TheVariants as allowance
use Rattle.history_rules.specs.State.{Allowances, ContextState, act_at, call_at, counted, fresh, phase_at, with_act, with_phase}
use Rattle.history_rules.specs.declared.phase.ActPhase.TheVariants as phase
use Rattle.history_rules.specs.declared.phase.ActState.{ActState}
use Rattle.history_rules.specs.declared.phase.Progress.{Progress}

pub act_at-same : (s : ContextState) (n : ℕ) (new : ActState) → n < length s.acts → act_at (with_act s n new) n ≡ new
act_at-same s n new below = get_or-set_same s.acts n new fresh below

pub act_at-other : (s : ContextState) (n : ℕ) (new : ActState) (j : ℕ) → j ≢ n →
    act_at (with_act s n new) j ≡ act_at s j
act_at-other s n new j other = get_or-set_other s.acts n j new fresh other

-- the acts of a body
abbrev pub acts_in : ScriptModel → Place → List ℕ
acts_in script place = numbers_in place 0 script.acts

-- so many calls were made, and all are back
abbrev pub both : ℕ → Progress
both k = record { made = k; back = k }

-- a body that is being executed has come so far
abbrev pub IsAt : ContextState → Place → Progress → Type 0
IsAt s None progress = s.opening ≡ progress
IsAt s (Some at) progress = phase_at s at.0 ≡ phase.Running at.1 progress

-- another act than the operation whose body it is
abbrev pub IsElsewhere : Place → ℕ → Type 0
IsElsewhere None n = Unit {0}
IsElsewhere (Some at) n = n ≢ at.0

-- an act that comes after the operation whose body it is
abbrev pub IsBehind : Place → ℕ → Type 0
IsBehind None n = Unit {0}
IsBehind (Some at) n = at.0 < n

-- the body of a handler
abbrev pub IsHandlers : Place → Type 0
IsHandlers None = ⊥
IsHandlers (Some at) = Unit {0}

-- its operation is an act
abbrev pub IsThere : ContextState → Place → Type 0
IsThere s None = Unit {0}
IsThere s (Some at) = at.0 < length s.acts

-- the body has come to this
abbrev pub came_to : Place → Progress → ContextState → ContextState
came_to None progress s = record s { opening = progress }
came_to (Some at) progress s = with_phase s at.0 (phase.Running at.1 progress)

-- the call of its operation is as it was
abbrev pub IsCallKept : Place → ContextState → ContextState → Type 0
IsCallKept None s t = Unit {0}
IsCallKept (Some at) s t = call_at t at.0 ≡ call_at s at.0

-- nothing changes but an act, a body's own operation, stopping and the count of events
pub record Touches (place : Place) (a : ℕ) (s t : ContextState) : Type 0 where
  pub count : length t.acts ≡ length s.acts
  pub kept : (n : ℕ) → n ≢ a → IsElsewhere place n → act_at t n ≡ act_at s n
  pub caller : IsCallKept place s t
  pub opening : IsHandlers place → t.opening ≡ s.opening
  pub closings : t.closings ≡ s.closings
  pub restarted : t.restarted ≡ s.restarted
  pub dropping : t.dropping ≡ s.dropping
  pub turn : t.turn ≡ s.turn

pub elsewhere : (place : Place) (n : ℕ) → IsBehind place n → IsElsewhere place n
elsewhere None n behind = tt
elsewhere (Some at) n behind = λ same. absurd (omega (arith, behind, same))

-- stopping and the count of events are no matter to it
kept-counted : (place : Place) (s t : ContextState) → IsCallKept place s t → IsCallKept place s (counted t)
kept-counted None s t kept = tt
kept-counted (Some at) s t kept = kept

kept-stopped : (place : Place) (s t : ContextState) → IsCallKept place s t →
    IsCallKept place s (counted (record t { stopped = true }))
kept-stopped None s t kept = tt
kept-stopped (Some at) s t kept = kept

pub kept-none : (place : Place) (s : ContextState) → IsCallKept place s s
kept-none None s = tt
kept-none (Some at) s = refl

pub kept-both : (place : Place) (s t u : ContextState) → IsCallKept place s t → IsCallKept place t u →
    IsCallKept place s u
kept-both None s t u first second = tt
kept-both (Some at) s t u first second = second ∙ first

pub touches-both : (place : Place) (a : ℕ) (s t u : ContextState) → Touches place a s t → Touches place a t u →
    Touches place a s u
touches-both place a s t u first second = record {
  count = second.count ∙ first.count;
  kept = λ n other away. second.kept n other away ∙ first.kept n other away;
  caller = kept-both place s t u first.caller second.caller;
  opening = λ inside. second.opening inside ∙ first.opening inside;
  closings = second.closings ∙ first.closings;
  restarted = second.restarted ∙ first.restarted;
  dropping = second.dropping ∙ first.dropping;
  turn = second.turn ∙ first.turn;
}

-- an act behind it was changed
kept-set : (place : Place) (a : ℕ) (s : ContextState) (new : ActState) → IsBehind place a →
    IsCallKept place s (with_act s a new)
kept-set None a s new behind = tt
kept-set (Some at) a s new behind =
    ap (λ (act : ActState). act.call) (act_at-other s a new at.0 (λ same. absurd (omega (arith, behind, same))))

-- an act was changed, at an event
pub touches-set : (place : Place) (a : ℕ) (s : ContextState) (new : ActState) → IsBehind place a →
    Touches place a s (counted (with_act s a new))
touches-set place a s new behind = record {
  count = length-set s.acts a new;
  kept = λ n other away. act_at-other s a new n other;
  caller = kept-counted place s (with_act s a new) (kept-set place a s new behind);
  opening = λ inside. refl;
  closings = refl;
  restarted = refl;
  dropping = refl;
  turn = refl;
}

-- a body came further
pub touches-came : (place : Place) (a : ℕ) (s : ContextState) (progress : Progress) → IsThere s place →
    Touches place a s (came_to place progress s)
touches-came None a s progress there = record {
  count = refl;
  kept = λ n other away. refl;
  caller = tt;
  opening = λ inside. absurd inside;
  closings = refl;
  restarted = refl;
  dropping = refl;
  turn = refl;
}
touches-came (Some at) a s progress there = record {
  count = length-set s.acts at.0 (record (act_at s at.0) { phase = phase.Running at.1 progress });
  kept = λ n other away. act_at-other s at.0 (record (act_at s at.0) { phase = phase.Running at.1 progress }) n away;
  caller =
      ap (λ (act : ActState). act.call)
      (act_at-same s at.0 (record (act_at s at.0) { phase = phase.Running at.1 progress }) there);
  opening = λ inside. refl;
  closings = refl;
  restarted = refl;
  dropping = refl;
  turn = refl;
}

-- nothing changes but the allowances, and these by a stop alone
pub record Limits (stops : Bool) (s t : ContextState) : Type 0 where
  pub acts : t.acts ≡ s.acts
  pub opening : t.opening ≡ s.opening
  pub stopped : t.stopped ≡ s.stopped
  pub closings : t.closings ≡ s.closings
  pub restarted : t.restarted ≡ s.restarted
  pub dropping : t.dropping ≡ s.dropping
  pub events : t.events ≡ s.events
  pub turn : t.turn ≡ s.turn
  pub allowed : stops ≡ false → t.allowances ≡ s.allowances
  pub lanes : length t.allowances.strands ≡ length s.allowances.strands

-- no lane comes or goes
pub length-lanes : (lane : Lane) (new : Allowance) (allowances : Allowances) →
    length (with_allowance lane new allowances).strands ≡ length allowances.strands
length-lanes (lane.Strand strand) new allowances = length-set allowances.strands strand new
length-lanes (lane.Own op) new allowances = refl
length-lanes lane.Reactor new allowances = refl

-- what a stop leaves of the allowances
pub limits : (script : ScriptModel) (place : Place) (a : ℕ) (stops : Bool) (s : ContextState) →
    Limits stops s (cond stops (limited script a place s) s)
limits script None a true s = record {
  lanes = length-map s.allowances.strands (λ _. allowance.Nothing);
  acts = refl;
  opening = refl;
  stopped = refl;
  closings = refl;
  restarted = refl;
  dropping = refl;
  events = refl;
  turn = refl;
  allowed = λ never. absurd (cc);
}
limits script (Some at) a true s = record {
  lanes =
      length-lanes (lane_of script a) allowance.Nothing (record {
        strands = map at_most_one s.allowances.strands;
        own = at_most_one s.allowances.own;
        reactor = at_most_one s.allowances.reactor;
      })
      ∙ length-map s.allowances.strands at_most_one;
  acts = refl;
  opening = refl;
  stopped = refl;
  closings = refl;
  restarted = refl;
  dropping = refl;
  events = refl;
  turn = refl;
  allowed = λ never. absurd (cc);
}
limits script place a false s = record {
  lanes = refl;
  acts = refl;
  opening = refl;
  stopped = refl;
  closings = refl;
  restarted = refl;
  dropping = refl;
  events = refl;
  turn = refl;
  allowed = λ never. refl;
}

kept-limited : (place : Place) (stops : Bool) (s t : ContextState) → Limits stops s t → IsCallKept place s (counted t)
kept-limited None stops s t limits = tt
kept-limited (Some at) stops s t limits =
    ap (λ (acts : List ActState). (slice_index_or acts at.0 fresh).call) limits.acts

-- at an event
pub touches-limited : (place : Place) (a : ℕ) (stops : Bool) (s t u : ContextState) → Touches place a s t →
    Limits stops t u → Touches place a s (counted u)
touches-limited place a stops s t u touches limits = record {
  count = ap length limits.acts ∙ touches.count;
  kept = λ n other away.
      ap (λ (acts : List ActState). slice_index_or acts n fresh) limits.acts ∙ touches.kept n other away;
  caller = kept-both place s t (counted u) touches.caller (kept-limited place stops t u limits);
  opening = λ inside. limits.opening ∙ touches.opening inside;
  closings = limits.closings ∙ touches.closings;
  restarted = limits.restarted ∙ touches.restarted;
  dropping = limits.dropping ∙ touches.dropping;
  turn = limits.turn ∙ touches.turn;
}

-- the act of a stop that has stopped the context
pub touches-stopped : (place : Place) (a : ℕ) (s : ContextState) (new : ActState) → IsBehind place a →
    Touches place a s (counted (record (with_act s a new) { stopped = true }))
touches-stopped place a s new behind = let set = touches-set place a s new behind in record {
  count = set.count;
  kept = set.kept;
  caller = kept-stopped place s (with_act s a new) (kept-set place a s new behind);
  opening = set.opening;
  closings = refl;
  restarted = refl;
  dropping = refl;
  turn = refl;
}

pub at-came : (place : Place) (s : ContextState) (progress : Progress) → IsThere s place →
    IsAt (came_to place progress s) place progress
at-came None s progress there = refl
at-came (Some at) s progress there =
    ap (λ (act : ActState). act.phase) (act_at-same s at.0 (record (act_at s at.0) { phase = phase.Running at.1 progress }) there)

-- a body is where it was: `open` by its own field, a handler's by its operation
abbrev pub IsSameAt : Place → ContextState → ContextState → Type 0
IsSameAt None s t = t.opening ≡ s.opening
IsSameAt (Some at) s t = act_at t at.0 ≡ act_at s at.0

pub at-same : (place : Place) (s t : ContextState) (progress : Progress) → IsSameAt place s t → IsAt s place progress →
    IsAt t place progress
at-same None s t progress same is = same ∙ is
at-same (Some at) s t progress same is = ap (λ (act : ActState). act.phase) same ∙ is

pub same-set : (place : Place) (a : ℕ) (s : ContextState) (new : ActState) → IsBehind place a →
    IsSameAt place s (counted (with_act s a new))
same-set None a s new behind = refl
same-set (Some at) a s new behind = act_at-other s a new at.0 (λ same. absurd (omega (arith, behind, same)))

pub same-stopped : (place : Place) (a : ℕ) (s : ContextState) (new : ActState) → IsBehind place a →
    IsSameAt place s (counted (record (with_act s a new) { stopped = true }))
same-stopped None a s new behind = refl
same-stopped (Some at) a s new behind = act_at-other s a new at.0 (λ same. absurd (omega (arith, behind, same)))

pub same-limited : (place : Place) (stops : Bool) (s t : ContextState) → Limits stops s t → IsSameAt place s (counted t)
same-limited None stops s t limits = limits.opening
same-limited (Some at) stops s t limits = ap (λ (acts : List ActState). slice_index_or acts at.0 fresh) limits.acts

-- a body that came further neither stops nor counts anything
pub record IsQuiet (s t : ContextState) : Type 0 where
  pub stopped : t.stopped ≡ s.stopped
  pub allowances : t.allowances ≡ s.allowances
  pub events : t.events ≡ s.events

pub quiet-came : (place : Place) (s : ContextState) (progress : Progress) → IsQuiet s (came_to place progress s)
quiet-came None s progress = record { stopped = refl; allowances = refl; events = refl }
quiet-came (Some at) s progress = record { stopped = refl; allowances = refl; events = refl }

-- the count of events is no matter to a body
pub at-uncounted : (place : Place) (s : ContextState) (progress : Progress) → IsAt (counted s) place progress →
    IsAt s place progress
at-uncounted None s progress is = is
at-uncounted (Some at) s progress is = is

kept-from : (place : Place) (s t : ContextState) → IsCallKept place s t → IsCallKept place (counted s) t
kept-from None s t kept = tt
kept-from (Some at) s t kept = kept

pub touches-uncounted : (place : Place) (a : ℕ) (s t : ContextState) → Touches place a s t →
    Touches place a (counted s) t
touches-uncounted place a s t touches = record {
  count = touches.count;
  kept = touches.kept;
  caller = kept-from place s t touches.caller;
  opening = touches.opening;
  closings = touches.closings;
  restarted = touches.restarted;
  dropping = touches.dropping;
  turn = touches.turn;
}

pub kept-came : (place : Place) (n : ℕ) (s : ContextState) (progress : Progress) → IsElsewhere place n →
    act_at (came_to place progress s) n ≡ act_at s n
kept-came None n s progress away = refl
kept-came (Some at) n s progress away =
    act_at-other s at.0 (record (act_at s at.0) { phase = phase.Running at.1 progress }) n away

pub there-shut : (place : Place) (a : ℕ) (s : ContextState) (new : ActState) → IsThere s place →
    IsThere (with_act s a new) place
there-shut None a s new there = tt
there-shut (Some at) a s new there = omega (arith, there, length-set s.acts a new)

pub length-acts : (s : ContextState) (n : ℕ) (new : ActState) → length (with_act s n new).acts ≡ length s.acts
length-acts s n new = length-set s.acts n new
