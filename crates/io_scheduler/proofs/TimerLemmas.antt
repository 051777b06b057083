-- In each legal history a wait that is pending is on a timer whose name is the latest of its place.
use Rattle.std.proofs.Common.{ap, refl, subst, sym, ◌∙◌}
use Rattle.std.proofs.lemmas.Bool.{true≢false}
use Rattle.std.proofs.lemmas.List.{get_or-set_other}
use Rattle.std.specs.Prelude.{◌≡◌, ℕ, ◌==◌, ◌&&◌, ◌||◌, cond, not, Bool, true, false, List, [], ◌∷◌, ◌++◌, Option, Some, None, map}
use Rattle.std.specs.List.{filter}
use Rattle.io_rules.specs.declared.control.Control.{Control}
use Rattle.io_rules.specs.declared.control.Control.TheVariants as control
use Rattle.io_rules.specs.declared.event.Event.{Event}
use Rattle.io_rules.specs.declared.event.Event.TheVariants as event
use Rattle.io_rules.specs.declared.limits.Limits.{Limits}
use Rattle.io_rules.specs.declared.name.Kind.TheVariants as kind
use Rattle.io_rules.specs.declared.name.Name.{Name}
use Rattle.io_rules.specs.declared.op.Wait.{Wait}
use Rattle.io_rules.specs.declared.place.Life.{Life}
use Rattle.io_rules.specs.declared.place.Life.TheVariants as life
use Rattle.io_rules.specs.declared.place.Place.{Place}
use Rattle.io_rules.specs.declared.request.Gone.{Gone}
use Rattle.io_rules.specs.declared.request.Gone.TheVariants as gone
use Rattle.io_rules.specs.declared.request.Request.{Request}
use Rattle.io_rules.specs.Calls.{gone_by, gone_of, is_timer_gone, waits_called}
use Rattle.io_rules.specs.Cancelling.{is_among}
use Rattle.io_rules.specs.Changes.{names_changed, place_freed, reached}
use Rattle.io_rules.specs.Legal.{IsLegal, state_of}
use Rattle.io_rules.specs.Names.{freed, is_alive, is_current, is_living, no_place, place_at, same_name, with_freed}
use Rattle.io_rules.specs.Operations.{timer_of}
use Rattle.io_rules.specs.Spares.{with_life_of}
use Rattle.io_rules.specs.State.{ContextState}
use Rattle.io_rules.proofs.StrandLemmas.{both, by_test, generation-with_life}
use Rattle.io_rules.proofs.TotalLemmas.{equal, same}
use Rattle.io_timers.specs.declared.pending.PendingWait.{PendingWait}
use Rattle.io_timers.specs.Kept.{Each}
use Rattle.io_timers.specs.Pending.{Entry, IsOnly, wait_of}
use Rattle.io_timers.proofs.OrderLemmas.{each-weaker}

abbrev pub AreCurrent : List Place → List Wait → Type 0
AreCurrent places [] = Unit {0}
AreCurrent places (wait ∷ waits) = (is_current places wait.timer ≡ true) × AreCurrent places waits

abbrev SameNames : List Place → List Place → Type 0
SameNames old new = (p : ℕ) → (place_at new p).generation ≡ (place_at old p).generation

current_still : (old new : List Place) → SameNames old new → (waits : List Wait) → AreCurrent old waits →
    AreCurrent new waits
current_still old new alike [] all = tt
current_still old new alike (wait ∷ waits) all = (
  ap (λ g. g == wait.timer.generation) (alike wait.timer.place) ∙ all.0,
  current_still old new alike waits all.1,
)

current_filter : (places : List Place) (p : Wait → Bool) (waits : List Wait) → AreCurrent places waits →
    AreCurrent places (filter p waits)
current_filter places p [] all = tt
current_filter places p (wait ∷ waits) all =
    by_test (p wait)
    (λ yes.
    subst (AreCurrent places) (sym (ap (λ b. cond b (wait ∷ filter p waits) (filter p waits)) yes))
    (all.0, current_filter places p waits all.1))
    (λ other.
    subst (AreCurrent places) (sym (ap (λ b. cond b (wait ∷ filter p waits) (filter p waits)) other))
    (current_filter places p waits all.1))

current_append : (places : List Place) (waits more : List Wait) → AreCurrent places waits → AreCurrent places more →
    AreCurrent places (waits ++ more)
current_append places [] more all others = others
current_append places (wait ∷ waits) more all others = (all.0, current_append places waits more all.1 others)

life_of : (new : Life) (name : Option Name) (places : List Place) → SameNames places (with_life_of new name places)
life_of new None places p = refl
life_of new (Some name) places p = generation-with_life new name places p

-- a call
nothing_gone : (a b c d : Bool) → gone.Nothing ≡ gone_by a b c d → c ≡ false
nothing_gone true b c d is = absurd (cc)
nothing_gone false true c d is = absurd (cc)
nothing_gone false false true d is = absurd (cc)
nothing_gone false false false d is = refl

alive_if : (b : Bool) → not b ≡ false → b ≡ true
alive_if true is = refl
alive_if false is = absurd (true≢false is)

pub alive_current : (places : List Place) (name : Name) → is_alive places name ≡ true → is_current places name ≡ true
alive_current places name alive =
    (both (is_current places name) (is_living (place_at places name.place).life) alive).one

called_waits : (s : ContextState) (op : ℕ) (timer : Option Name) → is_timer_gone s.names timer ≡ false →
    AreCurrent s.names.timers (waits_called op gone.Nothing timer)
called_waits s op None isnt = tt
called_waits s op (Some timer) isnt =
    (alive_current s.names.timers timer (alive_if (is_alive s.names.timers timer) isnt), tt)

called_current : (s : ContextState) (op : ℕ) (request : Request) (given : Gone) → given ≡ gone_of s request →
    AreCurrent s.names.timers (waits_called op given (timer_of request.kind))
called_current s op request gone.Nothing is = called_waits s op (timer_of request.kind) (nothing_gone _ _ _ _ is)
called_current s op request gone.Strand is = tt
called_current s op request gone.Other is = tt

-- a timer that is freed: what waits on it is cancelled
abbrev ops_of : List Wait → List ℕ
ops_of waits = map (λ wait. wait.op) waits

abbrev on_it : Name → List Wait → List Wait
on_it name waits = filter (λ wait. same_name wait.timer name) waits

abbrev IsAmong : Name → List ℕ → Wait → Type 0
IsAmong name numbers wait = same_name wait.timer name ≡ true → is_among numbers wait.op ≡ true

or_true : (b : Bool) → (b || true) ≡ true
or_true true = refl
or_true false = refl

all_among : (name : Name) (waits : List Wait) → Each (IsAmong name (ops_of (on_it name waits))) waits
all_among name [] = tt
all_among name (wait ∷ waits) =
    let rest = on_it name waits in
    by_test (same_name wait.timer name)
    (λ yes.
    subst (λ ws. Each (IsAmong name (ops_of ws)) (wait ∷ waits))
    (sym (ap (λ b. cond b (wait ∷ rest) rest) yes)) (
      λ is. ap (λ b. b || is_among (ops_of rest) wait.op) (same wait.op),
      each-weaker (IsAmong name (ops_of rest)) (IsAmong name (wait.op ∷ ops_of rest)) waits
          (λ other among is. ap (λ b. (wait.op == other.op) || b) (among is) ∙ or_true (wait.op == other.op))
          (all_among name waits),
    ))
    (λ other.
    subst (λ ws. Each (IsAmong name (ops_of ws)) (wait ∷ waits))
    (sym (ap (λ b. cond b (wait ∷ rest) rest) other))
    (λ is. absurd (true≢false (sym is ∙ other)), all_among name waits))

same_if : (places : List Place) (a b : Name) → is_current places a ≡ true → is_current places b ≡ true →
    a.place ≡ b.place → same_name a b ≡ true
same_if places a b one other at =
    let generation : a.generation ≡ b.generation =
    sym (equal (place_at places a.place).generation a.generation one) ∙ ap (λ p. (place_at places p).generation) at
    ∙ equal (place_at places b.place).generation b.generation other in
    ap (λ c. c && (a.generation == b.generation)) (subst (λ p. (a.place == p) ≡ true) at (same a.place))
    ∙ subst (λ n. (a.generation == n) ≡ true) generation (same a.generation)

freed_current : (places : List Place) (name : Name) (numbers : List ℕ) → is_current places name ≡ true →
    (waits : List Wait) → Each (IsAmong name numbers) waits → AreCurrent places waits →
    AreCurrent (with_freed name places) (filter (λ wait. not (is_among numbers wait.op)) waits)
freed_current places name numbers current [] among all = tt
freed_current places name numbers current (wait ∷ waits) among all =
    let rest = filter (λ w. not (is_among numbers w.op)) waits in
    by_test (is_among numbers wait.op)
    (λ out.
    subst (AreCurrent (with_freed name places)) (sym (ap (λ b. cond (not b) (wait ∷ rest) rest) out))
    (freed_current places name numbers current waits among.1 all.1))
    (λ stays.
    subst (AreCurrent (with_freed name places)) (sym (ap (λ b. cond (not b) (wait ∷ rest) rest) stays)) (
      ap (λ (p : Place). p.generation == wait.timer.generation)
          (get_or-set_other places name.place wait.timer.place (freed (place_at places name.place)) no_place
          (λ (at : wait.timer.place ≡ name.place).
          true≢false (sym (among.0 (same_if places wait.timer name all.0 current at)) ∙ stays)))
          ∙ all.0,
      freed_current places name numbers current waits among.1 all.1,
    ))

freed_timer : (s : ContextState) (name : Name) (b : Bool) → is_alive s.names.timers name ≡ b →
    AreCurrent s.names.timers s.waits →
    AreCurrent (place_freed b false name s.names.timers)
    (filter (λ wait. not (is_among (cond b (ops_of (on_it name s.waits)) []) wait.op)) s.waits)
freed_timer s name true alive all =
    freed_current s.names.timers name (ops_of (on_it name s.waits)) (alive_current s.names.timers name alive) s.waits
    (all_among name s.waits) all
freed_timer s name false alive all =
    current_filter s.names.timers (λ wait. not (is_among [] wait.op)) s.waits all

stays : (s : ContextState) (change : Control) → AreCurrent s.names.timers s.waits →
    AreCurrent s.names.timers (filter (λ wait. not (is_among (reached s change) wait.op)) s.waits)
stays s change all =
    current_filter s.names.timers (λ wait. not (is_among (reached s change) wait.op)) s.waits all

changed_current : (s : ContextState) (change : Control) → AreCurrent s.names.timers s.waits →
    AreCurrent (names_changed s change).timers
    (filter (λ wait. not (is_among (reached s change) wait.op)) s.waits)
changed_current s (control.Make kind.Timer name) all =
    current_still s.names.timers _ (generation-with_life life.Alive name s.names.timers)
    (filter (λ wait. not (is_among [] wait.op)) s.waits)
    (current_filter s.names.timers (λ wait. not (is_among [] wait.op)) s.waits all)
changed_current s (control.Free kind.Timer name) all = freed_timer s name (is_alive s.names.timers name) refl all
changed_current s (control.Make kind.Strand name) all = stays s (control.Make kind.Strand name) all
changed_current s (control.Make kind.Slot name) all = stays s (control.Make kind.Slot name) all
changed_current s (control.Make kind.Stream name) all = stays s (control.Make kind.Stream name) all
changed_current s (control.Make kind.Listener name) all = stays s (control.Make kind.Listener name) all
changed_current s (control.Free kind.Strand name) all = stays s (control.Free kind.Strand name) all
changed_current s (control.Free kind.Slot name) all = stays s (control.Free kind.Slot name) all
changed_current s (control.Free kind.Stream name) all = stays s (control.Free kind.Stream name) all
changed_current s (control.Free kind.Listener name) all = stays s (control.Free kind.Listener name) all
changed_current s (control.Expires timer at) all = stays s (control.Expires timer at) all
changed_current s (control.Cancel timer) all = stays s (control.Cancel timer) all
changed_current s (control.CancelOne timer) all = stays s (control.CancelOne timer) all
changed_current s (control.Emit slot types) all = stays s (control.Emit slot types) all
changed_current s (control.CancelAll stream) all = stays s (control.CancelAll stream) all
changed_current s (control.Shutdown stream) all = stays s (control.Shutdown stream) all
changed_current s (control.NoDelay stream on) all = stays s (control.NoDelay stream on) all
changed_current s control.Hold all = stays s control.Hold all
changed_current s control.Release all = stays s control.Release all
changed_current s control.Stop all = stays s control.Stop all

pub waits_current : (limits : Limits) (past : List Event) → IsLegal limits past →
    AreCurrent (state_of limits past).names.timers (state_of limits past).waits
waits_current limits [] legal = tt
waits_current limits (event.Called op by request given ∷ past) legal =
    let s = state_of limits past in
    current_append s.names.timers s.waits (waits_called op given (timer_of request.kind))
    (waits_current limits past legal.1) (called_current s op request given legal.0.names)
waits_current limits (event.Changed by change ∷ past) legal =
    changed_current (state_of limits past) change (waits_current limits past legal.1)
waits_current limits (event.Done op code size ∷ past) legal =
    let s = state_of limits past in
    current_filter s.names.timers (λ wait. not (wait.op == op)) s.waits (waits_current limits past legal.1)
waits_current limits (event.Begun op spares ∷ past) legal =
    let s = state_of limits past in
    current_still s.names.timers _ (life_of (life.Kept op) spares.timer s.names.timers) s.waits
    (waits_current limits past legal.1)
waits_current limits (event.Granted op spares ∷ past) legal =
    let s = state_of limits past in
    current_still s.names.timers _ (life_of (life.Kept op) spares.timer s.names.timers) s.waits
    (waits_current limits past legal.1)
waits_current limits (event.Ended op mark ∷ past) legal =
    let s = state_of limits past in
    current_still s.names.timers _ (life_of life.Free _ s.names.timers) s.waits (waits_current limits past legal.1)
waits_current limits (e ∷ past) legal = waits_current limits past legal.1

-- what waits at the place of a timer that is there waits on it
pub only_alive : {T : Type 0} (places : List Place) (timer : Name) (waits : List (Entry (PendingWait T))) →
    is_current places timer ≡ true → AreCurrent places (map wait_of waits) → IsOnly timer waits
only_alive places timer [] current all = tt
only_alive places timer (wait ∷ waits) current all = (
  by_test (wait.item.timer.place == timer.place)
      (λ here.
      here ∙ sym (same_if places wait.item.timer timer all.0 current (equal wait.item.timer.place timer.place here)))
      (λ other. other ∙ sym (ap (λ b. b && (wait.item.timer.generation == timer.generation)) other)),
  only_alive places timer waits current all.1,
)
