-- What seats do.
use Rattle.std.specs.Prelude.{◌≡◌, ℕ, true, false, List, [], ◌∷◌, Option, Some, None}
use Rattle.std.specs.Option.{option_map}
use Rattle.atomic_table.specs.Table.{Me, Step}
use Rattle.io_rules.specs.declared.event.Event.{Event}
use Rattle.io_rules.specs.declared.event.Event.TheVariants as event
use Rattle.io_rules.specs.Legal.{IsLegal, state_of}
use Rattle.io_rules.specs.Ops.{op_at}
use Rattle.io_rules.specs.declared.op.Op.{Op}
use Rattle.io_rules.specs.State.{ContextState}
use Rattle.io_history.specs.declared.view.Held.{Held}
use Rattle.io_history.specs.declared.view.View.{View}
use Rattle.io_history.specs.Rule.{EndsWith, IsHeld}

-- whose handler does this: makes a call, is granted more, or returns
abbrev pub actor : Event → Option ℕ
actor (event.Called op by request gone) = by
actor (event.Changed by change) = by
actor (event.Granted op spares) = Some op
actor (event.Ended op mark) = Some op
actor _ = None

abbrev pub IsBegin : Event → Type 0
IsBegin (event.Begun op spares) = Unit {0}
IsBegin _ = ⊥

abbrev pub held_op : Option Held → Option ℕ
held_op held = option_map (λ (h : Held). h.op) held

-- a handler does only what the keeper holds it for, and none begins while another is held
pub record IsFree (e : Event) (held : Option Held) : Type 0 where
  pub acts : (op : ℕ) → actor e ≡ Some op → held_op held ≡ Some op
  pub begins : IsBegin e → held ≡ None

-- an operation as it is
abbrev pub holding : ℕ → Option Op → Option Held
holding op None = None
holding op (Some is) = Some (record { op = op; is = is })

abbrev pub held_still : ContextState → Option Held → Option Held
held_still s None = None
held_still s (Some held) = holding held.op (op_at s.ops held.op)

-- what the keeper holds behind an event that leads to this state: what begins, till it returns
abbrev pub held_after : ContextState → Event → Option Held → Option Held
held_after s (event.Begun op spares) held = holding op (op_at s.ops op)
held_after s (event.Ended op mark) held = None
held_after s _ held = held_still s held

abbrev pub noted : Event → View → View
noted e v = record {
  keeps = v.keeps;
  limits = v.limits;
  events = e ∷ v.events;
  told = v.told;
  held = held_after (state_of v.limits (e ∷ v.events)) e v.held;
}

abbrev pub Noted : Event → Step ℕ → Me ℕ View → ℕ → Me ℕ View → Type 0
Noted e s me found new = new ≡ (noted e me.0, me.1)

-- what the rule says of the keeper
pub record Learnt (s : Step ℕ) (me : Me ℕ View) (found : ℕ) (new : Me ℕ View) : Type 0 where
  pub same : new ≡ me
  pub legal : IsLegal me.0.limits me.0.events
  pub told : EndsWith me.0.events me.0.told
  pub held : IsHeld (state_of me.0.limits me.0.events) me.0.held

abbrev pub same_view : View → View
same_view v = v

abbrev pub without_claim : View → View
without_claim v =
    record { keeps = v.keeps; limits = v.limits; events = v.events; told = v.told; held = None }

abbrev pub claim_of : View → View
claim_of v =
    record { keeps = false; limits = v.limits; events = []; told = v.events; held = v.held }

abbrev pub witness_of : View → View
witness_of v = record { keeps = false; limits = v.limits; events = []; told = v.events; held = None }

abbrev pub first_held : Option Held → Option Held → Option Held
first_held None other = other
first_held (Some held) other = Some held

-- what another was told and holds
abbrev pub joined : View → View → View
joined v w = record {
  keeps = v.keeps;
  limits = v.limits;
  events = v.events;
  told = w.told;
  held = first_held v.held w.held;
}

abbrev pub nobody : View
nobody = record {
  keeps = false;
  limits = record {
    operations = 0;
    strands = 0;
    timers = 0;
    slots = 0;
    streams = 0;
    grant = 0;
    staged = 0;
    held = 0;
  };
  events = [];
  told = [];
  held = None;
}
