-- What a proactor that is sound has room for, and what telling a completion leaves.
use Rattle.std.proofs.Common.{◌≡◌, ◌==◌, Bool, true, false, cond, inl, inr, ℕ, ◌+◌, ◌<◌, ◌^◌, List, ◌∷◌, Option, Some, None, length, get_or, sym, ap, subst, ◌∙◌, arith}
use Rattle.std.specs.List.{All}
use Rattle.std.proofs.lemmas.List.{get_or_past, length-set}
use Rattle.std.proofs.lemmas.Bool.{cases_lt}
use Rattle.std.proofs.lemmas.Option.{unwrap_or-slice_get}
use Rattle.std.proofs.lemmas.List.Elements.{All-set}
use Rattle.cancel_slots.specs.declared.connection.Connection.{Connection}
use Rattle.cancel_slots.specs.Slots.{connection_of}
use Rattle.session_script.specs.Script.{ScriptModel}
use Rattle.stream_rules.specs.declared.queue.Completion.{Completion}
use Rattle.proactor_core.specs.Due.{Due}
use Rattle.proactor_core.specs.Following.{IsConnected}
use Rattle.reactor_trait.specs.Reactor.{Outside, ReactorState}
use Rattle.proactor_core.specs.Proactor.{HasRoomForActs, IsSound, ProactorView}
use Rattle.proactor_core.specs.Streams.{StreamView, pending_in_all}
use Rattle.proactor_core.specs.Tables.{TableState, left_by, slot_left}

-- a completion that was told leaves its room
pub told-room : (script : ScriptModel) (streams : List StreamView) (s : TableState) (due : Due) (head : Completion) →
    s.due.coming ≡ head ∷ due.coming → due.spare ≡ s.due.spare + 1 → HasRoomForActs script s streams →
    HasRoomForActs script (record s { due = due }) streams
told-room script streams s due head coming spare room =
    let left = room.tables in
    let before = left.spare in
    let most = room.within.due in
    let long = ap length coming in
    record {
      fit = room.fit;
      tables =
          record {
            acts = left.acts;
            waits_taken = left.waits_taken;
            rooms = left.rooms;
            counted = left.counted;
            accepted = left.accepted;
            spare = omega arith;
          };
      queues = room.queues;
      connected = room.connected;
      within =
          record { due = omega (arith, long, most, spare); now = room.within.now; expiries = room.within.expiries };
      working = room.working;
    }

left-connected : (script : ScriptModel) (op : ℕ) (there : Option Connection) → IsConnected script there →
    IsConnected script (left_by op there)
left-connected script op None is = tt
left-connected script op (Some there) is = cond-connected (there.op == op)
  where
    cond-connected : (t : Bool) → IsConnected script (cond t None (Some there))
    cond-connected true = tt
    cond-connected false = is

pub connected-at : (script : ScriptModel) (slots : List (Option Connection)) (slot : ℕ) →
    All (IsConnected script) slots → IsConnected script (connection_of slots slot)
connected-at script slots slot all =
    let is : get_or slots slot None ≡ connection_of slots slot = sym (unwrap_or-slice_get slots slot None) in
    elim (cases_lt slot (length slots)) [
      | inl there ↦ subst (IsConnected script) is (all slot None there)
      | inr past ↦
          subst (IsConnected script) is
          (let none = get_or_past slots slot None (omega arith) in subst (IsConnected script) (sym none) tt)
    ]

-- an operation that leaves its slot leaves the room
pub left-room : (script : ScriptModel) (streams : List StreamView) (s : TableState) (slot : Option ℕ) (op : ℕ) →
    HasRoomForActs script s streams → HasRoomForActs script (slot_left slot op s) streams
left-room script streams s None op room = room
left-room script streams s (Some slot) op room =
    let fit = room.fit in
    let left = room.tables in
    record {
      fit =
          record {
            most = fit.most;
            few = fit.few;
            taken = fit.taken;
            expiries = fit.expiries;
            slots = length-set s.slots slot (left_by op (connection_of s.slots slot)) ∙ fit.slots;
            guards = fit.guards;
            streams = fit.streams;
          };
      tables =
          record {
            acts = left.acts;
            waits_taken = left.waits_taken;
            rooms = left.rooms;
            counted = left.counted;
            accepted = left.accepted;
            spare = left.spare;
          };
      queues = room.queues;
      connected =
          All-set (IsConnected script) s.slots slot (left_by op (connection_of s.slots slot))
          (left-connected script op (connection_of s.slots slot) (connected-at script s.slots slot room.connected))
          room.connected;
      within = room.within;
      working = room.working;
    }

-- a completion was told, and its operation left its slot
abbrev pub after_telling : {X : Type 0} → ProactorView X → Option ℕ → ℕ → Due → ProactorView X
after_telling view slot op due = record view { tables = slot_left slot op (record view.tables { due = due }) }

pub sound-told : {X : Type 0} (state : X → ReactorState) (told : X → Option Outside) (view : ProactorView X)
    (slot : Option ℕ) (head : Completion) (due : Due) → view.tables.due.coming ≡ head ∷ due.coming →
    due.spare ≡ view.tables.due.spare + 1 → IsSound state told view →
    IsSound state told (after_telling view slot head.op due)
sound-told state told view None head due coming spare sound = record {
  turning = record {
    room = told-room view.script view.streams view.tables due head coming spare sound.turning.room;
    step =
        record {
          now = sound.turning.step.now;
          times = sound.turning.step.times;
          last = sound.turning.step.last;
          servable = sound.turning.step.servable;
        };
  };
  ahead = sound.ahead;
  drained = sound.drained;
}
sound-told state told view (Some slot) head due coming spare sound = record {
  turning = record {
    room =
        left-room view.script view.streams (record view.tables { due = due }) (Some slot) head.op
        (told-room view.script view.streams view.tables due head coming spare sound.turning.room);
    step =
        record {
          now = sound.turning.step.now;
          times = sound.turning.step.times;
          last = sound.turning.step.last;
          servable = sound.turning.step.servable;
        };
  };
  ahead = sound.ahead;
  drained = sound.drained;
}
