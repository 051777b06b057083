-- A proactor before anything was taken.
use Rattle.std.proofs.Common.{◌≡◌, ℕ, ◌<◌, ◌≤◌, Bool, true, false, suc, List, [], ◌∷◌, ◌++◌, Option, Some, None, length, map, get_or, replicate, refl, sym, ap, subst, ◌∙◌, arith}
use Rattle.std.specs.Bool.{IsTrue}
use Rattle.std.specs.List.{All}
use Rattle.std.specs.Option.{IfSome, option_map}
use Rattle.std.proofs.lemmas.Grind.{common_steps}
use Rattle.std.proofs.lemmas.List.{get_or-map, get_or-replicate, length-map, length-replicate}
use Rattle.std.proofs.lemmas.List.Sums.{sum_by-cons}
use Rattle.cancel_slots.specs.declared.connection.Connection.{Connection}
use Rattle.session_script.specs.declared.act.Act.{Act}
use Rattle.session_script.specs.Limits.{limits_of}
use Rattle.session_script.specs.Script.{ScriptModel}
use Rattle.session_script.specs.WellFormed.{IsWellFormed}
use Rattle.stream_rules.specs.Stream.{Stream, new_stream}
use Rattle.stream_rules.specs.World.{first_streams, lines_after, lines_at, stream_at, times_after}
use Rattle.history_rules.specs.State.{ReactorHalf, first_reactor, no_queues}
use Rattle.history_rules.specs.Bounds.{latest}
use Rattle.history_rules.proofs.LinesLemmas.{length-perform_lines}
use Rattle.reactor_trait.specs.Reactor.{Outside, ReactorState, outside_ready, state_ready}
use Rattle.proactor_core.specs.Following.{IsConnected}
use Rattle.proactor_core.specs.Proactor.{AreAtStart, Follows, HasRoomForActs, IsAt, IsSound, ProactorView}
use Rattle.proactor_core.specs.Reactor.{tells}
use Rattle.proactor_core.specs.Room.{HasRoomLeft}
use Rattle.proactor_core.specs.Rooms.{acts_below, untaken_below}
use Rattle.proactor_core.specs.StreamRooms.{is_on_side}
use Rattle.proactor_core.specs.declared.stream_rooms.StreamSide.TheVariants as side
use Rattle.proactor_core.specs.Streams.{StreamView, new_stream_view, pending_on, pending_in_all, queues_in, stream_in}
use Rattle.proactor_core.specs.Tables.{TableState, op_in, with_tables}
use Rattle.proactor_core.specs.Untold.{IsUntoldOf}
use Rattle.proactor_core.specs.Works.{with_works}
use Rattle.proactor_core.proofs.RoomLemmas.{untaken-none}
use Rattle.proactor_core.proofs.TellsLemmas.{tells-mapped}
use Rattle.proactor_core.proofs.TickLemmas.{Tells}
use Rattle.proactor_core.proofs.UntoldRestLemmas.{untold-begins}

-- the limits of both versions
acts-below : (version : ℕ) → (limits_of version).acts ≤ 4096
unfolding limits_of
acts-below version = grind (arith, common_steps)

streams-below : (version : ℕ) → (limits_of version).streams < 256
unfolding limits_of
streams-below version = grind (arith, common_steps)

-- where all streams have the same of something
map-alike : {A : Type 0} (f : StreamView → A) (a : A) (streams : List StreamView) →
    ((n : ℕ) → n < length streams → f (stream_in streams n) ≡ a) → map f streams ≡ replicate (length streams) a
map-alike f a [] all = refl
map-alike f a (view ∷ views) all =
    let first : f view ≡ a = all 0 (omega arith) in
    ap (λ x. x ∷ map f views) first ∙ ap (λ xs. a ∷ xs) (map-alike f a views (λ n b. all (suc n) (omega arith)))

none-pending : (streams : List StreamView) → ((n : ℕ) → n < length streams → pending_on (stream_in streams n) ≡ 0) →
    pending_in_all streams ≡ 0
none-pending [] all = refl
none-pending (view ∷ views) all =
    let first : pending_on view ≡ 0 = all 0 (omega arith) in
    let total = sum_by-cons pending_on view views in
    let rest = none-pending views (λ n b. all (suc n) (omega arith)) in
    omega arith

-- nothing is connected
op-none : (script : ScriptModel) (there : Option Connection) → op_in there ≡ None → IsConnected script there
op-none script None none = tt
op-none script (Some there) none = absurd (cc)

none-connected : (script : ScriptModel) (slots : List (Option Connection)) (n : ℕ) →
    map op_in slots ≡ replicate n None → All (IsConnected script) slots
none-connected script slots n none = λ k d b.
    let long = ap length none ∙ length-replicate n None in
    let count = length-map slots op_in in
    op-none script (get_or slots k d) (sym (get_or-map op_in slots k d None b)
    ∙ ap (λ (xs : List (Option ℕ)). get_or xs k None) none ∙ get_or-replicate n k None None (omega arith))

module _ (script : ScriptModel) (s : TableState) (streams : List StreamView) (new : AreAtStart script s streams) where
  half : with_tables s (first_reactor script true) ≡ first_reactor script true
  half = new.half true

  taken : s.taken ≡ replicate (length script.acts) false
  taken = ap (λ (h : ReactorHalf). h.taken) half

  view-at : (n : ℕ) → n < length streams →
      stream_in streams n
      ≡ new_stream_view (stream_in streams n).room (stream_in streams n).reads_room (stream_in streams n).writes_room
  view-at n b = new.opened n (omega (arith, b, new.count))

  queues-first : map queues_in streams ≡ replicate script.world.streams no_queues
  queues-first =
      map-alike queues_in no_queues streams (λ n b. ap queues_in (view-at n b))
      ∙ ap (λ n. replicate n no_queues) new.count

  closed-first : map (λ view. view.closed) streams ≡ replicate script.world.streams false
  closed-first =
      map-alike (λ view. view.closed) false streams (λ n b. ap (λ (v : StreamView). v.closed) (view-at n b))
      ∙ ap (λ n. replicate n false) new.count

  -- the works are those of the first half, whatever its streams are
  pub works-first : (telling : Bool) →
      with_works s streams (first_reactor script telling) ≡ first_reactor script telling
  works-first telling =
      ap (λ (h : ReactorHalf). let changed : ReactorHalf = record h { queues = map queues_in streams } in changed)
      (new.half telling)
      ∙ ap (λ q. let changed : ReactorHalf = record (first_reactor script telling) { queues = q } in changed) queues-first

  pub room-first : IsWellFormed script → HasRoomForActs script s streams
  room-first formed =
      let long = ap length taken ∙ length-replicate (length script.acts) false in
      let expiries : s.waiting.expiries ≡ replicate script.timers 0 = ap (λ (h : ReactorHalf). h.expiries) half in
      let slots : map op_in s.slots ≡ replicate script.slots None = ap (λ (h : ReactorHalf). h.slots) half in
      let guards : s.guards ≡ replicate script.guards true = ap (λ (h : ReactorHalf). h.guards) half in
      let coming : s.due.coming ≡ [] = ap (λ (h : ReactorHalf). h.due) half in
      let time : s.time ≡ 0 = ap (λ (h : ReactorHalf). h.now) half in
      let most = acts-below script.version in
      let few = streams-below script.version in
      let acts = formed.acts.count in
      let declared = formed.streams in
      let none = none-pending streams (λ n b. ap pending_on (view-at n b)) in
      let left = new.room in
      let untaken : (test : Act → Bool) →
      untaken_below test script s.taken (length s.taken) ≡ acts_below test script (length script.acts) = λ test.
      ap (λ t. untaken_below test script t (length t)) taken
      ∙ ap (untaken_below test script (replicate (length script.acts) false)) (length-replicate (length script.acts) false)
      ∙ untaken-none test script (length script.acts) (length script.acts) (omega arith) in
      record {
        fit = record {
          most = omega (arith, most, acts);
          few = omega (arith, few, declared, new.count);
          taken = long;
          expiries = ap length expiries ∙ length-replicate {A = ℕ} script.timers 0;
          slots = sym (length-map s.slots op_in) ∙ ap length slots ∙ length-replicate script.slots None;
          guards = ap length guards ∙ length-replicate script.guards true;
          streams = new.count;
        };
        tables = subst (λ n. HasRoomLeft script n s) (sym none) new.room;
        queues = record {
          reads = λ n b.
              let none : length (stream_in streams n).reads ≡ 0 =
              ap (λ (v : StreamView). length v.reads) (view-at n b) in
              let rooms = new.reads n (omega (arith, b, new.count)) in
              omega (arith, none, rooms, untaken (is_on_side side.Reads n));
          writes = λ n b.
              let none : length (stream_in streams n).writes ≡ 0 =
              ap (λ (v : StreamView). length v.writes) (view-at n b) in
              let rooms = new.writes n (omega (arith, b, new.count)) in
              omega (arith, none, rooms, untaken (is_on_side side.Writes n));
          sizes = λ a n act b is. new.sizes a n act (omega (arith, b, new.count)) is;
        };
        connected = none-connected script s.slots script.slots slots;
        within = record {
          due = let none = ap length coming in omega (arith, none, new.spare);
          now = omega (arith, time);
          expiries =
              subst (All (λ expiry. expiry ≤ latest s.accepted)) (sym expiries)
              (λ k d b.
              let none =
              get_or-replicate {A = ℕ} script.timers k 0 d
              (omega (arith, b, length-replicate {A = ℕ} script.timers 0)) in
              omega (arith, none));
        };
        working = ap (λ (h : ReactorHalf). h.failed) half;
      }

  -- what a reactor tells that was just set up
  tells-first : (before : Option Outside) →
      Tells (option_map (λ _. outside_ready script.world) before) streams (first_reactor script (tells before)).streams
      (lines_after 0 script.world.lines)
  tells-first None = record {
    count = length-replicate script.world.streams new_stream ∙ sym new.count;
    told_count = tt;
    bytes = λ n b. tt;
    to_come = tt;
  }
  tells-first (Some outside) =
      let count : length (first_streams script.world) ≡ length streams =
      length-perform_lines (lines_at 0 script.world.lines) (replicate script.world.streams new_stream)
      ∙ length-replicate script.world.streams new_stream ∙ sym new.count in
      record {
        count = count;
        told_count = count;
        bytes = λ n b.
            ap (λ (v : StreamView). whole v.held (stream_at (first_streams script.world) n)) (sym (view-at n b));
        to_come = refl;
      }
    where
      whole : List ℕ → Stream → Stream
      whole held s = record s { arrived = held ++ s.arrived }

  there-first : (before : Option Outside) →
      IfSome (option_map (λ _. outside_ready script.world) before) (λ outside. length outside.streams ≡ length streams)
  there-first before = (tells-first before).told_count

  module _ {X : Type 0} (state : X → ReactorState) (told : X → Option Outside) (old reactor : X)
      (ready : state reactor ≡ state_ready script.world)
      (told_ready : told reactor ≡ option_map (λ _. outside_ready script.world) (told old)) where
    abbrev pub view : ProactorView X
    view = record { script = script; tables = s; streams = streams; reactor = reactor }

    pub sound-first : IsWellFormed script → IsSound state told view
    sound-first formed =
        let waits : s.waiting.waits ≡ [] = ap (λ (h : ReactorHalf). h.waits) half in
        let time : s.time ≡ 0 = ap (λ (h : ReactorHalf). h.now) half in
        let last : s.last ≡ false = ap (λ (h : ReactorHalf). h.last) half in
        record {
          turning = record {
            room = room-first formed;
            step = record {
              now = ap (λ (t : ReactorState). t.now) ready ∙ sym time;
              times =
                  ap (λ (t : ReactorState). t.times) ready ∙ ap (λ now. times_after now script.world.lines) (sym time);
              last = ap (λ (t : ReactorState). t.last) ready ∙ sym last;
              servable = record {
                up = subst (λ (t : ReactorState). IsTrue t.up) (sym ready) refl;
                closed = ap (λ (t : ReactorState). t.closed) ready ∙ sym closed-first;
                there =
                    subst (λ (t : Option Outside). IfSome t (λ outside. length outside.streams ≡ length streams))
                    (sym told_ready) (there-first (told old));
              };
            };
          };
          ahead = λ k d b. let none = ap length waits in absurd (omega arith);
          drained = λ over. let no : false ≡ true = sym last ∙ over in absurd (cc);
        }

    pub at-first : IsAt told view (first_reactor script (tells (told old)))
    at-first =
        let time : s.time ≡ 0 = ap (λ (h : ReactorHalf). h.now) half in
        let half_streams = (first_reactor script (tells (told old))).streams in
        let lines = lines_after s.time script.world.lines in
        let is =
        subst
        (λ (now : ℕ).
        Tells (option_map (λ _. outside_ready script.world) (told old)) streams half_streams
        (lines_after now script.world.lines)) (sym time) (tells-first (told old)) in
        let here = subst (λ (t : Option Outside). Tells t streams half_streams lines) (sym told_ready) is in
        record {
          works = works-first (tells (told old));
          count = here.count;
          told_count = here.told_count;
          bytes = here.bytes;
          lines = here.to_come;
        }

    pub follows-first : Follows told view (first_reactor script (tells (told old)))
    follows-first = record {
      where_told = λ telling. at-first;
      where_untold = λ telling.
          let was = sym (ap tells told_ready ∙ tells-mapped (λ _. outside_ready script.world) (told old)) ∙ telling in
          record {
            mid = first_reactor script (tells (told old));
            is_at = at-first;
            untold =
                subst (λ t. IsUntoldOf script (first_reactor script t) (first_reactor script t)) (sym was)
                (untold-begins script (first_reactor script false).streams);
          };
    }
