-- What a context keeps, call by call.
use Rattle.std.proofs.Common.{◌≡◌, ℕ, suc, ◌+◌, ◌-◌, ◌*◌, ◌<◌, ◌≤◌, Bool, true, false, ◌||◌, cond, List, [], ◌∷◌, ◌++◌, Option, Some, None, length, take, drop, map, get_or, replicate, refl, sym, ap, subst, ◌∙◌, arith, length-append}
use Rattle.std.specs.Prelude.{slice_get, slice_set}
use Rattle.std.proofs.lemmas.List.{append-nil, append_assoc, length-map, length-replicate, length-take-le, map-append, take-append-drop, take_all, take_more}
use Rattle.asio_types.specs.declared.code.Code.{Code}
use Rattle.asio_types.specs.declared.code.Code.TheVariants as code
use Rattle.asio_types.specs.declared.event.Event.{Event}
use Rattle.asio_types.specs.declared.event.Event.TheVariants as event
use Rattle.op_handlers.specs.declared.call.Call.{Call}
use Rattle.session_script.specs.Script.{Entry, ScriptModel, opening_of, parent_of, stops}
use Rattle.session_script.specs.Lanes.{is_inline, is_inside, caller_lane, lanes_of}
use Rattle.session_script.specs.WellFormed.{IsWellFormed}
use Rattle.history_rules.specs.Calls.{accepted}
use Rattle.history_book.specs.History.{Recorded}
use Rattle.history_rules.specs.Order.{is_request}
use Rattle.history_rules.specs.declared.phase.ActPhase.{ActPhase}
use Rattle.strand_core.specs.Execution.{AnyMark, AreCalls, IsWholeExecution, events_of, no_act, outside}
use Rattle.strand_core.specs.declared.posted.Posted.{Posted}
use Rattle.strand_core.specs.declared.posted.Posted.TheVariants as posted
use Rattle.strand_core.proofs.CallLemmas.{with_marks}
use Rattle.execution_laws.specs.Called.{are_stopping, called_as}
use Rattle.execution_laws.specs.Order.{postings_of, requests_of}
use Rattle.execution_laws.specs.Ready.{is_ready}
use Rattle.execution_laws.proofs.CalledLemmas.{stopping-append}
use Rattle.execution_laws.proofs.EventLemmas.{events-append}
use Rattle.execution_laws.proofs.PlaceLemmas.{parent_is}
use Rattle.execution_laws.proofs.ScriptLemmas.{few_in}
use Rattle.book_context.specs.Bound.{OpeningsAreBounded}
use Rattle.book_context.specs.Left.{most_history}
use Rattle.book_context.specs.Listed.{Listed, with_events, with_listed}
use Rattle.book_context.specs.Recording.{Recording, marked, new_recording, outside_calls, with_calls}

called_by : (here : Bool) (act : ℕ) (xs ys all : List ℕ) → all ≡ xs ++ ys →
    cond here (act ∷ all) all ≡ cond here (act ∷ xs) xs ++ ys
called_by true act xs ys all same = ap (λ rest. act ∷ rest) same
called_by false act xs ys all same = same

called_as-append : (test : ActPhase → Bool) (script : ScriptModel) (xs ys : List Posted) →
    called_as test script (xs ++ ys) ≡ called_as test script xs ++ called_as test script ys
called_as-append test script [] ys = refl
called_as-append test script (posted.Begin op code size begun ∷ xs) ys = called_as-append test script xs ys
called_as-append test script (posted.Call act ∷ xs) ys =
    called_by (test (accepted script act)) act (called_as test script xs) (called_as test script ys)
    (called_as test script (xs ++ ys)) (called_as-append test script xs ys)
called_as-append test script (posted.Back act ∷ xs) ys = called_as-append test script xs ys
called_as-append test script (posted.End op ran ∷ xs) ys = called_as-append test script xs ys

marked-append : (xs ys : List Posted) (called : List Bool) → marked (xs ++ ys) called ≡ marked ys (marked xs called)
marked-append [] ys called = refl
marked-append (posted.Begin op code size begun ∷ xs) ys called = marked-append xs ys called
marked-append (posted.Call act ∷ xs) ys called = marked-append xs ys (slice_set called act true)
marked-append (posted.Back act ∷ xs) ys called = marked-append xs ys called
marked-append (posted.End op ran ∷ xs) ys called = marked-append xs ys called

abbrev recorded_of : List Event → ℕ → Recorded
recorded_of events spare = record { events = events; spare = spare }

recorded_is : {events more : List Event} {spare left : ℕ} → events ≡ more → spare ≡ left →
    recorded_of events spare ≡ recorded_of more left
recorded_is {events} {more} {spare} {left} same_events same_spare =
    ap (λ xs. recorded_of xs spare) same_events ∙ ap (recorded_of more) same_spare

abbrev listed_of : ℕ → List (ℕ × Code × ℕ) → List ℕ → List Bool → Listed
listed_of room ready requests called = record { ready = ready; requests = requests; room = room; called = called }

listed_is : (room : ℕ) {ready ready' : List (ℕ × Code × ℕ)} {requests requests' : List ℕ} {called called' : List Bool} →
    ready ≡ ready' → requests ≡ requests' → called ≡ called' →
    listed_of room ready requests called ≡ listed_of room ready' requests' called'
listed_is room {ready} {ready'} {requests} {requests'} {called} {called'} is_ready is_requests is_called =
    ap (λ r. listed_of room r requests called) is_ready ∙ ap (λ r. listed_of room ready' r called) is_requests
    ∙ ap (λ c. listed_of room ready' requests' c) is_called

module _ (script : ScriptModel) where
  postings-append : (xs ys : List Posted) →
      postings_of script (xs ++ ys) ≡ postings_of script xs ++ postings_of script ys
  postings-append xs ys =
      let op_of : ℕ → ℕ × Code × ℕ = λ op. (op, code.Ok, 0) in
      ap (map op_of) (called_as-append is_ready script xs ys)
      ∙ map-append op_of (called_as is_ready script xs) (called_as is_ready script ys)

  requests-append : (xs ys : List Posted) →
      requests_of script (xs ++ ys) ≡ requests_of script xs ++ requests_of script ys
  requests-append xs ys = called_as-append is_request script xs ys

  -- a part of some calls and one more have no more of anything than all
  one_fits : (count : List Posted → ℕ) → ((xs ys : List Posted) → count (xs ++ ys) ≡ count xs + count ys) →
      (calls : List Posted) (i : ℕ) (d : Posted) → i < length calls →
      count (take i calls) + count (get_or calls i d ∷ []) ≤ count calls
  one_fits count sums calls i d less =
      let one : take (i + 1) calls ≡ take i calls ++ get_or calls i d ∷ [] = take_more calls i d less in
      let parted : count calls ≡ count (take (i + 1) calls) + count (drop (i + 1) calls) =
      ap count (sym (take-append-drop (i + 1) calls)) ∙ sums (take (i + 1) calls) (drop (i + 1) calls) in
      let first : count (take (i + 1) calls) ≡ count (take i calls) + count (get_or calls i d ∷ []) =
      ap count one ∙ sums (take i calls) (get_or calls i d ∷ []) in
      omega (arith, parted, first)

  pub length-events : (xs ys : List Posted) →
      length (events_of script (xs ++ ys)) ≡ length (events_of script xs) + length (events_of script ys)
  length-events xs ys =
      ap length (events-append script xs ys) ∙ length-append (events_of script xs) (events_of script ys)

  length-postings : (xs ys : List Posted) →
      length (postings_of script (xs ++ ys)) ≡ length (postings_of script xs) + length (postings_of script ys)
  length-postings xs ys =
      ap length (postings-append xs ys) ∙ length-append (postings_of script xs) (postings_of script ys)

  length-requests : (xs ys : List Posted) →
      length (requests_of script (xs ++ ys)) ≡ length (requests_of script xs) + length (requests_of script ys)
  length-requests xs ys =
      ap length (requests-append xs ys) ∙ length-append (requests_of script xs) (requests_of script ys)

  -- the first i of some calls are recorded
  pub record RecordedTo (calls : List Posted) (i : ℕ) (first now : Recorded) (early late : Listed) (stopped : Bool)
      : Type 0 where
    pub history : now ≡ with_events (events_of script (take i calls)) first
    pub lists : late ≡ with_listed script (take i calls) early
    pub stops : stopped ≡ are_stopping script (take i calls)

  events_both : (xs ys : List Event) (h : Recorded) → with_events ys (with_events xs h) ≡ with_events (xs ++ ys) h
  events_both xs ys h =
      let events : h.events ++ xs ++ ys ≡ h.events ++ (xs ++ ys) = append_assoc h.events xs ys in
      let spare : h.spare - length xs - length ys ≡ h.spare - length (xs ++ ys) = omega (arith, length-append xs ys) in
      recorded_is events spare

  listed_both : (xs ys : List Posted) (l : Listed) →
      with_listed script ys (with_listed script xs l) ≡ with_listed script (xs ++ ys) l
  listed_both xs ys l =
      listed_is l.room
      (append_assoc l.ready (postings_of script xs) (postings_of script ys)
      ∙ ap (λ more. l.ready ++ more) (sym (postings-append xs ys)))
      (append_assoc l.requests (requests_of script xs) (requests_of script ys)
      ∙ ap (λ more. l.requests ++ more) (sym (requests-append xs ys)))
      (sym (marked-append xs ys l.called))

  module _ (calls : List Posted) (first : Recorded) (early : Listed) where
    pub none_recorded : RecordedTo calls 0 first first early early false
    none_recorded = record {
      history = recorded_is (sym (append-nil first.events)) (omega arith);
      lists = listed_is early.room (sym (append-nil early.ready)) (sym (append-nil early.requests)) refl;
      stops = refl;
    }

    module _ (i : ℕ) (now : Recorded) (late : Listed) (stopped : Bool)
        (far : RecordedTo calls i first now early late stopped) where
      module _ (d : Posted) (less : i < length calls) where
        pub events_fit : length (events_of script calls) ≤ first.spare →
            length (events_of script (get_or calls i d ∷ [])) ≤ now.spare
        events_fit fits =
            let spare : now.spare ≡ first.spare - length (events_of script (take i calls)) =
            ap (λ (h : Recorded). h.spare) far.history in
            omega (arith, fits, spare, one_fits (λ xs. length (events_of script xs)) length-events calls i d less)

        pub ready_fit : length early.ready + length (postings_of script calls) ≤ early.room →
            length late.ready + length (postings_of script (get_or calls i d ∷ [])) ≤ late.room
        ready_fit fits =
            let size : length late.ready ≡ length early.ready + length (postings_of script (take i calls)) =
            ap (λ (l : Listed). length l.ready) far.lists
            ∙ length-append early.ready (postings_of script (take i calls)) in
            let room : late.room ≡ early.room = ap (λ (l : Listed). l.room) far.lists in
            omega (arith, fits, size, room, one_fits (λ xs. length (postings_of script xs)) length-postings calls i d less)

        pub requests_fit : length early.requests + length (requests_of script calls) ≤ early.room →
            length late.requests + length (requests_of script (get_or calls i d ∷ [])) ≤ late.room
        requests_fit fits =
            let size : length late.requests ≡ length early.requests + length (requests_of script (take i calls)) =
            ap (λ (l : Listed). length l.requests) far.lists
            ∙ length-append early.requests (requests_of script (take i calls)) in
            let room : late.room ≡ early.room = ap (λ (l : Listed). l.room) far.lists in
            omega (arith, fits, size, room, one_fits (λ xs. length (requests_of script xs)) length-requests calls i d less)

        pub one_recorded : (next : Recorded) (later : Listed) (stops : Bool) →
            next ≡ with_events (events_of script (get_or calls i d ∷ [])) now →
            later ≡ with_listed script (get_or calls i d ∷ []) late →
            stops ≡ are_stopping script (get_or calls i d ∷ []) →
            RecordedTo calls (i + 1) first next early later (stopped || stops)
        one_recorded next later stops is_next is_later is_stops =
            let before : List Posted = take i calls in
            let here : List Posted = get_or calls i d ∷ [] in
            let more : take i calls ++ get_or calls i d ∷ [] ≡ take (i + 1) calls = sym (take_more calls i d less) in
            record {
              history =
                  is_next ∙ ap (with_events (events_of script here)) far.history
                  ∙ events_both (events_of script before) (events_of script here) first
                  ∙ ap (λ events. with_events events first) (sym (events-append script before here))
                  ∙ ap (λ xs. with_events (events_of script xs) first) more;
              lists =
                  is_later ∙ ap (with_listed script here) far.lists ∙ listed_both before here early
                  ∙ ap (λ xs. with_listed script xs early) more;
              stops =
                  ap (λ b. b || stops) far.stops ∙ ap (λ b. are_stopping script before || b) is_stops
                  ∙ sym (stopping-append script before here) ∙ ap (are_stopping script) more;
            }

      module _ (past : length calls ≤ i) where
        all : take i calls ≡ calls
        all = take_all i calls past

        pub all_events : now ≡ with_events (events_of script calls) first
        all_events = far.history ∙ ap (λ xs. with_events (events_of script xs) first) all

        pub all_listed : late ≡ with_listed script calls early
        all_listed = far.lists ∙ ap (λ xs. with_listed script xs early) all

        pub all_stops : stopped ≡ are_stopping script calls
        all_stops = far.stops ∙ ap (are_stopping script) all

-- no act of `open` executes inside its call
outside_open : (script : ScriptModel) (n : ℕ) → parent_of script n ≡ None → is_inline script n ≡ false
outside_open script n parent = by_entry (slice_get script.acts n) refl
  where
    by_entry : (found : Option Entry) → slice_get script.acts n ≡ found → is_inline script n ≡ false
    by_entry None there = rw there refl
    by_entry (Some entry) there =
        rw there (ap (λ place. is_inside (caller_lane (lanes_of script) place) entry.act) parent)

module _ (script : ScriptModel) where
  are_outside : (acts : List ℕ) → ((i n : ℕ) → slice_get acts i ≡ Some n → is_inline script n ≡ false) →
      AreCalls script AnyMark acts (outside_calls acts)
  are_outside [] each = no_act
  are_outside (act ∷ acts) each = outside (each 0 act refl) (are_outside acts (λ i n is. each (suc i) n is))

  pub are_opened : IsWellFormed script → AreCalls script AnyMark (opening_of script) (outside_calls (opening_of script))
  are_opened well =
      are_outside (opening_of script) (λ i n is. outside_open script n (parent_is script well None n i is))

  few_by : (here : Bool) (act size : ℕ) (more : List ℕ) → length more ≤ size →
      length (cond here (act ∷ more) more) ≤ suc size
  few_by true act size more few = omega (arith, few)
  few_by false act size more few = omega (arith, few)

  few_called : (test : ActPhase → Bool) (acts : List ℕ) →
      length (called_as test script (outside_calls acts)) ≤ length acts
  few_called test [] = omega arith
  few_called test (act ∷ acts) =
      few_by (test (accepted script act)) act (length acts) (called_as test script (outside_calls acts)) (few_called test acts)

  pub few_postings : length (postings_of script (outside_calls (opening_of script))) ≤ length script.acts
  few_postings =
      let op_of : ℕ → ℕ × Code × ℕ = λ op. (op, code.Ok, 0) in
      omega (
        arith,
        length-map (called_as is_ready script (outside_calls (opening_of script))) op_of,
        few_called is_ready (opening_of script),
        few_in None 0 script.acts,
      )

  pub few_requests : length (requests_of script (outside_calls (opening_of script))) ≤ length script.acts
  few_requests = omega (arith, few_called is_request (opening_of script), few_in None 0 script.acts)

  -- each call is an event at least
  more_events : (stops : Bool) (first second : Event) (events : List Event) (size : ℕ) → size ≤ length events →
      suc size ≤ length (cond stops (first ∷ second ∷ events) (first ∷ events))
  more_events true first second events size few = omega (arith, few)
  more_events false first second events size few = omega (arith, few)

  pub calls_fit : (calls : List Posted) → length calls ≤ length (events_of script calls)
  calls_fit [] = omega arith
  calls_fit (posted.Begin op code size begun ∷ calls) = omega (arith, calls_fit calls)
  calls_fit (posted.Call act ∷ calls) =
      more_events (stops script act) (event.Call act) (event.Stop (Some act)) (events_of script calls) (length calls)
      (calls_fit calls)
  calls_fit (posted.Back act ∷ calls) = omega (arith, calls_fit calls)
  calls_fit (posted.End op ran ∷ calls) = omega (arith, calls_fit calls)

pub length-outside : (acts : List ℕ) → length (outside_calls acts) ≡ 2 * length acts
length-outside [] = refl
length-outside (act ∷ acts) = omega (arith, length-outside acts)

outside-append : (xs ys : List ℕ) → outside_calls (xs ++ ys) ≡ outside_calls xs ++ outside_calls ys
outside-append [] ys = refl
outside-append (act ∷ xs) ys = ap (λ calls. posted.Call act ∷ posted.Back act ∷ calls) (outside-append xs ys)

-- the first i of some acts are called behind other calls
module _ (acts : List ℕ) (i : ℕ) (less : i < length acts) (first now : List Posted)
    (far : now ≡ first ++ outside_calls (take i acts)) where
  pub act_fits : (room : ℕ) → length first + 2 * length acts ≤ room → length now + 2 ≤ room
  act_fits room fits =
      let size : length now ≡ length first + length (outside_calls (take i acts)) =
      ap length far ∙ length-append first (outside_calls (take i acts)) in
      omega (arith, fits, size, length-outside (take i acts), length-take-le i acts (omega arith))

  pub act_called : (called back : List Posted) → called ≡ now ++ posted.Call (get_or acts i 0) ∷ [] →
      back ≡ called ++ posted.Back (get_or acts i 0) ∷ [] → back ≡ first ++ outside_calls (take (i + 1) acts)
  act_called called back is_called is_back =
      let act : ℕ = get_or acts i 0 in
      let before : List Posted = outside_calls (take i acts) in
      is_back ∙ ap (λ xs. xs ++ posted.Back act ∷ []) (is_called ∙ ap (λ xs. xs ++ posted.Call act ∷ []) far)
      ∙ append_assoc (first ++ before) (posted.Call act ∷ []) (posted.Back act ∷ [])
      ∙ append_assoc first before (posted.Call act ∷ posted.Back act ∷ [])
      ∙ ap (λ xs. first ++ xs) (sym (outside-append (take i acts) (act ∷ [])) ∙ ap outside_calls (sym (take_more acts i 0 less)))

-- what contracts see of a record
abbrev pub recording_of : ScriptModel → Recorded → Listed → Bool → Bool → ℕ → Recording
recording_of script h l stopped restarted closings = record {
  script = script;
  events = h.events;
  spare = h.spare;
  ready = l.ready;
  requests = l.requests;
  called = l.called;
  stopped = stopped;
  restarted = restarted;
  closings = closings;
}

-- recorded and listed calls are made
pub calls_made : (script : ScriptModel) (calls : List Posted) (h next : Recorded) (l later : Listed)
    (stopped stops restarted : Bool) (closings : ℕ) → next ≡ with_events (events_of script calls) h →
    later ≡ with_listed script calls l → stops ≡ are_stopping script calls →
    recording_of script next later (stopped || stops) restarted closings
    ≡ with_calls calls (recording_of script h l stopped restarted closings)
calls_made script calls h next l later stopped stops restarted closings is_next is_later is_stops =
    ap (λ (x : Recorded). recording_of script x later (stopped || stops) restarted closings) is_next
    ∙ ap (λ (x : Listed).
    recording_of script (with_events (events_of script calls) h) x (stopped || stops) restarted closings) is_later
    ∙ ap (λ (b : Bool).
    recording_of script (with_events (events_of script calls) h) (with_listed script calls l) (stopped || b)
    restarted closings) is_stops

-- the acts of `open` are called at first
module _ (script : ScriptModel) (well : IsWellFormed script) (bounded : OpeningsAreBounded) (calls : List Posted)
    (are : calls ≡ outside_calls (opening_of script)) where
  pub opening_spare : (spare : ℕ) → most_history script ≤ spare → length (events_of script calls) ≤ spare
  opening_spare spare room =
      let most = bounded script (outside_calls (opening_of script)) well (are_opened script well) in
      omega (arith, room, most, ap (λ xs. length (events_of script xs)) are)

  pub opening_ready : {r : Recording} (l : Listed) → r ≡ new_recording r.script r.spare → l.ready ≡ r.ready →
      l.room ≡ length script.acts → length l.ready + length (postings_of script calls) ≤ l.room
  opening_ready l new ready room =
      let none = ready ∙ ap (λ (r : Recording). r.ready) new in
      omega (arith, ap length none, room, few_postings script, ap (λ xs. length (postings_of script xs)) are)

  pub opening_requests : {r : Recording} (l : Listed) → r ≡ new_recording r.script r.spare → l.requests ≡ r.requests →
      l.room ≡ length script.acts → length l.requests + length (requests_of script calls) ≤ l.room
  opening_requests l new requests room =
      let none = requests ∙ ap (λ (r : Recording). r.requests) new in
      omega (arith, ap length none, room, few_requests script, ap (λ xs. length (requests_of script xs)) are)

  pub opening_calls : AreCalls script AnyMark (opening_of script) calls
  opening_calls = subst (AreCalls script AnyMark (opening_of script)) (sym are) (are_opened script well)

-- a whole execution, whatever its marks
pub any_mark : {script : ScriptModel} {HasMark : Call → ℕ → Type 0} {op size : ℕ} {given : Code} {calls : List Posted} →
    IsWholeExecution script HasMark op given size calls → IsWholeExecution script AnyMark op given size calls
any_mark {script} {HasMark} whole =
    record {
      begun = whole.begun;
      mark = whole.mark;
      body = whole.body;
      marked = tt;
      acts = with_marks script HasMark AnyMark (λ op mark marked. tt) whole.acts;
      is = whole.is;
    }

-- where a poster that had room for some calls more has made these, its room is as before at least
pub room_stays : (first made calls : List Posted) (room left : ℕ) → first ≡ [] → made ≡ first ++ calls →
    length calls ≤ room →
    ((rest : List Posted) → length first + length (calls ++ rest) ≤ room → length made + length rest ≤ left) →
    room ≤ left
room_stays first made calls room left none is fits takes =
    let rest : List Posted = replicate (room - length calls) (posted.Back 0) in
    let size : length rest ≡ room - length calls = length-replicate (room - length calls) (posted.Back 0) in
    let is_none : length first ≡ 0 = ap length none in
    let is_made : length made ≡ length first + length calls = ap length is ∙ length-append first calls in
    let last = takes rest (omega (arith, fits, size, is_none, length-append calls rest)) in
    omega (arith, last, size, is_none, is_made, fits)
