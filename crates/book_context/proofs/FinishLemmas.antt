-- Handlers that never ran are destroyed one after another, and what is left of a session that is over.
use Rattle.std.proofs.Common.{◌≡◌, ◌≢◌, ◌⊎◌, ◌∙◌, ℕ, ◌+◌, ◌<◌, ◌≤◌, arith, inl, inr, refl, sym, ap, subst}
use Rattle.std.proofs.Common.{append_assoc, Bool, true, false, not, ◌&&◌, List, [], ◌∷◌, ◌++◌, Option, Some, None, length}
use Rattle.std.specs.Prelude.{◌||◌, if◌then◌else◌, slice_get, slice_set}
use Rattle.std.specs.List.{Contains, list_all, range_with_len, slice_index_or, sum_by}
use Rattle.std.specs.Option.{option_flatten, option_map}
use Rattle.std.proofs.lemmas.Bool.{cases_Bool, cases_eq, cases_lt}
use Rattle.std.proofs.lemmas.List.{append-nil}
use Rattle.std.proofs.lemmas.Option.{slice_get_past}
use Rattle.std.proofs.lemmas.List.Folds.{Any-from_list_any, list_all-append}
use Rattle.asio_types.specs.declared.event.Event.{Event}
use Rattle.asio_types.specs.declared.event.Event.TheVariants as event
use Rattle.op_handlers.specs.declared.call.Call.{Call}
use Rattle.op_handlers.specs.Marks.{Marks, drop_mark_of, own_marks}
use Rattle.op_handlers.specs.Rack.{drop_marks}
use Rattle.op_handlers.proofs.DiscardLemmas.{by_numbers, taken_same}
use Rattle.session_script.specs.Lanes.{is_inline}
use Rattle.session_script.specs.Script.{ScriptModel, is_op}
use Rattle.strand_core.specs.Hands.{Held, held_at}
use Rattle.strand_core.proofs.HandLemmas.{taken_other}
use Rattle.execution_laws.specs.Kinds.{was_called as called_by}
use Rattle.execution_laws.specs.LetGo.{let_go_mark, let_go_marks}
use Rattle.execution_laws.proofs.LetGoLemmas.{no_op_beyond, sums_below, sums_far}
use Rattle.history_rules.specs.FromOutside.{has_fault, has_outside_stop, is_fault, is_outside_stop}
use Rattle.execution_laws.proofs.ShownLemmas.{marks_go_on}
use Rattle.book_context.specs.Book.{unless_spent}
use Rattle.book_context.specs.DropSteps.{DropsGoOn, HasDropped, InlineAreSpent, SpentArePassed, UnspentAreCalled, is_unspent_at}
use Rattle.book_context.specs.Finish.{GoesOnByDrops, IsEnding, is_drop}
use Rattle.book_context.specs.InTurn.{KeepsFaults}
use Rattle.book_context.specs.Recorded.{is_spent_at, recorded_half, recorded_state}
use Rattle.book_context.specs.Recording.{Recording, with_event}
use Rattle.book_context.proofs.DropStepLemmas.{never_spent}
use Rattle.book_context.proofs.BookHistoryLemmas.{IsPlain, contains_any, faults-plain, stops-plain}

-- of a list without a fault the test finds none
is_the_fault : (e : Event) → is_fault e ≡ true → e ≡ event.Fault
is_the_fault event.Fault is = refl
is_the_fault _ is = absurd (cc)

pub no_fault : (events : List Event) → (Contains events event.Fault → ⊥) → has_fault events ≡ false
no_fault events none = elim (cases_Bool (has_fault events)) [
  | inr isnt ↦ isnt
  | inl is ↦
      let some = Any-from_list_any is_fault events is in
      absurd (none (subst (Contains events) (is_the_fault some.1 some.4) (some.0, some.2, some.3)))
]

pub some_fault : (events : List Event) → Contains events event.Fault → has_fault events ≡ true
some_fault events there = contains_any is_fault events event.Fault there refl

pub no_stop : (events : List Event) → has_outside_stop events ≡ false → Contains events (event.Stop None) → ⊥
no_stop events none there =
    let is : has_outside_stop events ≡ true = contains_any is_outside_stop events (event.Stop None) there refl in
    absurd (cc (none, is))

pub none_else : {X : Type 0} (o : Option X) → ((x : X) → o ≡ Some x → ⊥) → o ≡ None
none_else None others = refl
none_else (Some x) others = absurd (others x refl)

-- the drop mark of a handler whose two marks are these
drop_mark : {H : Type 0} (marks : H → Marks) (is_spent : Bool) (run : Call → ℕ) (drop : ℕ) (held : Option H) (mark : ℕ) →
    option_map marks held ≡ unless_spent is_spent (record { run = run; drop = drop }) →
    option_map (λ h. (marks h).drop) held ≡ Some mark → (mark ≡ drop) × (is_spent ≡ false)
drop_mark marks is_spent run drop None mark has is = absurd (cc (is))
drop_mark marks true run drop (Some h) mark has is = absurd (cc (has))
drop_mark marks false run drop (Some h) mark has is =
    let shown : (marks h).drop ≡ mark = cc (is) in
    let both : marks h ≡ record { run = run; drop = drop } = cc (has) in
    (sym shown ∙ ap (λ (m : Marks). m.drop) both, refl)

no_mark : {H : Type 0} (marks : H → Marks) (is_spent : Bool) (own : Marks) (held : Option H) →
    option_map marks held ≡ unless_spent is_spent own → option_map (λ h. (marks h).drop) held ≡ None → is_spent ≡ true
no_mark marks true own held has is = refl
no_mark marks false own None has is = absurd (cc (has))
no_mark marks false own (Some h) has is = absurd (cc (is))

-- the drop mark of a handler that is held unless it was spent
held_mark : {H : Type 0} (marks : H → Marks) (spent : Bool) (own : Marks) (held : Option H) →
    option_map marks held ≡ unless_spent spent own → drop_mark_of marks held ≡ (if spent then 0 else own.drop)
held_mark marks true own None has = refl
held_mark marks true own (Some h) has = absurd (cc has)
held_mark marks false own None has = absurd (cc has)
held_mark marks false own (Some h) has = let same : marks h ≡ own = cc has in ap (λ (m : Marks). m.drop) same

-- what is held of an act that isn't unspent is the handler of an operation that was never called
mark_by_tests : (drop : ℕ) (is called spent : Bool) → (is && (called && not spent)) ≡ false →
    (called ≡ false → spent ≡ false) →
    (if not is || spent then 0 else drop) ≡ (if is && not called then drop else 0)
mark_by_tests drop false called spent isnt never = refl
mark_by_tests drop true true true isnt never = refl
mark_by_tests drop true true false isnt never = absurd (cc isnt)
mark_by_tests drop true false true isnt never = absurd (let wrong = never refl in cc wrong)
mark_by_tests drop true false false isnt never = refl

-- and of one that was called, or is no operation, nothing
no_mark_of : (drop : ℕ) (is called : Bool) → (is ≡ false) ⊎ (called ≡ true) → 0 ≡ (if is && not called then drop else 0)
no_mark_of drop false called why = refl
no_mark_of drop true true why = refl
no_mark_of drop true false (inl wrong) = absurd (cc wrong)
no_mark_of drop true false (inr wrong) = absurd (cc wrong)

spent_called : (is called spent : Bool) → (not is || spent) ≡ true → (called ≡ false → spent ≡ false) →
    (is ≡ false) ⊎ (called ≡ true)
spent_called false called spent out never = inl refl
spent_called true true spent out never = inr refl
spent_called true false true out never = absurd (let wrong = never refl in cc wrong)
spent_called true false false out never = absurd (cc out)

-- what is unspent, by its three tests
spent_out : (is called spent : Bool) → (not is || spent) ≡ true → (is && (called && not spent)) ≡ false
spent_out true true true out = refl
spent_out true true false out = absurd (cc (out))
spent_out true false spent out = refl
spent_out false called spent out = refl

unspent_in : (is called spent : Bool) → (not is || spent) ≡ false → called ≡ true → (is && (called && not spent)) ≡ true
unspent_in true true true out was = absurd (cc (out))
unspent_in true true false out was = refl
unspent_in true false spent out was = absurd (cc (was))
unspent_in false called spent out was = absurd (cc (out))

not_op_out : (is called spent : Bool) → is ≡ false → (is && (called && not spent)) ≡ false
not_op_out true called spent isnt = absurd (cc (isnt))
not_op_out false called spent isnt = refl

not_called_out : (is called spent : Bool) → called ≡ false → (is && (called && not spent)) ≡ false
not_called_out true true spent isnt = absurd (cc (isnt))
not_called_out true false spent isnt = refl
not_called_out false called spent isnt = refl

-- a drop that shows the mark of its operation
pub plain_drop : (run : ℕ → Call → ℕ) (drop : ℕ → ℕ) (history : List Event) (op mark : ℕ) →
    mark ≡ drop op → IsPlain run drop history (event.Dropped op mark ∷ [])
plain_drop run drop history op mark shows = record { marked = (shows, tt); working = refl; inside = refl }

-- a history that ends so is no failure alone
drop_behind : (xs : List Event) (op mark : ℕ) → xs ++ event.Dropped op mark ∷ [] ≡ event.Fault ∷ [] → ⊥
drop_behind [] op mark same = absurd (cc same)
drop_behind (x ∷ []) op mark same = absurd (cc same)
drop_behind (x ∷ y ∷ xs) op mark same = absurd (cc same)

module _ {H : Type 0} {marks : H → Marks} {told : Bool} {run : ℕ → Call → ℕ} {drop : ℕ → ℕ} {outside : Bool} {op : ℕ} {t : Recording}
    {left : Held H} (ending : IsEnding marks told run drop outside op t left) where
  abbrev is_one : Bool
  is_one = is_op ending.last.script op

  abbrev was_called : Bool
  was_called = slice_index_or ending.last.called op false

  abbrev was_spent : Bool
  was_spent = is_spent_at told ending.last op

  holds_here : option_map marks (held_at left op)
      ≡ unless_spent (not is_one || was_spent) (record { run = run op; drop = drop op })
  holds_here = ap (option_map marks) (ending.from op (omega arith)) ∙ ending.holds.each op

  -- an act that isn't unspent is passed, whatever became of its own handler
  -- the operation's drop mark, where it was never initiated
  mark_is : let_go_mark ending.last.script drop (recorded_state told ending.last) op
      ≡ (if is_one && not was_called then drop op else 0)
  mark_is = ap (λ b. if is_one && not b then drop op else 0) (sym (ending.recorded.called op))

  never : was_called ≡ false → was_spent ≡ false
  never uncalled = never_spent told ending.last op ending.recorded uncalled

  -- so much is told of those below the next one
  module _ (after : Held H) (same : (m : ℕ) → m ≢ op → held_at after m ≡ held_at left m)
      (here : drop_mark_of marks (held_at after op) ≡ (if is_one && not was_called then drop op else 0)) where
    below_next : (m : ℕ) → m < op + 1 →
        drop_mark_of marks (held_at after m) ≡ let_go_mark ending.last.script drop (recorded_state told ending.last) m
    below_next m less = elim (cases_eq m op) [
      | inl is ↦
          ap (λ m. drop_mark_of marks (held_at after m)) is
          ∙ (here
          ∙ (sym mark_is ∙ ap (let_go_mark ending.last.script drop (recorded_state told ending.last)) (sym is)))
      | inr differ ↦
          ap (drop_mark_of marks) (same m differ) ∙ ending.below m (omega (arith, less, differ))
    ]

  pass : SpentArePassed → is_unspent_at told ending.last op ≡ false → (after : Held H) → after.script ≡ left.script →
      ((m : ℕ) → m ≢ op → held_at after m ≡ held_at left m) →
      drop_mark_of marks (held_at after op) ≡ (if is_one && not was_called then drop op else 0) →
      IsEnding marks told run drop outside (op + 1) t after
  pass passes isnt after script others here = record {
    last = ending.last;
    held = ending.held;
    recorded = ending.recorded;
    holds = ending.holds;
    dropping = passes told ending.last op t ending.dropping isnt;
    marked = ending.marked;
    unstopped = ending.unstopped;
    set_up = ending.set_up;
    script = script ∙ ending.script;
    from = λ m less.
        others m (λ same. absurd (omega (arith, same, less))) ∙ ending.from m (omega (arith, less));
    below = below_next after others here;
  }

  module _ (unspent : UnspentAreCalled) where
    tests : is_unspent_at told ending.last op ≡ (is_one && (was_called && not was_spent))
    tests = unspent told ending.last op ending.recorded

    abbrev IsOther : Type 0
    IsOther = (is_op t.script op ≡ false) ⊎ (is_inline t.script op ≡ true) ⊎ (slice_index_or t.called op false ≡ false)

    -- no operation, one that executes inside its call, and one that was never called
    pub pass_other : SpentArePassed → InlineAreSpent → IsOther → IsEnding marks told run drop outside (op + 1) t left
    pass_other passes inline why =
        pass passes (isnt why) left refl (λ m less. refl)
        (held_mark marks (not is_one || was_spent) (record { run = run op; drop = drop op }) (held_at left op) holds_here
        ∙ mark_by_tests (drop op) is_one was_called was_spent (sym tests ∙ isnt why) never)
      where
        isnt : IsOther → is_unspent_at told ending.last op ≡ false
        isnt (inl no_op) =
            tests
            ∙ not_op_out is_one was_called was_spent (subst (λ script. is_op script op ≡ false) ending.dropping.script no_op)
        isnt (inr (inl inside)) =
            inline told ending.last op ending.recorded
            (subst (λ script. is_inline script op ≡ true) ending.dropping.script inside)
        isnt (inr (inr uncalled)) =
            let isnt_called =
            subst (λ called. slice_index_or called op false ≡ false) ending.dropping.called uncalled in
            tests ∙ not_called_out is_one was_called was_spent isnt_called

    module _ (after : Held H) (script : after.script ≡ left.script)
        (taken : after.handlers ≡ slice_set left.handlers op None) where
      others : (m : ℕ) → m ≢ op → held_at after m ≡ held_at left m
      others m differ =
          ap (λ handlers. held_at (record after { handlers = handlers }) m) taken
          ∙ taken_other left.handlers op m (λ same. differ (sym same))

      gone : drop_mark_of marks (held_at after op) ≡ 0
      gone =
          ap (λ handlers. drop_mark_of marks (held_at (record after { handlers = handlers }) op)) taken
          ∙ ap (drop_mark_of marks) (taken_same left.handlers op)

      -- the handler was spent
      pub pass_spent : SpentArePassed → option_map (λ h. (marks h).drop) (held_at left op) ≡ None →
          IsEnding marks told run drop outside (op + 1) t after
      pass_spent passes none =
          let spent =
          no_mark marks (not is_one || was_spent) (record { run = run op; drop = drop op }) (held_at left op) holds_here none in
          pass passes (tests ∙ spent_out is_one was_called was_spent spent) after script others
          (gone ∙ no_mark_of (drop op) is_one was_called (spent_called is_one was_called was_spent spent never))

      module _ (goes : DropsGoOn) (called : slice_index_or t.called op false ≡ true) (mark : ℕ)
          (is : option_map (λ h. (marks h).drop) (held_at left op) ≡ Some mark) where
        abbrev next : Recording
        next = with_event (event.Dropped op mark) t

        shows : (mark ≡ drop op) × ((not is_one || was_spent) ≡ false)
        shows = drop_mark marks (not is_one || was_spent) (run op) (drop op) (held_at left op) mark holds_here is

        pub dropped : HasDropped told ending.last op mark t
        dropped =
            let called_then = subst (λ called. slice_index_or called op false ≡ true) ending.dropping.called called in
            goes told ending.last op mark t ending.dropping (tests ∙ unspent_in is_one was_called was_spent shows.1 called_then)

        plain : IsPlain run drop (t.events ++ event.Dropped op mark ∷ []) (event.Dropped op mark ∷ [])
        plain = plain_drop run drop (t.events ++ event.Dropped op mark ∷ []) op mark shows.0

        -- the handler is destroyed
        pub drop_next : IsEnding marks told run drop outside (op + 1) next after
        drop_next = record {
          last = ending.last;
          held = ending.held;
          recorded = ending.recorded;
          holds = ending.holds;
          dropping = dropped.next;
          marked = marks_go_on (own_marks run) drop t.events (event.Dropped op mark ∷ []) ending.marked plain.marked;
          unstopped = λ none. stops-plain run drop t.events (event.Dropped op mark ∷ []) plain ∙ ending.unstopped none;
          set_up = drop_behind t.events op mark;
          script = script ∙ ending.script;
          from = λ m less.
              others m (λ same. absurd (omega (arith, same, less))) ∙ ending.from m (omega (arith, less));
          below =
              below_next after others
              (gone
              ∙ no_mark_of (drop op) is_one was_called
              (inr (subst (λ called. slice_index_or called op false ≡ true) ending.dropping.called called)));
        }

        pub drop_half : recorded_half told next ≡ recorded_half told t
        drop_half = dropped.next.reactor ∙ sym ending.dropping.reactor

        pub drop_faults : KeepsFaults t next
        drop_faults = faults-plain run drop t.events (event.Dropped op mark ∷ []) plain

-- a history goes on by drops: by none, by one, and by some and then others
pub by_none : (events : List Event) → GoesOnByDrops events events
by_none events = record { drops = []; each = refl; is = sym (append-nil events) }

pub by_one : (op mark : ℕ) (events : List Event) → GoesOnByDrops events (events ++ event.Dropped op mark ∷ [])
by_one op mark events = record { drops = event.Dropped op mark ∷ []; each = refl; is = refl }

all_drops : (first second : List Event) → list_all is_drop first ≡ true → list_all is_drop second ≡ true →
    list_all is_drop (first ++ second) ≡ true
all_drops first second one other = grind (arith, list_all-append, one, other)

pub by_more : (old mid new : List Event) → GoesOnByDrops old mid → GoesOnByDrops mid new → GoesOnByDrops old new
by_more old mid new first second = record {
  drops = first.drops ++ second.drops;
  each = all_drops first.drops second.drops first.each second.each;
  is = second.is ∙ ap (λ events. events ++ second.drops) first.is ∙ append_assoc old first.drops second.drops;
}

-- the unspent handlers below a number are destroyed, and the reactor's half and its faults stay
pub record EndsTo {H : Type 0} (marks : H → Marks) (told : Bool) (run : ℕ → Call → ℕ) (drop : ℕ → ℕ) (outside : Bool) (n all : ℕ)
    (first t : Recording) (left : Held H) : Type 0 where
  pub ending : IsEnding marks told run drop outside n t left
  pub script : t.script ≡ first.script
  pub half : recorded_half told t ≡ recorded_half told first
  pub faults : KeepsFaults first t
  pub acts : all ≡ length first.script.acts
  pub goes_on : GoesOnByDrops first.events t.events

pub ends_all : {H : Type 0} {marks : H → Marks} {told : Bool} {run : ℕ → Call → ℕ} {drop : ℕ → ℕ} {outside : Bool} {n all : ℕ}
    {first t : Recording} {left : Held H} → EndsTo marks told run drop outside n all first t left → n ≡ all →
    IsEnding marks told run drop outside (length first.script.acts) t left
ends_all {marks} {told} {run} {drop} {outside} {t} {left} ends whole =
    subst (λ n. IsEnding marks told run drop outside n t left) (whole ∙ ends.acts) ends.ending

-- what is held in the end are the handlers of the operations that were never initiated
module _ {H : Type 0} {marks : H → Marks} {told : Bool} {run : ℕ → Call → ℕ} {drop : ℕ → ℕ} {outside : Bool} {t : Recording}
    {left : Held H} (n : ℕ) (ending : IsEnding marks told run drop outside n t left)
    (all : length ending.last.script.acts ≤ n) where
  abbrev mark : ℕ → ℕ
  mark = let_go_mark ending.last.script drop (recorded_state told ending.last)

  -- beyond the acts there is none
  no_act : (m : ℕ) → length ending.last.script.acts ≤ m → is_op ending.last.script m ≡ false
  no_act m beyond = no_op_beyond ending.last.script m beyond

  far : (m : ℕ) → length ending.last.script.acts ≤ m → mark m ≡ 0
  far m beyond = rw (no_act m beyond) refl

  each : (m : ℕ) → drop_mark_of marks (held_at left m) ≡ mark m
  each m = elim (cases_lt m n) [
    | inl less ↦ ending.below m less
    | inr more ↦
        let beyond : length ending.last.script.acts ≤ m = omega (arith, more, all) in
        let none : option_map marks (held_at ending.held m) ≡ None =
        ending.holds.each m
        ∙ ap (λ b. unless_spent (not b || is_spent_at told ending.last m) (record { run = run m; drop = drop m })) (no_act m beyond) in
        ap (drop_mark_of marks) (ending.from m (omega (arith, more)) ∙ no_handler (held_at ending.held m) none)
        ∙ sym (far m beyond)
  ]
    where
      no_handler : (held : Option H) → option_map marks held ≡ None → held ≡ None
      no_handler None none = refl
      no_handler (Some h) none = absurd (cc none)

  past : (m : ℕ) → length left.handlers ≤ m → mark m ≡ 0
  past m beyond =
      sym (each m) ∙ ap (λ slot. drop_mark_of marks (option_flatten slot)) (slice_get_past left.handlers m (omega (arith, beyond)))

  -- the calls are those of the last state
  same_mark : (m : ℕ) → mark m ≡ let_go_mark ending.last.script drop (recorded_state told t) m
  same_mark m =
      ap (λ of. if is_op ending.last.script m && not (called_by of) then drop m else 0) (sym (ending.dropping.calls m))

  pub all_let_go : drop_marks marks left.handlers ≡ let_go_marks t.script told drop t.events
  all_let_go =
      by_numbers marks mark left.handlers 0
      (λ m. let same : m ≡ 0 + m = omega arith in each m ∙ ap mark same)
      ∙ (sums_far mark (length left.handlers) (length ending.last.script.acts) past far
      ∙ (sums_below mark (let_go_mark ending.last.script drop (recorded_state told t)) (length ending.last.script.acts)
      (λ m less. same_mark m)
      ∙ ap (λ (script : ScriptModel).
      sum_by (let_go_mark script drop (recorded_state told t)) (range_with_len 0 (length script.acts)))
      (sym ending.dropping.script)))
