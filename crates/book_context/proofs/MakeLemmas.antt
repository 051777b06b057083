-- What a book keeps from the calls of `open` on.
use Rattle.std.proofs.Common.{◌≡◌, ℕ, Bool, true, false, not, List, Option, Some, None, IsSome, refl, sym, ap, subst, ◌∙◌, arith}
use Rattle.std.specs.Prelude.{◌||◌, IsTrue}
use Rattle.std.specs.Option.{option_map}
use Rattle.std.proofs.lemmas.List.Folds.{list_any_none}
use Rattle.asio_types.specs.declared.event.Event.{Event}
use Rattle.asio_types.specs.declared.event.Event.TheVariants as event
use Rattle.asio_types.specs.declared.outside.SetupFault.{SetupFault}
use Rattle.asio_types.specs.declared.outside.SetupFault.TheVariants as setup_fault
use Rattle.op_handlers.specs.declared.call.Call.{Call}
use Rattle.op_handlers.specs.Marks.{Marks, own_marks}
use Rattle.session_script.specs.Script.{ScriptModel, is_op}
use Rattle.session_script.specs.WellFormed.{IsWellFormed}
use Rattle.history_rules.specs.FromOutside.{has_fault, has_outside_stop, is_fault, is_outside_stop}
use Rattle.history_rules.specs.State.{ReactorHalf, first_reactor}
use Rattle.reactor_trait.specs.Reactor.{Outside, ReactorState}
use Rattle.proactor_core.specs.Proactor.{SetupIsRefused, ProactorView}
use Rattle.strand_core.specs.Execution.{events_of}
use Rattle.strand_core.specs.Hands.{Held, taken_at}
use Rattle.execution_laws.specs.Shown.{CallsShowTheirEvents, OpeningsShowNoMarks, is_of_call}
use Rattle.book_context.specs.Begun.{HoldsAll, IsStarted}
use Rattle.reactor_turns.specs.Turned.{IsTurned}
use Rattle.book_context.proofs.BookHistoryLemmas.{no_fault, no_stop}
use Rattle.book_context.specs.Book.{HoldsUnspent, IsBook, KeepsHistory, KeepsReactor, unless_spent}
use Rattle.book_context.specs.Left.{most_history}
use Rattle.book_context.specs.Recorded.{recorded_half}
use Rattle.book_context.specs.Recording.{HasCalledOpening, Recording, new_recording, with_calls}
use Rattle.book_context.specs.Steps as steps

-- the handlers that were taken from a rack
pub held_marks : {H : Type 0} (marks : H → Marks) (there : Bool) (handler : Option H) (m : Marks) →
    (there ≡ true → option_map marks handler ≡ Some m) →
    option_map marks (taken_at there handler) ≡ unless_spent (not there) m
held_marks marks true handler m is = is refl
held_marks marks false handler m is = refl

pub some_marked : {H : Type 0} (marks : H → Marks) (handler : Option H) (m : Marks) →
    option_map marks handler ≡ Some m → IsSome handler
some_marked marks (Some h) m is = refl
some_marked marks None m is = absurd (cc is)

-- a reactor that failed when it was set up isn't up
pub refused_down : (fault : SetupFault) (old new : ReactorState) → SetupIsRefused fault old new →
    fault ≡ setup_fault.Failed → new.up ≡ false
refused_down setup_fault.Failed old new refused is = ap (λ (s : ReactorState). s.up) refused
refused_down setup_fault.NoMemory old new refused is = absurd (cc is)

or_none : (a : Bool) → (a || false) ≡ a
or_none true = refl
or_none false = refl

module _ {H X : Type 0} (script : ScriptModel) (told : Bool) (run : ℕ → Call → ℕ) (drop : ℕ → ℕ) (named : ℕ) (outside : Bool)
    (marks : H → Marks) (state : X → ReactorState) (tells_of : X → Option Outside) (faults : X → ℕ) (old t : Recording)
    (hands : Held H) (view : ProactorView X) (well : IsWellFormed old.script) (is_script : script ≡ old.script)
    (new : old ≡ new_recording old.script (most_history old.script)) (holds : HoldsAll marks run drop old.script hands)
    (started : IsStarted state tells_of faults told named old.script view) (did : HasCalledOpening old t)
    (openings : steps.OpeningsAreRecorded) (shown : CallsShowTheirEvents) (unmarked : OpeningsShowNoMarks) where
  opened : steps.OpeningIsRecorded told old.script did.calls
  opened = openings told old.script did.calls well did.are

  is_t : t ≡ steps.opened_recording old.script did.calls
  is_t = did.is ∙ ap (with_calls did.calls) new

  abbrev events : List Event
  events = events_of old.script did.calls

  working : has_fault events ≡ false
  working = list_any_none is_fault events (λ k d less. no_fault _ (shown old.script did.calls k d less))

  inside : has_outside_stop events ≡ false
  inside = list_any_none is_outside_stop events (λ k d less. no_stop _ (shown old.script did.calls k d less))

  history : KeepsHistory script told run drop outside (steps.opened_recording old.script did.calls)
  history = record {
    recorded = opened.recorded;
    is_script = sym is_script;
    marked = unmarked old.script (own_marks run) drop events did.calls well did.are;
    unstopped = λ _. inside;
    set_up = λ alone. absurd (let failed : has_fault events ≡ true = ap has_fault alone in cc (working, failed));
  }

  half_is : recorded_half told (steps.opened_recording old.script did.calls) ≡ first_reactor old.script told
  half_is = opened.reactor

  reactor : KeepsReactor state tells_of faults told named (steps.opened_recording old.script did.calls) view
  reactor = record {
    script = started.same_script;
    in_step = record {
      tells = started.same_tells;
      up = subst (λ (s : ReactorState). IsTrue s.up) (sym started.ready) refl;
      now = ap (λ (s : ReactorState). s.now) started.ready ∙ sym (ap (λ (h : ReactorHalf). h.now) half_is);
    };
    turned = λ _. subst (λ h. IsTurned state tells_of h view) (sym half_is) (record {
      telling = record { working = started.working; works = refl; sound = started.sound; follows = started.follows };
      told_all = started.nothing_due;
      none_due = refl;
      drained = λ last. absurd (cc last);
    });
    failed = ap (λ (h : ReactorHalf). h.failed) half_is ∙ sym started.working;
    faulted = working ∙ sym started.working;
    stopped = λ failed. absurd (let works = started.working in cc (works, failed));
    least = let same = started.counted in omega (arith, same);
    stood = λ _. started.counted;
    rose = λ failed. absurd (let works = started.working in cc (works, failed));
  }

  held : HoldsUnspent marks told run drop (steps.opened_recording old.script did.calls) hands
  held = record {
    script = holds.same_script;
    each = λ n.
        holds.each n
        ∙ ap (λ b. unless_spent b (record { run = run n; drop = drop n }))
        (sym (ap (λ b. not (is_op old.script n) || b) (opened.spent n) ∙ or_none (not (is_op old.script n))));
  }

  pub opened_book : IsBook script told run drop named outside marks state tells_of faults t hands view
  opened_book =
      subst (λ r. IsBook script told run drop named outside marks state tells_of faults r hands view) (sym is_t)
      (record { history = history; holds = held; reactor = reactor })
