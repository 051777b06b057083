-- What a context gives back is a run of its script.
use Rattle.std.proofs.Common.{◌≡◌, ℕ, Bool, false, List, Option, Some, None, refl, subst, sym, ◌∙◌}
use Rattle.std.specs.Prelude.{IfOk, IfSome, MatchOption, Result, is_some, map, ⊤}
use Rattle.std.proofs.lemmas.Result.{IfOk-weaker}
use Rattle.std.specs.Option.{option_map}
use Rattle.asio_types.specs.declared.event.Event.{Event}
use Rattle.session_script.specs.Script.{ScriptModel}
use Rattle.session_script.specs.WellFormed.{IsWellFormed}
use Rattle.history_laws.specs.Promise.{KeepsPromise}
use Rattle.history_laws.proofs.PromiseLemmas.{keeps}
use Rattle.reactor_trait.specs.Reactor.{Outside, ReactorState}
use Rattle.history_book.specs.Trace.{AreEvents}
use Rattle.execution_laws.specs.Finished.{IsFinished}
use Rattle.execution_laws.specs.LetGo.{is_initiated}
use Rattle.history_rules.specs.Legal.{IsLegal, state_of}
use Rattle.history_rules.specs.State.{State}
use Rattle.op_handlers.specs.declared.call.Call.{Call}
use Rattle.op_handlers.specs.Marks.{Marks}
use Rattle.op_handlers.specs.Rack.{AllTaken, let_go_of}
use Rattle.op_handlers.specs.declared.rack.Rack.{Rack}
use Rattle.session_run.specs.Given.{SeenReactor, sent_outside}
use Rattle.session_run.specs.RackMarks.{drop_mark, drop_marks_but, rack_run_mark}
use Rattle.session_run.specs.Run.{IsRunOf, sent_by}

-- a reactor is seen to tell its bytes where it does
seen_to_tell : (outside : Option Outside) → is_some (option_map sent_outside outside) ≡ is_some outside
seen_to_tell None = refl
seen_to_tell (Some outside) = refl

-- a reactor that tells its bytes is seen to have sent those of a state
seen_sent : (outside : Option Outside) (s : State)
    → IfSome outside (λ outside. map (λ stream. stream.sent) outside.streams ≡ map (λ stream. stream.sent) s.reactor.streams)
    → MatchOption (option_map sent_outside outside) ⊤ (λ sent. sent ≡ sent_by s)
seen_sent None s same = tt
seen_sent (Some outside) s same = same

-- a reactor as a session sees it, of which it told these bytes at first
abbrev pub seen_of : Option Outside → Option Outside → ℕ → ℕ → ReactorState → SeenReactor
seen_of first outside before after state =
    record {
      sent = record {
        told_before = option_map sent_outside first;
        told_after = option_map sent_outside outside;
        faults_before = before;
        faults_after = after;
      };
      up = state.up;
      now = state.now;
    }

-- what a context gives back that was made for the script, the reactor and the rack
pub run_of : {H : Type 0} (marks : H → Marks) (script : ScriptModel) (told : Bool) (before after : ℕ)
    (events : List Event) (state : ReactorState) (first outside : Option Outside) (old new : Rack H) →
    AllTaken old new → let_go_of new ≡ drop_marks_but marks (is_initiated script (state_of script told events)) old → AreEvents events → IsWellFormed script →
    IsFinished script told (rack_run_mark marks old) (drop_mark marks old) false before after events state outside →
    IsRunOf marks script (seen_of first outside before after state) old new events
run_of marks script told before after events state first outside old new spent let_go numbers well f =
    let told_is : told ≡ is_some (option_map sent_outside outside) =
    sym f.still_told ∙ sym (seen_to_tell outside) in
    record {
      legal = subst (λ told. IsLegal script told events) told_is f.legal;
      promise = subst (λ told. KeepsPromise script told events) told_is (keeps script told events well f.legal);
      numbers = numbers;
      marked = f.marked;
      spent = spent;
      let_go =
          subst (λ told. let_go_of new ≡ drop_marks_but marks (is_initiated script (state_of script told events)) old)
          told_is let_go;
      unstopped = f.unstopped refl;
      faults = f.rose;
      stood = f.stood;
      set_up = (λ alone. absurd (f.set_up alone), λ down. cc (down, f.up));
      now = λ up. subst (λ told. state.now ≡ (state_of script told events).reactor.now) told_is f.now;
      sent = λ quiet. subst (λ told. MatchOption (option_map sent_outside outside) ⊤
          (λ sent. sent ≡ sent_by (state_of script told events))) told_is (seen_sent outside (state_of script told events) (f.sent quiet));
    }

-- and so is its promise, whatever else comes back
pub promised : {X E : Type 0} (script : ScriptModel) (told : Bool) (run : ℕ → Call → ℕ) (drop : ℕ → ℕ) (before : ℕ) (after : X → ℕ)
    (events : X → List Event) (state : X → ReactorState) (outside : X → Option Outside) (r : Result X E) →
    IsWellFormed script →
    IfOk r (λ ran. IsFinished script told run drop false before (after ran) (events ran) (state ran) (outside ran)) →
    IfOk r (λ ran. KeepsPromise script told (events ran))
promised script told run drop before after events state outside r well ended =
    IfOk-weaker r
    (λ ran. IsFinished script told run drop false before (after ran) (events ran) (state ran) (outside ran))
    (λ ran. KeepsPromise script told (events ran)) (λ ran f. keeps script told (events ran) well f.legal) ended
