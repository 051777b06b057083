-- The history of a context whose reactor couldn't be set up.
use Rattle.std.proofs.Common.{◌≡◌, zero, suc, Bool, false, [], ◌∷◌, None, inl, inr, refl, arith, length, ◌∙◌}
use Rattle.std.specs.Prelude.{Contains}
use Rattle.std.proofs.lemmas.List.Elements.{All-replicate}
use Rattle.asio_types.specs.Faults.{Rose}
use Rattle.asio_types.specs.declared.event.Event.TheVariants as event
use Rattle.session_script.specs.Script.{ScriptModel}
use Rattle.session_script.specs.WellFormed.{IsWellFormed}
use Rattle.history_laws.proofs.PromiseLemmas.{keeps}
use Rattle.history_rules.specs.Legal.{IsLegal}
use Rattle.history_rules.specs.Rounds.{is_unspent}
use Rattle.history_rules.specs.State.{fresh}
use Rattle.op_handlers.specs.Marks.{Marks}
use Rattle.op_handlers.specs.Rack.{AllTaken, let_go_of}
use Rattle.op_handlers.specs.declared.rack.Rack.{Rack}
use Rattle.session_run.specs.Given.{SeenReactor, tells_bytes}
use Rattle.session_run.specs.RackMarks.{drop_marks_but}
use Rattle.session_run.specs.Run.{IsRunOf}
use Rattle.session_run.proofs.LetGoLemmas.{none_initiated}

-- a fault may stand before everything else, and nothing was accepted then
fault_is_legal : (script : ScriptModel) (told : Bool) → IsLegal script told (event.Fault ∷ [])
fault_is_legal script told =
    record {
      legal = (record { once = refl; when = inl refl }, tt);
      whole =
          record {
            over = inr refl;
            spent = All-replicate (λ act. is_unspent act.phase ≡ false) (length script.acts) fresh refl;
          };
    }

not_stopped : Contains (event.Fault ∷ []) (event.Stop None) → ⊥
not_stopped (zero, below, same) = cc same
not_stopped (suc k, below, same) = absurd (omega arith)

-- a run of a script whose reactor couldn't be set up
pub broken_run : {H : Type 0} (marks : H → Marks) (script : ScriptModel) (reactor : SeenReactor) (old new : Rack H)
    → IsWellFormed script → AllTaken old new
    → let_go_of new ≡ drop_marks_but marks (λ n. false) old → reactor.up ≡ false → Rose reactor.sent.faults_before reactor.sent.faults_after
    → IsRunOf marks script reactor old new (event.Fault ∷ [])
broken_run marks script reactor old new well spent let_go down rose =
    record {
      legal = fault_is_legal script (tells_bytes reactor);
      promise = keeps script (tells_bytes reactor) (event.Fault ∷ []) well (fault_is_legal script (tells_bytes reactor));
      numbers = (tt, tt);
      marked = (tt, tt);
      spent = spent;
      let_go = let_go ∙ none_initiated marks script (tells_bytes reactor) old;
      unstopped = not_stopped;
      faults = λ shown. rose;
      stood = λ quiet. absurd (quiet (0, omega arith, refl));
      set_up = (λ alone. down, λ same. refl);
      now = λ up. absurd (cc (up, down));
      sent = λ quiet. absurd (quiet (0, omega arith, refl));
    }
