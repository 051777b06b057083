use Rattle.std.proofs.Common.{◌∙◌, ap, length}
use Rattle.std.specs.Option.{option_flatten}
use Rattle.std.specs.Prelude.{slice_get}
use Rattle.history_laws.proofs.PromiseLemmas.{keeps}
use Rattle.proactor_core.specs.Proactor.{tells}
use Rattle.session_run.proofs.context_kind.run_script.Goals as goal

pub returns-in-Ok-clause-taken : goal.returns-in-Ok-clause-taken
returns-in-Ok-clause-taken g c =
    record {
      left = λ n.
          ap (λ hs. option_flatten (slice_get hs n)) c.note.ensures.handlers ∙ c.in-Ok.ensures.taken.left n;
      count = ap length c.note.ensures.handlers ∙ c.in-Ok.ensures.taken.count;
    }

pub returns-in-Ok-clause-promise : goal.returns-in-Ok-clause-promise
returns-in-Ok-clause-promise g c =
    keeps c.args.script.now (tells (g.X.Reactor.told c.args.reactor)) c.in-Ok.history.events
    c.scripts_are_well_formed.ensures c.in-Ok.ensures.ended.legal
