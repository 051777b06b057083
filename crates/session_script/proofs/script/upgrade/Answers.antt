use Rattle.std.proofs.Common.{◌≡◌, subst, rules}
use Rattle.session_script.specs.Script.{ScriptModel}
use Rattle.session_script.specs.Grammar.{IsScript}
use Rattle.session_script.specs.Spelling.{spelling_of, upgraded}
use Rattle.session_script.specs.Outcome.{model_of}
use Rattle.session_script.proofs.ReadingBackLemmas.{upgrade_is_read}
use Rattle.session_script.proofs.script.upgrade.Goals as goal

pub make-requires : goal.make-requires
unfolding model_of
make-requires c =
    let old = model_of c.script.inside.parts in
    let same : upgraded old ≡ model_of (record {
      version = 2;
      strands = c.script.inside.parts.strands;
      timers = c.script.inside.parts.timers;
      slots = c.script.inside.parts.slots;
      guards = c.script.inside.parts.guards;
      acts = c.in_ok-acts.acts;
      world = c.in_ok-world.world;
      rounds = c.in_ok-rounds.rounds;
    }) = search rules in
    subst (λ (script : ScriptModel). IsScript (spelling_of script) script) same
    (upgrade_is_read (spelling_of old) old c.script.invariant.reads_back).0
