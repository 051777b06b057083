use Rattle.std.proofs.Common.{[], ◌∷◌, ◌++◌, ap, refl, sym, ◌∙◌}
use Rattle.history_rules.specs.Legal.{state_of}
use Rattle.session_orders.proofs.ComeLemmas.{come_back, front_legal}
use Rattle.session_orders.proofs.CountingLemmas.{come_moved}
use Rattle.session_orders.proofs.walk.Walk.split.Goals as goal

pub replay_of-requires : goal.replay_of-requires
replay_of-requires c =
    front_legal c.args.self.now.script.now c.args.self.now.kind c.args.self.now.replay
    (c.args.self.now.path.items ++ c.args.event ∷ []) c.as_slice.result.now c.args.event c.requires
    (ap (λ path. path ++ c.args.event ∷ []) (sym c.as_slice.ensures.value))

pub returns-clause-back : goal.returns-clause-back
returns-clause-back c =
    come_moved c.args.self.now.script.now c.args.self.now.kind c.in_ok-again.again c.replace-replay.new.dest
    c.args.self.now.path.items c.args.self.now.path.items c.replace-replay.ensures.after refl
    (come_back c.args.self.now.script.now c.args.self.now.kind c.args.self.now.replay c.in_ok-again.again
    (c.args.self.now.path.items ++ c.args.event ∷ []) c.args.self.now.path.items c.args.event c.requires refl
    c.in_ok-again.ensures.script c.in_ok-again.ensures.told
    (c.in_ok-again.ensures.state ∙ ap (state_of c.args.self.now.script.now c.args.self.now.kind.told) c.as_slice.ensures.value))
