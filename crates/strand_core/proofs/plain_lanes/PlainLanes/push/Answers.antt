use Rattle.std.proofs.Common.{◌≡◌, ◌<◌, false, sym, ap, subst, ◌∙◌, arith, rules}
use Rattle.strand_core.specs.Ready.{ReadyLine, AreOnce, is_among, was_pushed}
use Rattle.strand_core.proofs.ReadyLemmas.{fewer_once, once_more}
use Rattle.strand_core.proofs.plain_lanes.PlainLanes.push.Goals as goal

pub push_reserved-requires : goal.push_reserved-requires
push_reserved-requires c =
    let known : c.args.op < c.self.inside.acts =
    omega (arith, c.requires.known, ap (λ (v : ReadyLine). v.acts) c.self.view_is) in
    let new : is_among c.args.op c.self.inside.pushed.items ≡ false =
    ap (λ (v : ReadyLine). was_pushed v c.args.op) c.self.view_is ∙ c.requires.new in
    omega (
      arith,
      fewer_once c.self.inside.acts c.args.op c.self.inside.pushed.items c.self.invariant.once known new,
      c.self.invariant.room,
    )

pub invariant_of-self : goal.invariant_of-self
invariant_of-self c =
    let known : c.args.op < c.self.inside.acts =
    omega (arith, c.requires.known, ap (λ (v : ReadyLine). v.acts) c.self.view_is) in
    let new : is_among c.args.op c.self.inside.pushed.items ≡ false =
    ap (λ (v : ReadyLine). was_pushed v c.args.op) c.self.view_is ∙ c.requires.new in
    record {
      room = search rules;
      once =
          subst (AreOnce c.self.inside.acts) (sym c.push_reserved.ensures.items)
          (once_more c.self.inside.acts (c.args.op, c.args.code, c.args.size) c.self.inside.pushed.items
          c.self.invariant.once known new);
      popped = search rules;
    }
