use Rattle.std.proofs.Common.{arith, ◌≡◌, ◌-◌, ◌++◌, drop, length, ap, refl, ◌∙◌}
use Rattle.std.specs.Prelude.{vec_len}
use Rattle.std.proofs.lemmas.List.{drop-append-le}
use Rattle.text_io.proofs.unsent.Unsent.hold.Goals as goal

pub returns-clause-held : goal.returns-clause-held
returns-clause-held c =
    let before = c.self.inside in
    let bytes : drop before.sent c.extend_from_slice.new.self.items
    ≡ drop before.sent before.bytes.items ++ c.args.bytes.now =
    ap (drop before.sent) c.in-Ok.ensures.items
    ∙ drop-append-le before.sent before.bytes.items c.args.bytes.now c.self.invariant.0 in
    let room : before.most - vec_len c.extend_from_slice.new.self
    ≡ before.most - vec_len before.bytes - length c.args.bytes.now = omega (arith, c.in-Ok.ensures.len) in
    rw (bytes, room, ← c.self.view_is) refl
