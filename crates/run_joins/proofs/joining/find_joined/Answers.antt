use Rattle.std.proofs.Common.{◌≡◌, ◌<◌, ◌∙◌, refl, length, arith}
use Rattle.run_joins.proofs.JoiningLemmas.{left_all, left_more, left_none}
use Rattle.run_joins.proofs.joining.find_joined.Goals as goal

pub loop-note-init : goal.loop-note-init
loop-note-init c =
    let less : c.args.join.place < length c.args.notes.items =
    omega (arith, c.if-join-len.false, c.len.ensures, c.args.notes.ok) in (
      refl,
      λ run legal are.
          left_all run c.args.notes.items (record { join = c.args.join; reached = c.new.result; late = c.new-2.result }) less are
          (c.new.ensures run c.args.join.place (length run)),
    )

pub loop-note-preserved : goal.loop-note-preserved
loop-note-preserved c = (
  c.see.ensures.join ∙ c.loop-note.invariant.0,
  λ run legal are.
      left_more run c.loop-note.left.items c.pop.new.self.items c.in-Some.note c.loop-note.joined c.see.new.self c.in-Some.ensures.items
      (c.loop-note.invariant.1 run legal are) (λ past line place known within.
      let same : c.len-in-Some.result ≡ length past = omega (arith, place, c.len-in-Some.ensures, c.pop.new.self.ok) in
      c.in_ok-see.ensures.within run past line legal same known within),
)

pub returns-clause-kept : goal.returns-clause-kept
returns-clause-kept c = λ run legal are.
    let none : length c.loop-note.left.items ≡ 0 = omega (arith, c.in_default.ensures.cases.0, c.loop-note.left.ok) in
    left_none run c.loop-note.left.items c.loop-note.joined none (c.loop-note.invariant.1 run legal are)
