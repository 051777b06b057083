use Rattle.std.proofs.Common.{◌≡◌, ◌+◌, List, ℕ, Some, drop, sym, ap, ◌∙◌, arith}
use Rattle.std.proofs.lemmas.Result.{on_ok_weaker}
use Rattle.asio_types.specs.declared.code.Class.TheVariants as class
use Rattle.std.specs.List.{flat_map}
use lib.Chars.{codes}
use Rattle.session_script.specs.Script.{branch_of}
use Rattle.session_script.specs.Spelling.{written, branch_words, entry_words, body_words}
use Rattle.session_script.proofs.WrittenLemmas.{written_more, are_acts, body_written, three_written}
use Rattle.session_script.proofs.writer.body.+bodies.Goals as goal

pub body-returns : goal.body-returns
body-returns t c =
    on_ok_weaker c.word-2.result
    (body_written c.args.levels c.args.script.now c.args.acts.now c.args.out.now.items c.word.new.out.items
    c.entries.new.out.items c.word-2.new.out.items c.if-levels-eq0.false c.in_ok-word.ensures
    c.in_ok-entries.ensures) c.word-2.ensures

pub branches-body-requires : goal.branches-body-requires
branches-body-requires t c = (
  omega (arith, c.decreases),
  are_acts c.args.script.now (Some (c.args.o, class.Ok)) c.branch-script.result.now c.branch-script.ensures,
)

pub branches-branch-script-requires-3 : goal.branches-branch-script-requires-3
branches-branch-script-requires-3 t c = (
  omega (arith, c.decreases),
  are_acts c.args.script.now (Some (c.args.o, class.Abort)) c.branch-script-2.result.now
      c.branch-script-2.ensures,
)

pub branches-branch-script-requires-5 : goal.branches-branch-script-requires-5
branches-branch-script-requires-5 t c = (
  omega (arith, c.decreases),
  are_acts c.args.script.now (Some (c.args.o, class.Other)) c.branch-script-4.result.now
      c.branch-script-4.ensures,
)

pub branches-returns : goal.branches-returns
branches-returns t c =
    let first : c.body.new.out.items
    ≡ written c.args.out.now.items (body_words c.args.levels c.args.script.now (branch_of c.args.script.now c.args.o class.Ok)) =
    c.in_ok-body.ensures
    ∙ ap (λ (acts : List ℕ). written c.args.out.now.items (body_words c.args.levels c.args.script.now acts))
    c.branch-script.ensures in
    let second : c.branch-script-3.new.out.items
    ≡ written c.body.new.out.items (branch_words (body_words c.args.levels c.args.script.now) (codes "abort")
    (branch_of c.args.script.now c.args.o class.Abort)) =
    c.in_ok-branch.ensures
    ∙ ap (λ (acts : List ℕ).
    written c.body.new.out.items (branch_words (body_words c.args.levels c.args.script.now) (codes "abort") acts))
    c.branch-script-2.ensures in
    on_ok_weaker c.branch-script-5.result
    (λ third.
    three_written c.args.out.now.items c.body.new.out.items c.branch-script-3.new.out.items
    c.branch-script-5.new.out.items
    (body_words c.args.levels c.args.script.now (branch_of c.args.script.now c.args.o class.Ok))
    (branch_words (body_words c.args.levels c.args.script.now) (codes "abort")
    (branch_of c.args.script.now c.args.o class.Abort))
    (branch_words (body_words c.args.levels c.args.script.now) (codes "other")
    (branch_of c.args.script.now c.args.o class.Other)) first second (third
    ∙ ap (λ (acts : List ℕ).
    written c.branch-script-3.new.out.items
    (branch_words (body_words c.args.levels c.args.script.now) (codes "other") acts))
    c.branch-script-4.ensures))
    c.branch-script-5.ensures

pub entries-each_act-preserved : goal.entries-each_act-preserved
entries-each_act-preserved t c =
    ap (λ (text : List ℕ).
    written text (flat_map (entry_words (body_words c.args.levels c.args.script.now) c.args.script.now)
    (drop (c.each_act.a-index + 1) c.args.acts.now))) c.in_ok-entry.ensures
    ∙ sym (written_more (entry_words (body_words c.args.levels c.args.script.now) c.args.script.now) c.args.acts.now
    c.each_act.a-index 0 c.each_act.out.items c.each_act-test.true)
    ∙ c.each_act.invariant

pub entry-body-requires : goal.entry-body-requires
entry-body-requires t c = (
  omega (arith, c.decreases),
  are_acts c.args.script.now (Some (c.args.a, class.Ok)) c.branch-script.result.now c.branch-script.ensures,
)
