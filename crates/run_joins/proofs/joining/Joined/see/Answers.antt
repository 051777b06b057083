use Rattle.std.proofs.Common.{◌<◌, ◌≤◌, arith}
use Rattle.run_joins.proofs.JoiningLemmas.{goes_before, goes_behind}
use Rattle.run_joins.proofs.joining.Joined.see.Goals as goal

pub returns-in_ok-see_behind-clause-within : goal.returns-in_ok-see_behind-clause-within
returns-in_ok-see_behind-clause-within c = λ run past line legal is known within.
    let test = c.if-place-self.true in
    let behind : c.args.self.now.join.place < c.args.place = omega arith in
    goes_behind run past line c.args.note.now c.args.place c.args.self.now c.see_behind.new.self is known within behind
    c.see_behind.ensures.join c.in_ok-see_behind.ensures.reached c.in_ok-see_behind.ensures.late c.in_ok-see_behind.ensures.own

pub returns-in_ok-see_before-clause-within : goal.returns-in_ok-see_before-clause-within
returns-in_ok-see_before-clause-within c = λ run past line legal is known within.
    let test = c.if-place-self.false in
    let before : c.args.place ≤ c.args.self.now.join.place = omega arith in
    goes_before run past line c.args.note.now c.args.place c.args.self.now c.keep.new.self c.see_before.new.self legal is known within before
    c.in_ok-keep.ensures.kept c.keep.ensures.join c.in_ok-keep.ensures.late c.see_before.ensures.join c.in_ok-see_before.ensures.reached
    c.in_ok-see_before.ensures.late c.in_ok-see_before.ensures.over
