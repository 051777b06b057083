use Rattle.run_forced.proofs.past.Past.forget_execution.Goals as goal

pub returns : goal.returns
returns c = λ run lines followed. record {
  known = c.in_ok-leave-2.ensures run lines (c.in_ok-leave.ensures run lines followed.known);
  sources = c.forget_execution.ensures run lines followed.sources;
  ended = followed.ended;
}
