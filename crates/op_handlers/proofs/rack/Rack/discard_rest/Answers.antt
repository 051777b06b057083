use Rattle.std.proofs.Common.{◌≡◌, ◌<◌, ◌+◌, ◌∙◌, length, None, inl, inr, ap, arith}
use Rattle.std.proofs.lemmas.Bool.{cases_lt}
use Rattle.std.proofs.lemmas.List.{length-set}
use Rattle.std.proofs.lemmas.Option.{slice_get_past}
use Rattle.std.specs.Prelude.{slice_get, slice_set}
use Rattle.std.specs.Option.{option_flatten}
use Rattle.op_handlers.specs.Marks.{drop_mark_of}
use Rattle.op_handlers.specs.Rack.{handler_at, handlers_in}
use Rattle.op_handlers.proofs.DiscardLemmas.{drop_marks_more, taken_other, taken_same}
use Rattle.op_handlers.proofs.rack.Rack.discard_rest.Goals as goal

pub loop-n-preserved : goal.loop-n-preserved
loop-n-preserved g c =
    let before = handlers_in c.loop-n.self in
    let within : c.loop-n.n < length (handlers_in c.args.self.now) = omega (arith, c.loop-n.invariant.size) in
    let mark : c.discarded.result ≡ drop_mark_of g.H.CompletionHandler.marks (handler_at c.args.self.now c.loop-n.n) =
    c.discarded.ensures
    ∙ ap (drop_mark_of g.H.CompletionHandler.marks) (c.take.ensures.taken ∙ c.loop-n.invariant.later c.loop-n.n (omega arith)) in
    record {
      size = ap length c.take.ensures.after ∙ length-set before c.loop-n.n None ∙ c.loop-n.invariant.size;
      none = λ i less.
          ap (λ hs. option_flatten (slice_get hs i)) c.take.ensures.after
          ∙ elim (cases_lt i c.loop-n.n) [
            | inl below ↦
                taken_other before c.loop-n.n i (λ same. absurd (omega (arith, same, below)))
                ∙ c.loop-n.invariant.none i below
            | inr here ↦
                let e : i ≡ c.loop-n.n = omega arith in
                ap (λ k. option_flatten (slice_get (slice_set before c.loop-n.n None) k)) e ∙ taken_same before c.loop-n.n
          ];
      later = λ i more.
          ap (λ hs. option_flatten (slice_get hs i)) c.take.ensures.after
          ∙ taken_other before c.loop-n.n i (λ same. absurd (omega (arith, same, more)))
          ∙ c.loop-n.invariant.later i (omega arith);
      marks =
          omega (
            arith,
            c.loop-n.invariant.marks,
            drop_marks_more g.H.CompletionHandler.marks (handlers_in c.args.self.now) c.loop-n.n c.discarded.result within mark,
          );
      few = omega (arith, c.loop-n.invariant.few, c.discarded.type_inv);
    }

pub returns-clause-taken : goal.returns-clause-taken
returns-clause-taken g c = record {
  size = c.loop-n.invariant.size;
  none = λ n.
      elim (cases_lt n c.loop-n.n) [
        | inl less ↦ c.loop-n.invariant.none n less
        | inr more ↦
            ap option_flatten (slice_get_past (handlers_in c.loop-n.self) n (omega (arith, c.count-n-end.ensures, c.loop-n.invariant.size)))
      ];
}
