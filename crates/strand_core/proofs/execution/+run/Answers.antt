use Rattle.std.proofs.Common.{◌≡◌, ◌<◌, ◌+◌, ℕ, length, List, [], ◌∷◌, ◌++◌, drop, refl, sym, ap, subst, subst₂, ◌∙◌, arith}
use Rattle.std.specs.Prelude.{slice_index_or}
use Rattle.asio_types.specs.Code.{class_of_code}
use Rattle.asio_types.specs.declared.code.Code.TheVariants as codes
use Rattle.session_script.specs.Script.{ScriptModel, branch_of}
use Rattle.strand_core.specs.Execution.{AreCalls, IsWholeExecution, AnyMark, no_act}
use Rattle.strand_core.specs.declared.posted.Posted.{Posted}
use Rattle.strand_core.specs.declared.posted.Posted.TheVariants as posted
use Rattle.strand_core.proofs.BodyLemmas.{BodyTo, has_called}
use Rattle.strand_core.proofs.RunLemmas.{Next, act_within, after_op, begun_body, caller_gone, further, inside_more, is_there, outside_more, ran_is, some_whole, takes_back, takes_inside, takes_outside, takes_rest, whole_run}
use Rattle.strand_core.specs.Hands.{HasInlineOf, held_at, in_list}
use Rattle.strand_core.proofs.HandLemmas.{none_is_gone, taken_same}
use Rattle.op_handlers.specs.declared.call.Ran.{Ran}
use Rattle.std.proofs.lemmas.List.{drop_all}
use Rattle.strand_core.proofs.execution.+run.Goals as goal
use Rattle.strand_core.proofs.execution.+run.Given.{Over}
use Rattle.strand_core.proofs.execution.+run.Goals.{After-is_inline, then-is_inline+in-Some, else-is_inline}

-- the act of the branch that is next
next : (g : Over) (t : ℕ) (c : After-is_inline g t) →
    Next c.args.script.now g.H.CompletionHandler.marks c.args.completed.op c.args.completed.code c.args.completed.size
    c.begin-begun.result c.loop-act.act-index c.args.hands.now c.loop-act.hands
    (g.P.Poster.made c.args.poster.now) (g.P.Poster.made c.loop-act.poster) (g.P.Poster.takes c.args.poster.now)
    (g.P.Poster.takes c.loop-act.poster) (slice_index_or c.branch-act-items.result.now c.loop-act.act-index 0)
next g t c =
    let same : c.branch-act-items.result.now
    ≡ branch_of c.args.script.now c.args.completed.op (class_of_code c.args.completed.code) =
    c.branch-act-items.ensures ∙ ap (branch_of c.args.script.now c.args.completed.op) (ap (λ (r : Ran). r.class) c.ran-ran.ensures ∙ c.by-answered.ensures.class) in
    record {
      ordered = c.parents_come_first.ensures;
      same_script = c.requires.script;
      far = c.loop-act.invariant;
      less = omega (arith, c.loop-act-test.true, ap length same);
      is = ap (λ xs. slice_index_or xs c.loop-act.act-index 0) same;
    }

pub begin-begun-requires : goal.begin-begun-requires
begin-begun-requires g t c begun =
    let some =
    some_whole c.args.script.now c.parents_come_first.ensures c.args.completed.op c.args.completed.code
    c.args.completed.size begun in
    g.met.P.Poster.first_part c.args.poster.now
    (posted.Begin c.args.completed.op c.args.completed.code c.args.completed.size begun ∷ []) some.0
    (c.requires.takes _ some.1)

pub loop-act-init : goal.loop-act-init
loop-act-init g t c =
    begun_body c.args.script.now g.H.CompletionHandler.marks c.args.completed.op c.args.completed.code
    c.args.completed.size c.begin-begun.result c.args.hands.now (g.P.Poster.made c.args.poster.now)
    (g.P.Poster.made c.begin-begun.new.self) (g.P.Poster.takes c.args.poster.now)
    (g.P.Poster.takes c.begin-begun.new.self) c.requires.taken c.begin-begun.ensures.made c.begin-begun.ensures.rest

pub call-requires : goal.call-requires
call-requires g t c =
    let act = slice_index_or c.branch-act-items.result.now c.loop-act.act-index 0 in
    let some = some_whole c.args.script.now c.parents_come_first.ensures act codes.Ok 0 0 in
    g.met.P.Poster.first_part c.loop-act.poster (posted.Call act ∷ []) _ (takes_inside
    (next g t (goal.at.call-requires g t c).After-is_inline) c.requires.takes
    (sym c.is_inline.ensures ∙ c.if-is_inline.true) _ some.1)

pub take-requires : goal.take-requires
take-requires g t c = caller_gone (next g t (goal.at.take-requires g t c).After-is_inline)

pub call-requires-else-is_inline : goal.call-requires-else-is_inline
call-requires-else-is_inline g t c =
    g.met.P.Poster.first_part c.loop-act.poster
    (posted.Call (slice_index_or c.branch-act-items.result.now c.loop-act.act-index 0) ∷ []) _
    (takes_outside (next g t (goal.at.call-requires-else-is_inline g t c).After-is_inline) c.requires.takes
    (sym c.is_inline.ensures ∙ c.if-is_inline.false))

pub back-requires-else-is_inline : goal.back-requires-else-is_inline
back-requires-else-is_inline g t c =
    g.met.P.Poster.first_part c.call-else-is_inline.new.self
    (posted.Back (slice_index_or c.branch-act-items.result.now c.loop-act.act-index 0) ∷ []) _
    (c.call-else-is_inline.ensures.rest _ (takes_outside
    (next g t (goal.at.back-requires-else-is_inline g t c).After-is_inline) c.requires.takes
    (sym c.is_inline.ensures ∙ c.if-is_inline.false)))

pub loop-act-preserved : goal.loop-act-preserved
loop-act-preserved g t c =
    let act = slice_index_or c.branch-act-items.result.now c.loop-act.act-index 0 in
    elim c.if-is_inline.branch [
      | then-is_inline+in-Some w ↦
          subst₂
          (λ h p.
          BodyTo c.args.script.now g.H.CompletionHandler.marks c.args.completed.op c.args.completed.code
          c.args.completed.size c.begin-begun.result
          (branch_of c.args.script.now c.args.completed.op (class_of_code c.args.completed.code))
          (c.loop-act.act-index + 1) c.args.hands.now h (g.P.Poster.made c.args.poster.now) (g.P.Poster.made p)
          (g.P.Poster.takes c.args.poster.now) (g.P.Poster.takes p)) (sym w.hands-is) (sym w.poster-is)
          (inside_more (next g t (goal.at.loop-act-preserved g t c).After-is_inline)
          (sym c.is_inline.ensures ∙ w.if-is_inline.true) w.run.result
          w.in-Some.inner (sym w.in-Some.ensures.taken) w.take.new.self w.run.new.hands w.take.ensures.after
          w.take.ensures.script (g.P.Poster.made w.call.new.self) (g.P.Poster.made w.run.new.poster)
          (g.P.Poster.made w.back.new.self) (g.P.Poster.takes w.call.new.self) (g.P.Poster.takes w.run.new.poster)
          (g.P.Poster.takes w.back.new.self)
          (has_called c.loop-act.hands (posted.Call act) _ _ _ _ (λ n. refl) w.call.ensures.made
          w.call.ensures.rest) w.run.ensures.ran (has_called w.run.new.hands (posted.Back act) _ _ _ _ (λ n. refl)
          w.back.ensures.made w.back.ensures.rest))
      | else-is_inline w ↦
          subst₂
          (λ h p.
          BodyTo c.args.script.now g.H.CompletionHandler.marks c.args.completed.op c.args.completed.code
          c.args.completed.size c.begin-begun.result
          (branch_of c.args.script.now c.args.completed.op (class_of_code c.args.completed.code))
          (c.loop-act.act-index + 1) c.args.hands.now h (g.P.Poster.made c.args.poster.now) (g.P.Poster.made p)
          (g.P.Poster.takes c.args.poster.now) (g.P.Poster.takes p)) (sym w.hands-is) (sym w.poster-is)
          (outside_more (next g t (goal.at.loop-act-preserved g t c).After-is_inline)
          (sym c.is_inline.ensures ∙ w.if-is_inline.false) (g.P.Poster.made w.call-else-is_inline.new.self)
          (g.P.Poster.made w.back-else-is_inline.new.self) (g.P.Poster.takes w.call-else-is_inline.new.self)
          (g.P.Poster.takes w.back-else-is_inline.new.self)
          (has_called c.loop-act.hands (posted.Call act) _ _ _ _ (λ n. refl) w.call-else-is_inline.ensures.made
          w.call-else-is_inline.ensures.rest) (has_called c.loop-act.hands (posted.Back act) _ _ _ _ (λ n. refl)
          w.back-else-is_inline.ensures.made w.back-else-is_inline.ensures.rest))
    ]

pub unreachable-requires : goal.unreachable-requires
unreachable-requires g t c =
    none_is_gone (held_at c.loop-act.hands (slice_index_or c.branch-act-items.result.now c.loop-act.act-index 0))
    c.in-None.ensures.taken (is_there (next g t (goal.at.unreachable-requires g t c).After-is_inline)
    c.requires.inside (sym c.is_inline.ensures ∙ c.if-is_inline.true))

pub run-requires : goal.run-requires
run-requires g t c κs within =
    let act = slice_index_or c.branch-act-items.result.now c.loop-act.act-index 0 in
    let here = next g t (goal.at.run-requires g t c).After-is_inline in
    let later : c.args.completed.op < slice_index_or c.branch-act-items.result.now c.loop-act.act-index 0 =
    after_op (next g t (goal.at.run-requires g t c).After-is_inline) in
    let there : slice_index_or c.branch-act-items.result.now c.loop-act.act-index 0 < length c.args.script.now.acts =
    act_within (next g t (goal.at.run-requires g t c).After-is_inline) in
    let script : c.take.new.self.script ≡ c.args.script.now =
    c.take.ensures.script ∙ c.loop-act.invariant.did.script ∙ c.requires.script in
    let taken = ap (λ hs. in_list hs act) c.take.ensures.after ∙ taken_same c.loop-act.hands.handlers act in
    let inside =
    subst (λ (s : ScriptModel). HasInlineOf s c.take.new.self.handlers act) script (c.in-Some.ensures.inside refl) in
    let whole_taken = λ (calls : List Posted) (whole : IsWholeExecution c.args.script.now AnyMark act codes.Ok 0 calls).
    c.call.ensures.rest _ (takes_inside here c.requires.takes (sym c.is_inline.ensures ∙ c.if-is_inline.true) calls whole) in (
      omega arith,
      (
        within.0,
        (
          within.1,
          (
            script,
            (
              there,
              (
                taken,
                (
                  inside,
                  λ calls whole.
                      g.met.P.Poster.first_part c.call.new.self calls (posted.Back act ∷ further here)
                      (whole_taken calls whole),
                ),
              ),
            ),
          ),
        ),
      ),
    )

pub back-requires : goal.back-requires
back-requires g t c =
    g.met.P.Poster.first_part c.run.new.poster
    (posted.Back (slice_index_or c.branch-act-items.result.now c.loop-act.act-index 0) ∷ []) _
    (takes_back (next g t (goal.at.back-requires g t c).After-is_inline) c.requires.takes
    (sym c.is_inline.ensures ∙ c.if-is_inline.true) c.run.result
    c.take.new.self c.run.new.hands c.take.ensures.script (g.P.Poster.made c.call.new.self)
    (g.P.Poster.made c.run.new.poster) (g.P.Poster.takes c.call.new.self) (g.P.Poster.takes c.run.new.poster)
    c.call.ensures.rest c.run.ensures.ran)

pub end-requires : goal.end-requires
end-requires g t c =
    let branch = branch_of c.args.script.now c.args.completed.op (class_of_code c.args.completed.code) in
    let done : drop c.loop-act.act-index branch ≡ [] =
    drop_all c.loop-act.act-index branch
    (omega (
      arith,
      c.loop-act-test.false,
      ap length (c.branch-act-items.ensures
          ∙ ap (branch_of c.args.script.now c.args.completed.op) (ap (λ (r : Ran). r.class) c.ran-ran.ensures ∙ c.by-answered.ensures.class)),
    )) in
    subst (λ (ran : Ran). g.P.Poster.takes c.loop-act.poster (posted.End c.args.completed.op ran ∷ []))
    (sym (ran_is _ _ _ _ refl (ap (λ (r : Ran). r.class) c.ran-ran.ensures ∙ c.by-answered.ensures.class) (ap (λ (r : Ran). r.begun) c.ran-ran.ensures ∙ c.by-answered.ensures.begun)))
    (takes_rest c.loop-act.invariant c.requires.takes []
    (subst (λ acts. AreCalls c.args.script.now AnyMark acts []) (sym done) no_act) c.ran-ran.result.mark)

pub returns : goal.returns
returns g t c =
    let mark : ℕ = c.ran-ran.result.mark in
    let same =
    ran_is c.ran-ran.result mark (class_of_code c.args.completed.code) c.begin-begun.result refl
    (ap (λ (r : Ran). r.class) c.ran-ran.ensures ∙ c.by-answered.ensures.class) (ap (λ (r : Ran). r.begun) c.ran-ran.ensures ∙ c.by-answered.ensures.begun) in
    let end : Posted =
    posted.End c.args.completed.op
    (record { mark = mark; class = class_of_code c.args.completed.code; begun = c.begin-begun.result }) in
    let is_end : posted.End c.args.completed.op c.ran-ran.result ≡ end = ap (posted.End c.args.completed.op) same in
    let made : g.P.Poster.made c.end.new.self ≡ g.P.Poster.made c.loop-act.poster ++ end ∷ [] =
    c.end.ensures.made ∙ ap (λ call. g.P.Poster.made c.loop-act.poster ++ call ∷ []) is_end in
    let rest : (rest : List Posted) → g.P.Poster.takes c.loop-act.poster (end ∷ rest) →
    g.P.Poster.takes c.end.new.self rest =
    λ rest taken.
    c.end.ensures.rest rest (subst (λ call. g.P.Poster.takes c.loop-act.poster (call ∷ rest)) (sym is_end) taken) in
    record {
      ran =
          whole_run c.args.script.now g.H.CompletionHandler.marks (g.H.CompletionHandler.marks c.args.handler).run
          c.args.completed.op c.args.completed.code
          c.args.completed.size c.begin-begun.result mark c.loop-act.act-index c.args.hands.now c.loop-act.hands
          (g.P.Poster.made c.args.poster.now) (g.P.Poster.made c.loop-act.poster) (g.P.Poster.made c.end.new.self)
          (g.P.Poster.takes c.args.poster.now) (g.P.Poster.takes c.loop-act.poster) (g.P.Poster.takes c.end.new.self)
          c.requires.script
          (omega (
            arith,
            c.loop-act-test.false,
            ap length (c.branch-act-items.ensures
                ∙ ap (branch_of c.args.script.now c.args.completed.op) (ap (λ (r : Ran). r.class) c.ran-ran.ensures ∙ c.by-answered.ensures.class)),
          )) c.loop-act.invariant
          (has_called c.loop-act.hands end _ _ _ _ (λ n. refl) made rest) (ap (λ (r : Ran). r.mark) c.ran-ran.ensures ∙ c.by-answered.ensures.mark);
    }
