-- One act more of a body.
use Rattle.std.proofs.Common.{◌≡◌, ℕ, ◌+◌, ◌<◌, ◌≤◌, cond, List, [], ◌∷◌, ◌++◌, Bool, true, false, ◌==◌, inl, inr, Some, None, IsSome, length, take, drop, get_or, refl, sym, ap, subst, ◌∙◌, arith}
use Rattle.std.specs.Prelude.{slice_set}
use Rattle.std.specs.Option.{option_map}
use Rattle.std.proofs.lemmas.Bool.{eqb-true, eq-eqb}
use Rattle.std.proofs.lemmas.List.{append_assoc, drop_more, take-append-drop, take_all}
use Rattle.asio_types.specs.Code.{class_of_code}
use Rattle.asio_types.specs.declared.code.Class.{Class}
use Rattle.asio_types.specs.declared.code.Class.TheVariants as class
use Rattle.asio_types.specs.declared.code.Code.{Code}
use Rattle.asio_types.specs.declared.code.Code.TheVariants as codes
use Rattle.op_handlers.specs.Marks.{Marks, call_of}
use Rattle.op_handlers.specs.declared.call.Call.{Call}
use Rattle.op_handlers.specs.declared.call.Ran.{Ran}
use Rattle.session_script.specs.Script.{Place, ScriptModel, branch_of, parent_of}
use Rattle.session_script.specs.Lanes.{is_inline}
use Rattle.session_script.specs.WellFormed.{HasParent}
use Rattle.strand_core.specs.Answer.{HasExecuted, HasMade, HasRun, TakesWhole}
use Rattle.strand_core.specs.Execution.{AreCalls, IsWholeExecution, no_act, outside, inside, execution_of, AnyMark}
use Rattle.strand_core.specs.Hands.{Held, HasInlineOf, CallerIsGone, held_at, begins_among, in_list, left_at, HasRunMark}
use Rattle.strand_core.specs.declared.posted.Posted.{Posted}
use Rattle.strand_core.specs.declared.posted.Posted.TheVariants as posted
use Rattle.strand_core.proofs.CallLemmas.{with_marks, calls-append}
use Rattle.strand_core.proofs.BodyLemmas.{BodyTo, has_made_both, one_act_more}
use Rattle.strand_core.proofs.HandLemmas.{taken_same, taken_other, same_or_not}
use Rattle.strand_core.proofs.SomeLemmas.{some_calls}
use Rattle.strand_core.proofs.TreeLemmas.{Among, among_at, among_within, among_taken, not_before, rise_branch, begins_in, parent_of-branch}

-- the operation of a place
abbrev operation_of : Place → ℕ
operation_of None = 0
operation_of (Some at) = at.0

-- a handler was taken, and the execution that spent it is that of the hands before
pub made_with : {H : Type 0} (now taken next : Held H) (act : ℕ) (calls made more : List Posted)
    (U V : List Posted → Type 0) → taken.handlers ≡ slice_set now.handlers act None → taken.script ≡ now.script →
    begins_among act calls ≡ true → HasMade calls taken next made more U V → HasMade calls now next made more U V
made_with now taken next act calls made more U V is_taken same itself did = record {
  made = did.made;
  script = did.script ∙ same;
  spent = λ n.
      did.spent n
      ∙ elim (same_or_not act n) as
      (λ v. left_at (begins_among n calls) (held_at taken n) ≡ left_at (begins_among n calls) (held_at now n)) [
        | inl is ↦
            let begun : begins_among n calls ≡ true = ap (λ k. begins_among k calls) (sym is) ∙ itself in
            ap (λ b. left_at b (held_at taken n)) begun ∙ sym (ap (λ b. left_at b (held_at now n)) begun)
        | inr differ ↦
            ap (left_at (begins_among n calls)) (ap (λ hs. in_list hs n) is_taken ∙ taken_other now.handlers act n differ)
      ];
  rest = did.rest;
}

-- the mark of a handler that was left
pub mark_left : {H : Type 0} (marks : H → Marks) (old now : Held H) (call : Call) (mark : ℕ) (b : Bool) →
    held_at now call.op ≡ left_at b (held_at old call.op) → HasRunMark marks now call mark →
    HasRunMark marks old call mark
mark_left marks old now call mark true is marked = absurd (cc (ap (option_map (λ h. (marks h).run call)) is, marked))
mark_left marks old now call mark false is marked = ap (option_map (λ h. (marks h).run call)) (sym is) ∙ marked

-- what is taken next, whatever the marks, where the body of a handler was executed up to its i-th act
pub takes_rest : {H : Type 0} {script : ScriptModel} {marks : H → Marks} {op : ℕ} {code : Code} {size begun i : ℕ}
    {old now : Held H} {old_made made : List Posted} {T U : List Posted → Type 0} →
    BodyTo script marks op code size begun (branch_of script op (class_of_code code)) i old now old_made made T U →
    TakesWhole T script op code size → (rest : List Posted) →
    AreCalls script AnyMark (drop i (branch_of script op (class_of_code code))) rest → (mark : ℕ) →
    U (rest ++ posted.End op (record { mark = mark; class = class_of_code code; begun = begun }) ∷ [])
takes_rest {H} {script} {marks} {op} {code} {size} {begun} {i} {old} {now} {old_made} {made} {T} {U} far takes rest acts mark =
    let end : List Posted = posted.End op (record { mark = mark; class = class_of_code code; begun = begun }) ∷ [] in
    let before : AreCalls script AnyMark (take i (branch_of script op (class_of_code code))) far.done =
    with_marks script (HasRunMark marks old) AnyMark (λ o m known. tt) far.acts in
    let all : AreCalls script AnyMark (branch_of script op (class_of_code code)) (far.done ++ rest) =
    subst (λ list. AreCalls script AnyMark list (far.done ++ rest))
    (take-append-drop i (branch_of script op (class_of_code code))) (calls-append script AnyMark before acts) in
    let whole : IsWholeExecution script AnyMark op code size (execution_of op code size begun mark (far.done ++ rest)) =
    record { begun = begun; mark = mark; body = far.done ++ rest; marked = tt; acts = all; is = refl } in
    far.did.rest (rest ++ end) (subst (λ calls. T (posted.Begin op code size begun ∷ calls))
    (append_assoc far.done rest end) (takes (execution_of op code size begun mark (far.done ++ rest)) whole))

-- the act of a body that is next, and how far the body was executed
pub record Next {H : Type 0} (script : ScriptModel) (marks : H → Marks) (op : ℕ) (code : Code) (size begun i : ℕ)
    (old now : Held H) (old_made made : List Posted) (T U : List Posted → Type 0) (act : ℕ) : Type 0 where
  pub ordered : (n : ℕ) → HasParent script.acts n (parent_of script n)
  pub same_script : old.script ≡ script
  pub far : BodyTo script marks op code size begun (branch_of script op (class_of_code code)) i old now old_made made T
      U
  pub less : i < length (branch_of script op (class_of_code code))
  pub is : act ≡ get_or (branch_of script op (class_of_code code)) i 0

module _ {H : Type 0} {script : ScriptModel} {marks : H → Marks} {op : ℕ} {code : Code} {size begun i : ℕ}
    {old now : Held H} {old_made made : List Posted} {T U : List Posted → Type 0} {act : ℕ}
    (here : Next script marks op code size begun i old now old_made made T U act) where
  pub parent : parent_of script act ≡ Some (op, class_of_code code)
  parent =
      parent_of-branch script op (class_of_code code) act (subst
      (λ a. Among a (branch_of script op (class_of_code code))) (sym here.is)
      (among_at (branch_of script op (class_of_code code)) i here.less))

  pub act_within : act < length script.acts
  act_within = among_within script (Some (op, class_of_code code)) act
      (subst (λ a. Among a (branch_of script op (class_of_code code))) (sym here.is)
      (among_at (branch_of script op (class_of_code code)) i here.less))

  pub after_op : op < act
  after_op = (subst (HasParent script.acts act) parent (here.ordered act)).0

  drops : drop i (branch_of script op (class_of_code code))
      ≡ act ∷ drop (i + 1) (branch_of script op (class_of_code code))
  drops =
      drop_more (branch_of script op (class_of_code code)) i 0 here.less
      ∙ ap (λ a. a ∷ drop (i + 1) (branch_of script op (class_of_code code))) (sym here.is)

  -- the rest after this act
  pub further : List Posted
  further =
      (some_calls script here.ordered (drop (i + 1) (branch_of script op (class_of_code code)))).0
      ++ posted.End op (record { mark = 0; class = class_of_code code; begun = begun }) ∷ []

  pub takes_outside : TakesWhole T script op code size → is_inline script act ≡ false →
      U (posted.Call act ∷ posted.Back act ∷ further)
  unfolding further
  takes_outside takes is_not =
      let rest = some_calls script here.ordered (drop (i + 1) (branch_of script op (class_of_code code))) in
      takes_rest here.far takes (posted.Call act ∷ posted.Back act ∷ rest.0)
      (subst (λ list. AreCalls script AnyMark list (posted.Call act ∷ posted.Back act ∷ rest.0)) (sym drops)
      (outside is_not rest.1)) 0

  pub takes_inside : TakesWhole T script op code size → is_inline script act ≡ true → (calls : List Posted) →
      IsWholeExecution script AnyMark act codes.Ok 0 calls → U (posted.Call act ∷ (calls ++ posted.Back act ∷ further))
  unfolding further
  takes_inside takes is_in calls whole =
      let rest = some_calls script here.ordered (drop (i + 1) (branch_of script op (class_of_code code))) in
      let end : List Posted = posted.End op (record { mark = 0; class = class_of_code code; begun = begun }) ∷ [] in
      let inner : List Posted = execution_of act codes.Ok 0 whole.begun whole.mark whole.body in
      let acts : AreCalls script AnyMark (drop i (branch_of script op (class_of_code code)))
      (posted.Call act ∷ (inner ++ posted.Back act ∷ rest.0)) =
      subst (λ list. AreCalls script AnyMark list (posted.Call act ∷ (inner ++ posted.Back act ∷ rest.0))) (sym drops)
      (inside is_in tt whole.acts rest.1) in
      subst (λ xs. U (posted.Call act ∷ (xs ++ posted.Back act ∷ (rest.0 ++ end)))) (sym whole.is)
      (subst (λ xs. U (posted.Call act ∷ xs)) (append_assoc inner (posted.Back act ∷ rest.0) end)
      (takes_rest here.far takes (posted.Call act ∷ (inner ++ posted.Back act ∷ rest.0)) acts 0))

  -- what is taken after the inner execution
  pub takes_back : TakesWhole T script op code size → is_inline script act ≡ true → {answers : Call → ℕ} (mark : ℕ)
      (taken next : Held H) →
      taken.script ≡ now.script → (called ended : List Posted) (V W : List Posted → Type 0) →
      ((rest : List Posted) → U (posted.Call act ∷ rest) → V rest) →
      HasRun marks answers mark act codes.Ok 0 taken next called ended V W → W (posted.Back act ∷ further)
  takes_back takes is_in {answers} mark taken next same called ended V W after_call ran =
      let calls : List Posted = execution_of act codes.Ok 0 ran.begun mark ran.body in
      let acts : AreCalls script AnyMark (branch_of script act class.Ok) ran.body =
      with_marks script (HasRunMark marks taken) AnyMark (λ o m known. tt)
      (subst (λ (s : ScriptModel). AreCalls s (HasRunMark marks taken) (branch_of s act class.Ok) ran.body)
      (same ∙ here.far.did.script ∙ here.same_script) ran.acts) in
      let whole : IsWholeExecution script AnyMark act codes.Ok 0 calls =
      record { begun = ran.begun; mark = mark; body = ran.body; marked = tt; acts = acts; is = refl } in
      ran.did.rest (posted.Back act ∷ further)
      (after_call (calls ++ posted.Back act ∷ further) (takes_inside takes is_in calls whole))

  not_begun_by : (b : Bool) → begins_among act here.far.done ≡ b → b ≡ false
  not_begun_by false is_b = refl
  not_begun_by true is_b =
      absurd (elim (begins_in script here.ordered (HasRunMark marks old) op here.far.acts
      (λ a among. (
        class_of_code code,
        parent_of-branch script op (class_of_code code) a
            (among_taken (branch_of script op (class_of_code code)) i a among),
      )) act is_b) [
        | inl among ↦
            not_before (branch_of script op (class_of_code code)) i (rise_branch script op (class_of_code code))
            here.less (subst (λ a. Among a (take i (branch_of script op (class_of_code code)))) here.is among)
        | inr below ↦ same_parent below.0 below.1 below.2 below.3
      ])
    where
      same_parent : (p : ℕ) (c : Class) → parent_of script act ≡ Some (p, c) → op < p → ⊥
      same_parent p c is_p later =
          let same : Some (op, class_of_code code) ≡ Some (p, c) = sym parent ∙ is_p in
          let number : op ≡ p = ap operation_of same in
          omega (arith, number, later)

  op_differs : (b : Bool) → (op == act) ≡ b → b ≡ false
  op_differs false is_b = refl
  op_differs true is_b = absurd (omega (arith, after_op, eqb-true op act is_b))

  -- its handler is where it was
  pub still_held : held_at now act ≡ held_at old act
  still_held =
      let begun_not : begins_among act (posted.Begin op code size begun ∷ here.far.done) ≡ false =
      rw (op_differs (op == act) refl) (not_begun_by (begins_among act here.far.done) refl) in
      here.far.did.spent act ∙ ap (λ b. left_at b (held_at old act)) begun_not

  pub is_there : HasInlineOf script old.handlers op → is_inline script act ≡ true → IsSome (held_at now act)
  is_there held is_in = subst IsSome (sym still_held) (held act (class_of_code code, parent, is_in))

  pub caller_gone : CallerIsGone now act
  caller_gone caller inline =
      let same : Some (op, class_of_code code) ≡ Some (caller, inline.0) =
      sym parent ∙ ap (λ (s : ScriptModel). parent_of s act) (sym (here.far.did.script ∙ here.same_script))
      ∙ inline.1 in
      let number : op ≡ caller = ap operation_of same in
      let begun_is : begins_among op (posted.Begin op code size begun ∷ here.far.done) ≡ true = rw (eq-eqb op op refl) refl in
      ap (held_at now) (sym number) ∙ here.far.did.spent op ∙ ap (λ b. left_at b (held_at old op)) begun_is

  mark_before : (taken : Held H) → taken.handlers ≡ slice_set now.handlers act None → (call : Call) (mark : ℕ) →
      HasRunMark marks taken call mark → HasRunMark marks old call mark
  mark_before taken is_taken call mark marked =
      elim (same_or_not act call.op) [
        | inl same ↦
            absurd (let none : held_at taken call.op ≡ None =
            ap (λ hs. in_list hs call.op) is_taken ∙ ap (in_list (slice_set now.handlers act None)) (sym same)
            ∙ taken_same now.handlers act in
            cc (ap (option_map (λ h. (marks h).run call)) none, marked))
        | inr differ ↦
            mark_left marks old now call mark
            (begins_among call.op (posted.Begin op code size begun ∷ here.far.done)) (here.far.did.spent call.op)
            (ap (option_map (λ h. (marks h).run call))
            (sym (ap (λ hs. in_list hs call.op) is_taken ∙ taken_other now.handlers act call.op differ)) ∙ marked)
      ]

  -- the act was called and is back
  pub outside_more : is_inline script act ≡ false → (called more : List Posted) (V X : List Posted → Type 0) →
      HasMade (posted.Call act ∷ []) now now made called U V → HasMade (posted.Back act ∷ []) now now called more V X →
      BodyTo script marks op code size begun (branch_of script op (class_of_code code)) (i + 1) old now old_made more T X
  outside_more is_not called more V X first last =
      one_act_more script marks op code size begun (branch_of script op (class_of_code code)) i act
      (posted.Call act ∷ posted.Back act ∷ []) old now now old_made made more T U X here.less here.is
      (outside is_not no_act)
      (has_made_both (posted.Call act ∷ []) (posted.Back act ∷ []) now now now made called more U V X first last)
      here.far

  -- and between it executed
  pub inside_more : is_inline script act ≡ true → (mark : ℕ) (inner : H) → held_at now act ≡ Some inner →
      (taken next : Held H) → taken.handlers ≡ slice_set now.handlers act None → taken.script ≡ now.script → (called ended more : List Posted) (V W X : List Posted → Type 0) →
      HasMade (posted.Call act ∷ []) now now made called U V →
      HasRun marks (marks inner).run mark act codes.Ok 0 taken next called ended V W →
      HasMade (posted.Back act ∷ []) next next ended more W X →
      BodyTo script marks op code size begun (branch_of script op (class_of_code code)) (i + 1) old next old_made more T
      X
  inside_more is_in mark inner there taken next is_taken same called ended more V W X first ran last =
      let calls : List Posted = execution_of act codes.Ok 0 ran.begun mark ran.body in
      let itself : begins_among act calls ≡ true = rw (eq-eqb act act refl) refl in
      let script_is : taken.script ≡ script = same ∙ here.far.did.script ∙ here.same_script in
      let body : AreCalls script (HasRunMark marks taken) (branch_of script act class.Ok) ran.body =
      subst (λ (s : ScriptModel). AreCalls s (HasRunMark marks taken) (branch_of s act class.Ok) ran.body) script_is ran.acts in
      let call : Call = call_of act codes.Ok 0 ran.begun in
      let marked : HasRunMark marks old call mark =
      ap (option_map (λ h. (marks h).run call)) (sym still_held ∙ there) ∙ ap Some (sym ran.answered) in
      let acts : AreCalls script (HasRunMark marks old) (act ∷ []) (posted.Call act ∷ (calls ++ posted.Back act ∷ [])) =
      inside is_in marked
      (with_marks script (HasRunMark marks taken) (HasRunMark marks old) (mark_before taken is_taken) body) no_act in
      let did : HasMade (posted.Call act ∷ (calls ++ posted.Back act ∷ [])) now next made more U X =
      has_made_both (posted.Call act ∷ calls) (posted.Back act ∷ []) now next next made ended more U W X
      (has_made_both (posted.Call act ∷ []) calls now now next made called ended U V W first
      (made_with now taken next act calls called ended V W is_taken same itself ran.did)) last in
      one_act_more script marks op code size begun (branch_of script op (class_of_code code)) i act
      (posted.Call act ∷ (calls ++ posted.Back act ∷ [])) old now next old_made made more T U X here.less here.is acts
      did here.far

-- the body is whole, and its end was made
pub whole_run : {H : Type 0} (script : ScriptModel) (marks : H → Marks) (answers : Call → ℕ) (op : ℕ) (code : Code) (size begun mark i : ℕ)
    (old now : Held H) (old_made made more : List Posted) (T U V : List Posted → Type 0) → old.script ≡ script →
    length (branch_of script op (class_of_code code)) ≤ i →
    BodyTo script marks op code size begun (branch_of script op (class_of_code code)) i old now old_made made T U →
    HasMade (posted.End op (record { mark = mark; class = class_of_code code; begun = begun }) ∷ []) now now made more U
    V → mark ≡ answers (call_of op code size begun) → HasRun marks answers mark op code size old now old_made more T V
whole_run script marks answers op code size begun mark i old now old_made made more T U V same all far last is = record {
  begun = begun;
  body = far.done;
  answered = is;
  acts =
      subst (λ (s : ScriptModel). AreCalls s (HasRunMark marks old) (branch_of s op (class_of_code code)) far.done) (sym same)
      (subst (λ list. AreCalls script (HasRunMark marks old) list far.done)
      (take_all i (branch_of script op (class_of_code code)) all) far.acts);
  did =
      has_made_both (posted.Begin op code size begun ∷ far.done)
      (posted.End op (record { mark = mark; class = class_of_code code; begun = begun }) ∷ []) old now now old_made
      made more T U V far.did last;
}

-- the begin was made
pub begun_body : {H : Type 0} (script : ScriptModel) (marks : H → Marks) (op : ℕ) (code : Code) (size begun : ℕ)
    (old : Held H) (made more : List Posted) (T U : List Posted → Type 0) → held_at old op ≡ None →
    more ≡ made ++ posted.Begin op code size begun ∷ [] →
    ((rest : List Posted) → T (posted.Begin op code size begun ∷ rest) → U rest) →
    BodyTo script marks op code size begun (branch_of script op (class_of_code code)) 0 old old made more T U
begun_body script marks op code size begun old made more T U gone is rest = record {
  done = [];
  acts = no_act;
  did = record { made = is; script = refl; spent = λ n. spent_by n (op == n) refl; rest = rest };
}
  where
    spent_by : (n : ℕ) (b : Bool) → (op == n) ≡ b → held_at old n ≡ left_at (cond b true false) (held_at old n)
    spent_by n true same = ap (held_at old) (sym (eqb-true op n same)) ∙ gone
    spent_by n false same = refl

-- there is a whole execution
pub some_whole : (script : ScriptModel) (ordered : (n : ℕ) → HasParent script.acts n (parent_of script n)) (op : ℕ)
    (code : Code) (size begun : ℕ) →
    (rest : List Posted) × IsWholeExecution script AnyMark op code size (posted.Begin op code size begun ∷ rest)
some_whole script ordered op code size begun =
    let some = some_calls script ordered (branch_of script op (class_of_code code)) in (
      some.0 ++ posted.End op (record { mark = 0; class = class_of_code code; begun = begun }) ∷ [],
      record { begun = begun; mark = 0; body = some.0; marked = tt; acts = some.1; is = refl },
    )

-- what a handler answers is its parts
pub ran_is : (ran : Ran) (mark : ℕ) (class : Class) (begun : ℕ) → ran.mark ≡ mark → ran.class ≡ class →
    ran.begun ≡ begun → ran ≡ record { mark = mark; class = class; begun = begun }
ran_is ran mark class begun is_mark is_class is_begun = λ i. record {
  mark = is_mark i;
  class = is_class i;
  begun = is_begun i;
}

-- hands are what they show
pub same_held : {H : Type 0} (a b : Held H) → a.script ≡ b.script → a.handlers ≡ b.handlers → a ≡ b
same_held a b script handlers = λ i. record { script = script i; handlers = handlers i }

mark_with : {H : Type 0} (marks : H → Marks) (old taken : Held H) (act : ℕ) →
    taken.handlers ≡ slice_set old.handlers act None → (call : Call) (mark : ℕ) →
    HasRunMark marks taken call mark → HasRunMark marks old call mark
mark_with marks old taken act is_taken call mark marked =
    elim (same_or_not act call.op) [
      | inl same ↦
          absurd (let none : held_at taken call.op ≡ None =
          ap (λ hs. in_list hs call.op) is_taken ∙ ap (in_list (slice_set old.handlers act None)) (sym same)
          ∙ taken_same old.handlers act in
          cc (ap (option_map (λ h. (marks h).run call)) none, marked))
      | inr differ ↦
          ap (option_map (λ h. (marks h).run call))
          (sym (ap (λ hs. in_list hs call.op) is_taken ∙ taken_other old.handlers act call.op differ))
          ∙ marked
    ]

-- a run of a handler that was taken is an execution of the hands before
pub executed : {H : Type 0} (marks : H → Marks) (op : ℕ) (code : Code) (size mark : ℕ) (inner : H)
    (old taken next : Held H) (made more : List Posted) (T U : List Posted → Type 0) → held_at old op ≡ Some inner →
    taken.handlers ≡ slice_set old.handlers op None → taken.script ≡ old.script →
    HasRun marks (marks inner).run mark op code size taken next made more T U →
    HasExecuted marks mark op code size old next made more T U
executed marks op code size mark inner old taken next made more T U there is_taken same ran =
    let call : Call = call_of op code size ran.begun in
    let calls : List Posted = execution_of op code size ran.begun mark ran.body in
    let itself : begins_among op calls ≡ true = rw (eq-eqb op op refl) refl in
    let body : AreCalls old.script (HasRunMark marks taken) (branch_of old.script op (class_of_code code)) ran.body =
    subst (λ (s : ScriptModel). AreCalls s (HasRunMark marks taken) (branch_of s op (class_of_code code)) ran.body) same
    ran.acts in
    record {
      calls = calls;
      whole = record {
        begun = ran.begun;
        mark = mark;
        body = ran.body;
        marked = ap (option_map (λ h. (marks h).run call)) there ∙ ap Some (sym ran.answered);
        acts =
            with_marks old.script (HasRunMark marks taken) (HasRunMark marks old) (mark_with marks old taken op is_taken) body;
        is = refl;
      };
      answered = refl;
      did = made_with old taken next op calls made more T U is_taken same itself ran.did;
    }
