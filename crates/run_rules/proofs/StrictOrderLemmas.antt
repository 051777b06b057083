-- What begins on a strand in a strict run goes ahead of all else that is ready there.
use Rattle.std.proofs.Common.{◌≡◌, ◌≢◌, ◌+◌, ℕ, suc, zero, ◌<◌, List, [], ◌∷◌, ◌++◌, refl, ap, sym, subst, ◌∙◌, inl, inr, ⊎_elim, length, arith}
use Rattle.std.proofs.lemmas.Bool.{cases_Bool, cond_both, eq-eqb, eqb-true, or_parts}
use Rattle.std.specs.Prelude.{Bool, true, false, ◌==◌, ◌⊎◌, drop, if◌then◌else◌, insert, Option, Some, None, IsSome, IsSomeAnd, nat_eq}
use Rattle.std.specs.List.{list_any}
use Rattle.std.specs.Option.{option_and_then, option_eq, option_map, option_or}
use Rattle.run_lines.specs.declared.line.Doing.{Doing}
use Rattle.run_lines.specs.declared.line.Doing.TheVariants as doing
use Rattle.run_lines.specs.declared.line.Line.{Line}
use Rattle.run_lines.specs.declared.word.Word.{Word}
use Rattle.run_lines.specs.declared.word.Word.TheVariants.{Post, Defer, Dispatch, Other}
use Rattle.run_rules.specs.declared.frame.Frame.{Frame}
use Rattle.run_rules.specs.declared.level.Level.{Level}
use Rattle.run_rules.specs.Stacks.{first_of, frame, stack}
use Rattle.run_rules.specs.Calls.{Calling, Completion, IsPosting, Waits, begins, call_in, call_of, done_in, done_of, drops, is_begun, is_dropped, is_posting, strand_of}
use Rattle.run_rules.specs.Starting.{is_on}
use Rattle.run_rules.specs.Strict.{IsStrict, MayBeginStrictly, MayDoStrictly, Ready, next_gone, put_first, put_last, ready_after, ready_called, ready_on}
use Rattle.run_rules.specs.StrictOrder.{GoesAhead, Precedes, Readiness, readiness, ready_by, ready_in, turn_on, turns, turns_after}
use Rattle.run_rules.specs.MayCome.{MayDo}
use Rattle.run_rules.specs.Legal.{IsLegalSoFar}
use Rattle.run_rules.proofs.CallsLemmas.{call_of-next, called-next, strand_of-next}
use Rattle.run_rules.proofs.StrandLemmas.{is_on-is}
use Rattle.run_rules.proofs.RanksLemmas.{AreBefore, HaveRanks, InOrder, IsAhead, at_end, earlier_gone, earlier_insert, earlier_more, earlier_push, in_turn, order_gone, order_insert, order_push, ranked_gone, ranked_insert, ranked_push, ranked_same}

-- what is known of what is ready

-- it was called; and it was posted, or is done
record IsKnown (past : List Line) (op : ℕ) : Type 0 where
  pub called : IsSome (call_of past op)
  pub complete : IsPosting past op ⊎ IsSome (done_of past op)

some_or : {T : Type 0} (one other : Option T) → IsSome (option_or one other) → IsSome one ⊎ IsSome other
some_or None other is = inr is
some_or (Some value) other is = inl refl

or_some : {T : Type 0} (one other : Option T) → IsSome other → IsSome (option_or one other)
or_some None other is = is
or_some (Some value) other is = refl

known-next : (level : Level) (past : List Line) (line : Line) (op : ℕ) → MayDo level past line.thread line.does → IsKnown past op
    → IsKnown (line ∷ past) op
known-next level past line op may known = record {
  called = called-next level past line op may known.called;
  complete =
      ⊎_elim
      (λ posting. inl
      (ap (λ (o : Option Calling). option_map is_posting (option_map (λ (call : Calling). call.word) o))
      (call_of-next level past line op may known.called) ∙ posting))
      (λ done. inr (or_some (done_in line.thread (length past) line.does op) (done_of past op) done)) known.complete;
}

posted_word : (word : Word) (turn : Option ℕ) (place : ℕ) → IsSome (ready_by word turn place) → is_posting word ≡ true
posted_word Post turn place is = refl
posted_word Defer turn place is = refl
posted_word Dispatch turn place is = refl
posted_word (Other letters) turn place is = cc

-- what a line makes ready is the operation that it posts, or completes
ready_by_line : (level : Level) (past : List Line) (caller : Frame) (thread place op : ℕ) (does : Doing) → MayDo level past thread does
    → IsSome (ready_in past thread does op)
    → IsSome (option_or (call_in caller thread place does op) (call_of past op))
    × ((option_map is_posting (option_map (λ (call : Calling). call.word) (option_or (call_in caller thread place does op)
    (call_of past op))) ≡ Some true) ⊎ IsSome (option_or (done_in thread place does op) (done_of past op)))
ready_by_line level past caller thread place op (doing.Call number word context strand thing) may =
    ⊎_elim
    (λ (e : (number == op) ≡ true). rw e (λ is. (refl, inl (ap Some (posted_word word (turn_on past thread strand) (length past) is)))))
    (λ (e : (number == op) ≡ false). rw e (λ is. absurd (no_some is))) (cases_Bool (number == op))
  where
    no_some : IsSome {T = Readiness} None → ⊥
    no_some is = cc
ready_by_line level past caller thread place op (doing.Done number code size) may =
    ⊎_elim
    (λ (e : (number == op) ≡ true). rw e (λ is. (subst (λ (n : ℕ). IsSome (call_of past n)) (eqb-true number op e) may.waiting.called, inr refl)))
    (λ (e : (number == op) ≡ false). rw e (λ is. absurd (no_some is))) (cases_Bool (number == op))
  where
    no_some : IsSome {T = Readiness} None → ⊥
    no_some is = cc
ready_by_line level past caller thread place op _ may = λ is. cc

known : (level : Level) (past : List Line) → IsLegalSoFar level past → (op : ℕ) → IsSome (readiness past op) → IsKnown past op
known level [] legal op is = cc
known level (line ∷ past) legal op is =
    ⊎_elim (λ before. known-next level past line op legal.1.rules (known level past legal.0 op before))
    (λ now. let parts = ready_by_line level past (frame past line.thread) line.thread (length past) op line.does legal.1.rules now in
    record { called = parts.0; complete = parts.1 })
    (some_or (readiness past op) (ready_in past line.thread line.does op) is)

none_of : {T : Type 0} (o : Option T) → (IsSome o → ⊥) → o ≡ None
none_of None not = refl
none_of (Some value) not = absurd (not refl)

-- what stands in the queue

-- these operations are ready, in their order
record Ordered (ready : ℕ → Option Readiness) (now place : ℕ) (queue : Ready) : Type 0 where
  pub ranks : List Readiness
  pub have : HaveRanks ready queue.queue ranks
  pub order : InOrder now queue.front ranks
  pub earlier : AreBefore place ranks

abbrev also : (ℕ → Option Readiness) → (ℕ → Option Readiness) → ℕ → Option Readiness
also ready more op = option_or (ready op) (more op)

have_still : (ready more : ℕ → Option Readiness) (ops : List ℕ) (ranks : List Readiness) → HaveRanks ready ops ranks
    → HaveRanks (also ready more) ops ranks
have_still ready more ops ranks have =
    ranked_same ready (also ready more) (λ op rank e. ap (λ (o : Option Readiness). option_or o (more op)) e) ops ranks have

new_rank : (ready more : ℕ → Option Readiness) (op : ℕ) (rank : Readiness) → ready op ≡ None → more op ≡ Some rank
    → also ready more op ≡ Some rank
new_rank ready more op rank none is = ap (λ (o : Option Readiness). option_or o (more op)) none ∙ is

stays : (ready more : ℕ → Option Readiness) (now place : ℕ) (queue : Ready) → Ordered ready now place queue
    → Ordered (also ready more) now (suc place) queue
stays ready more now place queue was = record {
  ranks = was.ranks;
  have = have_still ready more queue.queue was.ranks was.have;
  order = was.order;
  earlier = earlier_more place was.ranks was.earlier;
}

joins_end : (ready more : ℕ → Option Readiness) (now place op : ℕ) (queue : Ready) → ready op ≡ None → more op ≡ Some (at_end place)
    → Ordered ready now place queue → Ordered (also ready more) now (suc place) (put_last op queue)
joins_end ready more now place op queue none is was = record {
  ranks = was.ranks ++ at_end place ∷ [];
  have =
      ranked_push (also ready more) queue.queue was.ranks op (at_end place)
      (have_still ready more queue.queue was.ranks was.have) (new_rank ready more op (at_end place) none is);
  order = order_push now queue.front place was.ranks was.order was.earlier;
  earlier =
      earlier_push (suc place) was.ranks (at_end place) (earlier_more place was.ranks was.earlier) (omega arith);
}

joins_front : (ready more : ℕ → Option Readiness) (now place op : ℕ) (queue : Ready) → ready op ≡ None
    → more op ≡ Some (in_turn now place) → Ordered ready now place queue
    → Ordered (also ready more) now (suc place) (put_first op queue)
joins_front ready more now place op queue none is was = record {
  ranks = insert was.ranks queue.front (in_turn now place);
  have =
      ranked_insert (also ready more) queue.front queue.queue was.ranks op (in_turn now place)
      (have_still ready more queue.queue was.ranks was.have) (new_rank ready more op (in_turn now place) none is);
  order =
      let e : suc queue.front ≡ queue.front + 1 = omega arith in
      subst (λ (n : ℕ). InOrder now n (insert was.ranks queue.front (in_turn now place))) e
      (order_insert now queue.front place was.ranks was.order was.earlier);
  earlier =
      earlier_insert (suc place) queue.front was.ranks (in_turn now place) (earlier_more place was.ranks was.earlier) (omega arith);
}

joins_by : (ready more : ℕ → Option Readiness) (now place op : ℕ) (queue : Ready) (word : Word) (inside : Bool) → ready op ≡ None
    → more op ≡ ready_by word (if inside then Some now else None) place → Ordered ready now place queue
    → Ordered (also ready more) now (suc place) (ready_called inside word op queue)
joins_by ready more now place op queue Post inside none is was = joins_end ready more now place op queue none is was
joins_by ready more now place op queue Defer inside none is was = joins_end ready more now place op queue none is was
joins_by ready more now place op queue Dispatch true none is was = joins_front ready more now place op queue none is was
joins_by ready more now place op queue Dispatch false none is was = joins_end ready more now place op queue none is was
joins_by ready more now place op queue (Other letters) inside none is was = stays ready more now place queue was

begins_by : (ready more : ℕ → Option Readiness) (now place : ℕ) (queue : Ready) (here : Bool) → Ordered ready now place queue
    → Ordered (also ready more) (if here then now + 1 else now) (suc place) (if here then next_gone queue else queue)
begins_by ready more now place queue false was = stays ready more now place queue was
begins_by ready more now place queue true was = record {
  ranks = drop 1 was.ranks;
  have = ranked_gone (also ready more) queue.queue was.ranks (have_still ready more queue.queue was.ranks was.have);
  order =
      let e : suc now ≡ now + 1 = omega arith in
      subst (λ (n : ℕ). InOrder n zero (drop 1 was.ranks)) e (order_gone now queue.front was.ranks was.order);
  earlier = earlier_gone (suc place) was.ranks (earlier_more place was.ranks was.earlier);
}

fresh_call : (level : Level) (past : List Line) → IsLegalSoFar level past → (op : ℕ)
    → ((earlier : ℕ) → IsSome (call_of past earlier) → earlier < op) → readiness past op ≡ None
fresh_call level past legal op is_new =
    none_of (readiness past op)
    (λ is. let less : op < op = is_new op (known level past legal op is).called in absurd (omega arith))

ordered_after : (level : Level) (past : List Line) → IsLegalSoFar level past → (strand thread : ℕ) (does : Doing)
    → MayDo level past thread does → Ordered (readiness past) (turns past strand) (length past) (ready_on past strand)
    → Ordered (also (readiness past) (ready_in past thread does)) (turns_after past strand does (turns past strand))
    (suc (length past)) (ready_after past strand thread does (ready_on past strand))
ordered_after level past legal strand thread (doing.Call op word context None thing) may was =
    stays (readiness past) (ready_in past thread (doing.Call op word context None thing)) (turns past strand) (length past)
    (ready_on past strand) was
ordered_after level past legal strand thread (doing.Call op word context (Some other) thing) may was =
    cond_both (other == strand) (ready_called (list_any (is_on past strand) (stack past thread)) word op (ready_on past strand))
    (ready_on past strand)
    (λ (queue : Ready). Ordered (also (readiness past) (ready_in past thread (doing.Call op word context (Some other) thing)))
    (turns past strand) (suc (length past)) queue)
    (λ here. joins_by (readiness past) (ready_in past thread (doing.Call op word context (Some other) thing)) (turns past strand)
    (length past) op (ready_on past strand) word (list_any (is_on past strand) (stack past thread))
    (fresh_call level past legal op may.is_new)
    (subst
    (λ (s : ℕ). (if op == op then ready_by word (turn_on past thread (Some other)) (length past) else None)
    ≡ ready_by word (turn_on past thread (Some s)) (length past)) (eqb-true other strand here) (rw (eq-eqb op op refl) refl)) was)
    (λ elsewhere. stays (readiness past) (ready_in past thread (doing.Call op word context (Some other) thing)) (turns past strand)
    (length past) (ready_on past strand) was)
ordered_after level past legal strand thread (doing.Done op code size) may was =
    cond_both (is_on past strand op) (put_last op (ready_on past strand)) (ready_on past strand)
    (λ (queue : Ready). Ordered (also (readiness past) (ready_in past thread (doing.Done op code size))) (turns past strand)
    (suc (length past)) queue)
    (λ here. joins_end (readiness past) (ready_in past thread (doing.Done op code size)) (turns past strand) (length past) op
    (ready_on past strand)
    (none_of (readiness past op) (λ is. ⊎_elim may.asynchronous (λ done. no_done (done_of past op) may.done_once done)
    (known level past legal op is).complete)) (rw (eq-eqb op op refl) refl) was)
    (λ elsewhere. stays (readiness past) (ready_in past thread (doing.Done op code size)) (turns past strand) (length past)
    (ready_on past strand) was)
  where
    no_done : (o : Option Completion) → o ≡ None → IsSome o → ⊥
    no_done None e is = cc
    no_done (Some completion) e is = cc
ordered_after level past legal strand thread (doing.Begin op code size) may was =
    begins_by (readiness past) (ready_in past thread (doing.Begin op code size)) (turns past strand) (length past)
    (ready_on past strand) (is_on past strand op) was
ordered_after level past legal strand thread _ may was =
    stays (readiness past) (λ op. None) (turns past strand) (length past) (ready_on past strand) was

ordered : (level : Level) (past : List Line) → IsLegalSoFar level past → (strand : ℕ)
    → Ordered (readiness past) (turns past strand) (length past) (ready_on past strand)
ordered level [] legal strand = record { ranks = []; have = tt; order = refl; earlier = tt }
ordered level (line ∷ past) legal strand =
    ordered_after level past legal.0 strand line.thread line.does legal.1.rules (ordered level past legal.0 strand)

-- all that is ready stands there

abbrev IsIn : ℕ → List ℕ → Type 0
IsIn op [] = ⊥
IsIn op (one ∷ others) = (one ≡ op) ⊎ IsIn op others

in_push : (op new : ℕ) (ops : List ℕ) → IsIn op ops → IsIn op (ops ++ new ∷ [])
in_push op new [] is = absurd is
in_push op new (one ∷ others) is = ⊎_elim (λ here. inl here) (λ there. inr (in_push op new others there)) is

at_push : (op : ℕ) (ops : List ℕ) → IsIn op (ops ++ op ∷ [])
at_push op [] = inl refl
at_push op (one ∷ others) = inr (at_push op others)

in_insert : (op new front : ℕ) (ops : List ℕ) → IsIn op ops → IsIn op (insert ops front new)
in_insert op new zero ops is = inr is
in_insert op new (suc front) [] is = absurd is
in_insert op new (suc front) (one ∷ others) is = ⊎_elim (λ here. inl here) (λ there. inr (in_insert op new front others there)) is

at_insert : (op front : ℕ) (ops : List ℕ) → IsIn op (insert ops front op)
at_insert op zero ops = inl refl
at_insert op (suc front) [] = inl refl
at_insert op (suc front) (one ∷ others) = inr (at_insert op front others)

in_called : (op new : ℕ) (queue : Ready) (word : Word) (inside : Bool) → IsIn op queue.queue
    → IsIn op (ready_called inside word new queue).queue
in_called op new queue Post inside is = in_push op new queue.queue is
in_called op new queue Defer inside is = in_push op new queue.queue is
in_called op new queue Dispatch true is = in_insert op new queue.front queue.queue is
in_called op new queue Dispatch false is = in_push op new queue.queue is
in_called op new queue (Other letters) inside is = is

at_called : (op : ℕ) (queue : Ready) (word : Word) (inside : Bool) → is_posting word ≡ true
    → IsIn op (ready_called inside word op queue).queue
at_called op queue Post inside posts = at_push op queue.queue
at_called op queue Defer inside posts = at_push op queue.queue
at_called op queue Dispatch true posts = at_insert op queue.front queue.queue
at_called op queue Dispatch false posts = at_push op queue.queue
at_called op queue (Other letters) inside posts = cc

in_rest : (op first : ℕ) (ops : List ℕ) → first_of ops ≡ Some first → first ≢ op → IsIn op ops → IsIn op (drop 1 ops)
in_rest op first [] is apart there = there
in_rest op first (one ∷ others) is apart there =
    ⊎_elim (λ here. absurd (apart (same_first one is ∙ here))) (λ behind. behind) there
  where
    same_first : (one : ℕ) → Some one ≡ Some first → first ≡ one
    same_first one e = cc

-- what doesn't begin stays
in_still : (past : List Line) (strand thread op : ℕ) (does : Doing) → MayDoStrictly past thread does → begins does op ≡ false
    → IsIn op (ready_on past strand).queue → IsIn op (ready_after past strand thread does (ready_on past strand)).queue
in_still past strand thread op (doing.Call new word context None thing) may apart is = is
in_still past strand thread op (doing.Call new word context (Some other) thing) may apart is =
    cond_both (other == strand) (ready_called (list_any (is_on past strand) (stack past thread)) word new (ready_on past strand))
    (ready_on past strand) (λ (queue : Ready). IsIn op queue.queue)
    (λ here. in_called op new (ready_on past strand) word (list_any (is_on past strand) (stack past thread)) is) (λ elsewhere. is)
in_still past strand thread op (doing.Done new code size) may apart is =
    cond_both (is_on past strand new) (put_last new (ready_on past strand)) (ready_on past strand)
    (λ (queue : Ready). IsIn op queue.queue) (λ here. in_push op new (ready_on past strand).queue is) (λ elsewhere. is)
in_still past strand thread op (doing.Begin new code size) may apart is =
    cond_both (is_on past strand new) (next_gone (ready_on past strand)) (ready_on past strand)
    (λ (queue : Ready). IsIn op queue.queue)
    (λ here. in_rest op new (ready_on past strand).queue (may.next strand (is_on-is (strand_of past new) strand here))
    (λ same. one_bool (new == op) apart (eq-eqb new op same)) is)
    (λ elsewhere. is)
  where
    one_bool : (b : Bool) → b ≡ false → b ≡ true → ⊥
    one_bool true is not = cc
    one_bool false is not = cc
in_still past strand thread op _ may apart is = is

some_same : (one other : ℕ) → Some one ≡ Some other → one ≡ other
some_same one other e = cc

in_by_call : (past : List Line) (strand thread number op : ℕ) (word : Word) (context : ℕ) (on thing : Option ℕ) → number ≡ op
    → is_posting word ≡ true → on ≡ Some strand
    → IsIn op (ready_after past strand thread (doing.Call number word context on thing) (ready_on past strand)).queue
in_by_call past strand thread number op word context None thing same posts is = cc
in_by_call past strand thread number op word context (Some other) thing same posts is =
    rw (eq-eqb other strand (some_same other strand is))
    (subst
    (λ (n : ℕ). IsIn op (ready_called (list_any (is_on past strand) (stack past thread)) word n (ready_on past strand)).queue)
    (sym same) (at_called op (ready_on past strand) word (list_any (is_on past strand) (stack past thread)) posts))

no_readiness : IsSome {T = Readiness} None → ⊥
no_readiness is = cc

-- what a line makes ready joins the queue of its strand
in_now : (past : List Line) (strand : ℕ) (caller : Frame) (thread place op : ℕ) (does : Doing) → IsSome (ready_in past thread does op)
    → option_and_then (λ (call : Calling). call.strand) (option_or (call_in caller thread place does op) (call_of past op)) ≡ Some strand
    → IsIn op (ready_after past strand thread does (ready_on past strand)).queue
in_now past strand caller thread place op (doing.Call number word context on thing) =
    ⊎_elim
    (λ (e : (number == op) ≡ true). rw e (λ is there. in_by_call past strand thread number op word context on thing
    (eqb-true number op e) (posted_word word (turn_on past thread on) (length past) is) there))
    (λ (e : (number == op) ≡ false). rw e (λ is. absurd (no_readiness is))) (cases_Bool (number == op))
in_now past strand caller thread place op (doing.Done number code size) =
    ⊎_elim
    (λ (e : (number == op) ≡ true). λ is there.
    let same : number ≡ op = eqb-true number op e in
    let on : is_on past strand number ≡ true = subst (λ (n : ℕ). is_on past strand n ≡ true) (sym same)
    (ap (λ (o : Option ℕ). option_eq nat_eq o (Some strand)) there ∙ eq-eqb strand strand refl) in
    rw on (subst (λ (n : ℕ). IsIn op ((ready_on past strand).queue ++ n ∷ [])) (sym same) (at_push op (ready_on past strand).queue)))
    (λ (e : (number == op) ≡ false). rw e (λ is. absurd (no_readiness is))) (cases_Bool (number == op))
in_now past strand caller thread place op _ = λ is. absurd (no_readiness is)

queued : (level : Level) (past : List Line) → IsStrict level → IsLegalSoFar level past → (strand op : ℕ) → Waits past op
    → strand_of past op ≡ Some strand → IsSome (readiness past op) → IsIn op (ready_on past strand).queue
queued level [] strict legal strand op waits on is = absurd (no_readiness is)
queued level (line ∷ past) strict legal strand op waits on is =
    let begun = or_parts (begins line.does op) (is_begun past op) waits.not_begun in
    let dropped = or_parts (drops line.does op) (is_dropped past op) waits.not_dropped in
    ⊎_elim
    (λ before. let called : IsSome (call_of past op) = (known level past legal.0 op before).called in
    in_still past strand line.thread op line.does (legal.1.strict strict) begun.0
    (queued level past strict legal.0 strand op
    (record { called = called; not_begun = begun.1; not_dropped = dropped.1 })
    (sym (strand_of-next level past line op legal.1.rules called) ∙ on) before))
    (λ now. in_now past strand (frame past line.thread) line.thread (length past) op line.does now on)
    (some_or (readiness past op) (ready_in past line.thread line.does op) is)

-- the first one goes ahead

ahead_in : (past : List Line) (one : Readiness) (ops : List ℕ) (ranks : List Readiness) → HaveRanks (readiness past) ops ranks
    → IsAhead one ranks → (other : ℕ) → IsIn other ops → IsSomeAnd (readiness past other) (λ (two : Readiness). Precedes one two)
ahead_in past one [] ranks have ahead other is = absurd is
ahead_in past one (op ∷ ops) [] have ahead other is = absurd have
ahead_in past one (op ∷ ops) (rank ∷ ranks) have ahead other is =
    ⊎_elim
    (λ here. let e : readiness past other ≡ Some rank = ap (readiness past) (sym here) ∙ have.0 in rw e ahead.0)
    (λ there. ahead_in past one ops ranks have.1 ahead.1 other there) is

ahead_of_all : (now front : ℕ) (one : Readiness) (ranks : List Readiness) → InOrder now front (one ∷ ranks) → IsAhead one ranks
ahead_of_all now zero one ranks order = order.1
ahead_of_all now (suc front) one ranks order = order.1

first_ahead : (past : List Line) (now front op : ℕ) (ops : List ℕ) (ranks : List Readiness) → HaveRanks (readiness past) ops ranks
    → InOrder now front ranks → first_of ops ≡ Some op → (other : ℕ) → other ≢ op → IsIn other ops → GoesAhead past op other
first_ahead past now front op [] ranks have order first other apart is = absurd is
first_ahead past now front op (one ∷ ops) [] have order first other apart is = absurd have
first_ahead past now front op (one ∷ ops) (rank ∷ ranks) have order first other apart is =
    let same : one ≡ op = some_same one op first in
    let e : readiness past op ≡ Some rank = ap (readiness past) (sym same) ∙ have.0 in
    ⊎_elim (λ here. absurd (apart (sym here ∙ same)))
    (λ there. rw e (ahead_in past rank ops ranks have.1 (ahead_of_all now front rank ranks order) other there)) is

pub goes_first : (level : Level) (past : List Line) → IsStrict level → IsLegalSoFar level past → (thread op strand other : ℕ)
    → MayBeginStrictly past thread op → strand_of past op ≡ Some strand → strand_of past other ≡ Some strand → Waits past other
    → IsSome (readiness past other) → other ≢ op → GoesAhead past op other
goes_first level past strict legal thread op strand other may on there waits is apart =
    let all = ordered level past legal strand in
    first_ahead past (turns past strand) (ready_on past strand).front op (ready_on past strand).queue all.ranks all.have all.order
    (may.next strand on) other apart (queued level past strict legal strand other waits there is)
