-- What is kept stands before the place in each order.
use Rattle.std.proofs.Common.{◌≡◌, ℕ, ◌<◌, ◌≤◌, List, ◌∷◌, refl, ap, sym, subst, ◌∙◌, inl, inr, ⊎_elim, length, arith}
use Rattle.std.proofs.lemmas.Bool.{eq-eqb, eqb-true, or_cases}
use Rattle.std.specs.Prelude.{Bool, true, false, ◌==◌, ◌&&◌, ◌||◌, Some, None, nat_eq}
use Rattle.std.specs.HashSet.{contains}
use Rattle.run_lines.specs.declared.line.Doing.{Doing}
use Rattle.run_lines.specs.declared.line.Doing.TheVariants as doing
use Rattle.run_lines.specs.declared.line.Line.{Line}
use Rattle.run_rules.specs.declared.frame.Frame.{Frame}
use Rattle.run_rules.specs.declared.frame.Frame.TheVariants.{Execution, Outside}
use Rattle.run_rules.specs.Calls.{begins}
use Rattle.run_rules.specs.Stacks.{frame, same_frame}
use Rattle.run_orders.specs.Causes.{Enables, takes_up}
use Rattle.run_orders.specs.Forced.{IsForced, IsSureCause, at_once, begun_by, through}
use Rattle.run_orders.specs.Trees.{Spot, spot_at, writer}
use Rattle.run_orders.proofs.TreeLemmas.{IsEnd, found, spot_of_end}
use Rattle.run_joins.specs.declared.note.Note.{Note}
use Rattle.run_joins.specs.declared.reached.Reached.{Reached}
use Rattle.run_joins.specs.Notes.{IsGone, IsNote}
use Rattle.run_joins.specs.Reaching.{Adds, GivesUp, HasReached, IsOf, IsSeen, IsUpTo, awaits, has_frame, is_plain, reaches, starts, takes}

abbrev pub spot_of : Line → List Line → Spot
spot_of line past = record { line = line; past = past }

pub place_of : (run : List Line) (at : ℕ) (spot : Spot) → spot_at run at ≡ Some spot → length spot.past ≡ at
place_of run at spot there = (found run at spot there).place_is

-- a cause of what is seen stands before the place
forced_line : (run past : List Line) (line : Line) (place : ℕ) {Such : Spot → Type 0} → IsEnd run (line ∷ past)
    → (seen : IsSeen run place (length (line ∷ past)) Such)
    → (length past < length seen.spot.past → IsSureCause (spot_of line past) seen.spot) → IsForced run (length past) place
forced_line run past line place end seen cause =
    let same : length seen.spot.past ≡ seen.at = place_of run seen.at seen.spot seen.there in
    let once : IsForced run (length past) seen.at =
    at_once (spot_of line past) seen.spot (spot_of_end run line past end) seen.there (cause (later same seen.not_before)) in
    ⊎_elim (λ (e : seen.at ≡ place). subst (λ (p : ℕ). IsForced run (length past) p) e once)
    (λ (forced : IsForced run seen.at place). through seen.at once forced) seen.upto
  where
    later : {l at : ℕ} → l ≡ at → length (line ∷ past) ≤ at → length past < l
    later same from = omega arith

takes_is : (does : Doing) (op : ℕ) → takes does op ≡ true → takes_up does ≡ Some op
takes_is (doing.Done number code size) op is = ap Some (eqb-true number op is)
takes_is (doing.Begin number code size) op is = ap Some (eqb-true number op is)
takes_is (doing.Drop number) op is = ap Some (eqb-true number op is)
takes_is _ op is = cc

starts_is : (does : Doing) (op : ℕ) → starts does op ≡ true → (takes_up does ≡ Some op) × (begins does op ≡ true)
starts_is (doing.Begin number code size) op is = (ap Some (eqb-true number op is), is)
starts_is _ op is = cc

awaits_is : (does : Doing) (mark : ℕ) → awaits does mark ≡ true → does ≡ doing.After mark
awaits_is (doing.After number) mark is = ap doing.After (eqb-true number mark is)
awaits_is _ mark is = cc

-- a line that begins nothing, of a frame that is kept
of_frame : (run past : List Line) (line : Line) (place : ℕ) → IsEnd run (line ∷ past) → begun_by line.does ≡ None
    → IsSeen run place (length (line ∷ past)) (IsOf (frame past line.thread)) → IsForced run (length past) place
of_frame run past line place end plain seen =
    forced_line run past line place end seen (λ less. record {
      earlier = less;
      reason = inl (record { same = sym seen.such.writes; plain = plain; plain_too = seen.such.plain });
    })

abbrev by : ℕ → Doing → Line
by thread does = record { thread = thread; does = does }

reach_by : (run past : List Line) (thread : ℕ) (does : Doing) (place : ℕ) (reached : Reached) → IsEnd run (by thread does ∷ past)
    → HasReached run place (length (by thread does ∷ past)) reached → reaches reached (frame past thread) does ≡ true
    → IsForced run (length past) place
reach_by run past thread (doing.Begin op code size) place reached end has is =
    let seen = has.frames (Execution op) is in
    forced_line run past (by thread (doing.Begin op code size)) place end seen (λ less. record {
      earlier = less;
      reason = inr (inl (record { op = op; begun = eq-eqb op op refl; writes = seen.such.writes; plain = seen.such.plain }));
    })
reach_by run past thread (doing.Call op word context strand thing) place reached end has is =
    ⊎_elim
    (λ writes. of_frame run past (by thread (doing.Call op word context strand thing)) place end refl (has.frames (frame past thread) writes))
    (λ taken.
    let seen = has.taken op taken in
    forced_line run past (by thread (doing.Call op word context strand thing)) place end seen (λ less. record {
      earlier = less;
      reason = inr (inr (inl (op, takes_is seen.spot.line.does op seen.such, rw (eq-eqb op op refl) refl)));
    })) (or_cases (has_frame reached.frames (frame past thread)) (contains nat_eq reached.taken op) is)
reach_by run past thread (doing.Done op code size) place reached end has is =
    ⊎_elim
    (λ writes. of_frame run past (by thread (doing.Done op code size)) place end refl (has.frames (frame past thread) writes))
    (λ begun.
    let seen = has.begun op begun in
    let both = starts_is seen.spot.line.does op seen.such in
    forced_line run past (by thread (doing.Done op code size)) place end seen (λ less. record {
      earlier = less;
      reason = inr (inr (inl (op, both.0, rw (eq-eqb op op refl) both.1)));
    })) (or_cases (has_frame reached.frames (frame past thread)) (contains nat_eq reached.begun op) is)
reach_by run past thread (doing.Mark mark) place reached end has is =
    ⊎_elim
    (λ writes. of_frame run past (by thread (doing.Mark mark)) place end refl (has.frames (frame past thread) writes))
    (λ passed.
    let seen = has.passed mark passed in
    forced_line run past (by thread (doing.Mark mark)) place end seen (λ less. record {
      earlier = less;
      reason = inr (inr (inr (inr (inl (mark, refl, awaits_is seen.spot.line.does mark seen.such)))));
    })) (or_cases (has_frame reached.frames (frame past thread)) (contains nat_eq reached.passed mark) is)
reach_by run past thread does place reached end has is =
    of_frame run past (by thread does) place end refl (has.frames (frame past thread) is)

pub reach_forced : (run past : List Line) (line : Line) (place : ℕ) (note : Note) (reached : Reached) → IsEnd run (line ∷ past)
    → HasReached run place (length (line ∷ past)) reached → IsNote line past note → reaches reached note.frame note.line.does ≡ true
    → IsForced run (length past) place
reach_forced run past line place note reached end has known is =
    reach_by run past line.thread line.does place reached end has
    (subst (λ (d : Doing). reaches reached (frame past line.thread) d ≡ true) (ap (λ (l : Line). l.does) known.same)
    (subst (λ (f : Frame). reaches reached f note.line.does ≡ true) known.writes is))

-- what was kept, with one line more

older : {run : List Line} {place : ℕ} {Such : Spot → Type 0} (line : Line) (past : List Line)
    → IsSeen run place (length (line ∷ past)) Such → IsSeen run place (length past) Such
older line past seen = record {
  at = seen.at;
  spot = seen.spot;
  there = seen.there;
  not_before = less seen.not_before;
  such = seen.such;
  upto = seen.upto;
}
  where
    less : {at : ℕ} → length (line ∷ past) ≤ at → length past ≤ at
    less from = omega arith

pub older_all : (run past : List Line) (line : Line) (place : ℕ) (reached : Reached)
    → HasReached run place (length (line ∷ past)) reached → HasReached run place (length past) reached
older_all run past line place reached has = record {
  frames = λ who is. older line past (has.frames who is);
  taken = λ op is. older line past (has.taken op is);
  begun = λ op is. older line past (has.begun op is);
  passed = λ mark is. older line past (has.passed mark is);
  over = λ thing who is. older line past (has.over thing who is);
}

here : {Such : Spot → Type 0} (run past : List Line) (line : Line) (place : ℕ) → IsEnd run (line ∷ past) → IsUpTo run (length past) place
    → Such (spot_of line past) → IsSeen run place (length past) Such
here run past line place end upto such = record {
  at = length past;
  spot = spot_of line past;
  there = spot_of_end run line past end;
  not_before = omega arith;
  such = such;
  upto = upto;
}

and_both : (a b : Bool) → (a && b) ≡ true → (a ≡ true) × (b ≡ true)
and_both true true is = (refl, refl)
and_both true false is = cc
and_both false b is = cc

same_is : (one other : Frame) → same_frame one other ≡ true → one ≡ other
same_is (Execution op) (Execution other) is = ap Execution (eqb-true op other is)
same_is (Outside thread) (Outside other) is = ap Outside (eqb-true thread other is)
same_is (Execution op) (Outside thread) is = cc
same_is (Outside thread) (Execution op) is = cc

begins_none : (does : Doing) → is_plain does ≡ true → begun_by does ≡ None
begins_none (doing.Begin op code size) is = cc
begins_none _ is = refl

pub adds_reached : (run past : List Line) (line : Line) (place : ℕ) (note : Note) (old new : Reached) → IsEnd run (line ∷ past)
    → HasReached run place (length (line ∷ past)) old → IsNote line past note → Adds note old new → IsUpTo run (length past) place
    → HasReached run place (length past) new
adds_reached run past line place note old new end has known adds upto =
    let does : note.line.does ≡ line.does = ap (λ (l : Line). l.does) known.same in
    record {
      frames = λ who is.
          ⊎_elim
          (λ mine.
          let both = and_both (is_plain note.line.does) (same_frame note.frame who) mine in
          here run past line place end upto (record {
            writes = sym known.writes ∙ same_is note.frame who both.1;
            plain = begins_none line.does (subst (λ (d : Doing). is_plain d ≡ true) does both.0);
          }))
          (λ before. older line past (has.frames who before))
          (or_cases (is_plain note.line.does && same_frame note.frame who) (has_frame old.frames who) (sym (adds.frames who) ∙ is));
      taken = λ op is.
          ⊎_elim (λ mine. here run past line place end upto (subst (λ (d : Doing). takes d op ≡ true) does mine))
          (λ before. older line past (has.taken op before))
          (or_cases (takes note.line.does op) (contains nat_eq old.taken op) (sym (adds.taken op) ∙ is));
      begun = λ op is.
          ⊎_elim (λ mine. here run past line place end upto (subst (λ (d : Doing). starts d op ≡ true) does mine))
          (λ before. older line past (has.begun op before))
          (or_cases (starts note.line.does op) (contains nat_eq old.begun op) (sym (adds.begun op) ∙ is));
      passed = λ mark is.
          ⊎_elim (λ mine. here run past line place end upto (subst (λ (d : Doing). awaits d mark ≡ true) does mine))
          (λ before. older line past (has.passed mark before))
          (or_cases (awaits note.line.does mark) (contains nat_eq old.passed mark) (sym (adds.passed mark) ∙ is));
      over = λ thing who is.
          ⊎_elim (λ before. older line past (has.over thing who before))
          (λ mine. here run past line place end upto (record {
            releases = sym does ∙ mine.0;
            writes = sym known.writes ∙ mine.2;
            gone =
                subst (λ (f : Frame). IsGone (line ∷ past) line.thread f (doing.Release thing)) (sym known.writes ∙ mine.2)
                (subst (λ (d : Doing). IsGone (line ∷ past) line.thread (frame past line.thread) d) (sym does ∙ mine.0)
                (known.gone mine.1));
          })) (adds.over thing who is);
    }
