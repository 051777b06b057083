-- One line more of a run is gone through, from the end.
use Rattle.std.proofs.Common.{◌≡◌, ◌+◌, ℕ, ◌<◌, ◌≤◌, List, [], ◌∷◌, ◌++◌, refl, ap, sym, subst, ◌∙◌, inl, inr, ⊎_elim, length, reverse, arith}
use Rattle.std.proofs.lemmas.List.{length-reverse, reverse-append}
use Rattle.std.specs.Prelude.{◌⊎◌, true, false, Some, None, nat_eq}
use Rattle.std.specs.HashMap.{get}
use Rattle.std.specs.HashSet.{contains}
use Rattle.run_lines.specs.declared.line.Doing.{Doing}
use Rattle.run_lines.specs.declared.line.Doing.TheVariants as doing
use Rattle.run_lines.specs.declared.line.Line.{Line}
use Rattle.run_rules.specs.declared.frame.Frame.{Frame}
use Rattle.run_rules.specs.declared.frame.Frame.TheVariants.{Execution, Outside}
use Rattle.run_rules.specs.declared.taking.Resource.TheVariants.{Thing}
use Rattle.run_rules.specs.Legal.{IsLegalSoFar}
use Rattle.run_rules.specs.Stacks.{frame}
use Rattle.run_rules.specs.Takings.{is_taken_by}
use Rattle.run_orders.specs.Forced.{IsForced, at_once, begun_by, through}
use Rattle.run_orders.specs.Joins.{IsBehind, IsOverBefore}
use Rattle.run_orders.specs.Orders.{plain}
use Rattle.run_orders.specs.Trees.{Spot, spot_at, writer}
use Rattle.run_orders.proofs.TreeLemmas.{IsEnd, end_more, found, some_same, spot_of_end}
use Rattle.run_orders.proofs.BeginLemmas.{begun_before, one_frame, shorter}
use Rattle.run_orders.proofs.StandLemmas.{stack_of}
use Rattle.run_orders.proofs.UnderLockLemmas.{outside_stack}
use Rattle.run_joins.specs.declared.joining.Join.{Join}
use Rattle.run_joins.specs.declared.joining.Joined.{Joined}
use Rattle.run_joins.specs.declared.note.Note.{Note}
use Rattle.run_joins.specs.declared.reached.Reached.{Reached}
use Rattle.run_joins.specs.Joining.{IsJoin, IsLeft, IsWithin, Keeps, KeepsJoin, is_after, is_late}
use Rattle.run_joins.specs.Notes.{AreNotes, IsNote}
use Rattle.run_joins.specs.Reaching.{GivesUp, HasReached, IsSeen, IsUpTo}
use Rattle.run_joins.proofs.ReachingLemmas.{adds_reached, older_all, place_of, reach_forced, spot_of}

pub one_thread : (run : List Line) → IsLegalSoFar plain run → (one other : Spot) → IsEnd run (one.line ∷ one.past)
    → IsEnd run (other.line ∷ other.past) → writer one ≡ writer other → one.line.thread ≡ other.line.thread
one_thread run legal one other end end_too same = by_writer (writer other) refl
  where
    by_writer : (who : Frame) → writer other ≡ who → one.line.thread ≡ other.line.thread
    by_writer (Execution op) is =
        (one_frame run one other op (begun_before run plain legal one end op (same ∙ is))
        (begun_before run plain legal other end_too op is)).thread
    by_writer (Outside by) is =
        (outside_stack (stack_of one) one.line.thread by (same ∙ is)).1
        ∙ sym (outside_stack (stack_of other) other.line.thread by is).1

-- what is known of a claim
abbrev IsKept : List Line → Join → ℕ → ℕ → Spot → Type 0
IsKept run join thing at claim =
    IsOverBefore run join.place thing claim ⊎ ((join.place < at) × (writer claim ≡ Outside join.thread))

-- what is known of the claims of a thing from there on
abbrev AreKept : List Line → Join → ℕ → ℕ → Type 0
AreKept run join thing from = (at : ℕ) (claim : Spot) → spot_at run at ≡ Some claim → from ≤ at →
    claim.line.does ≡ doing.Claim thing → IsKept run join thing at claim

-- one claim more
claims_more : (run past : List Line) (line : Line) (join : Join) (thing : ℕ) → IsEnd run (line ∷ past)
    → AreKept run join thing (length (line ∷ past))
    → (line.does ≡ doing.Claim thing → IsKept run join thing (length past) (spot_of line past)) → AreKept run join thing (length past)
claims_more run past line join thing end before here at claim there from claims =
    ⊎_elim (λ (later : length (line ∷ past) ≤ at). before at claim there later claims)
    (λ (same : at ≡ length past).
    let is : spot_of line past ≡ claim =
    some_same (spot_of line past) claim (sym (spot_of_end run line past end) ∙ ap (spot_at run) (sym same) ∙ there) in
    subst (λ (a : ℕ). IsKept run join thing a claim) (sym same)
    (subst (λ (s : Spot). IsKept run join thing (length past) s) is (here (ap (λ (s : Spot). s.line.does) is ∙ claims))))
    (two at from)
  where
    two : (a : ℕ) → length past ≤ a → (length (line ∷ past) ≤ a) ⊎ (a ≡ length past)
    two a from = grind (arith)

pub goes_behind : (run past : List Line) (line : Line) (note : Note) (place : ℕ) (old new : Joined) → place ≡ length past
    → IsNote line past note → IsWithin run (line ∷ past) old → old.join.place < place → new.join ≡ old.join
    → new.reached ≡ old.reached → ((thing : ℕ) → is_late new thing ≡ false → is_late old thing ≡ false)
    → ((thing : ℕ) → is_late new thing ≡ false → note.line.does ≡ doing.Claim thing → note.frame ≡ Outside old.join.thread)
    → IsWithin run past new
goes_behind run past line note place old new is known within behind join reached late own =
    let less : old.join.place < length past = subst (λ (p : ℕ). old.join.place < p) is behind in
    record {
      end = end_more run line past within.end;
      reached =
          subst (λ (j : Join). HasReached run j.place (length past) new.reached) (sym join)
          (subst (λ (r : Reached). HasReached run old.join.place (length past) r) (sym reached)
          (older_all run past line old.join.place old.reached within.reached));
      joins = λ upto. absurd (no less (subst (λ (j : Join). length past ≤ j.place) join upto));
      claims = λ thing at claim not there from claims.
          subst (λ (j : Join). IsKept run j thing at claim) (sym join)
          (claims_more run past line old.join thing within.end
          (λ a c t f cl. within.claims thing a c (late thing not) t f cl)
          (λ does. inr (less, sym known.writes ∙ own thing not (ap (λ (l : Line). l.does) known.same ∙ does))) at claim there from claims);
    }
  where
    no : {a b : ℕ} → a < b → b ≤ a → ⊥
    no less more = absurd (omega arith)

-- what was given back by a line that stands before the place is over, and stands before it, too
pub over_at : (run past : List Line) (line : Line) (thing place : ℕ) → IsLegalSoFar plain run → IsEnd run (line ∷ past)
    → ((spot : Spot) → spot_at run place ≡ Some spot → spot.line.does ≡ doing.Release thing → ⊥) → line.does ≡ doing.Claim thing
    → IsSeen run place (length past) (GivesUp thing (frame past line.thread))
    → IsOverBefore run place thing (spot_of line past) × IsForced run (length past) place
over_at run past line thing place legal end not claims seen =
    let at_is : length seen.spot.past ≡ seen.at = place_of run seen.at seen.spot seen.there in
    let end_too : IsEnd run (seen.spot.line ∷ seen.spot.past) = (found run seen.at seen.spot seen.there).end in
    let on : seen.spot.line.thread ≡ line.thread =
    one_thread run legal seen.spot (spot_of line past) end_too end seen.such.writes in
    let behind : length past < length seen.spot.past =
    more at_is seen.not_before (λ (e : seen.at ≡ length past).
    let same : spot_of line past ≡ seen.spot =
    some_same (spot_of line past) seen.spot (sym (spot_of_end run line past end) ∙ ap (spot_at run) (sym e) ∙ seen.there) in
    let no : doing.Claim thing ≡ doing.Release thing =
    sym claims ∙ ap (λ (s : Spot). s.line.does) same ∙ seen.such.releases in cc) in
    let forced : IsForced run seen.at place =
    ⊎_elim
    (λ (e : seen.at ≡ place). absurd (not seen.spot (ap (spot_at run) (sym e) ∙ seen.there) seen.such.releases))
    (λ (forced : IsForced run seen.at place). forced) seen.upto in (
      record {
        at = seen.at;
        later = seen.spot;
        there = seen.there;
        gives = record {
          behind = behind;
          same = seen.such.writes;
          gone =
              subst (λ (t : ℕ). is_taken_by (seen.spot.line ∷ seen.spot.past) t (frame past line.thread) (Thing thing) ≡ false) on
              seen.such.gone;
        };
        forced = forced;
      },
      through seen.at
          (at_once (spot_of line past) seen.spot (spot_of_end run line past end) seen.there (record {
            earlier = behind;
            reason =
                inl (record {
                  same = sym seen.such.writes;
                  plain = ap (λ (d : Doing). begun_by d) claims;
                  plain_too = ap (λ (d : Doing). begun_by d) seen.such.releases;
                });
          })) forced,
    )
  where
    more : {l at : ℕ} → l ≡ at → length past ≤ at → (at ≡ length past → ⊥) → length past < l
    more same from not = grind (arith)

over_here : (run past : List Line) (line : Line) (thing : ℕ) (joined : Join) → IsLegalSoFar plain run → IsEnd run (line ∷ past)
    → IsJoin run joined → line.does ≡ doing.Claim thing
    → IsSeen run joined.place (length past) (GivesUp thing (frame past line.thread)) → IsOverBefore run joined.place thing (spot_of line past)
over_here run past line thing joined legal end join claims seen =
    (over_at run past line thing joined.place legal end
    (λ spot there releases. not_after thing (subst (λ (d : Doing). is_after d ≡ true)
    (ap (λ (s : Spot). s.line.does) (some_same join.spot spot (sym join.there ∙ there)) ∙ releases) join.waits)) claims seen).0
  where
    not_after : (x : ℕ) → is_after (doing.Release x) ≡ true → ⊥
    not_after x e = cc

joins_here : (run past : List Line) (line : Line) (note : Note) (place : ℕ) (old mid : Joined) → place ≡ length past
    → IsNote line past note → IsWithin run (line ∷ past) old → Keeps note place old mid → length past ≤ old.join.place
    → IsJoin run old.join
joins_here run past line note place old mid is known within keeps upto =
    ⊎_elim (λ (later : length (line ∷ past) ≤ old.join.place). within.joins later)
    (λ (same : old.join.place ≡ length past).
    let both = keeps.joins (is ∙ sym same) in
    record {
      spot = spot_of line past;
      there = ap (spot_at run) same ∙ spot_of_end run line past within.end;
      outside = sym known.writes ∙ both.0;
      waits = subst (λ (d : Doing). is_after d ≡ true) (ap (λ (l : Line). l.does) known.same) both.1;
    }) (two old.join.place upto)
  where
    two : (a : ℕ) → length past ≤ a → (length (line ∷ past) ≤ a) ⊎ (a ≡ length past)
    two a from = grind (arith)

kept_here : (run past : List Line) (line : Line) (note : Note) (place : ℕ) (old mid : Joined) → place ≡ length past
    → IsNote line past note → IsWithin run (line ∷ past) old → Keeps note place old mid
    → HasReached run old.join.place (length past) mid.reached
kept_here run past line note place old mid is known within keeps =
    ⊎_elim
    (λ (same : mid.reached ≡ old.reached).
    subst (λ (r : Reached). HasReached run old.join.place (length past) r) (sym same)
    (older_all run past line old.join.place old.reached within.reached))
    (λ added.
    adds_reached run past line old.join.place note old.reached mid.reached within.end within.reached known added.0
    (⊎_elim (λ (here : place ≡ old.join.place). inl (sym is ∙ here))
    (λ reached. inr (reach_forced run past line old.join.place note old.reached within.end within.reached known reached)) added.1)) keeps.kept

pub goes_before : (run past : List Line) (line : Line) (note : Note) (place : ℕ) (old mid new : Joined) → IsLegalSoFar plain run
    → place ≡ length past → IsNote line past note → IsWithin run (line ∷ past) old → place ≤ old.join.place → Keeps note place old mid
    → mid.join ≡ old.join → mid.late ≡ old.late → new.join ≡ mid.join → new.reached ≡ mid.reached
    → ((thing : ℕ) → is_late new thing ≡ false → is_late mid thing ≡ false)
    → ((thing : ℕ) → is_late new thing ≡ false → note.line.does ≡ doing.Claim thing →
    get nat_eq mid.reached.over thing ≡ Some note.frame) → IsWithin run past new
goes_before run past line note place old mid new legal is known within before keeps join_mid late_mid join_new reached_new late over =
    let join : new.join ≡ old.join = join_new ∙ join_mid in
    let less : length past ≤ old.join.place = subst (λ (p : ℕ). p ≤ old.join.place) is before in
    let kept = kept_here run past line note place old mid is known within keeps in
    let joins = joins_here run past line note place old mid is known within keeps less in
    record {
      end = end_more run line past within.end;
      reached =
          subst (λ (j : Join). HasReached run j.place (length past) new.reached) (sym join)
          (subst (λ (r : Reached). HasReached run old.join.place (length past) r) (sym reached_new) kept);
      joins = λ upto. subst (λ (j : Join). IsJoin run j) (sym join) joins;
      claims = λ thing at claim not there from claims.
          subst (λ (j : Join). IsKept run j thing at claim) (sym join)
          (claims_more run past line old.join thing within.end
          (λ a c t f cl. within.claims thing a c (subst (λ l. contains nat_eq l thing ≡ false) late_mid (late thing not)) t f cl)
          (λ does. inl (over_here run past line thing old.join legal within.end joins does
          (subst (λ (f : Frame). IsSeen run old.join.place (length past) (GivesUp thing f)) known.writes
          (kept.over thing note.frame (over thing not (ap (λ (l : Line). l.does) known.same ∙ does)))))) at claim there from claims);
    }

-- before a line was gone through
pub within_all : (run : List Line) (joined : Joined) → joined.join.place < length run
    → HasReached run joined.join.place (length run) joined.reached → IsWithin run run joined
within_all run joined less reached = record {
  end = ([], refl);
  reached = reached;
  joins = λ upto. absurd (no less upto);
  claims = λ thing at claim not there from claims.
      let is = found run at claim there in
      absurd (none is.place_is (shorter is.end.0 claim.line claim.past run is.end.1) from);
}
  where
    no : {a b : ℕ} → a < b → b ≤ a → ⊥
    no less more = absurd (omega arith)

    none : {a b c : ℕ} → a ≡ b → a < c → c ≤ b → ⊥
    none same less more = absurd (omega arith)

after_plain : (does : Doing) → is_after does ≡ true → begun_by does ≡ None
after_plain (doing.Begin op code size) is = cc
after_plain _ is = refl

-- what the thread of a join does outside behind it
pub behind_join : (run : List Line) (join : Join) → IsJoin run join → (at : ℕ) (claim : Spot) → spot_at run at ≡ Some claim → (thing : ℕ)
    → claim.line.does ≡ doing.Claim thing → writer claim ≡ Outside join.thread → join.place < at
    → IsBehind run join.thread join.place at claim
behind_join run join joins at claim there thing claims outside before =
    let first : length joins.spot.past ≡ join.place = place_of run join.place joins.spot joins.there in
    let second : length claim.past ≡ at = place_of run at claim there in
    record {
      outside = outside;
      forced = at_once joins.spot claim joins.there there (record {
        earlier = less first second before;
        reason = inl (record {
          same = joins.outside ∙ sym outside;
          plain = after_plain joins.spot.line.does joins.waits;
          plain_too = ap begun_by claims;
        });
      });
    }
  where
    less : {a b c d : ℕ} → a ≡ b → c ≡ d → b < d → a < c
    less first second before = omega arith

-- all lines were gone through
pub keeps_join : (run past : List Line) (joined : Joined) → length past ≡ 0 → IsWithin run past joined → KeepsJoin run joined
keeps_join run past joined none within =
    let joins : IsJoin run joined.join = within.joins (omega arith) in
    record {
      joins = joins;
      claims = λ thing at claim not there claims.
          ⊎_elim (λ over. inl over) (λ own. inr (behind_join run joined.join joins at claim there thing claims own.1 own.0))
          (within.claims thing at claim not there (omega arith) claims);
    }

pub notes_length : (past : List Line) (notes : List Note) → AreNotes past notes → length past ≡ length notes
notes_length [] [] are = refl
notes_length [] (note ∷ notes) are = absurd are
notes_length (line ∷ past) [] are = absurd are
notes_length (line ∷ past) (note ∷ notes) are =
    let before : length past ≡ length notes = notes_length past notes are.0 in
    let more : length (line ∷ past) ≡ length (note ∷ notes) = omega arith in more

pub left_all : (run : List Line) (notes : List Note) (joined : Joined) → joined.join.place < length notes → AreNotes run (reverse notes)
    → HasReached run joined.join.place (length run) joined.reached → IsLeft run notes joined
left_all run notes joined less are reached =
    let same : length run ≡ length notes = notes_length run (reverse notes) are ∙ length-reverse notes in
    record {
      past = run;
      notes = are;
      within = within_all run joined (omega arith) reached;
    }

pub left_more : (run : List Line) (all left : List Note) (note : Note) (old new : Joined) → all ≡ left ++ note ∷ []
    → IsLeft run all old → ((past : List Line) (line : Line) → length left ≡ length past → IsNote line past note
    → IsWithin run (line ∷ past) old → IsWithin run past new) → IsLeft run left new
left_more run all left note old new is before see =
    go before.past (subst (λ (ns : List Note). AreNotes before.past ns) (ap reverse is ∙ reverse-append left (note ∷ [])) before.notes)
    before.within
  where
    go : (past : List Line) → AreNotes past (note ∷ reverse left) → IsWithin run past old → IsLeft run left new
    go [] are within = absurd are
    go (line ∷ past) are within = record {
      past = past;
      notes = are.0;
      within =
          see past line (sym (notes_length past (reverse left) are.0 ∙ length-reverse left)) are.1 within;
    }

pub left_none : (run : List Line) (left : List Note) (joined : Joined) → length left ≡ 0 → IsLeft run left joined → KeepsJoin run joined
left_none run left joined none last =
    keeps_join run last.past joined (notes_length last.past (reverse left) last.notes ∙ length-reverse left ∙ none) last.within
