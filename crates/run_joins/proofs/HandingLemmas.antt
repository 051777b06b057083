-- One line more of a run is gone through, from the end, and the thing is still handed over.
use Rattle.std.proofs.Common.{◌≡◌, ◌+◌, ℕ, suc, ◌<◌, ◌≤◌, List, [], ◌∷◌, ◌++◌, refl, ap, sym, subst, ◌∙◌, inl, inr, ⊎_elim, length, reverse, take, get_or, arith}
use Rattle.std.proofs.lemmas.Bool.{both_ways, cases_Bool}
use Rattle.std.proofs.lemmas.List.{length-reverse, reverse-append, take_all}
use Rattle.std.proofs.Math.Seq.{take-suc}
use Rattle.std.specs.Prelude.{◌⊎◌, true, false, Some, None, nat_eq}
use Rattle.std.specs.HashMap.{get}
use Rattle.run_lines.specs.declared.line.Doing.{Doing}
use Rattle.run_lines.specs.declared.line.Doing.TheVariants as doing
use Rattle.run_lines.specs.declared.line.Line.{Line}
use Rattle.run_rules.specs.Legal.{IsLegalSoFar}
use Rattle.run_rules.specs.Stacks.{frame}
use Rattle.run_orders.specs.Forced.{IsForced, at_once, begun_by, through}
use Rattle.run_orders.specs.Handing.{HandsOver}
use Rattle.run_orders.specs.Joins.{IsOverBefore}
use Rattle.run_orders.specs.Orders.{plain}
use Rattle.run_orders.specs.Trees.{Spot, spot_at}
use Rattle.run_orders.proofs.TreeLemmas.{IsEnd, end_more, found, some_same, spot_of_end}
use Rattle.run_orders.proofs.BeginLemmas.{shorter}
use Rattle.run_joins.specs.declared.handing.Chain.{Chain}
use Rattle.run_joins.specs.declared.note.Note.{Note}
use Rattle.run_joins.specs.declared.reached.Reached.{Reached}
use Rattle.run_joins.specs.Handing.{GoesOn, IsChain, IsFresh, IsLeftOf, IsMet}
use Rattle.run_joins.specs.Notes.{AreNotes, IsNote}
use Rattle.run_joins.specs.Reaching.{GivesUp, HasReached, IsSeen}
use Rattle.run_joins.proofs.JoiningLemmas.{notes_length, over_at}
use Rattle.run_joins.proofs.ReachingLemmas.{adds_reached, older_all, reach_forced, spot_of}

-- a line from there on is this one, or a later one
here_or_later : (run past : List Line) (line : Line) → IsEnd run (line ∷ past) → (at : ℕ) (spot : Spot) → spot_at run at ≡ Some spot
    → length past ≤ at → (length (line ∷ past) ≤ at) ⊎ ((at ≡ length past) × (spot_of line past ≡ spot))
here_or_later run past line end at spot there from =
    ⊎_elim (λ later. inl later)
    (λ (same : at ≡ length past).
    inr (same, some_same (spot_of line past) spot (sym (spot_of_end run line past end) ∙ ap (spot_at run) (sym same) ∙ there)))
    (two at from)
  where
    two : (a : ℕ) → length past ≤ a → (length (line ∷ past) ≤ a) ⊎ (a ≡ length past)
    two a from = grind (arith)

-- a line that claims something else, or nothing
pub chain_on : (run past : List Line) (line : Line) (note : Note) (old new : Chain) → IsNote line past note → IsChain run (line ∷ past) old
    → (note.line.does ≡ doing.Claim old.thing → ⊥) → new.thing ≡ old.thing → new.met ≡ old.met → GoesOn note old new
    → IsChain run past new
chain_on run past line note old new known chain other thing met goes =
    let end : IsEnd run (line ∷ past) = chain.end in
    let not : (t : ℕ) → t ≡ old.thing → line.does ≡ doing.Claim t → ⊥ =
    λ t same claims. other (ap (λ (l : Line). l.does) known.same ∙ claims ∙ ap doing.Claim same) in
    record {
      end = end_more run line past chain.end;
      unmet = λ none at claim there from claims.
          ⊎_elim
          (λ later. chain.unmet (sym met ∙ none) at claim there later (claims ∙ ap doing.Claim thing))
          (λ here. not new.thing thing (ap (λ (s : Spot). s.line.does) here.1 ∙ claims))
          (here_or_later run past line end at claim there from);
      last = λ some.
          let was = chain.last (sym met ∙ some) in
          record {
            place = was.place;
            claim = was.claim;
            there = was.there;
            claims = was.claims ∙ ap doing.Claim (sym thing);
            reached = goes_reached was;
            first = λ at spot there from claims.
                ⊎_elim (λ later. was.first at spot there later (claims ∙ ap doing.Claim thing))
                (λ here. absurd (not new.thing thing (ap (λ (s : Spot). s.line.does) here.1 ∙ claims)))
                (here_or_later run past line end at spot there from);
          };
      over = λ at next one two there there_too claims claims_too from less.
          ⊎_elim
          (λ later. subst (λ (t : ℕ). IsOverBefore run next t one) (sym thing)
          (chain.over at next one two there there_too (claims ∙ ap doing.Claim thing) (claims_too ∙ ap doing.Claim thing) later less))
          (λ here. absurd (not new.thing thing (ap (λ (s : Spot). s.line.does) here.1 ∙ claims)))
          (here_or_later run past line end at one there from);
    }
  where
    goes_reached : (was : IsMet run (length (line ∷ past)) old) → HasReached run was.place (length past) new.reached
    goes_reached was =
        ⊎_elim
        (λ (same : new.reached ≡ old.reached).
        subst (λ (r : Reached). HasReached run was.place (length past) r) (sym same)
        (older_all run past line was.place old.reached was.reached))
        (λ adds. adds_reached run past line was.place note old.reached new.reached chain.end was.reached known adds.1
        (inr (reach_forced run past line was.place note old.reached chain.end was.reached known adds.2))) goes

-- a claim that is given back before the one that was met last, if one was
pub chain_met : (run past : List Line) (line : Line) (note : Note) (old new : Chain) → IsLegalSoFar plain run → IsNote line past note
    → IsChain run (line ∷ past) old → note.line.does ≡ doing.Claim old.thing
    → (old.met ≡ true → get nat_eq old.reached.over old.thing ≡ Some note.frame) → new.thing ≡ old.thing → new.met ≡ true
    → IsFresh note new.reached → IsChain run past new
chain_met run past line note old new legal known chain is given thing met fresh =
    let end : IsEnd run (line ∷ past) = chain.end in
    let does : line.does ≡ doing.Claim old.thing = sym (ap (λ (l : Line). l.does) known.same) ∙ is in
    let there = spot_of_end run line past end in
    record {
      end = end_more run line past chain.end;
      unmet = λ none. absurd (both_ways new.met none met);
      last = λ some. record {
        place = length past;
        claim = spot_of line past;
        there = there;
        claims = does ∙ ap doing.Claim (sym thing);
        reached =
            adds_reached run past line (length past) note fresh.none new.reached end
            (fresh.empty run (length past) (length (line ∷ past))) known fresh.adds (inl refl);
        first = λ at spot at_there from claims.
            ⊎_elim (λ later. inr (handed does at spot at_there later (claims ∙ ap doing.Claim thing)).1) (λ here. inl here.0)
            (here_or_later run past line end at spot at_there from);
      };
      over = λ at next one two one_there two_there claims claims_too from less.
          subst (λ (t : ℕ). IsOverBefore run next t one) (sym thing)
          (⊎_elim
          (λ later. chain.over at next one two one_there two_there (claims ∙ ap doing.Claim thing) (claims_too ∙ ap doing.Claim thing) later
          less)
          (λ here. subst (λ (s : Spot). IsOverBefore run next old.thing s) here.1
          (handed does next two two_there (behind here.0 less) (claims_too ∙ ap doing.Claim thing)).0)
          (here_or_later run past line end at one one_there from));
    }
  where
    behind : {a n : ℕ} → a ≡ length past → a < n → length (line ∷ past) ≤ n
    behind same less = omega arith

    not_release : (thing other : ℕ) (does : Doing) → does ≡ doing.Claim thing → does ≡ doing.Release other → ⊥
    not_release thing other does is too = let no : doing.Claim thing ≡ doing.Release other = sym is ∙ too in cc

    over_next : (was : IsMet run (length (line ∷ past)) old) → line.does ≡ doing.Claim old.thing
        → get nat_eq old.reached.over old.thing ≡ Some note.frame
        → IsOverBefore run was.place old.thing (spot_of line past) × IsForced run (length past) was.place
    over_next was does giver =
        let seen = (older_all run past line was.place old.reached was.reached).over old.thing note.frame giver in
        over_at run past line old.thing was.place legal chain.end
        (λ spot there releases. not_release old.thing old.thing was.claim.line.does was.claims
        (ap (λ (s : Spot). s.line.does) (some_same was.claim spot (sym was.there ∙ there)) ∙ releases)) does
        (subst (λ (f : _). IsSeen run was.place (length past) (GivesUp old.thing f)) known.writes seen)

    handed : line.does ≡ doing.Claim old.thing → (next : ℕ) (two : Spot) → spot_at run next ≡ Some two → length (line ∷ past) ≤ next
        → two.line.does ≡ doing.Claim old.thing → IsOverBefore run next old.thing (spot_of line past) × IsForced run (length past) next
    handed does next two there later claims =
        ⊎_elim
        (λ (some : old.met ≡ true).
        let was = chain.last some in
        let over = over_next was does (given some) in
        ⊎_elim
        (λ (same : next ≡ was.place).
        subst (λ (n : ℕ). IsOverBefore run n old.thing (spot_of line past) × IsForced run (length past) n) (sym same) over)
        (λ (forced : IsForced run was.place next). (
          record {
            at = over.0.at;
            later = over.0.later;
            there = over.0.there;
            gives = over.0.gives;
            forced = through was.place over.0.forced forced;
          },
          through was.place over.1 forced,
        )) (was.first next two there later claims))
        (λ none. absurd (chain.unmet none next two there later claims)) (cases_Bool old.met)

-- nothing was gone through
pub chain_new : (run : List Line) (notes : List Note) (chain : Chain) → chain.met ≡ false → AreNotes run (reverse notes)
    → IsLeftOf run notes chain
chain_new run notes chain none are = record {
  past = run;
  notes = are;
  chained =
      record {
        end = ([], refl);
        unmet = λ not at claim there from claims. absurd (outside at claim there from);
        last = λ some. absurd (both_ways chain.met none some);
        over = λ at next one two there there_too claims claims_too from less. absurd (outside at one there from);
      };
}
  where
    no_less : {a b c : ℕ} → a < b → a ≡ c → b ≤ c → ⊥
    no_less less same more = absurd (omega arith)

    outside : (at : ℕ) (spot : Spot) → spot_at run at ≡ Some spot → length run ≤ at → ⊥
    outside at spot there from = no_less (shorter (found run at spot there).end.0 spot.line spot.past run (found run at spot there).end.1) (found run at spot there).place_is from

pub chain_begun : (run : List Line) (notes : List Note) (chain : Chain) → chain.met ≡ false → AreNotes run (reverse notes)
    → IsLeftOf run (take (length notes) notes) chain
chain_begun run notes chain none are =
    subst (λ (ns : List Note). IsLeftOf run ns chain) (sym (take_all (length notes) notes (same_length (length notes))))
    (chain_new run notes chain none are)
  where
    same_length : (n : ℕ) → n ≤ n
    same_length n = omega arith

-- one note less
pub chain_more : (run : List Line) (notes : List Note) (before now : ℕ) (note : Note) (old new : Chain) → before ≡ suc now
    → now < length notes → note ≡ get_or notes now note → IsLeftOf run (take before notes) old
    → ((past : List Line) (line : Line) → IsNote line past note → IsChain run (line ∷ past) old → IsChain run past new)
    → IsLeftOf run (take now notes) new
chain_more run notes before now note old new is within same left see =
    let one : take before notes ≡ take now notes ++ note ∷ [] =
    ap (λ (n : ℕ). take n notes) is ∙ take-suc notes now note within ∙ ap (λ (x : Note). take now notes ++ x ∷ []) (sym same) in
    go left.past
    (subst (λ (ns : List Note). AreNotes left.past ns) (ap reverse one ∙ reverse-append (take now notes) (note ∷ [])) left.notes) left.chained
  where
    go : (past : List Line) → AreNotes past (note ∷ reverse (take now notes)) → IsChain run past old → IsLeftOf run (take now notes) new
    go [] are chain = absurd are
    go (line ∷ past) are chain = record { past = past; notes = are.0; chained = see past line are.1 chain }

pub take_none : (left : ℕ) (notes : List Note) → left ≡ 0 → length (take left notes) ≡ 0
take_none left notes none = subst (λ (n : ℕ). length (take n notes) ≡ 0) (sym none) refl

-- all lines were gone through
pub chain_whole : (run : List Line) (left : List Note) (thing : ℕ) (chain : Chain) → length left ≡ 0 → chain.thing ≡ thing
    → IsLeftOf run left chain → HandsOver run thing
chain_whole run left thing chain none same is =
    let length_is : length is.past ≡ 0 = notes_length is.past (reverse left) is.notes ∙ length-reverse left ∙ none in
    λ at next one two there there_too claims claims_too less.
    subst (λ (t : ℕ). IsOverBefore run next t one) same
    (is.chained.over at next one two there there_too (claims ∙ ap doing.Claim (sym same)) (claims_too ∙ ap doing.Claim (sym same))
    (all length_is at) less)
  where
    all : {n : ℕ} → n ≡ 0 → (at : ℕ) → n ≤ at
    all none at = omega arith
