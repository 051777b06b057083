-- What is known to come before lines of a run.
use Rattle.std.proofs.Common.{◌≡◌, ◌+◌, ℕ, ◌<◌, ◌≤◌, List, refl, ap, sym, subst, ◌∙◌, inl, inr, ⊎_elim, arith}
use Rattle.std.proofs.lemmas.Bool.{cases_Bool, eq-eqb, eqb-true}
use Rattle.std.specs.Prelude.{◌⊎◌, ◌==◌, Bool, true, false, if◌then◌else◌, Option, Some, None, nat_eq}
use Rattle.std.specs.HashMap.{get}
use Rattle.run_lines.specs.declared.line.Doing.{Doing}
use Rattle.run_lines.specs.declared.line.Doing.TheVariants as doing
use Rattle.run_lines.specs.declared.line.Line.{Line}
use Rattle.run_orders.specs.Forced.{IsForced, at_once}
use Rattle.run_orders.specs.Trees.{Spot, spot_at}
use Rattle.run_orders.proofs.TreeLemmas.{some_same}
use Rattle.run_joins.specs.Reaching.{IsUpTo}
use Rattle.run_forced.specs.declared.chains.Chains.{Chains}
use Rattle.run_forced.specs.declared.clock.Clock.{Clock}
use Rattle.run_forced.specs.declared.clock.Seen.{Seen}
use Rattle.run_forced.specs.declared.known.Known.{Known}
use Rattle.run_forced.specs.Chains.{AreChains, IsKnown, IsPut, MayGoOn, chain_of}
use Rattle.run_forced.specs.Clocks.{names}
use Rattle.run_forced.specs.Known.{GoesOn, IsBefore, IsClock, IsMarked, IsOn, Knows, StayOn, clock_at, clock_of_mark}
use Rattle.run_forced.proofs.ChainLemmas.{chains_more, chains_put, chains_same, known_upto, put_stays, upto_forced, upto_upto, when_false, when_true}
use Rattle.run_forced.proofs.EdgeLemmas.{wakes_edge}

-- what comes before a line that comes before
pub add_before : (run : List Line) (lines later from : ℕ) (known : Known) (kept old new : Clock) → Knows run lines known
    → IsForced run from later → clock_at known from ≡ Some kept → ((seen : Seen) → names new seen → names old seen ⊎ names kept seen)
    → IsBefore run known later old → IsBefore run known later new
add_before run lines later from known kept old new knows forced is adds before seen named =
    ⊎_elim (λ was. before seen was)
    (λ more.
    let at = knows.clocks from kept is seen more in (at.0, upto_forced run seen.place from later at.1 forced)) (adds seen named)

pub mark_before : (run : List Line) (later mark : ℕ) (spot : Spot) (known : Known) (kept old new : Clock) → Knows run later known
    → spot_at run later ≡ Some spot → spot.line.does ≡ doing.After mark → clock_of_mark known mark ≡ Some kept
    → ((seen : Seen) → names new seen → names old seen ⊎ names kept seen) → IsBefore run known later old → IsBefore run known later new
mark_before run later mark spot known kept old new knows there waits is adds before seen named =
    ⊎_elim (λ was. before seen was)
    (λ more. let at = knows.marks mark kept is seen more in (at.0, at.1 later spot there (no_less later) waits)) (adds seen named)
  where
    no_less : (n : ℕ) → n ≤ n
    no_less n = omega arith

pub knows_before : (run : List Line) (lines later place : ℕ) (known : Known) (clock : Clock) → Knows run lines known
    → IsBefore run known later clock → IsKnown known.chains clock place → IsForced run place later
knows_before run lines later place known clock knows before is =
    let at = before is.seen is.named in
    upto_forced run place is.seen.place later (known_upto run lines place known.chains clock knows.chains is at.0) at.1

pub knows_upto : (run : List Line) (lines at place : ℕ) (known : Known) (clock : Clock) → Knows run lines known
    → clock_at known at ≡ Some clock → IsKnown known.chains clock place → IsUpTo run place at
knows_upto run lines at place known clock knows there is =
    let named = knows.clocks at clock there is.seen is.named in
    upto_upto run place is.seen.place at (known_upto run lines place known.chains clock knows.chains is named.0) named.1

-- the next line goes on no chain, or on one
pub goes_nowhere : (run : List Line) (place : ℕ) (known : Known) (clock : Clock) → Knows run place known → IsBefore run known place clock
    → GoesOn run place known known clock
goes_nowhere run place known clock knows before = record {
  chains = chains_more run place known.chains knows.chains;
  clocks = refl;
  marks = refl;
  stay = λ seen on. on;
  clock = λ seen named. let at = before seen named in (at.0, inr at.1);
}

pub goes_on : (run : List Line) (seen : Seen) (known : Known) (chains : Chains) (old new : Clock) → Knows run seen.place known
    → IsBefore run known seen.place old → MayGoOn known.chains old seen.chain → IsPut seen known.chains chains
    → ((other : Seen) → names new other → names old other ⊎ (seen ≡ other))
    → GoesOn run seen.place known (record known { chains = chains }) new
goes_on run seen known chains old new knows before may put adds = record {
  chains = chains_put run seen known.chains chains old knows.chains put may before;
  clocks = refl;
  marks = refl;
  stay = λ other on. put_stays run seen known.chains chains other.place other.chain knows.chains put on;
  clock = λ other named.
      ⊎_elim
      (λ was.
      let at = before other was in (
        put_stays run seen known.chains chains other.place other.chain knows.chains put at.0,
        inr at.1,
      ))
      (λ (here : seen ≡ other).
      let place : other.place ≡ seen.place = ap (λ (s : Seen). s.place) (sym here) in (
        put.lines other.place
            ∙ when_true (seen.place == other.place) (Some seen.chain) (chain_of known.chains other.place) (eq-eqb seen.place other.place (sym place))
            ∙ ap (λ (s : Seen). Some s.chain) here,
        inl place,
      )) (adds other named);
}

-- the next line is kept
pub knows_more : (run : List Line) (place : ℕ) (old new : Known) (clock : Clock) → Knows run place old
    → GoesOn run place old new clock → (clocks : _)
    → ((at : ℕ) → clock_at (record new { clocks = clocks }) at ≡ (if place == at then Some clock else clock_at new at))
    → Knows run (place + 1) (record new { clocks = clocks })
knows_more run place old new clock knows goes clocks is = record {
  chains = goes.chains;
  clocks = λ at kept there.
      ⊎_elim
      (λ (here : (place == at) ≡ true).
      let same : clock ≡ kept = some_same clock kept (sym (is at ∙ when_true (place == at) (Some clock) (clock_at new at) here) ∙ there) in
      subst (λ (c : Clock). IsClock run new at c) same
      (subst (λ (p : ℕ). IsClock run new p clock) (eqb-true place at here) goes.clock))
      (λ (elsewhere : (place == at) ≡ false).
      let was : clock_at old at ≡ Some kept =
      ap (λ (c : _). get nat_eq c at) (sym goes.clocks)
      ∙ sym (is at ∙ when_false (place == at) (Some clock) (clock_at new at) elsewhere) ∙ there in
      λ seen named. let named_at = knows.clocks at kept was seen named in (goes.stay seen named_at.0, named_at.1))
      (cases_Bool (place == at));
  marks = λ mark kept there seen named.
      let was : clock_of_mark old mark ≡ Some kept =
      ap (λ (c : _). get nat_eq c mark) (sym goes.marks) ∙ there in
      let at = knows.marks mark kept was seen named in (
        goes.stay seen at.0,
        λ later spot spot_there from waits. at.1 later spot spot_there (less from) waits,
      );
}
  where
    less : {a b : ℕ} → a + 1 ≤ b → a ≤ b
    less from = omega arith

-- a mark is passed
pub knows_mark : (run : List Line) (place mark : ℕ) (spot : Spot) (old : Known) (clock : Clock) (marks : _) → Knows run (place + 1) old
    → spot_at run place ≡ Some spot → spot.line.does ≡ doing.Mark mark
    → ((other : ℕ) → clock_of_mark (record old { marks = marks }) other ≡ (if mark == other then Some clock else clock_of_mark old other))
    → IsMarked run (place + 1) old mark clock
    → Knows run (place + 1) (record old { marks = marks })
knows_mark run place mark spot old clock marks knows there passes is marked = record {
  chains = knows.chains;
  clocks = knows.clocks;
  marks = λ other kept kept_is seen named.
      ⊎_elim
      (λ (here : (mark == other) ≡ true).
      let same : clock ≡ kept = some_same clock kept (sym (is other ∙ when_true (mark == other) (Some clock) (clock_of_mark old other) here) ∙ kept_is) in
      let number : mark ≡ other = eqb-true mark other here in
      subst (λ (m : ℕ). IsMarked run (place + 1) old m kept) number
      (subst (λ (c : Clock). IsMarked run (place + 1) old mark c) same marked) seen named)
      (λ (elsewhere : (mark == other) ≡ false).
      knows.marks other kept (sym (is other ∙ when_false (mark == other) (Some clock) (clock_of_mark old other) elsewhere) ∙ kept_is) seen named)
      (cases_Bool (mark == other));
}

-- a mark is passed by this line
pub marked_here : (run : List Line) (place mark : ℕ) (spot : Spot) (known : Known) (kept old new : Clock) → Knows run (place + 1) known
    → spot_at run place ≡ Some spot → spot.line.does ≡ doing.Mark mark → clock_at known place ≡ Some kept
    → ((seen : Seen) → names new seen → names old seen ⊎ names kept seen) → IsMarked run (place + 1) known mark old
    → IsMarked run (place + 1) known mark new
marked_here run place mark spot known kept old new knows there passes is adds marked seen named =
    ⊎_elim (λ was. marked seen was)
    (λ more.
    let at = knows.clocks place kept is seen more in (
      at.0,
      λ later other other_there from waits.
          upto_forced run seen.place place later at.1
          (wakes_edge run place later mark spot other there other_there (less from) passes waits),
    )) (adds seen named)
  where
    less : {a b : ℕ} → a + 1 ≤ b → a < b
    less from = omega arith

-- no clock is asked any more of this line
pub knows_less : (run : List Line) (lines place : ℕ) (known : Known) (clocks : _) → Knows run lines known
    → ((at : ℕ) → clock_at (record known { clocks = clocks }) at ≡ (if place == at then None else clock_at known at))
    → Knows run lines (record known { clocks = clocks })
knows_less run lines place known clocks knows is = record {
  chains = knows.chains;
  clocks = λ at kept there.
      ⊎_elim
      (λ (here : (place == at) ≡ true).
      let no : None ≡ Some kept = sym (is at ∙ when_true (place == at) None (clock_at known at) here) ∙ there in cc)
      (λ (elsewhere : (place == at) ≡ false).
      knows.clocks at kept (sym (is at ∙ when_false (place == at) None (clock_at known at) elsewhere) ∙ there))
      (cases_Bool (place == at));
  marks = knows.marks;
}

pub knows_left : (run : List Line) (lines : ℕ) (known : Known) (chains : Chains) → Knows run lines known
    → chains.by_place ≡ known.chains.by_place → chains.tips ≡ known.chains.tips → Knows run lines (record known { chains = chains })
knows_left run lines known chains knows places tips = record {
  chains = chains_same run lines known.chains chains places tips knows.chains;
  clocks = λ at kept there seen named. let was = knows.clocks at kept there seen named in (on seen was.0, was.1);
  marks = λ mark kept there seen named. let was = knows.marks mark kept there seen named in (on seen was.0, was.1);
}
  where
    on : (seen : Seen) → chain_of known.chains seen.place ≡ Some seen.chain → chain_of chains seen.place ≡ Some seen.chain
    on seen is = ap (λ (m : _). get nat_eq m seen.place) places ∙ is

-- what comes before a mark is taken out
pub marks_less : (run : List Line) (lines mark : ℕ) (known : Known) (marks : _) → Knows run lines known
    → ((other : ℕ) → clock_of_mark (record known { marks = marks }) other ≡ (if mark == other then None else clock_of_mark known other))
    → Knows run lines (record known { marks = marks })
marks_less run lines mark known marks knows is = record {
  chains = knows.chains;
  clocks = knows.clocks;
  marks = λ other kept there.
      ⊎_elim
      (λ (here : (mark == other) ≡ true).
      let no : None ≡ Some kept = sym (is other ∙ when_true (mark == other) None (clock_of_mark known other) here) ∙ there in cc)
      (λ (elsewhere : (mark == other) ≡ false).
      knows.marks other kept (sym (is other ∙ when_false (mark == other) None (clock_of_mark known other) elsewhere) ∙ there))
      (cases_Bool (mark == other));
}

-- one line more
pub knows_next : (run : List Line) (lines : ℕ) (known : Known) → Knows run lines known → Knows run (lines + 1) known
knows_next run lines known knows = record {
  chains = chains_more run lines known.chains knows.chains;
  clocks = knows.clocks;
  marks = λ mark kept there seen named.
      let was = knows.marks mark kept there seen named in
      (was.0, λ at spot spot_there from waits. was.1 at spot spot_there (less from) waits);
}
  where
    less : {a b : ℕ} → a + 1 ≤ b → a ≤ b
    less from = omega arith
