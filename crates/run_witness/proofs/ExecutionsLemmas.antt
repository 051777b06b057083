-- What is known of executions behind one line more.
use Rattle.std.proofs.Common.{◌≡◌, ◌+◌, ℕ, suc, List, [], ◌∷◌, ◌<◌, refl, ap, sym, subst, ◌∙◌, inl, inr, ⊎_elim, length, arith}
use Rattle.std.proofs.lemmas.Bool.{and_parts, cases_Bool, cond_both, eq-eqb, eqb-true, ne_eqb}
use Rattle.std.specs.Prelude.{Bool, true, false, ◌==◌, ◌&&◌, ◌||◌, ◌⊎◌, ◌↔◌, ◌≢◌, if◌then◌else◌, IsSome, IsTrue, Option, Some, None}
use Rattle.run_lines.specs.declared.line.Doing.{Doing}
use Rattle.run_lines.specs.declared.line.Doing.TheVariants as doing
use Rattle.run_lines.specs.declared.line.Line.{Line}
use Rattle.run_rules.specs.Against.{calls}
use Rattle.run_rules.specs.Calls.{Calling, begins, call_of, done_of, is_begun, strand_of}
use Rattle.run_rules.specs.MayCome.{MayDo}
use Rattle.run_rules.specs.Stacks.{stack}
use Rattle.run_rules.specs.Starting.{Holds, IsInside}
use Rattle.run_check.specs.After.{loose, waiter_from, waiter_of}
use Rattle.run_check.specs.Called.{called_by}
use Rattle.run_check.specs.Judging.{is_number}
use Rattle.run_check.specs.declared.waiting.Waiter.{Waiter}
use Rattle.run_orders.specs.Apart.{IsOwn, StandsAlone, WasIdle, called_last}
use Rattle.run_orders.specs.Trees.{Spot, is_among, spot_at}
use Rattle.run_orders.proofs.TreeLemmas.{begins_once, some_same}
use Rattle.run_check.proofs.RuleLemmas.{says_strand, waiter_says}
use Rattle.run_witness.specs.Executions.{IsIdle, IsLent, IsWithin, is_straight, known_after, op_begun}
use Rattle.run_witness.specs.Facts.{begun_by, called_at}
use Rattle.run_witness.proofs.PlacingLemmas.{begun_call_is}

-- a line stays where it is found

below_length : (past : List Line) (place : ℕ) (spot : Spot) → spot_at past place ≡ Some spot → place < length past
below_length [] place spot = λ there. cc
below_length (line ∷ past) place spot =
    cond_both (length past == place) (Some (record { line = line; past = past })) (spot_at past place)
    (λ (o : Option Spot). o ≡ Some spot → place < suc (length past))
    (λ here there. let e : length past ≡ place = eqb-true (length past) place here in omega arith)
    (λ elsewhere there. let less : place < length past = below_length past place spot there in omega arith)

pub spot_stays : (past : List Line) (line : Line) (place : ℕ) (spot : Spot) → spot_at past place ≡ Some spot
    → spot_at (line ∷ past) place ≡ Some spot
spot_stays past line place spot there =
    let less : place < length past = below_length past place spot there in
    rw (ne_eqb (length past) place (λ same. let e : length past ≡ place = same in omega arith)) there

pub spot_here : (past : List Line) (line : Line) → spot_at (line ∷ past) (length past) ≡ Some
    (record { line = line; past = past })
spot_here past line = rw (eq-eqb (length past) (length past) refl) refl

-- what is known of another operation than the one that begins
pub known_elsewhere : (does : Doing) (value : Option ℕ) (other : ℕ) (known : Option ℕ) → (IsTrue (begins does other) → ⊥)
    → known_after does value other known ≡ known
known_elsewhere (doing.Begin op code size) (Some value) other known none = rw (ne_eqb op other (λ same. none
    (eq-eqb op other same))) refl
known_elsewhere (doing.Begin op code size) None other known none = refl
known_elsewhere _ value other known none = refl

-- what is executed doesn't begin
pub begins_none : (past : List Line) (thread op : ℕ) (does : Doing) → MayDo loose past thread does → is_begun past op ≡ true
    → IsTrue (begins does op) → ⊥
begins_none past thread op does may begun is =
    let e : true ≡ false = sym is ∙ begins_once loose past thread op does may begun in cc

-- what an earlier line begins has begun
begun_at : (past : List Line) (place op : ℕ) (spot : Spot) → spot_at past place ≡ Some spot
    → IsTrue (begins spot.line.does op)
    → is_begun past op ≡ true
begun_at [] place op spot = λ there. cc
begun_at (line ∷ past) place op spot =
    cond_both (length past == place) (Some (record { line = line; past = past })) (spot_at past place)
    (λ (o : Option Spot). o ≡ Some spot → IsTrue (begins spot.line.does op) → is_begun (line ∷ past) op ≡ true)
    (λ here there begun. let same : record { line = line; past = past } ≡ spot = some_same
    (record { line = line; past = past }) spot there in
    let b : begins line.does op ≡ true = ap (λ (s : Spot). begins s.line.does op) same ∙ begun in rw b refl)
    (λ elsewhere there begun. later (begins line.does op) (begun_at past place op spot there begun))
  where
    later : (b : Bool) → is_begun past op ≡ true → (b || is_begun past op) ≡ true
    later true is = refl
    later false is = is

-- what stands alone

number_is : (o : Option ℕ) (op : ℕ) → is_number o op ≡ true → o ≡ Some op
number_is None op is = cc
number_is (Some number) op is = ap Some (eqb-true number op is)

either : (a b : Bool) → (a || b) ≡ true → (a ≡ true) ⊎ (b ≡ true)
either true b is = inl refl
either false b is = inr is

either_left : (a b : Bool) → a ≡ true → (a || b) ≡ true
either_left a b is = rw is refl

either_right : (a b : Bool) → b ≡ true → (a || b) ≡ true
either_right true b is = refl
either_right false b is = is

pub lent_next : (past : List Line) (line : Line) (lent : Option ℕ) (op : ℕ) (old new : Bool)
    → IsTrue old ↔ StandsAlone past op
    → (lent ≡ Some op) ↔ IsLent past line.thread line.does op → new ≡ (is_number lent op || old)
    → IsTrue new ↔ StandsAlone (line ∷ past) op
lent_next past line lent op old new was here is = (
  λ yes_new. ⊎_elim (λ (now : is_number lent op ≡ true).
      let l = here.0 (number_is lent op now) in
      record {
        place = length past;
        spot = record { line = line; past = past };
        there = spot_here past line;
        begun = l.begun;
        inside = l.inside;
        lent = l.lent;
      })
      (λ (before : old ≡ true). stays (was.0 before)) (either (is_number lent op) old (sym is ∙ yes_new)),
  λ alone. is ∙ by_place alone,
)
  where
    stays : StandsAlone past op → StandsAlone (line ∷ past) op
    stays alone = record {
      place = alone.place;
      spot = alone.spot;
      there = spot_stays past line alone.place alone.spot alone.there;
      begun = alone.begun;
      inside = alone.inside;
      lent = alone.lent;
    }

    by_place : StandsAlone (line ∷ past) op → (is_number lent op || old) ≡ true
    by_place alone =
        cond_both (length past == alone.place) (Some (record { line = line; past = past })) (spot_at past alone.place)
        (λ (o : Option Spot). o ≡ Some alone.spot → (is_number lent op || old) ≡ true)
        (λ now there. let same : record { line = line; past = past } ≡ alone.spot =
        some_same (record { line = line; past = past }) alone.spot there in
        let l : IsLent past line.thread line.does op =
        subst (λ (s : Spot). IsLent s.past s.line.thread s.line.does op) (sym same)
        (record { begun = alone.begun; inside = alone.inside; lent = alone.lent }) in
        either_left (is_number lent op) old (ap (λ (o : Option ℕ). is_number o op) (here.1 l) ∙ eq-eqb op op refl))
        (λ elsewhere there. either_right (is_number lent op) old
        (was.1 (record {
          place = alone.place;
          spot = alone.spot;
          there = there;
          begun = alone.begun;
          inside = alone.inside;
          lent = alone.lent;
        }))) alone.there

-- what began as its strand was idle

begins_it : (does : Doing) (op : ℕ) → (IsTrue (begins does op)) ⊎ (IsTrue (begins does op) → ⊥)
begins_it does op = ⊎_elim (λ (here : begins does op ≡ true). inl here)
    (λ (not : begins does op ≡ false). inr (λ is. let e : true ≡ false = sym is ∙ not in cc)) (cases_Bool (begins does op))

known_here : (does : Doing) (value known : Option ℕ) (op : ℕ) → IsTrue (begins does op) → known ≡ None
    → known_after does value op known ≡ value
known_here (doing.Begin number outcome size) (Some one) known op begun none = rw begun refl
known_here (doing.Begin number outcome size) None known op begun none = none
known_here _ value known op begun none = cc

-- an execution that was idle is so by the line that came last, or was before
idle_cases : (past : List Line) (line : Line) (op strand : ℕ) (Is : Type 0)
    → (IsTrue (begins line.does op) → IsTrue (called_last past line.thread op) → strand_of past op ≡ Some strand
    → ¬ (Holds past line.thread strand) → Is) → (WasIdle past op strand → Is) → WasIdle (line ∷ past) op strand → Is
idle_cases past line op strand Is now before one =
    cond_both (length past == one.place) (Some (record { line = line; past = past })) (spot_at past one.place)
    (λ (o : Option Spot). o ≡ Some one.spot → Is)
    (λ here there. let same : record { line = line; past = past } ≡ one.spot = some_same
    (record { line = line; past = past }) one.spot there in
    now (ap (λ (s : Spot). begins s.line.does op) same ∙ one.begun)
    (ap (λ (s : Spot). called_last s.past s.line.thread op) same ∙ one.straight)
    (ap (λ (s : Spot). strand_of s.past op) same ∙ one.on)
    (subst (λ (s : Spot). ¬ (Holds s.past s.line.thread strand)) (sym same) one.unheld))
    (λ elsewhere there. before (record {
      place = one.place;
      spot = one.spot;
      there = there;
      begun = one.begun;
      straight = one.straight;
      on = one.on;
      unheld = one.unheld;
    })) one.there

idle_stays : (past : List Line) (line : Line) (op strand : ℕ) → WasIdle past op strand → WasIdle (line ∷ past) op strand
idle_stays past line op strand one = record {
  place = one.place;
  spot = one.spot;
  there = spot_stays past line one.place one.spot one.there;
  begun = one.begun;
  straight = one.straight;
  on = one.on;
  unheld = one.unheld;
}

pub idle_next : (apart : List ℕ) (past : List Line) (line : Line) (idle : Option ℕ) (op strand : ℕ) (old new : Option ℕ)
    → MayDo loose past line.thread line.does
    → ((on : ℕ) → (old ≡ Some on) ↔ (IsTrue (is_among apart op) × WasIdle past op on))
    → ((on : ℕ) → IsTrue (begins line.does op) → (idle ≡ Some on) ↔ IsIdle apart past line.thread line.does op on)
    → new ≡ known_after line.does idle op old → (new ≡ Some strand) ↔ (IsTrue (is_among apart op) × WasIdle
    (line ∷ past) op strand)
idle_next apart past line idle op strand old new may was here is =
    ⊎_elim (λ (begun : IsTrue (begins line.does op)).
    let now : new ≡ idle = is ∙ known_here line.does idle old op begun (none_old begun old refl) in (
      λ found. let i = (here strand begun).0 (sym now ∙ found) in (
        i.among,
        record {
          place = length past;
          spot = record { line = line; past = past };
          there = spot_here past line;
          begun = begun;
          straight = i.straight;
          on = i.on;
          unheld = i.unheld;
        },
      ),
      λ both. idle_cases past line op strand (new ≡ Some strand)
          (λ b straight on unheld. now ∙ (here strand begun).1
          (record { among = both.0; begun = begun; straight = straight; on = on; unheld = unheld }))
          (λ one. absurd (begun_twice one begun)) both.1,
    ))
    (λ (not : IsTrue (begins line.does op) → ⊥).
    let same : new ≡ old = is ∙ known_elsewhere line.does idle op old not in (
      λ found. let i = (was strand).0 (sym same ∙ found) in (i.0, idle_stays past line op strand i.1),
      λ both. idle_cases past line op strand (new ≡ Some strand) (λ b straight on unheld. absurd (not b))
          (λ one. same ∙ (was strand).1 (both.0, one)) both.1,
    )) (begins_it line.does op)
  where
    begun_twice : {on : ℕ} → WasIdle past op on → IsTrue (begins line.does op) → ⊥
    begun_twice one begun =
        begins_none past line.thread op line.does may (begun_at past one.place op one.spot one.there one.begun) begun

    none_old : IsTrue (begins line.does op) → (o : Option ℕ) → old ≡ o → old ≡ None
    none_old begun None known = known
    none_old begun (Some on) known = absurd (begun_twice ((was on).0 known).1 begun)

-- what begins is known

none_begun : (past : List Line) (thread op : ℕ) (does : Doing) → begun_by past does ≡ None → MayDo loose past thread does
    → IsTrue (begins does op) → ⊥
none_begun past thread op (doing.Begin number outcome size) none may begun = by_call (call_of past number) refl
  where
    by_call : (o : Option Calling) → call_of past number ≡ o → ⊥
    by_call None called = let e : IsSome {T = Calling} None = subst (λ
        (o : Option Calling). IsSome o) called may.waiting.called in cc
    by_call (Some call) called =
        let known : begun_by past (doing.Begin number outcome size) ≡ Some (waiter_from (done_of past number) call) =
        begun_call_is past thread number call (doing.Begin number outcome size) may (eq-eqb number number refl) called in
        let e : None ≡ Some (waiter_from (done_of past number) call) = sym none ∙ known in cc
none_begun past thread op _ none may begun = cc

own_within : (past : List Line) (thread op : ℕ) (waiter : Waiter) → waiter_of past op ≡ Some waiter → IsOwn past thread op
    → IsInside past thread op × IsWithin past thread waiter.strand
own_within past thread op waiter known own = (
  own.0,
  subst (λ (on : Option ℕ). IsWithin past thread on) (says_strand past op waiter
      (waiter_says past op waiter known)) own.1,
)

within_own : (past : List Line) (thread op : ℕ) (waiter : Waiter) → waiter_of past op ≡ Some waiter
    → IsInside past thread op × IsWithin past thread waiter.strand → IsOwn past thread op
within_own past thread op waiter known own = (
  own.0,
  subst (λ (on : Option ℕ). IsWithin past thread on) (sym (says_strand past op waiter
      (waiter_says past op waiter known))) own.1,
)

begun_known : (past : List Line) (does : Doing) (waiter : Waiter) (op : ℕ) → begun_by past does ≡ Some waiter
    → IsTrue (begins does op)
    → waiter_of past op ≡ Some waiter
begun_known past (doing.Begin number outcome size) waiter op is begun = ap (waiter_of past) (sym
    (eqb-true number op begun)) ∙ is
begun_known past _ waiter op is begun = cc

op_begins : (does : Doing) (op : ℕ) → op_begun does ≡ Some op → IsTrue (begins does op)
op_begins (doing.Begin number outcome size) op is = eq-eqb number op (some_same number op is)
op_begins _ op is = cc

begins_op : (does : Doing) (op : ℕ) → IsTrue (begins does op) → op_begun does ≡ Some op
begins_op (doing.Begin number outcome size) op is = ap Some (eqb-true number op is)
begins_op _ op is = cc

false_true : false ≡ true → ⊥
false_true e = cc

none_some : (op : ℕ) → None ≡ Some op → ⊥
none_some op e = cc

-- what a line begins inside an execution that it isn't of

pub lent_here : (past : List Line) (thread : ℕ) (does : Doing) (waiter : Waiter) (good : Bool)
    → begun_by past does ≡ Some waiter
    → ((op : ℕ) → waiter_of past op ≡ Some waiter
    → IsTrue good ↔ ((stack past thread ≢ []) × ¬ (IsInside past thread op × IsWithin past thread waiter.strand)))
    → good ≡ true → (op : ℕ) → (op_begun does ≡ Some op) ↔ IsLent past thread does op
lent_here past thread does waiter good is exact fine op = (
  λ begun. let b = op_begins does op begun in
      let known = begun_known past does waiter op is b in
      let both = (exact op known).0 fine in
      record { begun = b; inside = both.0; lent = λ own. both.1 (own_within past thread op waiter known own) },
  λ lent. begins_op does op lent.begun,
)

pub lent_not : (past : List Line) (thread : ℕ) (does : Doing) (waiter : Waiter) (good : Bool)
    → begun_by past does ≡ Some waiter
    → ((op : ℕ) → waiter_of past op ≡ Some waiter
    → IsTrue good ↔ ((stack past thread ≢ []) × ¬ (IsInside past thread op × IsWithin past thread waiter.strand)))
    → good ≡ false → (op : ℕ) → (None ≡ Some op) ↔ IsLent past thread does op
lent_not past thread does waiter good is exact bad op = (
  λ none. absurd (none_some op none),
  λ lent. let known = begun_known past does waiter op is lent.begun in
      absurd (false_true (sym bad ∙ (exact op known).1
      (lent.inside, λ own. lent.lent (within_own past thread op waiter known own)))),
)

pub lent_none : (past : List Line) (thread : ℕ) (does : Doing) → begun_by past does ≡ None
    → MayDo loose past thread does → (op : ℕ)
    → (None ≡ Some op) ↔ IsLent past thread does op
lent_none past thread does none may op =
    (λ is. absurd (none_some op is), λ lent. absurd (none_begun past thread op does none may lent.begun))

-- the last line of a thread calls an operation

pub calls_so : (does : Doing) (op : ℕ) → called_by does ≡ Some op → calls does op ≡ true
calls_so (doing.Call number how context strand thing) op is = eq-eqb number op (some_same number op is)
calls_so _ op is = cc

pub calls_it : (does : Doing) (op : ℕ) → calls does op ≡ true → called_by does ≡ Some op
calls_it (doing.Call number how context strand thing) op is = ap Some (eqb-true number op is)
calls_it _ op is = cc

called_straight : (past : List Line) (thread op : ℕ) → called_at past thread ≡ Some op → called_last past thread op ≡ true
called_straight [] thread op = λ is. cc
called_straight (line ∷ past) thread op =
    ⊎_elim (λ (here : (line.thread == thread) ≡ true). rw here (λ is. calls_so line.does op is))
    (λ (elsewhere : (line.thread == thread) ≡ false). rw elsewhere (λ is. called_straight past thread op is))
    (cases_Bool (line.thread == thread))

straight_called : (past : List Line) (thread op : ℕ) → called_last past thread op ≡ true → called_at past thread ≡ Some op
straight_called [] thread op = λ is. cc
straight_called (line ∷ past) thread op =
    ⊎_elim (λ (here : (line.thread == thread) ≡ true). rw here (λ is. calls_it line.does op is))
    (λ (elsewhere : (line.thread == thread) ≡ false). rw elsewhere (λ is. straight_called past thread op is))
    (cases_Bool (line.thread == thread))

-- what began as its strand was idle

straight_parts : (apart : List ℕ) (does : Doing) (call : Option ℕ) (op : ℕ) → IsTrue (begins does op)
    → is_straight apart does call ≡ true
    → (call ≡ Some op) × IsTrue (is_among apart op)
straight_parts apart (doing.Begin number outcome size) None op begun is = cc
straight_parts apart (doing.Begin number outcome size) (Some called) op begun is =
    let parts = and_parts (called == number) (is_among apart number) is in
    let same : number ≡ op = eqb-true number op begun in
    (ap Some (eqb-true called number parts.0 ∙ same), ap (is_among apart) (sym same) ∙ parts.1)
straight_parts apart _ call op begun is = cc

parts_straight : (apart : List ℕ) (does : Doing) (call : Option ℕ) (op : ℕ) → IsTrue (begins does op) → call ≡ Some op
    → IsTrue (is_among apart op) → is_straight apart does call ≡ true
parts_straight apart (doing.Begin number outcome size) None op begun is among = cc
parts_straight apart (doing.Begin number outcome size) (Some called) op begun is among =
    let same : number ≡ op = eqb-true number op begun in
    rw (eq-eqb called number (some_same called op is ∙ sym same)) (ap (is_among apart) same ∙ among)
parts_straight apart _ call op begun is among = cc

pub idle_here : (apart : List ℕ) (past : List Line) (thread : ℕ) (does : Doing) (waiter : Waiter) (call found : Option ℕ)
    → begun_by past does ≡ Some waiter → call ≡ called_at past thread → is_straight apart does call ≡ true
    → ((on : ℕ) → (found ≡ Some on) ↔ ((waiter.strand ≡ Some on) × ¬ (Holds past thread on))) → (op strand : ℕ)
    → IsTrue (begins does op) → (found ≡ Some strand) ↔ IsIdle apart past thread does op strand
idle_here apart past thread does waiter call found is called straight exact op strand begun =
    let parts = straight_parts apart does call op begun straight in
    let known = begun_known past does waiter op is begun in
    let on = says_strand past op waiter (waiter_says past op waiter known) in (
      λ there. let both = (exact strand).0 there in
          record {
            among = parts.1;
            begun = begun;
            straight = called_straight past thread op (sym called ∙ parts.0);
            on = on ∙ both.0;
            unheld = both.1;
          },
      λ idle. (exact strand).1 (sym on ∙ idle.on, idle.unheld),
    )

pub idle_not : (apart : List ℕ) (past : List Line) (thread : ℕ) (does : Doing) (call : Option ℕ)
    → call ≡ called_at past thread
    → is_straight apart does call ≡ false → (op strand : ℕ) → IsTrue (begins does op)
    → (None ≡ Some strand) ↔ IsIdle apart past thread does op strand
idle_not apart past thread does call called bad op strand begun = (
  λ none. absurd (none_some strand none),
  λ idle. absurd (false_true (sym bad ∙ parts_straight apart does call op begun
      (called ∙ straight_called past thread op idle.straight) idle.among)),
)

pub idle_none : (apart : List ℕ) (past : List Line) (thread : ℕ) (does : Doing) → begun_by past does ≡ None
    → MayDo loose past thread does → (op strand : ℕ) → IsTrue (begins does op)
    → (None ≡ Some strand) ↔ IsIdle apart past thread does op strand
idle_none apart past thread does none may op strand begun = absurd (none_begun past thread op does none may begun)
