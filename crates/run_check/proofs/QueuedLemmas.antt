-- What stands in the queues behind a line.
use Rattle.std.proofs.Common.{◌≡◌, ℕ, ◌<◌, List, ◌∷◌, length, refl, ap, sym, ◌∙◌, inl, inr, ⊎_elim, arith}
use Rattle.std.proofs.lemmas.Bool.{eqb-true, eq-eqb, cases_Bool}
use Rattle.std.specs.Prelude.{Bool, true, false, ◌==◌, ◌||◌, ◌⊎◌, if◌then◌else◌, Option, Some, None, IsSome, nat_eq}
use Rattle.std.specs.Option.{option_eq, option_map, option_and_then}
use Rattle.run_lines.specs.declared.line.Doing.{Doing}
use Rattle.run_lines.specs.declared.line.Doing.TheVariants as doing
use Rattle.run_lines.specs.declared.line.Line.{Line}
use Rattle.run_rules.specs.Calls.{Calling, begins, drops, call_of, done_of, is_begun, is_dropped, strand_of}
use Rattle.run_rules.specs.Entries.{Entry, entry_from, entry_of, placed_at}
use Rattle.run_rules.specs.MayCome.{MayDo}
use Rattle.run_rules.specs.Legal.{IsLegalSoFar}
use Rattle.run_rules.proofs.CallsLemmas.{strand_of-next}
use Rattle.run_check.specs.After.{is_spent, loose, spot_from, spot_of, waiter_from, waiter_of}
use Rattle.run_check.specs.Entered.{entered_last}
use Rattle.run_check.specs.Following.{place_after, spends, to_place, to_place_with}
use Rattle.run_check.specs.declared.waiting.Waiter.{Waiter}
use Rattle.run_check.proofs.EntryLemmas.{IsOpen, last_open, placed_at-next, placed_below, unplaced}

-- what a line spends is spent behind it
spent_by : (does : Doing) (other : ℕ) → (begins does other || drops does other) ≡ spends does other
spent_by (doing.Begin op what size) other = or_false (op == other)
  where
    or_false : (b : Bool) → (b || false) ≡ b
    or_false true = refl
    or_false false = refl
spent_by (doing.Drop op) other = refl
spent_by _ other = refl

spent_parts : (b d x y : Bool) → ((b || x) || (d || y)) ≡ ((b || d) || (x || y))
spent_parts true d x y = refl
spent_parts false true true y = refl
spent_parts false true false y = refl
spent_parts false false x y = refl

spent-next : (past : List Line) (line : Line) (other : ℕ)
    → is_spent (line ∷ past) other ≡ (spends line.does other || is_spent past other)
spent-next past line other =
    spent_parts (begins line.does other) (drops line.does other) (is_begun past other) (is_dropped past other)
    ∙ ap (λ (b : Bool). b || is_spent past other) (spent_by line.does other)

-- what is to be placed is what the thread submitted last, if that waits on a strand
to_place_other : (entered : Option ℕ) (find : ℕ → Option Waiter) (place other : ℕ) (before : Option (ℕ × ℕ))
    → option_eq nat_eq entered (Some other) ≡ false → place_after (to_place entered find) place other before ≡ before
to_place_other None find place other before not = refl
to_place_other (Some op) find place other before not = by_strand (option_and_then (λ (w : Waiter). w.strand) (find op))
  where
    by_strand : (s : Option ℕ) → place_after (to_place_with op s) place other before ≡ before
    by_strand None = refl
    by_strand (Some strand) = ap (λ (b : Bool). if b then Some (strand, place) else before) not

to_place_this : (entered : Option ℕ) (find : ℕ → Option Waiter) (place other : ℕ) (before : Option (ℕ × ℕ))
    → entered ≡ Some other → (strand : Option ℕ) → option_and_then (λ (w : Waiter). w.strand) (find other) ≡ strand
    → place_after (to_place entered find) place other before ≡ place_after (to_place_with other strand) place other before
to_place_this entered find place other before is strand strand_is =
    ap (λ (o : Option ℕ). place_after (to_place o find) place other before) is
    ∙ ap (λ (s : Option ℕ). place_after (to_place_with other s) place other before) strand_is

some_case : (o : Option Calling) → (o ≡ None) ⊎ IsSome o
some_case None = inl refl
some_case (Some call) = inr refl

of_number : (o : Option ℕ) (op : ℕ) → option_eq nat_eq o (Some op) ≡ true → o ≡ Some op
of_number None op is = cc
of_number (Some n) op is = ap (λ (k : ℕ). Some k) (eqb-true n op is)

no_spot : (spent : Bool) (strand : Option ℕ) → spot_from spent strand None ≡ None
no_spot true strand = refl
no_spot false None = refl
no_spot false (Some s) = refl

none_entry : (e : Entry) → None ≡ Some e → ⊥
none_entry e is = cc

-- an operation that waits: what is kept of it
pub waiter_strand : (past : List Line) (op : ℕ) → is_spent past op ≡ false
    → option_and_then (λ (w : Waiter). w.strand) (waiter_of past op) ≡ strand_of past op
waiter_strand past op unspent = ap (λ (b : Bool). option_and_then (λ (w : Waiter). w.strand)
    (if b then None else option_map (waiter_from (done_of past op)) (call_of past op))) unspent ∙ by_call (call_of past op)
  where
    by_call : (o : Option Calling) → option_and_then (λ (w : Waiter). w.strand) (option_map (waiter_from (done_of past op)) o)
        ≡ option_and_then (λ (call : Calling). call.strand) o
    by_call None = refl
    by_call (Some call) = refl

waiter_spent : (past : List Line) (op : ℕ) → is_spent past op ≡ true
    → option_and_then (λ (w : Waiter). w.strand) (waiter_of past op) ≡ None
waiter_spent past op spent = ap (λ (b : Bool). option_and_then (λ (w : Waiter). w.strand)
    (if b then None else option_map (waiter_from (done_of past op)) (call_of past op))) spent

placed_here : (past : List Line) (line : Line) (other : ℕ) (spent : Bool) → is_spent past other ≡ spent → (strand : Option ℕ)
    → strand_of past other ≡ strand → entered_last past line.thread ≡ Some other → placed_at past other ≡ None
    → spot_from spent strand (Some (length past)) ≡ place_after (to_place (entered_last past line.thread) (waiter_of past))
    (length past) other (spot_of past other)
placed_here past line other true spent strand strand_is entered open_still =
    sym (to_place_this (entered_last past line.thread) (waiter_of past) (length past) other (spot_of past other) entered None
    (waiter_spent past other spent)
    ∙ ap (λ (b : Bool). spot_from b (strand_of past other) (placed_at past other)) spent)
placed_here past line other false unspent None strand_is entered open_still =
    sym (to_place_this (entered_last past line.thread) (waiter_of past) (length past) other (spot_of past other) entered None
    (waiter_strand past other unspent ∙ strand_is)
    ∙ ap (λ (p : Option ℕ). spot_from (is_spent past other) (strand_of past other) p) open_still
    ∙ no_spot (is_spent past other) (strand_of past other))
placed_here past line other false unspent (Some strand) strand_is entered open_still =
    sym (to_place_this (entered_last past line.thread) (waiter_of past) (length past) other (spot_of past other) entered
    (Some strand) (waiter_strand past other unspent ∙ strand_is)
    ∙ ap (λ (b : Bool). if b then Some (strand, length past) else spot_of past other) (eq-eqb other other refl))

-- what isn't called has no entry, and so no place
uncalled_no_entry : (past : List Line) (op : ℕ) → IsLegalSoFar loose past → call_of past op ≡ None → entry_of past op ≡ None
uncalled_no_entry past op legal none = ap (λ (o : Option Calling). entry_from o (done_of past op)) none

unspent_spot : (past : List Line) (line : Line) → IsLegalSoFar loose past → MayDo loose past line.thread line.does → (other : ℕ)
    → spot_from (is_spent past other) (strand_of (line ∷ past) other) (placed_at (line ∷ past) other)
    ≡ place_after (to_place (entered_last past line.thread) (waiter_of past)) (length past) other (spot_of past other)
unspent_spot past line legal may other =
    ⊎_elim
    (λ (entered : option_eq nat_eq (entered_last past line.thread) (Some other) ≡ true).
    let last : entered_last past line.thread ≡ Some other = of_number (entered_last past line.thread) other entered in
    let was : IsOpen past line.thread other = last_open loose past legal line.thread other last in
    let called : IsSome (call_of past other) = ⊎_elim (λ none. absurd
    (none_entry was.entry (sym (uncalled_no_entry past other legal none) ∙ was.entered))) (λ is. is)
    (some_case (call_of past other)) in
    ap (λ (s : Option ℕ). spot_from (is_spent past other) s (placed_at (line ∷ past) other))
    (strand_of-next loose past line other may called)
    ∙ ap (λ (p : Option ℕ). spot_from (is_spent past other) (strand_of past other) p)
    (placed_at-next loose past line legal other ∙ ap (λ (b : Bool). if b then Some (length past) else placed_at past other)
    entered)
    ∙ placed_here past line other (is_spent past other) refl (strand_of past other) refl last was.open_still)
    (λ (not : option_eq nat_eq (entered_last past line.thread) (Some other) ≡ false).
    let placed : placed_at (line ∷ past) other ≡ placed_at past other = placed_at-next loose past line legal other
    ∙ ap (λ (b : Bool). if b then Some (length past) else placed_at past other) not in
    let kept : spot_from (is_spent past other) (strand_of (line ∷ past) other) (placed_at (line ∷ past) other)
    ≡ spot_of past other =
    ap (λ (p : Option ℕ). spot_from (is_spent past other) (strand_of (line ∷ past) other) p) placed
    ∙ ⊎_elim
    (λ none. let nowhere : placed_at past other ≡ None =
    unplaced loose past legal other (uncalled_no_entry past other legal none) in
    ap (λ (p : Option ℕ). spot_from (is_spent past other) (strand_of (line ∷ past) other) p) nowhere
    ∙ no_spot (is_spent past other) (strand_of (line ∷ past) other)
    ∙ sym (ap (λ (p : Option ℕ). spot_from (is_spent past other) (strand_of past other) p) nowhere
    ∙ no_spot (is_spent past other) (strand_of past other)))
    (λ called. ap (λ (s : Option ℕ). spot_from (is_spent past other) s (placed_at past other))
    (strand_of-next loose past line other may called)) (some_case (call_of past other)) in
    kept ∙ sym (to_place_other (entered_last past line.thread) (waiter_of past) (length past) other (spot_of past other) not))
    (cases_Bool (option_eq nat_eq (entered_last past line.thread) (Some other)))

-- where an operation stands behind a line
pub spot_of-next : (past : List Line) (line : Line) → IsLegalSoFar loose past → MayDo loose past line.thread line.does → (other : ℕ)
    → spot_of (line ∷ past) other ≡ (if spends line.does other then None else place_after
    (to_place (entered_last past line.thread) (waiter_of past)) (length past) other (spot_of past other))
spot_of-next past line legal may other =
    ap (λ (b : Bool). spot_from b (strand_of (line ∷ past) other) (placed_at (line ∷ past) other)) (spent-next past line other)
    ∙ by_test (spends line.does other)
  where
    by_test : (b : Bool) → spot_from (b || is_spent past other) (strand_of (line ∷ past) other) (placed_at (line ∷ past) other)
        ≡ (if b then None else place_after (to_place (entered_last past line.thread) (waiter_of past)) (length past) other
        (spot_of past other))
    by_test true = refl
    by_test false = unspent_spot past line legal may other

-- what is to be placed stands nowhere, and nothing stands at that place
pub unplaced_yet : (past : List Line) → IsLegalSoFar loose past → (thread op : ℕ) → entered_last past thread ≡ Some op
    → spot_of past op ≡ None
unplaced_yet past legal thread op is =
    ap (λ (p : Option ℕ). spot_from (is_spent past op) (strand_of past op) p)
    (last_open loose past legal thread op is).open_still ∙ no_spot (is_spent past op) (strand_of past op)

spot_place : (spent : Bool) (strand place : Option ℕ) (s p : ℕ) → spot_from spent strand place ≡ Some (s, p) → place ≡ Some p
spot_place true strand place s p is = cc
spot_place false None place s p is = cc
spot_place false (Some strand) None s p is = cc
spot_place false (Some strand) (Some place) s p is = ap (λ (q : ℕ × ℕ). Some q.1) (pairs (strand, place) (s, p) is)
  where
    pairs : (a b : ℕ × ℕ) → Some a ≡ Some b → a ≡ b
    pairs a b e = cc

pub unused_yet : (past : List Line) (other strand : ℕ) → spot_of past other ≡ Some (strand, length past) → ⊥
unused_yet past other strand is =
    let below : length past < length past = placed_below past other (length past)
    (spot_place (is_spent past other) (strand_of past other) (placed_at past other) strand (length past) is) in
    absurd (omega arith)
