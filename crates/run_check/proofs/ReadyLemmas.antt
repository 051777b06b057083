-- What is kept of what is ready.
use Rattle.std.proofs.Common.{◌≡◌, ℕ, ◌<◌, List, [], ◌∷◌, ◌++◌, refl, ap, sym, ◌∙◌, length, arith}
use Rattle.std.proofs.lemmas.Bool.{eqb-true}
use Rattle.std.proofs.lemmas.List.{take_min, drop_min}
use Rattle.std.specs.Prelude.{Bool, true, false, ◌==◌, drop, if◌then◌else◌, insert, min, take, Option, Some, None, nat_eq, slice_index_or}
use Rattle.std.specs.List.{list_any}
use Rattle.std.specs.Option.{option_eq, option_map}
use Rattle.run_lines.specs.declared.code.Code.{Code}
use Rattle.run_lines.specs.declared.line.Doing.TheVariants as doing
use Rattle.run_lines.specs.declared.line.Line.{Line}
use Rattle.run_lines.specs.declared.word.Word.{Word}
use Rattle.run_lines.specs.declared.word.Word.TheVariants as word
use Rattle.run_rules.specs.Stacks.{first_of, stack}
use Rattle.run_rules.specs.Calls.{strand_of}
use Rattle.run_rules.specs.Starting.{is_on}
use Rattle.run_rules.specs.Strict.{Ready, ready_called}
use Rattle.run_check.specs.Ready.{change_called, changed}
use Rattle.run_check.specs.Strict.{ChangesReady, changed_on}
use Rattle.run_check.specs.declared.ready.ReadyChange.{ReadyChange}
use Rattle.run_check.specs.declared.ready.ReadyChange.TheVariants as change

pub insert_min : (items : List ℕ) (at op : ℕ) → insert items (min at (length items)) op ≡ insert items at op
insert_min items at op =
    ap (λ (front : List ℕ). front ++ op ∷ drop (min at (length items)) items) (take_min at items)
    ∙ ap (λ (rest : List ℕ). take at items ++ op ∷ rest) (drop_min at items)

pub first_is : (items : List ℕ) (first : ℕ) → 0 < length items → first ≡ slice_index_or items 0 first → Some first ≡ first_of items
first_is [] first some is = absurd (omega arith)
first_is (one ∷ others) first some is = ap Some is

pub none_first : (items : List ℕ) → (0 < length items → ⊥) → None ≡ first_of items
none_first [] none = refl
none_first (one ∷ others) none = absurd (none (omega arith))

-- what a line changes

option_same : (o : Option ℕ) (strand : ℕ) (ready : Ready) (change : ReadyChange)
    → changed_on (option_map (λ s. (s, change)) o) strand ready
    ≡ (if option_eq nat_eq o (Some strand) then changed change ready else ready)
option_same None strand ready change = refl
option_same (Some other) strand ready change = refl

pub done_changes : (past : List Line) (thread op size : ℕ) (what : Code) (o : Option ℕ) (made : Option (ℕ × ReadyChange))
    → o ≡ strand_of past op → made ≡ option_map (λ s. (s, change.Last op)) o
    → ChangesReady past thread (doing.Done op what size) made
done_changes past thread op size what o made is made_is strand ready =
    ap (λ (m : Option (ℕ × ReadyChange)). changed_on m strand ready) made_is
    ∙ option_same o strand ready (change.Last op)
    ∙ ap (λ (s : Option ℕ). if option_eq nat_eq s (Some strand) then changed (change.Last op) ready else ready) is

pub begin_changes : (past : List Line) (thread op size : ℕ) (what : Code) (o : Option ℕ) (made : Option (ℕ × ReadyChange))
    → o ≡ strand_of past op → made ≡ option_map (λ s. (s, change.Gone)) o
    → ChangesReady past thread (doing.Begin op what size) made
begin_changes past thread op size what o made is made_is strand ready =
    ap (λ (m : Option (ℕ × ReadyChange)). changed_on m strand ready) made_is
    ∙ option_same o strand ready change.Gone
    ∙ ap (λ (s : Option ℕ). if option_eq nat_eq s (Some strand) then changed change.Gone ready else ready) is

some_change : (a b : ReadyChange) → Some a ≡ Some b → a ≡ b
some_change a b e = cc

called_on : (inside : Bool) (how : Word) (op : ℕ) (ready : Ready) (made : ReadyChange)
    → change_called inside how op ≡ Some made → changed made ready ≡ ready_called inside how op ready
called_on inside word.Post op ready made is = ap (λ (c : ReadyChange). changed c ready) (some_change made (change.Last op) (sym is))
called_on inside word.Defer op ready made is = ap (λ (c : ReadyChange). changed c ready) (some_change made (change.Last op) (sym is))
called_on true word.Dispatch op ready made is = ap (λ (c : ReadyChange). changed c ready) (some_change made (change.First op) (sym is))
called_on false word.Dispatch op ready made is = ap (λ (c : ReadyChange). changed c ready) (some_change made (change.Last op) (sym is))
called_on inside (word.Other letters) op ready made is = cc

uncalled_on : (inside : Bool) (how : Word) (op : ℕ) (ready : Ready)
    → change_called inside how op ≡ None → ready ≡ ready_called inside how op ready
uncalled_on inside word.Post op ready is = cc
uncalled_on inside word.Defer op ready is = cc
uncalled_on true word.Dispatch op ready is = cc
uncalled_on false word.Dispatch op ready is = cc
uncalled_on inside (word.Other letters) op ready is = refl

pub call_changes : (past : List Line) (thread op context other : ℕ) (how : Word) (thing : Option ℕ) (inside : Bool)
    (made : ReadyChange) → inside ≡ list_any (is_on past other) (stack past thread) → change_called inside how op ≡ Some made
    → ChangesReady past thread (doing.Call op how context (Some other) thing) (Some (other, made))
call_changes past thread op context other how thing inside made is called strand ready =
    by_strand (other == strand) refl
  where
    here : other ≡ strand → inside ≡ list_any (is_on past strand) (stack past thread)
    here same = is ∙ ap (λ (s : ℕ). list_any (is_on past s) (stack past thread)) same

    by_strand : (b : Bool) → (other == strand) ≡ b → (if b then changed made ready else ready)
        ≡ (if b then ready_called (list_any (is_on past strand) (stack past thread)) how op ready else ready)
    by_strand true e = called_on inside how op ready made called
        ∙ ap (λ (b : Bool). ready_called b how op ready) (here (eqb-true other strand e))
    by_strand false e = refl

pub call_changes_none : (past : List Line) (thread op context other : ℕ) (how : Word) (thing : Option ℕ) (inside : Bool)
    → inside ≡ list_any (is_on past other) (stack past thread) → change_called inside how op ≡ None
    → ChangesReady past thread (doing.Call op how context (Some other) thing) None
call_changes_none past thread op context other how thing inside is called strand ready =
    by_strand (other == strand) refl
  where
    here : other ≡ strand → inside ≡ list_any (is_on past strand) (stack past thread)
    here same = is ∙ ap (λ (s : ℕ). list_any (is_on past s) (stack past thread)) same

    by_strand : (b : Bool) → (other == strand) ≡ b → ready
        ≡ (if b then ready_called (list_any (is_on past strand) (stack past thread)) how op ready else ready)
    by_strand true e = uncalled_on inside how op ready called
        ∙ ap (λ (b : Bool). ready_called b how op ready) (here (eqb-true other strand e))
    by_strand false e = refl
