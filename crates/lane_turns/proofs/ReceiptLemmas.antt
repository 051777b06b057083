-- Looks at the cells of a lane one after another.
use Rattle.std.proofs.Common.{◌≡◌, ◌≢◌, ℕ, zero, suc, ◌+◌, ◌<◌, ◌≤◌, Bool, true, false, List, [], ◌∷◌, ◌++◌, Option, Some, None, length, refl, sym, ap, subst, ◌∙◌, arith, length-append}
use Rattle.std.specs.Prelude.{◌||◌, not, IfSome}
use Rattle.std.specs.List.{list_any}
use Rattle.std.proofs.lemmas.Bool.{and_parts}
use Rattle.std.proofs.lemmas.List.{append_assoc}
use Rattle.std.proofs.lemmas.List.Folds.{list_any-append}
use mathlib.Core.Option.{some, some-injective, some-ne-none}
use lib.ListN.{get_elem?}
use Rattle.session_script.specs.Script.{ScriptModel, is_op}
use Rattle.session_script.specs.Lanes.{is_inline}
use Rattle.lane_clock.specs.declared.note.Note.{Note}
use Rattle.lane_clock.specs.declared.step.ClockStep.{ClockStep}
use Rattle.lane_clock.specs.declared.step.ClockStep.TheVariants.{Look}
use Rattle.lane_clock.specs.Knowledge.{StartOf}
use Rattle.lane_clock.specs.Seats.{own}
use Rattle.lane_map.specs.LaneNumbers.{has_cell, reactor_lane}
use Rattle.lane_logs.specs.declared.receipt.Receipt.{Receipt}
use Rattle.lane_logs.specs.Labels.{silent, steps_in}
use Rattle.lane_logs.specs.Receipts.{IsReceiptOf, holds_op, note_of}
use Rattle.lane_logs.proofs.LabelLemmas.{steps-append}
use Rattle.lane_turns.specs.Pens.{HasGone, PenView}
use Rattle.lane_turns.specs.Receipts.{FindsIn, HasFound, HasFoundNone, SeatHasGone, looks_from}
use Rattle.lane_turns.specs.Scanning.{SeatGoesOn}
use Rattle.lane_turns.specs.Workers.{WorkerView}
use Rattle.lane_turns.proofs.CutLemmas.{at_back, at_start}
use Rattle.lane_turns.proofs.LookedLemmas.{looks_draw_none, looks_show_none}
use Rattle.lane_turns.proofs.PenLemmas.{gone_nowhere, gone_on}
use Rattle.lane_turns.proofs.ScanLemmas.{seat_gone}

-- one look more
looks_more : (lane place at : ℕ) (seen : List (Option Note)) (held : Option Note) → at ≡ place + length seen →
    looks_from lane place (seen ++ held ∷ []) ≡ looks_from lane place seen ++ silent (Look lane at held) ∷ []
looks_more lane place at [] held is =
    let same : place ≡ at = omega (arith, is) in ap (λ p. silent (Look lane p held) ∷ []) same
looks_more lane place at (first ∷ seen) held is =
    ap (λ labels. silent (Look lane place first) ∷ labels) (looks_more lane (place + 1) at seen held (omega (arith, is)))

look_on : (lane at : ℕ) (seen : List (Option Note)) (held : Option Note) (a b c : PenView) → length seen ≡ at →
    HasGone (looks_from lane 0 seen) a b → HasGone (silent (Look lane at held) ∷ []) b c →
    HasGone (looks_from lane 0 (seen ++ held ∷ [])) a c
look_on lane at seen held a b c count first second =
    subst (λ labels. HasGone labels a c) (sym (looks_more lane 0 at seen held (omega (arith, count))))
    (gone_on (looks_from lane 0 seen) (silent (Look lane at held) ∷ []) a b c first second)

-- at the first cell none was looked at
pub found_none_yet : (lane op : ℕ) (pen : PenView) → HasFoundNone HasGone lane 0 op pen pen
found_none_yet lane op pen =
    record { seen = []; all = refl; others = record { none = refl; gone = gone_nowhere pen } }

or_both : (a b : Bool) → a ≡ false → b ≡ false → (a || b) ≡ false
or_both a b first second = ap (λ c. c || b) first ∙ second

pub other_more : (lane at op : ℕ) (held : Option Note) (a b c : PenView) → HasFoundNone HasGone lane at op a b →
    HasGone (silent (Look lane at held) ∷ []) b c → holds_op op held ≡ false →
    HasFoundNone HasGone lane (at + 1) op a c
other_more lane at op held a b c it looked other =
    record {
      seen = it.seen ++ held ∷ [];
      all = length-append it.seen (held ∷ []) ∙ ap (λ n. n + 1) it.all;
      others = record {
        none =
            list_any-append (holds_op op) it.seen (held ∷ [])
            ∙ or_both (list_any (holds_op op) it.seen) (list_any (holds_op op) (held ∷ [])) it.others.none
            (or_both (holds_op op held) false other refl);
        gone = look_on lane at it.seen held a b c it.all it.others.gone looked;
      };
    }

pub has_found : (lane at op : ℕ) (held : Option Note) (receipt : Receipt) (a b c : PenView) →
    HasFoundNone HasGone lane at op a b → HasGone (silent (Look lane at held) ∷ []) b c →
    held ≡ Some (note_of receipt) → receipt.place ≡ at → receipt.op ≡ op → HasFound HasGone lane op receipt a c
has_found lane at op held receipt a b c it looked is place same =
    record {
      others = it.seen;
      none = it.others.none;
      place = place ∙ sym it.all;
      same = same;
      gone =
          subst (λ h. HasGone (looks_from lane 0 (it.seen ++ h ∷ [])) a c) is
          (look_on lane at it.seen held a b c it.all it.others.gone looked);
    }

-- a worker finds what its pen does, and the other way round
pub seat_finds : (lane cells op : ℕ) (answer : Option Receipt) (a b : WorkerView) → b.round ≡ a.round →
    b.drew ≡ a.drew → b.stopped ≡ a.stopped → b.in_step ≡ a.in_step →
    FindsIn HasGone lane cells op answer a.pen b.pen →
    FindsIn SeatHasGone lane cells op answer a b
seat_finds lane cells op (Some receipt) a b round drew was_stopped step found =
    record {
      others = found.others;
      none = found.none;
      place = found.place;
      same = found.same;
      gone = record { gone = found.gone; round = round; drew = drew; stopped = was_stopped; in_step = step };
    }
seat_finds lane cells op None a b round drew was_stopped step found =
    record {
      seen = found.seen;
      all = found.all;
      others = record {
        none = found.others.none;
        gone = record {
          gone = found.others.gone;
          round = round;
          drew = drew;
          stopped = was_stopped;
          in_step = step;
        };
      };
    }

pub pen_finds : (lane cells op : ℕ) (answer : Option Receipt) (a b : WorkerView) →
    FindsIn SeatHasGone lane cells op answer a b → FindsIn HasGone lane cells op answer a.pen b.pen
pen_finds lane cells op (Some receipt) a b found =
    record {
      others = found.others;
      none = found.none;
      place = found.place;
      same = found.same;
      gone = found.gone.gone;
    }
pen_finds lane cells op None a b found =
    record {
      seen = found.seen;
      all = found.all;
      others = record { none = found.others.none; gone = found.others.gone.gone };
    }

-- whatever it found, it looked at the first cells of the lane
pub finds_gone : (lane cells op : ℕ) (answer : Option Receipt) (a b : PenView) →
    FindsIn HasGone lane cells op answer a b → (seen : List (Option Note)) × HasGone (looks_from lane 0 seen) a b
finds_gone lane cells op (Some receipt) a b found = (found.others ++ Some (note_of receipt) ∷ [], found.gone)
finds_gone lane cells op None a b found = (found.seen, found.others.gone)

-- so whoever looked has the receipt
found_receipt : (script : ScriptModel) (lane op : ℕ) (receipt : Receipt) (a b : PenView) → lane ≢ reactor_lane script →
    HasFound HasGone lane op receipt a b → IsReceiptOf script (own b.seat) receipt
found_receipt script lane op receipt a b off it =
    let front : List ClockStep = own a.seat ++ steps_in (looks_from lane 0 it.others) in
    let last : ClockStep = Look lane receipt.place (Some (note_of receipt)) in
    let all : own b.seat ≡ front ++ last ∷ [] =
    it.gone.steps
    ∙ ap (λ labels. own a.seat ++ steps_in labels)
    (looks_more lane 0 receipt.place it.others (Some (note_of receipt)) (omega (arith, it.place)))
    ∙ ap (λ steps. own a.seat ++ steps) (steps-append (looks_from lane 0 it.others) (silent last ∷ []))
    ∙ sym (append_assoc (own a.seat) (steps_in (looks_from lane 0 it.others)) (last ∷ [])) in
    record {
      at = length front + 0;
      lane = lane;
      off = off;
      saw =
          subst (λ steps. get_elem? steps (length front + 0) ≡ some last) (sym all) (at_back front (last ∷ []) 0);
    }

pub finds_receipt : (script : ScriptModel) (lane cells op : ℕ) (answer : Option Receipt) (a b : PenView) →
    lane < reactor_lane script → FindsIn HasGone lane cells op answer a b →
    IfSome answer (λ receipt. IsReceiptOf script (own b.seat) receipt)
finds_receipt script lane cells op (Some receipt) a b less found =
    found_receipt script lane op receipt a b (λ same. absurd (omega (arith, same, less))) found
finds_receipt script lane cells op None a b less found = tt

pub finds_op : (lane cells op : ℕ) (answer : Option Receipt) (a b : PenView) →
    FindsIn HasGone lane cells op answer a b → IfSome answer (λ receipt. receipt.op ≡ op)
finds_op lane cells op (Some receipt) a b found = found.same
finds_op lane cells op None a b found = tt

-- and keeps it
pub receipt_stays : (script : ScriptModel) (steps longer : List ClockStep) (receipt : Receipt) → StartOf steps longer →
    IsReceiptOf script steps receipt → IsReceiptOf script longer receipt
receipt_stays script steps longer receipt more is =
    record {
      at = is.at;
      lane = is.lane;
      off = is.off;
      saw =
          at_start steps longer is.at (Look is.lane receipt.place (Some (note_of receipt))) more is.saw;
    }

-- a worker that looked goes on
looked_through : (lane : ℕ) (seen : List (Option Note)) (a b : WorkerView) → SeatHasGone (looks_from lane 0 seen) a b →
    SeatGoesOn a b
looked_through lane seen a b gone =
    seat_gone (looks_from lane 0 seen) a b gone (looks_draw_none lane 0 seen) (looks_show_none lane 0 seen)

pub finds_on : (lane cells op : ℕ) (answer : Option Receipt) (a b : WorkerView) →
    FindsIn SeatHasGone lane cells op answer a b → SeatGoesOn a b
finds_on lane cells op (Some receipt) a b found =
    looked_through lane (found.others ++ Some (note_of receipt) ∷ []) a b found.gone
finds_on lane cells op None a b found = looked_through lane found.seen a b found.others.gone

-- who has a cell is an operation
pub cell_op : (script : ScriptModel) (op : ℕ) → has_cell script op ≡ true → is_op script op ≡ true
cell_op script op has = (and_parts (is_op script op) (not (is_inline script op)) has).0

-- what a look of some saw
seen_at : (lane place : ℕ) (seen : List (Option Note)) (k : ℕ) (held : Option Note) → get_elem? seen k ≡ some held →
    get_elem? (steps_in (looks_from lane place seen)) k ≡ some (Look lane (place + k) held)
seen_at lane place [] k held at = absurd (some-ne-none held (sym at))
seen_at lane place (first ∷ seen) zero held at =
    ap some
    (ap (Look lane place) (some-injective first held at)
    ∙ ap (λ p. Look lane p held) (let same : place ≡ place + zero = omega arith in same))
seen_at lane place (first ∷ seen) (suc k) held at =
    seen_at lane (place + 1) seen k held at
    ∙ ap (λ p. some (Look lane p held)) (let same : place + 1 + k ≡ place + suc k = omega arith in same)

none_of : (op : ℕ) (seen : List (Option Note)) (k : ℕ) → k < length seen → list_any (holds_op op) seen ≡ false →
    (held : Option Note) × (get_elem? seen k ≡ some held) × (holds_op op held ≡ false)
none_of op [] k within none = absurd (omega (arith, within))
none_of op (held ∷ seen) zero within none = (held, refl, first_false (holds_op op held) (list_any (holds_op op) seen) none)
  where
    first_false : (a b : Bool) → (a || b) ≡ false → a ≡ false
    first_false true b is = absurd (cc is)
    first_false false b is = refl
none_of op (held ∷ seen) (suc k) within none =
    none_of op seen k (omega (arith, within)) (second_false (holds_op op held) (list_any (holds_op op) seen) none)
  where
    second_false : (a b : Bool) → (a || b) ≡ false → b ≡ false
    second_false true b is = absurd (cc is)
    second_false false b is = is

-- who found none looked at each cell in vain, behind all that had been done
pub none_at : (lane cells op : ℕ) (a b : PenView) → HasFoundNone HasGone lane cells op a b → (place : ℕ) →
    place < cells →
    (at : ℕ) × (held : Option Note) × (length (own a.seat) ≤ at)
    × (get_elem? (own b.seat) at ≡ some (Look lane place held)) × (holds_op op held ≡ false)
none_at lane cells op a b found place less =
    let one = none_of op found.seen place (omega (arith, less, found.all)) found.others.none in (
      length (own a.seat) + place,
      one.0,
      omega arith,
      ap (λ steps. get_elem? steps (length (own a.seat) + place)) found.others.gone.steps
          ∙ at_back (own a.seat) (steps_in (looks_from lane 0 found.seen)) place
          ∙ seen_at lane 0 found.seen place one.0 one.1
          ∙ ap (λ p. some (Look lane p one.0)) (let same : 0 + place ≡ place = omega arith in same),
      one.2,
    )
