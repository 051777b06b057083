-- One call more counts once, and takes of the room that is left.
use Rattle.std.proofs.Common.{arith, ap, refl, subst, sym, ◌∙◌}
use Rattle.std.proofs.lemmas.Bool.{ltb-true}
use Rattle.std.proofs.lemmas.List.{length_push}
use Rattle.std.specs.Prelude.{◌≡◌, ◌<◌, ◌≤◌, ℕ, suc, ◌+◌, Bool, true, false, List, [], ◌∷◌, ◌++◌, Some, length}
use Rattle.io_rules.specs.declared.name.Kind.TheVariants as kind
use Rattle.io_rules.specs.Room.{one_if}
use Rattle.io_rules.specs.Spares.{without_spare}
use Rattle.io_handlers.specs.declared.staged.Initiating.{Initiating}
use Rattle.io_handlers.specs.declared.staged.Staged.{Staged}
use Rattle.io_handlers.specs.declared.staged.Staged.TheVariants as staged
use Rattle.io_rules.specs.declared.control.Control.{Control}
use Rattle.io_rules.specs.declared.name.Name.{Name}
use Rattle.io_rules.specs.declared.spares.Spares.{Spares}
use Rattle.io_handlers.specs.Initiated.{AreMade, AreOffered, HasRoom, Initiated, IsMade, IsMadeOf, IsOffered, IsOfferedCall, IsRoomFor, MayChange, MayInitiate, called, changed, made_strand, delayed, is_offered_change, left_by, left_by_all, operations_in, operations_of, room_after, spares_made}

pub operations_in-last : {H S : Type 0} (calls : List (Staged H S)) (call : Staged H S) →
    operations_in (calls ++ call ∷ []) ≡ operations_in calls + operations_of call
operations_in-last [] call = omega arith
operations_in-last (first ∷ calls) call =
    let rest = operations_in-last calls call in omega (arith, rest)

pub are_offered-last : {H S : Type 0} (calls : List (Staged H S)) (call : Staged H S) → AreOffered calls → IsOffered call →
    AreOffered (calls ++ call ∷ [])
are_offered-last [] call are is = (is, tt)
are_offered-last (first ∷ calls) call are is = (are.0, are_offered-last calls call are.1 is)

-- what is left behind one operation more
room_taken : (first : Bool) (room : ℕ) → IsRoomFor first room →
    suc (room_after first room) ≤ room + one_if first
room_taken true room is = omega arith
room_taken false room is = let lt = ltb-true 0 room is in omega (arith, lt)

-- one more fits into the memory
pub room_left : {H S : Type 0} (capacity states : ℕ) (i : Initiated H S) → HasRoom capacity states i → MayInitiate i →
    length i.staged < capacity
room_left capacity states i has may =
    let taken = room_taken i.first i.room may.room in let calls = has.calls in let anew = has.anew in
    omega (arith, taken, calls, anew)

are_made-last : {H S : Type 0} (calls : List (Staged H S)) (call : Staged H S) (kept : Spares) → AreMade calls kept →
    IsMade call (left_by_all calls kept) → AreMade (calls ++ call ∷ []) kept
are_made-last [] call kept are is = (is, tt)
are_made-last (first ∷ calls) call kept are is = (are.0, are_made-last calls call (left_by first kept) are.1 is)

left-last : {H S : Type 0} (calls : List (Staged H S)) (call : Staged H S) (kept : Spares) →
    left_by_all (calls ++ call ∷ []) kept ≡ left_by call (left_by_all calls kept)
left-last [] call kept = refl
left-last (first ∷ calls) call kept = left-last calls call (left_by first kept)

-- what a call makes has one of the names that are left
made_left : {H S : Type 0} (i : Initiated H S) (call : Staged H S) → i.spares ≡ left_by_all i.staged i.kept →
    IsMade call i.spares → IsMade call (left_by_all i.staged i.kept)
made_left i call left is = subst (IsMade call) left is

pub has_room-called : {H S : Type 0} (capacity states : ℕ) (i : Initiated H S) (call : Initiating H) →
    HasRoom capacity states i → MayInitiate i → IsOfferedCall call → HasRoom capacity states (called call i)
has_room-called capacity states i call has may is =
    let longer = length_push i.staged (staged.Called call) in
    let counted = operations_in-last i.staged (staged.Called call) in
    let taken = room_taken i.first i.room may.room in
    let places = may.places in
    record {
      calls = omega (arith, longer, taken, has.calls);
      anew = has.anew;
      retiring = has.retiring;
      granted = omega (arith, counted, places, has.granted);
      offered = are_offered-last i.staged (staged.Called call) has.offered is;
      made = are_made-last i.staged (staged.Called call) i.kept has.made tt;
      left = has.left ∙ sym (left-last i.staged (staged.Called call) i.kept);
    }

pub has_room-changed : {H S : Type 0} (capacity states : ℕ) (i : Initiated H S) (change : Control) →
    HasRoom capacity states i → MayChange i → is_offered_change change ≡ true → IsMadeOf change i.spares →
    HasRoom capacity states (changed change i)
has_room-changed capacity states i change has may is made =
    let longer = length_push i.staged (staged.Changed change) in
    let counted = operations_in-last i.staged (staged.Changed change) in
    record {
      calls = omega (arith, longer, may, has.calls);
      anew = has.anew;
      retiring = has.retiring;
      granted = omega (arith, counted, has.granted);
      offered = are_offered-last i.staged (staged.Changed change) has.offered is;
      made = are_made-last i.staged (staged.Changed change) i.kept has.made
          (made_left i (staged.Changed change) has.left made);
      left = ap (spares_made change) has.left ∙ sym (left-last i.staged (staged.Changed change) i.kept);
    }

pub has_room-made : {H S : Type 0} (capacity states : ℕ) (i : Initiated H S) (name : Name) (state : S) →
    HasRoom capacity states i → MayChange i → i.spares.strand ≡ Some name →
    HasRoom capacity states (made_strand name state i)
has_room-made capacity states i name state has may is =
    let call = staged.MadeStrand name state in
    let longer = length_push i.staged call in
    let counted = operations_in-last i.staged call in
    record {
      calls = omega (arith, longer, may, has.calls);
      anew = has.anew;
      retiring = has.retiring;
      granted = omega (arith, counted, has.granted);
      offered = are_offered-last i.staged call has.offered tt;
      made = are_made-last i.staged call i.kept has.made (made_left i call has.left is);
      left = ap (without_spare kind.Strand) has.left ∙ sym (left-last i.staged call i.kept);
    }

pub has_room-delayed : {H S : Type 0} (capacity states : ℕ) (i : Initiated H S) (timer : Name) (after : ℕ) →
    HasRoom capacity states i → MayChange i → HasRoom capacity states (delayed timer after i)
has_room-delayed capacity states i timer after has may =
    let call = staged.ExpiresAfter timer after in
    let longer = length_push i.staged call in
    let counted = operations_in-last i.staged call in
    record {
      calls = omega (arith, longer, may, has.calls);
      anew = has.anew;
      retiring = has.retiring;
      granted = omega (arith, counted, has.granted);
      offered = are_offered-last i.staged call has.offered tt;
      made = are_made-last i.staged call i.kept has.made tt;
      left = has.left ∙ sym (left-last i.staged call i.kept);
    }

pub has_room-next : {H S : Type 0} (capacity states : ℕ) (i : Initiated H S) (call : Staged H S) (calls : List (Staged H S)) →
    i.staged ≡ call ∷ calls → HasRoom capacity states i →
    HasRoom capacity states (record i { staged = calls; kept = left_by call i.kept })
has_room-next capacity states i call calls is has =
    let many = ap length is in
    let count = ap operations_in is in
    let made = subst (λ xs. AreMade xs i.kept) is has.made in
    record {
      calls = (let all = has.calls in omega (arith, many, all));
      anew = has.anew;
      retiring = has.retiring;
      granted = (let all = has.granted in omega (arith, count, all));
      offered = (subst AreOffered is has.offered).1;
      made = made.1;
      left = has.left ∙ ap (λ xs. left_by_all xs i.kept) is;
    }
