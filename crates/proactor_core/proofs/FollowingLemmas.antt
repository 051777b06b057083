-- The calls of the tables and the definitions of a history.
use Rattle.std.proofs.Common.{◌≡◌, ℕ, ◌==◌, nat_eq, Bool, true, false, not, cond, List, [], ◌∷◌, ◌++◌, Option, Some, None, length, map, get_or, set, replicate, find, bit_and, zero, suc, refl, ap, sym, ◌∙◌, arith}
use Rattle.std.specs.Bool.{OnFalse, OnTrue}
use Rattle.std.specs.Option.{IsSomeAnd}
use Rattle.std.proofs.lemmas.Bool.{false_from_ne_true}
use Rattle.std.proofs.lemmas.Bool.Decides.{nat_tests}
use Rattle.std.proofs.lemmas.List.{append-nil, map-set}
use Rattle.std.proofs.lemmas.Nat.{and_comm}
use Rattle.stream_rules.specs.declared.queue.Completion.{Completion}
use Rattle.session_script.specs.declared.act.Act.{Act}
use Rattle.session_script.specs.Script.{ScriptModel, act_of}
use Rattle.cancel_slots.specs.declared.connection.Connection.{Connection}
use Rattle.cancel_slots.specs.Slots.{chosen_by, connection_of}
use Rattle.history_rules.specs.Kinds.{filter_of, supported_by}
use Rattle.history_rules.specs.Performing.{connected, emitted, emitted_to, is_wait_of, one_wait_cancelled, operation_cancelled}
use Rattle.history_rules.specs.Requests.{disconnected, released}
use Rattle.history_rules.specs.State.{ReactorHalf, first_reactor}
use Rattle.history_rules.specs.declared.wait.Wait.{Wait}
use Rattle.proactor_core.specs.Following.{FollowsHistories, IsConnected, chosen_cancelled}
use Rattle.proactor_core.specs.Tables.{TableState, left_by, op_in, slot_left, slot_taken, with_tables}
use Rattle.proactor_core.specs.Waits.{abort_of_one, without_one}

-- other slots, or other completions, and nothing else
slots-same : (half : ReactorHalf) (a b : List (Option ℕ)) → a ≡ b →
    record half { slots = a } ≡ record half { slots = b }
slots-same half a b e = let f : List (Option ℕ) → ReactorHalf = λ slots. record half { slots = slots } in ap f e

due-same : (half : ReactorHalf) (a b : List Completion) → a ≡ b → record half { due = a } ≡ record half { due = b }
due-same half a b e = let f : List Completion → ReactorHalf = λ due. record half { due = due } in ap f e

first-found : (s : TableState) (half : ReactorHalf) (found : Option Wait) →
    with_tables
    (record s {
      waiting = without_one found s.waiting;
      due = record { coming = s.due.coming ++ abort_of_one found s.waiting; spare = 0 };
    }) half ≡ one_wait_cancelled found (with_tables s half)
first-found s half None = due-same (with_tables s half) (s.due.coming ++ []) s.due.coming (append-nil s.due.coming)
first-found s half (Some wait) = refl

connects : (s : TableState) (half : ReactorHalf) (slot : Option ℕ) (op types : ℕ) →
    with_tables (slot_taken slot op types s) half ≡ connected slot op (with_tables s half)
connects s half None op types = refl
connects s half (Some slot) op types =
    let there : Option Connection = Some (record { op = op; supported = types }) in
    slots-same (with_tables s half) (map op_in (set s.slots slot there)) (set (map op_in s.slots) slot (Some op))
    (map-set op_in s.slots slot there)

left-step : (op : ℕ) (there : Connection) (t : Bool) → op_in (cond t None (Some there)) ≡ cond t None (Some there.op)
left-step op there true = refl
left-step op there false = refl

left-released : (op : ℕ) (there : Option Connection) → op_in (left_by op there) ≡ released op (op_in there)
left-released op None = refl
left-released op (Some there) = left-step op there (there.op == op)

pub seen-at : (slots : List (Option Connection)) (slot : ℕ) →
    op_in (connection_of slots slot) ≡ get_or (map op_in slots) slot None
seen-at [] slot = refl
seen-at (there ∷ slots) zero = refl
seen-at (there ∷ slots) (suc slot) = seen-at slots slot

leaves : (s : TableState) (half : ReactorHalf) (slot : Option ℕ) (op : ℕ) →
    with_tables (slot_left slot op s) half ≡ disconnected op slot (with_tables s half)
leaves s half None op = refl
leaves s half (Some slot) op =
    let there : Option Connection = left_by op (connection_of s.slots slot) in
    slots-same (with_tables s half) (map op_in (set s.slots slot there))
    (set (map op_in s.slots) slot (released op (get_or (map op_in s.slots) slot None)))
    (map-set op_in s.slots slot there
    ∙ ap (set (map op_in s.slots) slot)
    (left-released op (connection_of s.slots slot) ∙ ap (released op) (seen-at s.slots slot)))

emit-step : (script : ScriptModel) (half : ReactorHalf) (op : ℕ) (act : Act) (t : Bool) → act_of script op ≡ Some act →
    cond (not t) (operation_cancelled act op half) half ≡ chosen_cancelled script (cond t None (Some op)) half
emit-step script half op act true is = refl
emit-step script half op act false is = rw is refl

emits : (script : ScriptModel) (half : ReactorHalf) (there : Option Connection) (types : ℕ) → IsConnected script there →
    emitted script (op_in there) types half ≡ chosen_cancelled script (chosen_by there types) half
emits script half None types is = refl
emits script half (Some there) types is =
    let act : Act = is.0 in
    let known : act_of script there.op ≡ Some act = is.1 in
    let same : bit_and there.supported types ≡ bit_and types (bit_and (supported_by act) (filter_of act)) =
    ap (λ n. bit_and n types) is.2 ∙ and_comm (bit_and (supported_by act) (filter_of act)) types in
    ap (λ found. emitted_to found types there.op half) known
    ∙ emit-step script half there.op act (nat_eq (bit_and types (bit_and (supported_by act) (filter_of act))) 0) known
    ∙ ap (λ n. chosen_cancelled script (cond (nat_eq n 0) None (Some there.op)) half) (sym same)

pub follows : (script : ScriptModel) (s : TableState) (half : ReactorHalf) → FollowsHistories script s half
follows script s half = record {
  wait = λ op timer. refl;
  expiry = λ timer expiry. refl;
  cancel = λ timer. refl;
  cancel_one = λ timer. first-found s half (find (is_wait_of timer) s.waiting.waits);
  cancel_wait = λ op. refl;
  connect = connects s half;
  disconnect = leaves s half;
  emit = λ there types is. emits script (with_tables s half) there types is;
  release = λ guard. refl;
  take = λ a. refl;
  settle = refl;
  fault = refl;
}

map-none : (n : ℕ) → map op_in (replicate n None) ≡ replicate n None
map-none zero = refl
map-none (suc n) = ap (λ slots. None ∷ slots) (map-none n)

-- new tables are those before anything was taken
pub starts : (script : ScriptModel) (told : Bool) (s : TableState) → s.taken ≡ replicate (length script.acts) false →
    s.accepted ≡ 0 → s.time ≡ 0 → s.waiting.expiries ≡ replicate script.timers 0 → s.waiting.waits ≡ [] →
    s.slots ≡ replicate script.slots None → s.guards ≡ replicate script.guards true → s.last ≡ false →
    s.failed ≡ false → s.due.coming ≡ [] → with_tables s (first_reactor script told) ≡ first_reactor script told
starts script told s taken accepted time expiries waits slots guards last failed coming =
    let seen = ap (map op_in) slots ∙ map-none script.slots in
    rw (taken, accepted, time, expiries, waits, seen, guards, last, failed, coming) refl

set-same : (slots : List (Option Connection)) (slot : ℕ) → set slots slot (connection_of slots slot) ≡ slots
set-same [] slot = refl
set-same (there ∷ slots) zero = refl
set-same (there ∷ slots) (suc slot) = ap (λ rest. there ∷ rest) (set-same slots slot)

-- what `clear_if` answers
clear-step : (op : ℕ) (there : Option Connection) (r : Bool) → (r ≡ true → IsSomeAnd there (λ c. c.op ≡ op)) →
    (IsSomeAnd there (λ c. c.op ≡ op) → r ≡ true) → left_by op there ≡ cond r None there
clear-step op None true gone stays = absurd (gone refl)
clear-step op None false gone stays = refl
clear-step op (Some there) true gone stays =
    let same : there.op ≡ op = gone refl in
    let test : (there.op == op) ≡ true = grind (arith, nat_tests) in
    rw test refl
clear-step op (Some there) false gone stays =
    let test : (there.op == op) ≡ false =
    false_from_ne_true (there.op == op)
    (λ e. let same : there.op ≡ op = grind (arith, nat_tests) in let is : false ≡ true = stays same in absurd (cc)) in
    rw test refl

cleared-step : (slots left : List (Option Connection)) (slot : ℕ) (r : Bool) → OnTrue r (left ≡ set slots slot None) →
    OnFalse r (left ≡ slots) → left ≡ set slots slot (cond r None (connection_of slots slot))
cleared-step slots left slot true cleared same = cleared
cleared-step slots left slot false cleared same = same ∙ sym (set-same slots slot)

pub clears : (slots left : List (Option Connection)) (slot op : ℕ) (r : Bool) →
    (r ≡ true → IsSomeAnd (connection_of slots slot) (λ c. c.op ≡ op)) →
    (IsSomeAnd (connection_of slots slot) (λ c. c.op ≡ op) → r ≡ true) → OnTrue r (left ≡ set slots slot None) →
    OnFalse r (left ≡ slots) → left ≡ set slots slot (left_by op (connection_of slots slot))
clears slots left slot op r gone stays cleared same =
    cleared-step slots left slot r cleared same
    ∙ ap (set slots slot) (sym (clear-step op (connection_of slots slot) r gone stays))
