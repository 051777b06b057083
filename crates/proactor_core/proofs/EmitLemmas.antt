-- What an emit reaches.
use Rattle.std.proofs.Common.{◌≡◌, ℕ, ◌<◌, nat_eq, Bool, true, false, cond, List, Option, Some, None, length, map, get_or, inl, inr, sym, ap, subst, ◌∙◌, arith}
use Rattle.std.specs.Prelude.{bit_and}
use Rattle.std.proofs.lemmas.Bool.{cases_lt}
use Rattle.cancel_slots.specs.declared.connection.Connection.{Connection}
use Rattle.cancel_slots.specs.Slots.{chosen_by, connection_of}
use Rattle.session_script.specs.Script.{ScriptModel}
use Rattle.history_rules.specs.Performing.{emitted}
use Rattle.history_rules.specs.State.{ReactorHalf}
use Rattle.reactor_trait.specs.Reactor.{Outside}
use Rattle.proactor_core.specs.Following.{IsConnected, chosen_cancelled}
use Rattle.proactor_core.specs.Proactor.{IsAt, ProactorView}
use Rattle.proactor_core.specs.Tables.{op_in}
use Rattle.proactor_core.specs.Works.{with_works}
use Rattle.proactor_core.proofs.FollowingLemmas.{follows, seen-at}
use Rattle.proactor_core.proofs.KnownLemmas.{no-act}

chosen-step : (script : ScriptModel) (there : Connection) (op : ℕ) (none : Bool) → (there.op < length script.acts) →
    cond none None (Some there.op) ≡ Some op → op < length script.acts
chosen-step script there op true known is = absurd (cc)
chosen-step script there op false known is = let same : there.op ≡ op = cc in omega arith

-- what is reached is an operation of the script
pub chosen-known : (script : ScriptModel) (there : Option Connection) (types op : ℕ) → IsConnected script there →
    chosen_by there types ≡ Some op → op < length script.acts
chosen-known script None types op connected is = absurd (cc)
chosen-known script (Some there) types op connected is =
    let known : there.op < length script.acts = elim (cases_lt there.op (length script.acts)) [
      | inl below ↦ below
      | inr past ↦ absurd (let none = no-act script there.op (omega arith) in let some = connected.1 in cc)
    ] in
    chosen-step script there op (nat_eq (bit_and there.supported types) 0) known is

-- an emit cancels what it reaches
pub emit-law : {X : Type 0} (told : X → Option Outside) (view : ProactorView X) (half : ReactorHalf) (slot types : ℕ) →
    IsConnected view.script (connection_of view.tables.slots slot) → IsAt told view half →
    emitted view.script (get_or half.slots slot None) types half
    ≡ chosen_cancelled view.script (chosen_by (connection_of view.tables.slots slot) types) half
emit-law told view half slot types connected is =
    let there = connection_of view.tables.slots slot in
    let slots : half.slots ≡ map op_in view.tables.slots = sym (ap (λ (h : ReactorHalf). h.slots) is.works) in
    let seen = ap (λ (s : List (Option ℕ)). get_or s slot None) slots ∙ sym (seen-at view.tables.slots slot) in
    let law = (follows view.script view.tables (with_works view.tables view.streams half)).emit there types connected in
    ap (λ (o : Option ℕ). emitted view.script o types half) seen
    ∙ subst
    (λ (h : ReactorHalf).
    emitted view.script (op_in there) types h ≡ chosen_cancelled view.script (chosen_by there types) h) is.works law
