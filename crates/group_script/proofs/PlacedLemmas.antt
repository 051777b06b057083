-- Where each act of a group stands.
use Rattle.std.proofs.Common.{◌≡◌, ◌⊎◌, ℕ, zero, suc, ◌+◌, ◌<◌, ◌≤◌, Bool, true, false, List, ◌∷◌, Option, Some, None, inl, inr, length, refl, sym, ap, subst, ◌∙◌, arith}
use Rattle.std.specs.Prelude.{slice_get}
use Rattle.std.proofs.lemmas.Bool.{cases_lt}
use Rattle.asio_types.specs.declared.code.Class.{Class}
use Rattle.session_script.specs.declared.act.Act.{Act}
use Rattle.session_script.specs.declared.act.Act.TheVariants as act
use Rattle.session_script.specs.Acts.{bodies_of}
use Rattle.session_script.specs.Groups.{class_number}
use Rattle.session_script.specs.Limits.{limits_of}
use Rattle.session_script.specs.Script.{Entry, Place, numbers_in}
use Rattle.session_script.specs.WellFormed.{has_branch}
use Rattle.history_rules.specs.Kinds.{slot_of}
use Rattle.group_script.specs.declared.member.Member.{Member}
use Rattle.group_script.specs.declared.member.Member.TheVariants as member
use Rattle.group_script.specs.Group.{opened, operation_of, under}
use Rattle.group_script.specs.Limits.{FitsMember}
use Rattle.group_script.proofs.FlowsLemmas.{Flows, Holder, emits, over, sets, starts}

abbrev pub parent_in : Option Entry → Place
parent_in None = None
parent_in (Some e) = e.parent

abbrev pub place_at : List Entry → ℕ → Place
place_at all m = parent_in (slice_get all m)

-- the acts that a group has
pub data IsKnown (count streams : ℕ) : Act → Type 0 where
  expires : (i after : ℕ) → i < count → after ≤ (limits_of 2).time → IsKnown count streams (act.Expires i after)
  operation : (i : ℕ) (made : Member) → i < count → FitsMember streams made →
      IsKnown count streams (operation_of i made)
  emit : (j types : ℕ) → j < count → types ≤ 7 → IsKnown count streams (act.Emit j types)

abbrev pub is_emit : Act → Bool
is_emit (act.Emit j types) = true
is_emit _ = false

-- an act stands under this operation, in this class or an earlier one
pub record Within (all : List Entry) (m op rank : ℕ) : Type 0 where
  pub branch : Class
  pub is : place_at all m ≡ Some (op, branch)
  pub le : class_number branch ≤ rank

-- an operation of `open`, under which all acts behind it stand so far
pub record Held (all : List Entry) (n op rank : ℕ) : Type 0 where
  pub before : op < n
  pub holder : Entry
  pub there : slice_get all op ≡ Some holder
  pub outermost : holder.parent ≡ None
  pub has : (c : Class) → has_branch (bodies_of holder.act) c ≡ true
  pub between : (m : ℕ) → op < m → m < n → Within all m op rank

abbrev HeldBy : List Entry → ℕ → Holder → Type 0
HeldBy all n None = Unit {0}
HeldBy all n (Some at) = Held all n at.0 at.1

-- an emit in a branch
pub record Under (all : List Entry) (n : ℕ) (e : Entry) : Type 0 where
  pub op : ℕ
  pub branch : Class
  pub is : e.parent ≡ Some (op, branch)
  pub near : n < op + 50
  pub leaf : is_emit e.act ≡ true
  pub held : Held all n op (class_number branch)

pub record IsAt (count streams : ℕ) (all : List Entry) (n : ℕ) (e : Entry) : Type 0 where
  pub known : IsKnown count streams e.act
  pub place : (e.parent ≡ None) ⊎ Under all n e

operates : (i : ℕ) (made : Member) (c : Class) → has_branch (bodies_of (operation_of i made)) c ≡ true
operates i (member.Wait after) c = refl
operates i (member.Read stream size) c = refl

same_some : (x y : Entry) → Some x ≡ Some y → x ≡ y
same_some x y same = cc

module _ (count streams : ℕ) (all : List Entry) where
  -- what follows from n on
  abbrev Rest : ℕ → List Entry → Type 0
  Rest n rest = (k : ℕ) → slice_get all (n + k) ≡ slice_get rest k

  later : (n : ℕ) (x : Entry) (rest : List Entry) → Rest n (x ∷ rest) → Rest (n + 1) rest
  later n x rest is k =
      let same : n + 1 + k ≡ n + suc k = omega arith in
      ap (slice_get all) same ∙ is (suc k)

  first_is : (n : ℕ) (x : Entry) (rest : List Entry) → Rest n (x ∷ rest) → slice_get all n ≡ Some x
  first_is n x rest is =
      let same : n ≡ n + 0 = omega arith in
      ap (slice_get all) same ∙ is 0

  -- the operation under which an emit stands holds it too
  held_more : (n op rank : ℕ) (x : Entry) (c : Class) → slice_get all n ≡ Some x → x.parent ≡ Some (op, c) →
      rank ≤ class_number c → Held all n op rank → Held all (n + 1) op (class_number c)
  held_more n op rank x c is parent above held = record {
    before = omega (arith, held.before);
    holder = held.holder;
    there = held.there;
    outermost = held.outermost;
    has = held.has;
    between = λ m behind within. elim (cases_lt m n) [
      | inl less ↦
          (let one = held.between m behind less in
          record { branch = one.branch; is = one.is; le = omega (arith, one.le, above) })
      | inr at_least ↦
          (let same : m ≡ n = omega (arith, at_least, within) in
          record {
            branch = c;
            is = ap (place_at all) same ∙ ap parent_in is ∙ parent;
            le = omega arith;
          })
    ];
  }

  held_weaker : (n op rank most : ℕ) → rank ≤ most → Held all n op rank → Held all n op most
  held_weaker n op rank most le held = record {
    before = held.before;
    holder = held.holder;
    there = held.there;
    outermost = held.outermost;
    has = held.has;
    between = λ m behind within.
        (let one = held.between m behind within in
        record { branch = one.branch; is = one.is; le = omega (arith, one.le, le) });
  }

  held_first : (n : ℕ) (x : Entry) → slice_get all n ≡ Some x → x.parent ≡ None →
      ((c : Class) → has_branch (bodies_of x.act) c ≡ true) → Held all (n + 1) n 0
  held_first n x is outer has = record {
    before = omega arith;
    holder = x;
    there = is;
    outermost = outer;
    has = has;
    between = λ m behind within. absurd (omega (arith, behind, within));
  }

  moved : (n k : ℕ) (e : Entry) → IsAt count streams all (n + 1 + k) e → IsAt count streams all (n + suc k) e
  moved n k e at =
      let same : n + 1 + k ≡ n + suc k = omega arith in
      subst (λ m. IsAt count streams all m e) same at

  here : (n : ℕ) (x e : Entry) → Some x ≡ Some e → IsAt count streams all n x → IsAt count streams all (n + 0) e
  here n x e same at =
      let none : n ≡ n + 0 = omega arith in
      subst (λ m. IsAt count streams all m e) none
      (subst (λ (y : Entry). IsAt count streams all n y) (same_some x e same) at)

  each : {n i opens : ℕ} {holder : Holder} {rest : List Entry} → Flows count streams n i holder opens rest →
      Rest n rest → HeldBy all n holder → (k : ℕ) (e : Entry) → slice_get rest k ≡ Some e →
      IsAt count streams all (n + k) e
  each over is held k e there = absurd (cc there)
  each {n = n} {i = i} (sets after rest within short more) is held zero e there =
      here n (opened (act.Expires i after)) e there
      (record { known = expires i after within short; place = inl refl })
  each {n = n} {i = i} (sets after rest within short more) is held (suc k) e there =
      moved n k e (each more (later n (opened (act.Expires i after)) rest is) tt k e there)
  each {n = n} {i = i} (starts made rest within fits more) is held zero e there =
      here n (opened (operation_of i made)) e there
      (record { known = operation i made within fits; place = inl refl })
  each {n = n} {i = i} (starts made rest within fits more) is held (suc k) e there =
      let x : Entry = opened (operation_of i made) in
      moved n k e
      (each more (later n x rest is) (held_first n x (first_is n x rest is) refl (operates i made)) k e there)
  each {n = n} (emits {op = op} {rank = rank} c j types rest within few above near more) is held zero e there =
      here n (under op c (act.Emit j types)) e there (record {
        known = emit j types within few;
        place = inr (record {
          op = op;
          branch = c;
          is = refl;
          near = near;
          leaf = refl;
          held = held_weaker n op rank (class_number c) above held;
        });
      })
  each {n = n} (emits {op = op} {rank = rank} c j types rest within few above near more) is held (suc k) e there =
      let x : Entry = under op c (act.Emit j types) in
      moved n k e
      (each more (later n x rest is) (held_more n op rank x c (first_is n x rest is) refl above held) k e there)

  pub at : {i opens : ℕ} → Flows count streams 0 i None opens all → (k : ℕ) (e : Entry) → slice_get all k ≡ Some e →
      IsAt count streams all k e
  at flows k e there =
      let none : 0 + k ≡ k = omega arith in
      subst (λ m. IsAt count streams all m e) none
      (each flows (λ m. let same : 0 + m ≡ m = omega arith in ap (slice_get all) same) tt k e there)

slot_of_operation : (i : ℕ) (made : Member) → slot_of (operation_of i made) ≡ Some i
slot_of_operation i (member.Wait after) = refl
slot_of_operation i (member.Read stream size) = refl

same_number : (i j : ℕ) → Some i ≡ Some j → i ≡ j
same_number i j same = cc

-- later operations have later slots
later_slots : {count streams n i opens : ℕ} {holder : Holder} {rest : List Entry} →
    Flows count streams n i holder opens rest → (k j : ℕ) (e : Entry) → slice_get rest k ≡ Some e →
    slot_of e.act ≡ Some j → i ≤ j
later_slots over k j e there slot = absurd (cc there)
later_slots {i = i} (sets after rest within short more) zero j e there slot =
    absurd (let none : None ≡ Some j =
    ap (λ (x : Entry). slot_of x.act) (same_some (opened (act.Expires i after)) e there) ∙ slot in
    cc)
later_slots (sets after rest within short more) (suc k) j e there slot = later_slots more k j e there slot
later_slots {i = i} (starts made rest within fits more) zero j e there slot =
    let same : i ≡ j = same_number i j (sym (slot_of_operation i made)
    ∙ ap (λ (x : Entry). slot_of x.act) (same_some (opened (operation_of i made)) e there) ∙ slot) in
    omega (arith, same)
later_slots {i = i} (starts made rest within fits more) (suc k) j e there slot =
    let rest_is = later_slots more k j e there slot in omega (arith, rest_is)
later_slots (emits {op = op} c m types rest within few above near more) zero j e there slot =
    absurd (let none : None ≡ Some j =
    ap (λ (x : Entry). slot_of x.act) (same_some (under op c (act.Emit m types)) e there) ∙ slot in
    cc)
later_slots (emits c m types rest within few above near more) (suc k) j e there slot =
    later_slots more k j e there slot

-- each slot has one operation
pub one_slot : {count streams n i opens : ℕ} {holder : Holder} {rest : List Entry} →
    Flows count streams n i holder opens rest → (k l j : ℕ) (e f : Entry) → slice_get rest k ≡ Some e →
    slice_get rest l ≡ Some f → slot_of e.act ≡ Some j → slot_of f.act ≡ Some j → l ≡ k
one_slot over k l j e f there_k there_l slot_k slot_l = absurd (cc there_k)
one_slot (sets after rest within short more) (suc k) (suc l) j e f there_k there_l slot_k slot_l =
    ap suc (one_slot more k l j e f there_k there_l slot_k slot_l)
one_slot {i = i} (sets after rest within short more) zero l j e f there_k there_l slot_k slot_l =
    absurd (let none : None ≡ Some j =
    ap (λ (x : Entry). slot_of x.act) (same_some (opened (act.Expires i after)) e there_k) ∙ slot_k in
    cc)
one_slot {i = i} (sets after rest within short more) (suc k) zero j e f there_k there_l slot_k slot_l =
    absurd (let none : None ≡ Some j =
    ap (λ (x : Entry). slot_of x.act) (same_some (opened (act.Expires i after)) f there_l) ∙ slot_l in
    cc)
one_slot (starts made rest within fits more) zero zero j e f there_k there_l slot_k slot_l = refl
one_slot (starts made rest within fits more) (suc k) (suc l) j e f there_k there_l slot_k slot_l =
    ap suc (one_slot more k l j e f there_k there_l slot_k slot_l)
one_slot {i = i} (starts made rest within fits more) zero (suc l) j e f there_k there_l slot_k slot_l =
    absurd (let same : i ≡ j = same_number i j (sym (slot_of_operation i made)
    ∙ ap (λ (x : Entry). slot_of x.act) (same_some (opened (operation_of i made)) e there_k) ∙ slot_k) in
    let after = later_slots more l j f there_l slot_l in
    omega (arith, same, after))
one_slot {i = i} (starts made rest within fits more) (suc k) zero j e f there_k there_l slot_k slot_l =
    absurd (let same : i ≡ j = same_number i j (sym (slot_of_operation i made)
    ∙ ap (λ (x : Entry). slot_of x.act) (same_some (opened (operation_of i made)) f there_l) ∙ slot_l) in
    let after = later_slots more k j e there_k slot_k in
    omega (arith, same, after))
one_slot (emits c m types rest within few above near more) (suc k) (suc l) j e f there_k there_l slot_k slot_l =
    ap suc (one_slot more k l j e f there_k there_l slot_k slot_l)
one_slot (emits {op = op} c m types rest within few above near more) zero l j e f there_k there_l slot_k slot_l =
    absurd (let none : None ≡ Some j =
    ap (λ (x : Entry). slot_of x.act) (same_some (under op c (act.Emit m types)) e there_k) ∙ slot_k in
    cc)
one_slot (emits {op = op} c m types rest within few above near more) (suc k) zero j e f there_k there_l slot_k slot_l =
    absurd (let none : None ≡ Some j =
    ap (λ (x : Entry). slot_of x.act) (same_some (under op c (act.Emit m types)) f there_l) ∙ slot_l in
    cc)

-- at most so many acts stand in `open`
pub few_opening : {count streams n i opens : ℕ} {holder : Holder} {rest : List Entry} →
    Flows count streams n i holder opens rest → length (numbers_in None n rest) ≤ opens
few_opening over = omega arith
few_opening (sets after rest within short more) = let few = few_opening more in omega (arith, few)
few_opening (starts made rest within fits more) = let few = few_opening more in omega (arith, few)
few_opening (emits c j types rest within few above near more) = let less = few_opening more in omega (arith, less)
