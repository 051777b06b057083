-- In each legal history what is pending on a stream names what is there now; and where that was closed meanwhile,
-- it is the operation whose system call is under way, and is cancelled.
use Rattle.std.proofs.Common.{ap, refl, subst, sym, ◌∙◌}
use Rattle.std.proofs.lemmas.Bool.{true≢false}
use Rattle.std.specs.Prelude.{◌≡◌, ℕ, ◌+◌, ◌-◌, ◌==◌, min, not, nat_le, nat_lt, Bool, true, false, List, [], ◌∷◌, Option, Some, None, if◌then◌else◌}
use Rattle.asio_types.specs.declared.code.Code.{Code}
use Rattle.asio_types.specs.declared.code.Code.TheVariants as code
use Rattle.io_rules.specs.declared.gave.Gave.{Gave}
use Rattle.io_rules.specs.declared.gave.Gave.TheVariants as gave
use Rattle.io_rules.specs.declared.name.Kind.{Kind}
use Rattle.io_rules.specs.declared.op.Op.{Op}
use Rattle.io_rules.specs.declared.op.Phase.{Phase}
use Rattle.io_rules.specs.declared.op.Phase.TheVariants as phase
use Rattle.io_rules.specs.declared.operation.Operation.{Operation}
use Rattle.io_rules.specs.declared.operation.Operation.TheVariants as operation
use Rattle.io_rules.specs.declared.operation.Side.{Side}
use Rattle.io_rules.specs.declared.spares.Spares.{Spares}
use Rattle.io_rules.specs.Cancelling.{cancelled_phase, is_out_for, is_tried, ops_cancelled}
use Rattle.io_rules.specs.Executions.{granted_more}
use Rattle.io_rules.specs.Operations.{Target}
use Rattle.io_rules.specs.Ops.{is_pending, is_untouched, op_at, phase_changed, phase_changed_of}
use Rattle.io_rules.specs.Changes.{spare_used}
use Rattle.io_rules.specs.Room.{place_given}
use Rattle.io_rules.specs.Serving.{Served, first_of, is_none_of, ops_served, served_linked, served_on, served_op, served_phase}
use Rattle.io_rules.specs.State.{ContextState, StreamState, stream_at}
use Rattle.io_rules.specs.Tries.{goes_on, phase_back, phase_found, phase_given, phase_moved, phase_searched}
use Rattle.io_rules.proofs.StrandLemmas.{by_test}

-- ---- what an operation comes from

-- it was there, pending where it is, and stays cancelled
pub record Came (old : List Op) (n : ℕ) (it : Op) : Type 0 where
  pub op : Op
  pub is : op_at old n ≡ Some op
  pub number : it.number ≡ op.number
  pub kind : it.kind ≡ op.kind
  pub pending : is_pending it.phase ≡ true → is_pending op.phase ≡ true
  pub cancelled : is_pending it.phase ≡ true → is_untouched op.phase ≡ false → is_untouched it.phase ≡ false

abbrev pub ComesFrom : List Op → List Op → Type 0
ComesFrom old new = (n : ℕ) (it : Op) → op_at new n ≡ Some it → Came old n it

pub came_itself : (ops : List Op) → ComesFrom ops ops
came_itself ops n it is =
    record { op = it; is = is; number = refl; kind = refl; pending = λ p. p; cancelled = λ p c. c }

pub came_behind : (old mid new : List Op) → ComesFrom old mid → ComesFrom mid new → ComesFrom old new
came_behind old mid new first second n it is =
    let b = second n it is in
    let a = first n b.op b.is in
    record {
      op = a.op;
      is = a.is;
      number = b.number ∙ a.number;
      kind = b.kind ∙ a.kind;
      pending = λ p. a.pending (b.pending p);
      cancelled = λ p c. b.cancelled p (a.cancelled (b.pending p) c);
    }

-- a change that makes nothing pending, and leaves what is cancelled so
pub record Keeps (g : Op → Phase) : Type 0 where
  pub pending : (op : Op) → is_pending (g op) ≡ true → is_pending op.phase ≡ true
  pub cancelled : (op : Op) → is_pending (g op) ≡ true → is_untouched op.phase ≡ false → is_untouched (g op) ≡ false

some_is : {X : Type 0} (a b : X) → Some a ≡ Some b → a ≡ b
some_is a b is = cc

at_yes : (x : Op) (ops : List Op) (n : ℕ) → (x.number == n) ≡ true → op_at (x ∷ ops) n ≡ Some x
at_yes x ops n is = ap (λ b. if b then Some x else op_at ops n) is

at_no : (x : Op) (ops : List Op) (n : ℕ) → (x.number == n) ≡ false → op_at (x ∷ ops) n ≡ op_at ops n
at_no x ops n is = ap (λ b. if b then Some x else op_at ops n) is

changed_yes : (m : ℕ) (g : Op → Phase) (x : Op) (ops : List Op) → (x.number == m) ≡ true →
    phase_changed m g (x ∷ ops) ≡ record x { phase = g x } ∷ ops
changed_yes m g x ops is =
    let new : Op = record x { phase = g x } in ap (λ b. if b then new ∷ ops else x ∷ phase_changed m g ops) is

changed_no : (m : ℕ) (g : Op → Phase) (x : Op) (ops : List Op) → (x.number == m) ≡ false →
    phase_changed m g (x ∷ ops) ≡ x ∷ phase_changed m g ops
changed_no m g x ops is =
    let new : Op = record x { phase = g x } in ap (λ b. if b then new ∷ ops else x ∷ phase_changed m g ops) is

-- one that is found behind another
pub came_more : (x : Op) (ops : List Op) (n : ℕ) (it : Op) → (x.number == n) ≡ false → Came ops n it → Came (x ∷ ops) n it
came_more x ops n it other came = record {
  op = came.op;
  is = at_no x ops n other ∙ came.is;
  number = came.number;
  kind = came.kind;
  pending = came.pending;
  cancelled = came.cancelled;
}

pub came_changed : (m : ℕ) (g : Op → Phase) → Keeps g → (ops : List Op) → ComesFrom ops (phase_changed m g ops)
came_changed m g keeps [] n it is = absurd (cc)
came_changed m g keeps (x ∷ ops) n it is =
    let new : Op = record x { phase = g x } in
    by_test (x.number == m)
    (λ here.
    let found = sym (ap (λ os. op_at os n) (changed_yes m g x ops here)) ∙ is in
    by_test (x.number == n)
    (λ this.
    let it_is : new ≡ it = some_is new it (sym (at_yes new ops n this) ∙ found) in
    subst (Came (x ∷ ops) n) it_is
    (record {
      op = x;
      is = at_yes x ops n this;
      number = refl;
      kind = refl;
      pending = keeps.pending x;
      cancelled = keeps.cancelled x;
    }))
    (λ other. came_more x ops n it other (came_itself ops n it (sym (at_no new ops n other) ∙ found))))
    (λ elsewhere.
    let found = sym (ap (λ os. op_at os n) (changed_no m g x ops elsewhere)) ∙ is in
    by_test (x.number == n)
    (λ this.
    let it_is : x ≡ it = some_is x it (sym (at_yes x (phase_changed m g ops) n this) ∙ found) in
    came_itself (x ∷ ops) n it (at_yes x ops n this ∙ ap Some it_is))
    (λ other.
    came_more x ops n it other
    (came_changed m g keeps ops n it (sym (at_no x (phase_changed m g ops) n other) ∙ found))))

pub came_changed_of : (m : Option ℕ) (g : Op → Phase) → Keeps g → (ops : List Op) →
    ComesFrom ops (phase_changed_of m g ops)
came_changed_of None g keeps ops = came_itself ops
came_changed_of (Some m) g keeps ops = came_changed m g keeps ops

-- the one that changes
pub record Changed (g : Op → Phase) (ops : List Op) (n : ℕ) (it : Op) : Type 0 where
  pub op : Op
  pub is : op_at ops n ≡ Some op
  pub now : it ≡ record op { phase = g op }

pub the_changed : (n : ℕ) (g : Op → Phase) (ops : List Op) (it : Op) → op_at (phase_changed n g ops) n ≡ Some it →
    Changed g ops n it
the_changed n g [] it is = absurd (cc)
the_changed n g (x ∷ ops) it is =
    let new : Op = record x { phase = g x } in
    by_test (x.number == n)
    (λ here.
    record {
      op = x;
      is = at_yes x ops n here;
      now = sym (some_is new it
          (sym (at_yes new ops n here) ∙ sym (ap (λ os. op_at os n) (changed_yes n g x ops here)) ∙ is));
    })
    (λ other.
    let rest = the_changed n g ops it
    (sym (at_no x (phase_changed n g ops) n other) ∙ sym (ap (λ os. op_at os n) (changed_no n g x ops other)) ∙ is) in
    record { op = rest.op; is = at_no x ops n other ∙ rest.is; now = rest.now })

-- ---- which changes are such

pub const_keeps : (p : Phase) → is_pending p ≡ false → Keeps (λ op. p)
const_keeps p isnt = record {
  pending = λ op is. absurd (true≢false (sym is ∙ isnt));
  cancelled = λ op is c. absurd (true≢false (sym is ∙ isnt));
}

-- what changes nothing of what is pending, and makes nothing so
same_keeps : (g : Phase → Phase) → ((m : ℕ) (c : Bool) → g (phase.Pending m c) ≡ phase.Pending m c) →
    ((p : Phase) → is_pending p ≡ false → is_pending (g p) ≡ false) → Keeps (λ op. g op.phase)
same_keeps g pends others = record {
  pending = λ op is. back op.phase is;
  cancelled = λ op is c. flag op.phase is c;
}
  where
    back : (p : Phase) → is_pending (g p) ≡ true → is_pending p ≡ true
    back (phase.Pending m c) is = refl
    back (phase.Settled given size) is = absurd (true≢false (sym is ∙ others (phase.Settled given size) refl))
    back (phase.Ready given size) is = absurd (true≢false (sym is ∙ others (phase.Ready given size) refl))
    back (phase.Running own grant spares) is =
        absurd (true≢false (sym is ∙ others (phase.Running own grant spares) refl))

    flag : (p : Phase) → is_pending (g p) ≡ true → is_untouched p ≡ false → is_untouched (g p) ≡ false
    flag (phase.Pending m c) is off = ap is_untouched (pends m c) ∙ off
    flag (phase.Settled given size) is off = absurd (true≢false (sym is ∙ others (phase.Settled given size) refl))
    flag (phase.Ready given size) is off = absurd (true≢false (sym is ∙ others (phase.Ready given size) refl))
    flag (phase.Running own grant spares) is off =
        absurd (true≢false (sym is ∙ others (phase.Running own grant spares) refl))

pub given_keeps : Keeps (λ op. place_given op.phase)
given_keeps = same_keeps place_given (λ m c. refl) not_so
  where
    not_so : (p : Phase) → is_pending p ≡ false → is_pending (place_given p) ≡ false
    not_so (phase.Pending m c) isnt = isnt
    not_so (phase.Settled given size) isnt = refl
    not_so (phase.Ready given size) isnt = refl
    not_so (phase.Running own grant spares) isnt = by_grant (nat_lt 0 grant)
      where
        by_grant : (b : Bool) →
            is_pending (if b then phase.Running own (grant - 1) spares else phase.Running false 0 spares) ≡ false
        by_grant true = refl
        by_grant false = refl

pub used_keeps : (of : Kind) → Keeps (λ op. spare_used of op.phase)
used_keeps of = same_keeps (spare_used of) (λ m c. refl) not_so
  where
    not_so : (p : Phase) → is_pending p ≡ false → is_pending (spare_used of p) ≡ false
    not_so (phase.Pending m c) isnt = isnt
    not_so (phase.Settled given size) isnt = refl
    not_so (phase.Ready given size) isnt = refl
    not_so (phase.Running own grant spares) isnt = refl

pub granted_keeps : (more : ℕ) (taken : Spares) → Keeps (λ op. granted_more more taken op.phase)
granted_keeps more taken = same_keeps (granted_more more taken) (λ m c. refl) not_so
  where
    not_so : (p : Phase) → is_pending p ≡ false → is_pending (granted_more more taken p) ≡ false
    not_so (phase.Pending m c) isnt = isnt
    not_so (phase.Settled given size) isnt = refl
    not_so (phase.Ready given size) isnt = refl
    not_so (phase.Running own grant spares) isnt = refl

cancel_keeps : (s : ContextState) → Keeps (λ op. cancelled_phase (is_tried s op) op.phase)
cancel_keeps s = record {
  pending = λ op is. back (is_tried s op) op.phase is;
  cancelled = λ op is c. flag (is_tried s op) op.phase is c;
}
  where
    back : (t : Bool) (p : Phase) → is_pending (cancelled_phase t p) ≡ true → is_pending p ≡ true
    back t (phase.Pending m c) is = refl
    back t (phase.Settled given size) is = is
    back t (phase.Ready given size) is = is
    back t (phase.Running own grant spares) is = is

    flag : (t : Bool) (p : Phase) → is_pending (cancelled_phase t p) ≡ true → is_untouched p ≡ false →
        is_untouched (cancelled_phase t p) ≡ false
    flag true (phase.Pending m c) is off = refl
    flag false (phase.Pending m c) is off = refl
    flag t (phase.Settled given size) is off = off
    flag t (phase.Ready given size) is off = off
    flag t (phase.Running own grant spares) is off = off

pub came_cancelled : (s : ContextState) (numbers : List ℕ) (ops : List Op) → ComesFrom ops (ops_cancelled s numbers ops)
came_cancelled s [] ops = came_itself ops
came_cancelled s (m ∷ numbers) ops =
    let g : Op → Phase = λ op. cancelled_phase (is_tried s op) op.phase in
    came_behind ops (phase_changed m g ops) (ops_cancelled s numbers (phase_changed m g ops))
    (came_changed m g (cancel_keeps s) ops) (came_cancelled s numbers (phase_changed m g ops))

-- an operation that is served stays cancelled
abbrev Flags : Bool → Served → Type 0
Flags c it = is_pending it.phase ≡ true → c ≡ true → is_untouched it.phase ≡ false

flag_if : (c b : Bool) (x y : Served) → Flags c x → Flags c y → Flags c (if b then x else y)
flag_if c true x y one other = one
flag_if c false x y one other = other

flag_stays : (m : ℕ) (c : Bool) (held : ℕ) → Flags c (record { phase = phase.Pending m c; held = held })
flag_stays m true held is on = refl
flag_stays m false held is on = absurd (true≢false (sym on))

flag_settles : (c : Bool) (given : Code) (size held : ℕ) →
    Flags c (record { phase = phase.Settled given size; held = held })
flag_settles c given size held is on = absurd (true≢false (sym is))

flag_linked : (s : StreamState) (m : ℕ) (c : Bool) (of : Operation) → Flags c (served_linked s m c of)
flag_linked s m c (operation.ReadSome stream size) =
    flag_if c (size == 0) _ _ (flag_settles c code.Ok 0 s.held)
    (flag_if c (s.held == 0) _ _ (flag_stays m c s.held) (flag_settles c code.Ok (min size s.held) (s.held - min size s.held)))
flag_linked s m c (operation.ReadAll stream size) =
    flag_if c (nat_le size (m + s.held)) _ _ (flag_settles c code.Ok size (s.held - (size - m))) (flag_stays (m + s.held) c 0)
flag_linked s m c (operation.ReadUntil stream max) =
    flag_if c (nat_le max s.searched) _ _ (flag_settles c code.NotFound 0 s.held) (flag_stays m c s.held)
flag_linked s m c (operation.WriteSome stream size) =
    flag_if c (size == 0) _ _ (flag_settles c code.Ok 0 s.held) (flag_stays m c s.held)
flag_linked s m c (operation.WriteAll stream size) =
    flag_if c (size == 0) _ _ (flag_settles c code.Ok 0 s.held) (flag_stays m c s.held)
flag_linked s m c _ = flag_stays m c s.held

flag_on : (s : StreamState) (m : ℕ) (c : Bool) (of : Operation) → Flags c (served_on s m c of)
flag_on s m c (operation.Accept listener) = flag_stays m c s.held
flag_on s m c (operation.Connect stream) =
    flag_if c s.linked _ _ (flag_settles c code.Bad m s.held) (flag_stays m c s.held)
flag_on s m c of =
    flag_if c (not (is_none_of s.connects)) _ _ (flag_stays m c s.held)
    (flag_if c s.linked (served_linked s m c of) _ (flag_linked s m c of) (flag_settles c code.Bad m s.held))

off_is : (m : ℕ) (c : Bool) → is_untouched (phase.Pending m c) ≡ false → c ≡ true
off_is m true off = refl
off_is m false off = absurd (true≢false off)

abbrev serve_if : StreamState → Op → Bool → Served
serve_if s op b = if b then record { phase = op.phase; held = s.held } else served_phase s op.kind op.phase

serve_keeps : (s : StreamState) (on : Side) → Keeps (λ op. (served_op s on op).phase)
serve_keeps s on = record {
  pending = λ op is. back op (is_out_for on s.out) is;
  cancelled = λ op is c. flag op (is_out_for on s.out) is c;
}
  where
    back_phase : (of : Operation) (p : Phase) → is_pending (served_phase s of p).phase ≡ true → is_pending p ≡ true
    back_phase of (phase.Pending m c) is = refl
    back_phase of (phase.Settled given size) is = is
    back_phase of (phase.Ready given size) is = is
    back_phase of (phase.Running own grant spares) is = is

    flag_phase : (of : Operation) (p : Phase) → is_pending (served_phase s of p).phase ≡ true → is_untouched p ≡ false →
        is_untouched (served_phase s of p).phase ≡ false
    flag_phase of (phase.Pending m c) is off = flag_on s m c of is (off_is m c off)
    flag_phase of (phase.Settled given size) is off = off
    flag_phase of (phase.Ready given size) is off = off
    flag_phase of (phase.Running own grant spares) is off = off

    back : (op : Op) (b : Bool) → is_pending (serve_if s op b).phase ≡ true → is_pending op.phase ≡ true
    back op true is = is
    back op false is = back_phase op.kind op.phase is

    flag : (op : Op) (b : Bool) → is_pending (serve_if s op b).phase ≡ true → is_untouched op.phase ≡ false →
        is_untouched (serve_if s op b).phase ≡ false
    flag op true is off = off
    flag op false is off = flag_phase op.kind op.phase is off

pub came_served : (s : ContextState) (target : Option Target) → ComesFrom s.ops (ops_served s target)
came_served s None = came_itself s.ops
came_served s (Some target) =
    came_changed_of (first_of target.side (stream_at s.streams target.stream)) _
    (serve_keeps (stream_at s.streams target.stream) target.side) s.ops

-- ---- a system call on a socket ends what is cancelled

on_ends : (m : ℕ) → is_pending (goes_on m true) ≡ false
on_ends m = refl

ends_if : (b : Bool) (x y : Phase) → is_pending x ≡ false → is_pending y ≡ false → is_pending (if b then x else y) ≡ false
ends_if true x y one other = one
ends_if false x y one other = other

moved_ends : (of : Operation) (m came : ℕ) → is_pending (phase_moved of m came true) ≡ false
moved_ends (operation.ReadAll stream size) m came = ends_if (nat_le size (m + came)) _ _ refl refl
moved_ends (operation.WriteAll stream size) m came = ends_if (nat_le size (m + came)) _ _ refl refl
moved_ends _ m came = refl

searched_ends : (of : Operation) (there : ℕ) (end : Option ℕ) → is_pending (phase_searched of there end true) ≡ false
searched_ends of there (Some end) = refl
searched_ends (operation.ReadUntil stream max) there None = ends_if (nat_le max there) _ _ refl refl
searched_ends of there None = refl

given_ends : (s : StreamState) (of : Operation) (given : Gave) (m : ℕ) → is_pending (phase_given s of given m true) ≡ false
given_ends s of gave.WouldBlock m = refl
given_ends s of (gave.Moved came) m = moved_ends of m came
given_ends s of (gave.Found came end) m = searched_ends of (s.held + came) end
given_ends s of (gave.Failed given) m = refl
given_ends s of gave.Made m = refl
given_ends s of gave.Linked m = refl

pub back_ends : (s : StreamState) (given : Gave) (of : Operation) (p : Phase) → is_untouched p ≡ false →
    is_pending (phase_back s given of p) ≡ false
back_ends s given of (phase.Pending m true) off = given_ends s of given m
back_ends s given of (phase.Pending m false) off = absurd (true≢false off)
back_ends s given of (phase.Settled known size) off = refl
back_ends s given of (phase.Ready known size) off = refl
back_ends s given of (phase.Running own grant spares) off = refl

found_ends : (s : StreamState) (end : Option ℕ) (of : Operation) (p : Phase) → is_untouched p ≡ false →
    is_pending (phase_found s end of p) ≡ false
found_ends s end of (phase.Pending m true) off = searched_ends of s.held end
found_ends s end of (phase.Pending m false) off = absurd (true≢false off)
found_ends s end of (phase.Settled known size) off = refl
found_ends s end of (phase.Ready known size) off = refl
found_ends s end of (phase.Running own grant spares) off = refl

pub back_keeps : (s : StreamState) (given : Gave) → Keeps (λ op. phase_back s given op.kind op.phase)
back_keeps s given = record {
  pending = λ op is. back op.kind op.phase is;
  cancelled = λ op is off. absurd (true≢false (sym is ∙ back_ends s given op.kind op.phase off));
}
  where
    back : (of : Operation) (p : Phase) → is_pending (phase_back s given of p) ≡ true → is_pending p ≡ true
    back of (phase.Pending m c) is = refl
    back of (phase.Settled known size) is = is
    back of (phase.Ready known size) is = is
    back of (phase.Running own grant spares) is = is

pub found_keeps : (s : StreamState) (end : Option ℕ) → Keeps (λ op. phase_found s end op.kind op.phase)
found_keeps s end = record {
  pending = λ op is. back op.kind op.phase is;
  cancelled = λ op is off. absurd (true≢false (sym is ∙ found_ends s end op.kind op.phase off));
}
  where
    back : (of : Operation) (p : Phase) → is_pending (phase_found s end of p) ≡ true → is_pending p ≡ true
    back of (phase.Pending m c) is = refl
    back of (phase.Settled known size) is = is
    back of (phase.Ready known size) is = is
    back of (phase.Running own grant spares) is = is
