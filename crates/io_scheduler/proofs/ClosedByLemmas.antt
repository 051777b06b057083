-- A handler closes a stream or a listener.
use Rattle.std.proofs.Common.{ap, refl, subst, sym}
use Rattle.std.proofs.lemmas.Bool.{true≢false}
use Rattle.std.specs.Prelude.{◌≡◌, ℕ, not, Bool, true, false, List, [], ◌∷◌, Option, Some, if◌then◌else◌}
use Rattle.std.specs.List.{filter}
use Rattle.io_rules.specs.declared.control.Control.TheVariants as control
use Rattle.io_rules.specs.declared.event.Event.{Event}
use Rattle.io_rules.specs.declared.event.Event.TheVariants as event
use Rattle.io_rules.specs.declared.limits.Limits.{Limits}
use Rattle.io_rules.specs.declared.name.Name.{Name}
use Rattle.io_rules.specs.Cancelling.{cancelled, is_settled_by_cancel, pending_of}
use Rattle.io_rules.specs.Changes.{is_out, is_there, reached}
use Rattle.io_rules.specs.Legal.{MayHappen, after, state_of}
use Rattle.io_rules.specs.Names.{is_alive}
use Rattle.io_rules.specs.Ops.{is_at, is_running}
use Rattle.io_rules.specs.State.{ContextState, stream_at}
use Rattle.io_rules.proofs.StrandLemmas.{both}
use Rattle.io_scheduler.specs.Aborting.{with_changed}
use Rattle.io_scheduler.specs.Closing.{aborted, frees, settled_of}
use Rattle.io_scheduler.specs.Come.{HaveCome, LeadTo}
use Rattle.io_scheduler.specs.Opened.{socket_kind}
use Rattle.io_scheduler.proofs.GoneLemmas.{freed_by}
use Rattle.io_scheduler.proofs.TimingLemmas.{lead_to}

pub may_close_by : (s : ContextState) (by : ℕ) (name : Name) (listener : Bool) → s.finishing ≡ false →
    is_at is_running s.ops by ≡ true → MayHappen s (event.Changed (Some by) (control.Free (socket_kind listener) name))
may_close_by s by name true going runs = record { going = going; caller = runs; allowed = tt }
may_close_by s by name false going runs = record { going = going; caller = runs; allowed = tt }

pub closed_ops : (s : ContextState) (by : Option ℕ) (name : Name) (listener : Bool) →
    (after (event.Changed by (control.Free (socket_kind listener) name)) s).ops
    ≡ (cancelled (reached s (control.Free (socket_kind listener) name)) s).ops
closed_ops s by name true = refl
closed_ops s by name false = refl

-- ---- it is there

pub there_alive : (s : ContextState) (name : Name) (listener : Bool) → is_there s (socket_kind listener) name ≡ true →
    is_alive s.names.streams name ≡ true
there_alive s name true there = (both (is_alive s.names.streams name) (stream_at s.streams name).listener there).one
there_alive s name false there = (both (is_alive s.names.streams name) (not (stream_at s.streams name).listener) there).one

not_not : (b : Bool) → not b ≡ true → b ≡ false
not_not true is = absurd (true≢false (sym is))
not_not false is = refl

pub there_kind : (s : ContextState) (name : Name) (listener : Bool) → is_there s (socket_kind listener) name ≡ true →
    (stream_at s.streams name).listener ≡ listener
there_kind s name true there = (both (is_alive s.names.streams name) (stream_at s.streams name).listener there).other
there_kind s name false there =
    not_not (stream_at s.streams name).listener
    (both (is_alive s.names.streams name) (not (stream_at s.streams name).listener) there).other

reached_there : (s : ContextState) (name : Name) (listener : Bool) → is_there s (socket_kind listener) name ≡ true →
    reached s (control.Free (socket_kind listener) name) ≡ pending_of name s
reached_there s name true there = ap (λ b. if b then pending_of name s else []) there
reached_there s name false there = ap (λ b. if b then pending_of name s else []) there

pub frees_there : (limits : Limits) (by : ℕ) (name : Name) (listener : Bool) (old new : List Event) →
    is_there (state_of limits old) (socket_kind listener) name ≡ true →
    HaveCome limits (event.Changed (Some by) (control.Free (socket_kind listener) name)
    ∷ aborted (state_of limits old) (settled_of name (state_of limits old))) old new →
    LeadTo (frees (Some by) (socket_kind listener) name (state_of limits old)) (state_of limits old) (state_of limits new)
frees_there limits by name listener old new there come =
    let s = state_of limits old in
    lead_to limits (frees (Some by) (socket_kind listener) name s) old new
    (subst (λ ns. HaveCome limits (event.Changed (Some by) (control.Free (socket_kind listener) name)
    ∷ aborted s (filter (is_settled_by_cancel s) ns)) old new) (sym (reached_there s name listener there)) come)

-- ---- or it isn't

pub after_absent : (s : ContextState) (by : Option ℕ) (name : Name) (listener : Bool) →
    is_there s (socket_kind listener) name ≡ false →
    after (event.Changed by (control.Free (socket_kind listener) name)) s ≡ with_changed s.names s.timers (cancelled [] s)
after_absent s by name true gone = ap (λ b. freed_by name s b (is_out (stream_at s.streams name).out)) gone
after_absent s by name false gone = ap (λ b. freed_by name s b (is_out (stream_at s.streams name).out)) gone

reached_absent : (s : ContextState) (name : Name) (listener : Bool) → is_there s (socket_kind listener) name ≡ false →
    reached s (control.Free (socket_kind listener) name) ≡ []
reached_absent s name true gone = ap (λ b. if b then pending_of name s else []) gone
reached_absent s name false gone = ap (λ b. if b then pending_of name s else []) gone

pub frees_absent : (limits : Limits) (by : ℕ) (name : Name) (listener : Bool) (old new : List Event) →
    is_there (state_of limits old) (socket_kind listener) name ≡ false →
    HaveCome limits (event.Changed (Some by) (control.Free (socket_kind listener) name) ∷ []) old new →
    LeadTo (frees (Some by) (socket_kind listener) name (state_of limits old)) (state_of limits old) (state_of limits new)
frees_absent limits by name listener old new gone come =
    let s = state_of limits old in
    lead_to limits (frees (Some by) (socket_kind listener) name s) old new
    (subst (λ ns. HaveCome limits (event.Changed (Some by) (control.Free (socket_kind listener) name)
    ∷ aborted s (filter (is_settled_by_cancel s) ns)) old new) (sym (reached_absent s name listener gone)) come)
