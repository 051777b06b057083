-- What is said of a reactor's bytes where it tells them, and that it goes on telling them.
use Rattle.std.proofs.Common.{◌≡◌, ℕ, true, false, Option, Some, None, length, refl, ap, ◌∙◌}
use Rattle.std.specs.Prelude.{Result, Ok, Err, IfOk, OnErr}
use Rattle.std.specs.Option.{IfSome, option_map}
use Rattle.reactor_trait.specs.Reactor.{Outside}
use Rattle.proactor_core.specs.Reactor.{ChangesOne, tells}

-- a fact that doesn't look at what is told
pub where-told : {P Q : Type 0} (told : Option Outside) → (P → Q) → IfSome told (λ _. P) → IfSome told (λ _. Q)
where-told None f p = tt
where-told (Some outside) f p = f p

pub known-told : {P : Type 0} (told : Option Outside) → P → IfSome told (λ _. P)
known-told None p = tt
known-told (Some outside) p = p

pub is-told : {P : Type 0} (told : Option Outside) → tells told ≡ true → IfSome told (λ _. P) → P
is-told None is p = absurd (cc)
is-told (Some outside) is p = p

-- it tells as many streams
pub counts-as : (told : Option Outside) (a b : ℕ) → a ≡ b → IfSome told (λ outside. length outside.streams ≡ a) →
    IfSome told (λ outside. length outside.streams ≡ b)
counts-as None a b same count = tt
counts-as (Some outside) a b same count = count ∙ same

-- as the streams of a history have it, which are there only where bytes are told
pub some-count : (told : Option Outside) (n : ℕ) → tells told ≡ true →
    IfSome told (λ outside. length outside.streams ≡ n) →
    option_map (λ (outside : Outside). length outside.streams) told ≡ Some n
some-count None n is count = absurd (cc)
some-count (Some outside) n is count = ap Some count

pub if-count : (told : Option Outside) (n : ℕ) →
    option_map (λ (outside : Outside). length outside.streams) told ≡ Some n →
    IfSome told (λ outside. length outside.streams ≡ n)
if-count None n count = tt
if-count (Some outside) n count = let same : length outside.streams ≡ n = cc in same

-- a change of what it tells
pub tells-mapped : (f : Outside → Outside) (told : Option Outside) → tells (option_map f told) ≡ tells told
tells-mapped f None = refl
tells-mapped f (Some outside) = refl

pub tells-changed : (n : ℕ) (old new : Option Outside) → ChangesOne n old new → tells new ≡ tells old
tells-changed n None new change = ap tells change
tells-changed n (Some outside) new change = ap tells change

-- a call that changes what it tells, or fails and leaves it
pub tells-called : {T F : Type 0} (result : Result T F) (f : T → Outside → Outside) (old new : Option Outside) →
    IfOk result (λ moved. new ≡ option_map (f moved) old) → OnErr result (new ≡ old) → tells new ≡ tells old
tells-called (Ok moved) f old new changed same = ap tells changed ∙ tells-mapped (f moved) old
tells-called (Err failed) f old new changed same = ap tells same

-- where it tells nothing, nothing is said
pub if-untold : (P : Outside → Type 0) (told : Option Outside) → tells told ≡ false → IfSome told P
if-untold P None is = tt
if-untold P (Some outside) is = absurd (cc)
