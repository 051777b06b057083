-- Ready operations on one thread, oldest first.
use Rattle.std.specs.Prelude.{◌≡◌, ℕ, ◌<◌, Bool, false, ◌==◌, List, [], ◌∷◌, Option, slice_get}
use Rattle.std.specs.List.{list_any}
use Rattle.asio_types.specs.declared.code.Code.{Code}

-- how many acts there are, what was pushed from the first on, and how many of it were popped
pub record ReadyLine : Type 0 where
  pub acts : ℕ
  pub pushed : List (ℕ × Code × ℕ)
  pub popped : ℕ

-- the oldest that waits
abbrev pub next_waiting : ReadyLine → Option (ℕ × Code × ℕ)
next_waiting line = slice_get line.pushed line.popped

abbrev pub is_among : ℕ → List (ℕ × Code × ℕ) → Bool
is_among op pushed = list_any (λ ready. ready.0 == op) pushed

-- whether an operation was pushed
abbrev pub was_pushed : ReadyLine → ℕ → Bool
was_pushed line op = is_among op line.pushed

-- operations below a number, none twice
abbrev pub AreOnce : ℕ → List (ℕ × Code × ℕ) → Type 0
AreOnce acts [] = Unit {0}
AreOnce acts (ready ∷ pushed) =
    (ready.0 < acts) × (is_among ready.0 pushed ≡ false) × AreOnce acts pushed
