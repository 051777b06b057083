-- Reading within a limit by turns, each of which asks the source once (compare SyncReadStream's
-- read_some).
use Rattle.std.specs.Prelude.{◌≡◌, ◌⊎◌, ℕ, ◌+◌, ◌<◌, List, Option}
use Rattle.asio_types.specs.Faults.{Rose}
use Rattle.asio_types.specs.Source.{KeepsLeft, LosesFirst}

module _ {S : Type 0} (left : S → Option (List ℕ)) (faults : S → ℕ) where
  -- a source gave so many bytes, and didn't fail
  pub record GaveBytes (count : ℕ) (old new : S) : Type 0 where
    pub lost : LosesFirst (left old) count (left new)
    pub stood : faults new ≡ faults old

  -- a source gave so many bytes, some at each turn
  pub data HasGiven (first : S) : ℕ → S → Type 0 where
    none_given : HasGiven first 0 first
    some_given : {all more : ℕ} {mid new : S} → HasGiven first all mid → 0 < more →
        GaveBytes more mid new → HasGiven first (all + more) new

  -- it was asked until it had given as many as are read at most, and no more; or until it gave none
  pub record HasReadOn (most all : ℕ) (first last : S) : Type 0 where
    pub before : S
    pub given : HasGiven first all before
    pub ended : ((all ≡ most) × (last ≡ before)) ⊎ ((all < most) × GaveBytes 0 before last)

  -- it was asked until it failed
  pub record HasBrokenOff (most : ℕ) (first last : S) : Type 0 where
    pub before : S
    pub all : ℕ
    pub given : HasGiven first all before
    pub some_wanted : all < most
    pub rose : Rose (faults before) (faults last)
    pub kept : KeepsLeft (left before) (left last)
