-- The clock word, this project's own: the clock in its low 32 bits, the outstanding work in the
-- next 16, the stops in the high 16.
use Rattle.std.specs.Prelude.{ℕ, ◌+◌, ◌-◌, ◌*◌, ◌/◌, ◌%◌, ◌^◌, ◌<◌, ◌==◌, if◌then◌else◌}
use Rattle.lane_clock.specs.declared.found.Found.{Found}
use Rattle.lane_clock.specs.declared.found.Change.{Change}
use Rattle.lane_clock.specs.declared.found.Change.TheVariants.{Same, Up, Down, DownTwo, Stop}

-- what a draw adds to the word, modulo 2^64: one to the clock, and its change
abbrev pub amount : Change → ℕ
amount Same = 1
amount Up = 1 + 2 ^ 32
amount Down = 1 + (2 ^ 64 - 2 ^ 32)
amount DownTwo = 1 + (2 ^ 64 - 2 * 2 ^ 32)
amount Stop = 1 + 2 ^ 48

-- the change whose amount this is
abbrev pub change_of : ℕ → Change
change_of k =
    if k == 1 then Same else
    if k == 1 + 2 ^ 32 then Up else
    if k == 1 + (2 ^ 64 - 2 ^ 32) then Down else
    if k == 1 + (2 ^ 64 - 2 * 2 ^ 32) then DownTwo else Stop

-- the three parts of a word
abbrev pub found_of : ℕ → Found
found_of w = record { clock = w % 2 ^ 32; work = w / 2 ^ 32 % 2 ^ 16; stops = w / 2 ^ 48 }

-- parts that a word can have
abbrev pub IsParted : Found → Type 0
IsParted f = (f.clock < 2 ^ 32) × (f.work < 2 ^ 16) × (f.stops < 2 ^ 16)

-- the word that has these parts
abbrev pub word_of : Found → ℕ
word_of f = f.clock + 2 ^ 32 * f.work + 2 ^ 48 * f.stops
