-- The lines of a run that are drawn.
use Rattle.std.specs.Prelude.{◌≤◌, ◌+◌, ◌-◌, ◌^◌, ℕ, min}
use Rattle.run_picture.specs.declared.window.Window.{Window}

pub record IsInside (window : Window) (line : ℕ) : Type 0 where
  pub from : window.from ≤ line
  pub to : line ≤ window.to

-- so many lines are drawn at most
abbrev pub most_lines : ℕ
most_lines = 4000

-- the last line that is drawn of as many as are drawn at most, from this one on
abbrev pub last_from : ℕ → ℕ
last_from first = min (first + (most_lines - 1)) (2 ^ 64 - 1)
