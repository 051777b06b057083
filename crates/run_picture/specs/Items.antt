-- What is drawn lies in the window.
use Rattle.std.specs.Prelude.{◌≡◌, ℕ, Option, IfSome}
use Rattle.std.specs.List.{All}
use Rattle.run_picture.specs.Window.{IsInside}
use Rattle.run_picture.specs.declared.items.Bar.{Bar}
use Rattle.run_picture.specs.declared.items.Bracket.{Bracket}
use Rattle.run_picture.specs.declared.items.Spot.{Spot}
use Rattle.run_picture.specs.declared.scene.Scene.{Scene}
use Rattle.run_picture.specs.declared.window.Window.{Window}

-- an end that is drawn
abbrev pub IsEndIn : Window → Option ℕ → Type 0
IsEndIn window line = IfSome line (λ l. IsInside window l)

abbrev pub IsBarIn : Window → Bar → Type 0
IsBarIn window bar = IsEndIn window bar.begun × IsEndIn window bar.ended

abbrev pub IsBracketIn : Window → Bracket → Type 0
IsBracketIn window bracket = IsEndIn window bracket.taken × IsEndIn window bracket.given

abbrev pub IsSpotIn : Window → Spot → Type 0
IsSpotIn window spot = IsInside window spot.line

-- each bar, bracket and sign that is drawn stands at lines of the window
pub record AreInside (window : Window) (scene : Scene) : Type 0 where
  pub same : scene.window ≡ window
  pub bars : All (IsBarIn window) scene.bars.items
  pub brackets : All (IsBracketIn window) scene.brackets.items
  pub spots : All (IsSpotIn window) scene.spots.items
