use Rattle.run_picture.specs.Items.{AreInside}
use Rattle.run_picture.specs.declared.window.Window.{Window}
use Rattle.run_picture.proofs.scene.Scene.close_bars.Given as goal

abbrev pub invariant-loop-place : goal.invariant-loop-place
invariant-loop-place l = (window : Window) → AreInside window l.initial.self → AreInside window l.self
