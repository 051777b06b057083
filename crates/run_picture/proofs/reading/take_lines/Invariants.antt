use Rattle.run_picture.specs.Items.{AreInside}
use Rattle.run_picture.specs.declared.window.Window.{Window}
use Rattle.run_picture.proofs.reading.take_lines.Given as goal

abbrev pub invariant-loop-at : goal.invariant-loop-at
invariant-loop-at g l = (window : Window) → AreInside window l.initial.scene → AreInside window l.scene
