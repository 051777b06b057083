use Rattle.std.proofs.Common.{arith}
use Rattle.session_script.proofs.PlacesLemmas.{acts_allowed}
use Rattle.lane_turns.proofs.law.clock_fits.Goals as goal

pub returns : goal.returns
returns c =
    record {
      cells = c.requires.cells;
      lanes = c.lanes_have_cells.ensures.asked;
      few =
          omega (
            arith,
            c.scripts_are_well_formed.ensures.acts.count,
            acts_allowed c.args.script.now.version,
          );
    }
