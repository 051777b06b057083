-- What is within the limits of a version is within those of version 2.
use Rattle.std.proofs.Common.{◌≡◌, ℕ, ◌≤◌, Bool, true, false, cond, List, length, get_or, refl, inr, arith}
use Rattle.std.specs.Prelude.{nat_eq}
use Rattle.asio_types.specs.declared.world.Line.{Line}
use Rattle.asio_types.specs.declared.world.What.{What}
use Rattle.asio_types.specs.declared.world.What.TheVariants as what
use Rattle.session_script.specs.declared.act.Act.{Act}
use Rattle.session_script.specs.declared.act.Act.TheVariants as act
use Rattle.session_script.specs.declared.round.Round.{Round}
use Rattle.session_script.specs.declared.limits.Limits.{Limits}
use Rattle.session_script.specs.declared.parts.Header.{Header}
use Rattle.session_script.specs.Script.{Entry, Place, ScriptModel}
use Rattle.session_script.specs.Limits.{limits_of, most_acts, most_nesting}
use Rattle.session_script.specs.WellFormed.{IsSize, FitsAct, FitsWhat, FitsLine, FitsRound, IsNested, IsForest, header_of, IsWellFormed}
use Rattle.session_script.specs.Spelling.{upgraded}

-- limits that are no less
pub record Allows (few more : Limits) : Type 0 where
  acts : few.acts ≤ more.acts
  nesting : few.nesting ≤ more.nesting
  strands : few.strands ≤ more.strands
  timers : few.timers ≤ more.timers
  slots : few.slots ≤ more.slots
  streams : few.streams ≤ more.streams
  guards : few.guards ≤ more.guards
  lines : few.lines ≤ more.lines
  rounds : few.rounds ≤ more.rounds
  workers : few.workers ≤ more.workers
  size : few.size ≤ more.size
  delimiter : few.delimiter ≤ more.delimiter
  room : few.room ≤ more.room
  time : few.time ≤ more.time

second_allows : (first : Bool) (few more : ℕ) → few ≤ more → cond first few more ≤ more
second_allows true few more le = le
second_allows false few more le = omega arith

version_2_allows : (version : ℕ) → Allows (limits_of version) (limits_of 2)
unfolding limits_of
version_2_allows version = record {
  acts = second_allows (nat_eq version 1) 1024 most_acts (omega arith);
  nesting = second_allows (nat_eq version 1) most_nesting most_nesting (omega arith);
  strands = second_allows (nat_eq version 1) 16 64 (omega arith);
  timers = second_allows (nat_eq version 1) 32 128 (omega arith);
  slots = second_allows (nat_eq version 1) 64 128 (omega arith);
  streams = second_allows (nat_eq version 1) 16 64 (omega arith);
  guards = second_allows (nat_eq version 1) 16 64 (omega arith);
  lines = second_allows (nat_eq version 1) 256 1024 (omega arith);
  rounds = second_allows (nat_eq version 1) 16 64 (omega arith);
  workers = second_allows (nat_eq version 1) 16 16 (omega arith);
  size = second_allows (nat_eq version 1) 4096 16384 (omega arith);
  delimiter = second_allows (nat_eq version 1) 16 16 (omega arith);
  room = second_allows (nat_eq version 1) 65536 262144 (omega arith);
  time = second_allows (nat_eq version 1) 1099511627775 1099511627775 (omega arith);
}

size_allows : (few more n : ℕ) → few ≤ more → IsSize few n → IsSize more n
size_allows few more n le is = (is.0, omega (arith, is.1))

module _ (h : Header) (more : Limits) (allows : Allows h.limits more) where
  wider : Header
  wider = record h { version = 2; limits = more }

  fits_act : (a : Act) → FitsAct h a → FitsAct wider a
  unfolding wider
  fits_act (act.Post strand) f = f
  fits_act (act.Defer strand) f = f
  fits_act (act.Dispatch strand) f = f
  fits_act (act.Expires timer after) f = (f.0, omega (arith, f.1, allows.time))
  fits_act (act.ExpiresAt timer at) f = (f.0, omega (arith, f.1, allows.time))
  fits_act (act.Wait timer strand slot filter) f = f
  fits_act (act.Cancel timer) f = f
  fits_act (act.CancelOne timer) f = f
  fits_act (act.Emit slot kinds) f = f
  fits_act (act.ReadSome stream size strand slot filter) f =
      (f.0, size_allows h.limits.size more.size size allows.size f.1, f.2, f.3)
  fits_act (act.ReadAll stream size strand slot filter) f =
      (f.0, size_allows h.limits.size more.size size allows.size f.1, f.2, f.3)
  fits_act (act.Until stream delimiter max strand slot filter) f = (
    f.0,
    size_allows h.limits.delimiter more.delimiter (length delimiter) allows.delimiter f.1,
    size_allows h.limits.size more.size max allows.size f.2,
    f.3,
    f.4,
  )
  fits_act (act.WriteSome stream bytes strand slot filter) f =
      (f.0, size_allows h.limits.size more.size (length bytes) allows.size f.1, f.2, f.3)
  fits_act (act.WriteAll stream bytes strand slot filter) f =
      (f.0, size_allows h.limits.size more.size (length bytes) allows.size f.1, f.2, f.3)
  fits_act (act.Close stream) f = f
  fits_act (act.Release guard) f = f
  fits_act act.Stop f = f

  fits_what : (w : What) → FitsWhat h w → FitsWhat wider w
  unfolding wider
  fits_what (what.Feed bytes) f = size_allows h.limits.size more.size (length bytes) allows.size f
  fits_what what.End f = f
  fits_what what.Reset f = f
  fits_what (what.Room room) f = size_allows h.limits.room more.room room allows.room f

  fits_line : (line : Line) → FitsLine h line → FitsLine wider line
  unfolding wider
  fits_line line f = (omega (arith, f.0, allows.time), f.1, fits_what line.what f.2)

  fits_round : (round : Round) → FitsRound h round → FitsRound wider round
  unfolding wider
  fits_round round f = size_allows h.limits.workers more.workers round.workers allows.workers f

  wider_nest : (acts : List Entry) (place : Place) →
      (depth : ℕ) × (depth ≤ h.limits.nesting) × IsNested acts place depth →
      (depth : ℕ) × (depth ≤ more.nesting) × IsNested acts place depth
  wider_nest acts place nested = (nested.0, omega (arith, nested.1, allows.nesting), nested.2)

  is_forest : (acts : List Entry) → IsForest h acts → IsForest wider acts
  unfolding wider
  is_forest acts forest = record {
    count = omega (arith, forest.count, allows.acts);
    placed = λ n entry there.
        record {
          fits = fits_act entry.act (forest.placed n entry there).fits;
          parent = (forest.placed n entry there).parent;
          nested = wider_nest acts entry.parent (forest.placed n entry there).nested;
        };
  }

-- a script of either version is well formed in version 2
pub upgraded_is_well_formed : (script : ScriptModel) → IsWellFormed script → IsWellFormed (upgraded script)
unfolding wider
upgraded_is_well_formed script is =
    let allows : Allows (limits_of script.version) (limits_of 2) = version_2_allows script.version in
    record {
      version = inr refl;
      strands = omega (arith, is.strands, allows.strands);
      timers = omega (arith, is.timers, allows.timers);
      slots = omega (arith, is.slots, allows.slots);
      streams = omega (arith, is.streams, allows.streams);
      guards = omega (arith, is.guards, allows.guards);
      acts = is_forest (header_of script) (limits_of 2) allows script.acts is.acts;
      line_count = omega (arith, is.line_count, allows.lines);
      lines = λ k d lt.
          fits_line (header_of script) (limits_of 2) allows (get_or script.world.lines k d) (is.lines k d lt);
      some_round = is.some_round;
      round_count = omega (arith, is.round_count, allows.rounds);
      rounds = λ k d lt.
          fits_round (header_of script) (limits_of 2) allows (get_or script.rounds k d) (is.rounds k d lt);
      released = is.released;
    }

pub same_in_version_2 : (script : ScriptModel) → script.version ≡ 2 → upgraded script ≡ script
same_in_version_2 script e = rw (← e) refl
