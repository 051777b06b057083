-- What an act names is declared.
use Rattle.std.proofs.Common.{◌==◌, true, ◌≡◌, ◌<◌, ◌≤◌, ℕ, Some, None, length, refl, arith}
use Rattle.std.proofs.lemmas.Bool.Decides.{nat_tests}
use Rattle.std.proofs.lemmas.Option.{slice_get_past}
use Rattle.session_script.specs.declared.act.Act.{Act}
use Rattle.session_script.specs.declared.act.Act.TheVariants as act
use Rattle.session_script.specs.Script.{ScriptModel, act_of}
use Rattle.session_script.specs.WellFormed.{FitsAct, header_of}
use Rattle.history_rules.specs.Kinds.{slot_of}
use Rattle.history_rules.specs.Kinds.{reading_of, writing_of}
use Rattle.stream_rules.specs.Serving.{All_bytes, All_of, Reading, Some_bytes, Some_of, Until, Writing}
use Rattle.composed_ops.specs.StreamOperation.{Reads, Writes, asking_of, reading_size}
use Rattle.proactor_core.specs.Rooms.{waits_for}
use Rattle.proactor_core.specs.StreamRooms.{is_on_side, bytes_asked_at, stream_read, stream_written}
use Rattle.proactor_core.specs.declared.stream_rooms.StreamSide.TheVariants as side

-- the slot of an operation is declared
pub slot-known : (script : ScriptModel) (it : Act) → FitsAct (header_of script) it → (slot : ℕ) →
    slot_of it ≡ Some slot → slot < script.slots
slot-known script (act.Wait timer strand (Some at) filter) fits slot is =
    let same : at ≡ slot = cc in omega (arith, fits.2.0)
slot-known script (act.ReadSome stream size strand (Some at) filter) fits slot is =
    let same : at ≡ slot = cc in omega (arith, fits.3.0)
slot-known script (act.ReadAll stream size strand (Some at) filter) fits slot is =
    let same : at ≡ slot = cc in omega (arith, fits.3.0)
slot-known script (act.Until stream delimiter max strand (Some at) filter) fits slot is =
    let same : at ≡ slot = cc in omega (arith, fits.4.0)
slot-known script (act.WriteSome stream bytes strand (Some at) filter) fits slot is =
    let same : at ≡ slot = cc in omega (arith, fits.3.0)
slot-known script (act.WriteAll stream bytes strand (Some at) filter) fits slot is =
    let same : at ≡ slot = cc in omega (arith, fits.3.0)
slot-known script _ fits slot is = absurd (cc)

-- no act has a number past the last
pub no-act : (script : ScriptModel) (n : ℕ) → length script.acts ≤ n → act_of script n ≡ None
no-act script n past = rw (slice_get_past script.acts n past) refl

-- the timer of a wait is declared
pub timer-known : (script : ScriptModel) (it : Act) (timer : ℕ) → FitsAct (header_of script) it →
    waits_for timer it ≡ true → timer < script.timers
timer-known script (act.Wait other strand slot filter) timer fits waits =
    let same : other ≡ timer = grind (arith, nat_tests) in omega (arith, fits.0)
timer-known script _ timer fits waits = absurd (cc)

-- what a read asks for
pub record AsksRead (stream : ℕ) (it : Act) : Type 0 where
  pub reading : Reading
  pub is_read : reading_of it ≡ Some reading
  pub asks : asking_of it ≡ Some (Reads reading)
  pub size : bytes_asked_at stream it ≡ reading_size reading
  pub side : is_on_side side.Reads stream it ≡ true

same-number : (n m : ℕ) → n ≡ m → (n == m) ≡ true
same-number n m e = grind (arith, nat_tests)

pub asks-read : (stream : ℕ) (it : Act) → stream_read it ≡ Some stream → AsksRead stream it
asks-read stream (act.ReadSome other size strand slot filter) is =
    let same = same-number other stream (let e : other ≡ stream = cc in e) in
    record { reading = Some_bytes size; is_read = refl; asks = refl; size = rw same refl; side = same }
asks-read stream (act.ReadAll other size strand slot filter) is =
    let same = same-number other stream (let e : other ≡ stream = cc in e) in
    record { reading = All_bytes size; is_read = refl; asks = refl; size = rw same refl; side = same }
asks-read stream (act.Until other delimiter max strand slot filter) is =
    let same = same-number other stream (let e : other ≡ stream = cc in e) in
    record { reading = Until delimiter max; is_read = refl; asks = refl; size = rw same refl; side = same }
asks-read stream _ is = absurd (cc)

-- what a write asks for
pub record AsksWrite (stream : ℕ) (it : Act) : Type 0 where
  pub writing : Writing
  pub is_write : writing_of it ≡ Some writing
  pub asks : asking_of it ≡ Some (Writes writing)
  pub side : is_on_side side.Writes stream it ≡ true

pub asks-write : (stream : ℕ) (it : Act) → stream_written it ≡ Some stream → AsksWrite stream it
asks-write stream (act.WriteSome other bytes strand slot filter) is = record {
  writing = Some_of bytes;
  is_write = refl;
  asks = refl;
  side = same-number other stream (let e : other ≡ stream = cc in e);
}
asks-write stream (act.WriteAll other bytes strand slot filter) is = record {
  writing = All_of bytes;
  is_write = refl;
  asks = refl;
  side = same-number other stream (let e : other ≡ stream = cc in e);
}
asks-write stream _ is = absurd (cc)

-- the stream of a read is declared, and that of a write
pub read-known : (script : ScriptModel) (stream : ℕ) (it : Act) → FitsAct (header_of script) it →
    stream_read it ≡ Some stream → stream < script.world.streams
read-known script stream (act.ReadSome other size strand slot filter) fits is =
    let same : other ≡ stream = cc in omega (arith, fits.0)
read-known script stream (act.ReadAll other size strand slot filter) fits is =
    let same : other ≡ stream = cc in omega (arith, fits.0)
read-known script stream (act.Until other delimiter max strand slot filter) fits is =
    let same : other ≡ stream = cc in omega (arith, fits.0)
read-known script stream _ fits is = absurd (cc)

pub write-known : (script : ScriptModel) (stream : ℕ) (it : Act) → FitsAct (header_of script) it →
    stream_written it ≡ Some stream → stream < script.world.streams
write-known script stream (act.WriteSome other bytes strand slot filter) fits is =
    let same : other ≡ stream = cc in omega (arith, fits.0)
write-known script stream (act.WriteAll other bytes strand slot filter) fits is =
    let same : other ≡ stream = cc in omega (arith, fits.0)
write-known script stream _ fits is = absurd (cc)
