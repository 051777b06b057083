-- How far a machine is.
use Rattle.std.specs.Prelude.{None}
use Rattle.stream_rules.specs.Serving.{Some_bytes, All_bytes, Until, Some_of, All_of}
use Rattle.composed_ops.specs.declared.machine.Machine.{Machine}
use Rattle.composed_ops.specs.declared.machine.Machine.TheVariants as machine
use Rattle.composed_ops.specs.StreamOperation.{Reads, Writes}
use Rattle.composed_ops.specs.Progress.{StreamProgress}

abbrev pub progress_of : Machine → StreamProgress
progress_of (machine.ReadSome size moved) = record {
  asks = Reads (Some_bytes size);
  moved = moved;
  latest = None;
}
progress_of (machine.ReadAll size moved) = record {
  asks = Reads (All_bytes size);
  moved = moved;
  latest = None;
}
progress_of (machine.Until delimiter max latest) = record {
  asks = Reads (Until delimiter.now max);
  moved = 0;
  latest = latest;
}
progress_of (machine.WriteSome bytes moved) = record {
  asks = Writes (Some_of bytes.now);
  moved = moved;
  latest = None;
}
progress_of (machine.WriteAll bytes moved) = record {
  asks = Writes (All_of bytes.now);
  moved = moved;
  latest = None;
}
