-- The limits of the two versions, as one table.
use Rattle.std.specs.Prelude.{ℕ, ◌+◌, ◌-◌, ◌^◌, ◌==◌, if◌then◌else◌}
use Rattle.session_script.specs.declared.limits.Limits.{Limits}

-- the acts of a script, in either version
abbrev pub most_acts : ℕ
most_acts = 4096

-- the bytes of a text of a script, in both versions
abbrev pub most_bytes : ℕ
most_bytes = 262144

-- the bytes of which a reader has any use: one more shows that a text is too long
abbrev pub most_read : ℕ
most_read = most_bytes + 1

-- how deep bodies nest, in both versions, the body of `open` being 1
abbrev pub most_nesting : ℕ
most_nesting = 32

--                     version 1 and version 2
unfoldable pub limits_of : ℕ → Limits
limits_of version = record {
  acts = of 1024 most_acts;
  nesting = of most_nesting most_nesting;
  strands = of 16 64;
  timers = of 32 128;
  slots = of 64 128;
  streams = of 16 64;
  guards = of 16 64;
  lines = of 256 1024;
  rounds = of 16 64;
  workers = of 16 16;
  size = of 4096 16384;
  delimiter = of 16 16;
  room = of 65536 262144;
  time = of (2 ^ 40 - 1) (2 ^ 40 - 1);
}
  where
    of : ℕ → ℕ → ℕ
    of first second = if version == 1 then first else second
