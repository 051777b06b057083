-- What the far ends keep of the plan that the lines of the world make.
use Rattle.std.specs.Prelude.{◌≡◌}
use Rattle.stream_rules.specs.declared.pipe.Pipe.{Pipe}

-- the marks are as before, and so is the memory for what is to come
pub record KeepsPlan (old new : Pipe) : Type 0 where
  pub read_mark : new.inbound.mark ≡ old.inbound.mark
  pub write_mark : new.outbound.mark ≡ old.outbound.mark
  pub bytes : new.inbound.left ≡ old.inbound.left
  pub room : new.outbound.left ≡ old.outbound.left
