use Rattle.std.specs.Option.{option_map}
use Rattle.asio_command.proofs.parts.file_script.Goals as goal

pub returns : goal.returns
returns c = record {
  script = c.parts_of.result.script.now;
  own = option_map (λ text. text.now) c.parts_of.result.trace;
  parted = c.parts_of.ensures;
  behind = record {
    head = c.script_parts_of.result.head.now;
    whole = c.script_parts_of.ensures.whole;
    comments = c.script_parts_of.ensures.comments;
    stops = c.script_parts_of.ensures.stops;
  };
}
