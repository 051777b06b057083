use Rattle.std.specs.Option.{option_map}
use Rattle.asio_command.proofs.session_files.SessionFiles.parts.Goals as goal

pub returns : goal.returns
returns c = record {
  script = c.parts_of-own.result.script.now;
  own = option_map (λ text. text.now) c.parts_of-own.result.trace;
  file = c.parts_of-own.ensures;
  behind = record {
    head = c.script_parts_of.result.head.now;
    whole = c.script_parts_of.ensures.whole;
    comments = c.script_parts_of.ensures.comments;
    stops = c.script_parts_of.ensures.stops;
  };
  given = c.trace_part.ensures;
}
