use Rattle.proactor_core.proofs.proactor.parts_of.Goals as goal

pub returns : goal.returns
returns c = record {
  half = c.in_ok-tables.ensures.half;
  room = c.in_ok-tables.ensures.room;
  spare = c.in_ok-tables.ensures.spare;
  count = c.in_ok-streams.ensures.count;
  opened = c.in_ok-streams.ensures.open;
  sizes = c.in_ok-streams.ensures.rooms;
  reads = c.in_ok-streams.ensures.reads;
  writes = c.in_ok-streams.ensures.writes;
}
