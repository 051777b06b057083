use Rattle.history_book.proofs.replay.Replay.lane_is_free.Goals as goal

pub returns : goal.returns
returns c = rw (← c.self.view_is) (rw (c.script.ensures, c.works.ensures) at c.lane_is_free.ensures)
