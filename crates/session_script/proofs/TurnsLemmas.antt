-- World lines and rounds take tokens.
use Rattle.std.proofs.Common.{◌≡◌, ℕ, Bool, false, List, refl}
use Rattle.session_script.specs.declared.token.Position.{Position}
use Rattle.session_script.specs.declared.parts.Header.{Header}
use Rattle.session_script.specs.declared.round.Round.{Round}
use Rattle.asio_types.specs.declared.world.Line.{Line}
use Rattle.session_script.specs.declared.reader.world_line.WorldWord.{WorldWord}
use Rattle.session_script.specs.declared.reader.world_line.WorldWord.TheVariants as world
use Rattle.session_script.specs.Tokens.{end}
use Rattle.session_script.specs.Productions.{bytes, what_happens, world_line, next_world_line, restart, round, begins_round, next_round}
use Rattle.session_script.proofs.ShrinkingLemmas.{Keeps, Shrinks, keeps_taking, one_takes, one_keeps, then_keeps, then_takes, done_keeps, keeps_then_takes, if_keeps, another_takes, another_keeps, bounded_keeps, declared_keeps}

pub bytes_takes : (most : ℕ) → Shrinks (bytes most)
unfolding bytes
bytes_takes most = then_takes (one_takes _) (λ digits. done_keeps _)

pub bytes_keeps : (most : ℕ) → Keeps (bytes most)
bytes_keeps most = keeps_taking (bytes_takes most)

happens_keeps : (h : Header) (w : WorldWord) → Keeps (what_happens h w)
unfolding what_happens
happens_keeps h world.Feed = then_keeps (bytes_keeps _) (λ fed. done_keeps _)
happens_keeps h world.End = done_keeps _
happens_keeps h world.Reset = done_keeps _
happens_keeps h world.Room = then_keeps (bounded_keeps _ _) (λ room. done_keeps _)

pub line_takes : (h : Header) (full : Bool) → Shrinks (world_line h full)
unfolding world_line
line_takes h full =
    then_takes (another_takes _ full) (λ _.
    then_keeps (bounded_keeps _ _) (λ time.
    then_keeps (one_keeps _) (λ happens.
    then_keeps (declared_keeps _) (λ stream. then_keeps (happens_keeps h happens) (λ what. done_keeps _)))))

pub next_line_takes : (h : Header) (so_far : List Line) → Shrinks (next_world_line h so_far)
unfolding next_world_line
next_line_takes h so_far = then_takes (line_takes h _) (λ next. done_keeps _)

restart_keeps : (full : Bool) → Keeps (restart full)
unfolding restart
restart_keeps full = if_keeps _ _ (then_keeps (another_keeps _ full) (λ _. done_keeps _))

pub round_takes : (h : Header) (full : Bool) → Shrinks (round h full)
unfolding round
round_takes h full =
    keeps_then_takes (restart_keeps full)
    (λ restarted. then_takes (one_takes _) (λ pace. then_keeps (bounded_keeps _ _) (λ workers. done_keeps _)))

pub next_round_takes : (h : Header) (so_far : List Round) → Shrinks (next_round h so_far)
unfolding next_round
next_round_takes h so_far = then_takes (round_takes h _) (λ next. done_keeps _)

pub no_round_at_end : (at : Position) → begins_round (end at) ≡ false
unfolding begins_round
no_round_at_end at = refl
