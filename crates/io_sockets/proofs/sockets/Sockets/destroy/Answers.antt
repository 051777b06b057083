use Rattle.std.proofs.Common.{◌≡◌, true, subst, sym, ℕ}
use Rattle.std.specs.List.{slice_index_or}
use Rattle.io_sockets.specs.Stands.{is_gone, no_stand, stand_at}
use Rattle.io_sockets.proofs.StandLemmas.{last_gone, rest_gone}
use Rattle.io_sockets.proofs.sockets.Sockets.destroy.Goals as goal

pub loop-stand-init : goal.loop-stand-init
loop-stand-init g c =
    subst (λ v. (place : ℕ) → is_gone (stand_at v place).held ≡ true) (sym c.self.view_is) c.requires

pub destroy-requires : goal.destroy-requires
destroy-requires g c =
    last_gone c.pop.new.self.items c.in-Some.stand
    (λ n. subst (λ l. is_gone (slice_index_or l n no_stand).held ≡ true) c.in-Some.ensures.items (c.loop-stand.invariant n))

pub loop-stand-preserved : goal.loop-stand-preserved
loop-stand-preserved g c =
    rest_gone c.pop.new.self.items c.in-Some.stand
    (λ n. subst (λ l. is_gone (slice_index_or l n no_stand).held ≡ true) c.in-Some.ensures.items (c.loop-stand.invariant n))
