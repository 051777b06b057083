use Rattle.std.proofs.Common.{◌≡◌, None, [], ap, subst, sym, ◌∙◌, ℕ}
use Rattle.std.proofs.lemmas.Bool.{true≢false}
use Rattle.std.specs.List.{slice_index_or}
use Rattle.std.specs.Option.{is_some}
use Rattle.io_queues.specs.Queued.{queue_at}
use Rattle.io_queues.proofs.CallLemmas.{last_empty}
use Rattle.io_queues.proofs.ReadLemmas.{all_empty}
use Rattle.io_queues.proofs.queues.Queues.destroy.Goals as goal

pub loop-item-init : goal.loop-item-init
loop-item-init g c =
    all_empty _ _ _ _ _ c.self.invariant
    (subst (λ v. (queue : ℕ) → queue_at v queue ≡ []) (sym c.self.view_is) c.requires)

pub unreachable-requires : goal.unreachable-requires
unreachable-requires g c =
    let none = last_empty c.pop.new.self.items c.in-Some.item
    (λ n. ap (λ l. slice_index_or l n None) (sym c.in-Some.ensures.items) ∙ c.loop-item.invariant n) in
    true≢false (sym (ap is_some c.in-Some-item.is) ∙ ap is_some none)
