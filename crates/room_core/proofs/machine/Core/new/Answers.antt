use Rattle.room_core.proofs.Reached.{start_reached}
use Rattle.room_core.proofs.machine.Core.new.Goals as goal

pub invariant_of-result : goal.invariant_of-result
invariant_of-result c =
    rw (
      c.in_ok-wait.ensures.items_if_clones_equal (λ y e. e),
      c.in_ok-grant.ensures.items_if_clones_equal (λ y e. e),
      c.in_ok-done.ensures.items_if_clones_equal (λ y e. e),
      c.in_ok-phases.ensures.items_if_clones_equal (λ y e. e),
      c.in_ok-draws.ensures.items_if_clones_equal (λ y e. e),
    )
    (start_reached c.args.rooms c.args.callers c.requires.some c.requires.few c.requires.crowd)
