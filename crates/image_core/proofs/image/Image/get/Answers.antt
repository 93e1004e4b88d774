use Rattle.std.proofs.Common.{arith}
use Rattle.image_core.proofs.Standing.{Fill-fits}
use Rattle.image_core.proofs.image.Image.get.Goals as goal

pub read-requires : goal.read-requires
read-requires c =
    rw (c.heads.ensures, c.as_slice.ensures.value) (omega (arith, Fill-fits _ _ _ c.self.invariant.fill c.args.object (rw (← c.self.view_is) at c.requires)))
