use Rattle.image_slide.specs.Sliding.{AreSliders}
use Rattle.image_slide.proofs.sliders.sliders.Given as goal

abbrev pub invariant-loop-worker : goal.invariant-loop-worker
invariant-loop-worker l = AreSliders l.image l.marks l.ranks l.worker l.works.items
