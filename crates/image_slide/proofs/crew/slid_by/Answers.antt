use Rattle.std.proofs.Common.{map, ap, arith}
use Rattle.std.specs.List.{flat_map}
use Rattle.bay_core.specs.Times.{times}
use Rattle.bay_core.proofs.Counts.{times-append}
use Rattle.image_slide.specs.Jobs.{pieces_in}
use Rattle.image_slide.proofs.Account.{sliders_new, is_of, all_once}
use Rattle.image_slide.proofs.crew.slid_by.Goals as goal

pub run_crew-requires-clause-new : goal.run_crew-requires-clause-new
run_crew-requires-clause-new g c κs within =
    sliders_new c.args.image.now c.args.marks.now c.args.ranks.now c.args.crew.now.workers c.in_ok-works.works.items c.in_ok-works.ensures

pub slide_left-requires-clause-slid : goal.slide_left-requires-clause-slid
slide_left-requires-clause-slid g c =
    c.in_ok-parts.ensures.slid c.args.image.now c.args.marks.now c.args.ranks.now (λ i m at.
    is_of c.args.image.now c.args.marks.now c.args.ranks.now c.args.crew.now.workers c.in_ok-works.works.items
    c.in_ok-works-2.field-0.works.items c.in_ok-works-2.field-0.left.items c.requires.crew.workers.0 c.in_ok-works.ensures c.in_ok-works-2.ensures.made i m at)

pub returns-clause-once : goal.returns-clause-once
returns-clause-once g c p =
    let left = c.in_ok-works-2.field-0.left.items in
    omega (
      arith,
      ap (times p) c.in_ok-slide_left.ensures.numbers,
      times-append p (map (λ part. part.piece) c.in_ok-parts.parts.items) (flat_map pieces_in c.as_slice.result.now),
      ap (λ l. times p (flat_map pieces_in l)) c.as_slice.ensures.value,
      c.in_ok-parts.ensures.numbers p,
      all_once c.args.image.now c.args.marks.now c.args.ranks.now c.args.crew.now.workers c.in_ok-works.works.items
          c.in_ok-works-2.field-0.works.items left c.requires.crew.workers.0 c.in_ok-works.ensures c.in_ok-works-2.ensures.made
          c.in_ok-works-2.ensures.settled c.in_ok-parts.ensures.accounts p,
    )
