use Rattle.std.proofs.Common.{arith}
use Rattle.std.proofs.lemmas.List.Elements.{All-same, All-push}
use Rattle.image_slide.specs.Parts.{IsSlid}
use Rattle.image_slide.proofs.Account.{no_job}
use Rattle.image_slide.proofs.sliders.do_job.Goals as goal

pub returns-then-first-end-clause-does : goal.returns-then-first-end-clause-does
returns-then-first-end-clause-does c =
    no_job c.args.job _ _
    (omega (arith, c.if-first-end.true, c.first_piece-first.ensures.value, c.end_piece-end.ensures.value))

pub returns-clause-slid : goal.returns-clause-slid
returns-clause-slid c =
    let P = IsSlid c.args.image.now c.args.marks.now c.args.ranks.now in
    All-same P c.push_reserved.new.self.items _ c.push_reserved.ensures.items
    (All-push P c.args.parts.now.items c.in_ok-part.part c.requires.slid c.in_ok-part.ensures.slid)
