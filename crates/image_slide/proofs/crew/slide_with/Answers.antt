use Rattle.std.proofs.Common.{◌≡◌, sym, subst}
use Rattle.std.specs.Prelude.{IfOk}
use Rattle.image_core.specs.Heap.{Heap, IsLawful}
use Rattle.image_slide.specs.Slide.{slide}
use Rattle.image_slide.proofs.Renaming.{heap_of, slide-moved}
use Rattle.image_slide.proofs.Slid.{slide_lawful}
use Rattle.image_slide.proofs.crew.slide_with.Goals as goal

pub from_lawful-requires : goal.from_lawful-requires
from_lawful-requires g c =
    let is = c.in_ok-moved.ensures in
    rw c.format.ensures.format (subst IsLawful (sym (slide-moved _ _ _ c.requires.marks is)) (slide_lawful _ _ is.lawful c.requires.marks))

pub returns : goal.returns
returns g c =
    let moved = c.in_ok-moved.moved in
    let is : heap_of c.format.result moved.words.items moved.roots.items moved.heads.items ≡ slide c.args.image.now c.args.live.now =
    rw c.format.ensures.format (slide-moved _ _ _ c.requires.marks c.in_ok-moved.ensures) in
    subst (λ (heap : Heap). IfOk c.from_lawful.result (λ slid. slid ≡ heap)) is c.from_lawful.ensures
