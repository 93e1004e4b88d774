use Rattle.std.proofs.Common.{sym, subst}
use Rattle.image_core.specs.Heap.{IsLawful}
use Rattle.image_reader.proofs.Lawful.{made_lawful, made_is}
use Rattle.image_reader.proofs.make.make_image.Goals as goal

pub from_lawful-requires : goal.from_lawful-requires
from_lawful-requires c =
    let roots = rw c.as_slice.ensures.value at c.in_ok-roots.ensures in
    let is = made_is c.args.objects c.args.seed _ _ _ _ _ c.new-source.ensures c.in_ok-drawn.ensures.made.words c.in_ok-drawn.ensures.made.heads c.in_ok-drawn.ensures.number roots in
    subst IsLawful (sym is) (made_lawful c.args.objects c.args.seed c.requires)

pub returns : goal.returns
returns c =
    let roots = rw c.as_slice.ensures.value at c.in_ok-roots.ensures in
    let is = made_is c.args.objects c.args.seed _ _ _ _ _ c.new-source.ensures c.in_ok-drawn.ensures.made.words c.in_ok-drawn.ensures.made.heads c.in_ok-drawn.ensures.number roots in
    rw is at c.from_lawful.ensures
