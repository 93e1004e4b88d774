use Rattle.std.proofs.Common.{◌<◌, ℕ, List, arith, length, get_or}
use Rattle.std.proofs.lemmas.List.Elements.{All-get_or}
use Rattle.image_core.specs.Object.{references_at}
use Rattle.image_core.specs.Heap.{Names}
use Rattle.image_core.proofs.Standing.{Fill-fits}
use Rattle.image_core.proofs.Parts.{length-references, references_named}
use Rattle.image_core.proofs.image.Image.child.Goals as goal

pub references-words-requires : goal.references-words-requires
references-words-requires c =
    rw (c.heads.ensures, c.as_slice.ensures.value)
    (omega (arith, Fill-fits _ _ _ c.self.invariant.fill c.args.object (rw (← c.self.view_is) at c.requires.object)))

pub bounds-words-k : goal.bounds-words-k
bounds-words-k c =
    rw (c.references-words.ensures, c.heads.ensures, c.as_slice.ensures.value)
    (omega (
      arith,
      rw (← c.self.view_is) at c.requires.reference,
      length-references c.self.inside.words.items (get_or c.self.inside.index c.args.object 0)
          (omega (arith, Fill-fits _ _ _ c.self.invariant.fill c.args.object (rw (← c.self.view_is) at c.requires.object))),
    ))

pub target-requires : goal.target-requires
target-requires c =
    let within = rw (← c.self.view_is) at c.requires.object in
    let head : ℕ = get_or c.self.inside.index c.args.object 0 in
    let words : List ℕ = c.self.inside.words.items in
    let below : c.args.k < length (references_at words head) =
    omega (
      arith,
      rw (← c.self.view_is) at c.requires.reference,
      length-references words head (omega (arith, Fill-fits _ _ _ c.self.invariant.fill c.args.object within)),
    ) in
    rw (c.references-words.ensures, c.heads.ensures, c.as_slice.ensures.value)
    (All-get_or (Names c.self.inside.index) (references_at words head) c.args.k 0 below
    (references_named c.self.inside.format words c.self.inside.index head (c.self.invariant.references c.args.object 0 within)))
