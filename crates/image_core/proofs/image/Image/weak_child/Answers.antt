use Rattle.std.proofs.Common.{◌<◌, ℕ, List, arith, length, get_or}
use Rattle.std.proofs.lemmas.List.Elements.{All-get_or}
use Rattle.image_core.specs.Object.{weak_references_at}
use Rattle.image_core.specs.Heap.{Names}
use Rattle.image_core.proofs.Standing.{Fill-fits}
use Rattle.image_core.proofs.Parts.{length-weak_references, weak_references_named}
use Rattle.image_core.proofs.image.Image.weak_child.Goals as goal

pub weak_references-weak-requires : goal.weak_references-weak-requires
weak_references-weak-requires c =
    rw (c.heads.ensures, c.as_slice.ensures.value)
    (Fill-fits _ _ _ c.self.invariant.fill c.args.object (rw (← c.self.view_is) at c.requires.object))

pub bounds-weak-k : goal.bounds-weak-k
bounds-weak-k c =
    rw (c.weak_references-weak.ensures, c.heads.ensures, c.as_slice.ensures.value)
    (omega (
      arith,
      rw (← c.self.view_is) at c.requires.weak,
      length-weak_references c.self.inside.format c.self.inside.words.items (get_or c.self.inside.index c.args.object 0)
          (Fill-fits _ _ _ c.self.invariant.fill c.args.object (rw (← c.self.view_is) at c.requires.object)),
    ))

pub target-requires : goal.target-requires
target-requires c =
    let within = rw (← c.self.view_is) at c.requires.object in
    let format : ℕ = c.self.inside.format in
    let head : ℕ = get_or c.self.inside.index c.args.object 0 in
    let words : List ℕ = c.self.inside.words.items in
    let below : c.args.k < length (weak_references_at format words head) =
    omega (
      arith,
      rw (← c.self.view_is) at c.requires.weak,
      length-weak_references format words head (Fill-fits _ _ _ c.self.invariant.fill c.args.object within),
    ) in
    rw (c.weak_references-weak.ensures, c.heads.ensures, c.as_slice.ensures.value)
    (All-get_or (Names c.self.inside.index) (weak_references_at format words head) c.args.k 0 below
    (weak_references_named format words c.self.inside.index head (c.self.invariant.references c.args.object 0 within)))
