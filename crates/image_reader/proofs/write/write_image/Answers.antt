use Rattle.std.proofs.Common.{rules}
use Rattle.image_reader.specs.Bytes.{IsImage}
use Rattle.image_reader.proofs.Once.{IsImage-once}
use Rattle.image_reader.proofs.write.write_image.Goals as goal

pub returns-clause-only : goal.returns-clause-only
returns-clause-only c =
    let this : IsImage c.push_words-2.new.out.items c.args.image.now = search (rules, c.push_words.ensures.fit, c.push_words-2.ensures.fit) in
    λ heap image. IsImage-once _ heap c.args.image.now image this
