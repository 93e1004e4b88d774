use Rattle.image_slide.proofs.Renaming.{references_names, weak_names}
use Rattle.image_slide.proofs.moves.push_moved.Goals as goal

pub push_names-requires-clause-names : goal.push_names-requires-clause-names
push_names-requires-clause-names c =
    rw c.references.ensures (references_names c.args.format c.args.words.now c.args.ranks.now c.args.head c.requires.names)

pub push_names-requires-2-clause-names : goal.push_names-requires-2-clause-names
push_names-requires-2-clause-names c =
    rw c.weak_references.ensures (weak_names c.args.format c.args.words.now c.args.ranks.now c.args.head c.requires.names)
