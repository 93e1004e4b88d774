use Rattle.std.proofs.Common.{ap, ◌∙◌, codes}
use Rattle.clap.specs.Words.{first_of, found_of}
use Rattle.clap.proofs.WalkLemmas.{first_value-rows}
use Rattle.command_words.proofs.assign.texts_of.Goals as goal

pub returns : goal.returns
returns c = λ words is. record {
  workers_read = c.get_str.ensures ∙ first_value-rows (found_of c.args.matches.now) (codes "workers") ∙ ap (first_of (codes "workers")) is;
  blocks_read = c.get_str-2.ensures ∙ first_value-rows (found_of c.args.matches.now) (codes "blocks") ∙ ap (first_of (codes "blocks")) is;
  layout_read = c.get_str-3.ensures ∙ first_value-rows (found_of c.args.matches.now) (codes "layout") ∙ ap (first_of (codes "layout")) is;
  command_read = c.get_str-4.ensures ∙ first_value-rows (found_of c.args.matches.now) (codes "command") ∙ ap (first_of (codes "command")) is;
  objects_read = c.get_str-5.ensures ∙ first_value-rows (found_of c.args.matches.now) (codes "objects") ∙ ap (first_of (codes "objects")) is;
  seed_read = c.get_str-6.ensures ∙ first_value-rows (found_of c.args.matches.now) (codes "seed") ∙ ap (first_of (codes "seed")) is;
}
