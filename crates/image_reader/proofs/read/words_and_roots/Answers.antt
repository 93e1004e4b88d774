use Rattle.std.proofs.Common.{◌≡◌, ◌+◌, ◌*◌, arith, sym, subst, ◌∙◌, ap, length}
use Rattle.std.proofs.lemmas.List.{take_rest}
use Rattle.image_core.specs.Header.{IsFormat}
use Rattle.image_reader.specs.Bytes.{word_bytes, magic_bytes}
use Rattle.image_reader.proofs.Spelling.{assembled}
use Rattle.image_reader.proofs.read.words_and_roots.Goals as goal

pub returns : goal.returns
returns c =
    let words : length c.in_ok-words.words.items ≡ c.args.frame.words = omega (arith, c.in_ok-words.ensures.count, c.in_ok-words.words.ok.0) in
    let roots : length c.in_ok-roots.roots.items ≡ c.args.frame.roots = omega (arith, c.in_ok-roots.ensures.count, c.in_ok-roots.roots.ok.0) in
    record {
      known = subst IsFormat (sym c.requires.format) c.requires.header.begins.known;
      few_words = omega (arith, c.requires.header.few_words);
      few_roots = omega (arith, c.requires.header.few_roots);
      words_fit = c.in_ok-words.ensures.fit;
      roots_fit = c.in_ok-roots.ensures.fit;
      spelled_so = assembled c.args.bytes.now _ _ _ _ _ (24 + 8 * c.args.frame.words) (omega arith)
          (c.requires.header.begins.magic_there ∙ ap magic_bytes (sym c.requires.format))
          (sym c.requires.words_spelled ∙ ap word_bytes (sym words))
          (sym c.requires.roots_spelled ∙ ap word_bytes (sym roots))
          (sym c.in_ok-words.ensures.spelled)
          (sym (take_rest c.args.bytes.now (24 + 8 * c.args.frame.words)) ∙ sym c.in_ok-roots.ensures.spelled);
    }
