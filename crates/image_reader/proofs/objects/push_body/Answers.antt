use Rattle.std.proofs.Common.{◌≡◌, ◌+◌, ◌++◌, ℕ, ap, ◌∙◌, arith, map}
use Rattle.image_reader.specs.Draws.{after, draws}
use Rattle.image_reader.specs.Made.{refs, data_words, reference}
use Rattle.image_reader.proofs.Drawing.{after_after, draws_after}
use Rattle.image_reader.proofs.objects.push_body.Goals as goal

pub returns-clause-words : goal.returns-clause-words
returns-clause-words c =
    let start : ℕ = c.args.source.now.number in
    let a : ℕ = refs c.args.shape in
    let b : ℕ = data_words c.args.shape in
    let f : ℕ → ℕ = reference c.args.heads.now in
    let number : c.push_references.new.source.number ≡ after start a = c.in_ok-push_references.ensures.number ∙ ap (after start) c.refs.ensures in
    let same : a + 0 ≡ a = omega arith in
    let rest : draws c.push_references.new.source.number 0 c.data_words.result ≡ draws start a b =
    ap (λ n. draws n 0 c.data_words.result) number ∙ ap (draws (after start a) 0) c.data_words.ensures
    ∙ draws_after start a 0 b ∙ ap (λ n. draws start n b) same in
    c.in_ok-push_data.ensures.words
    ∙ ap (λ ws. ws ++ draws c.push_references.new.source.number 0 c.data_words.result)
    (c.in_ok-push_references.ensures.words ∙ ap (λ n. c.args.out.now.items ++ map f (draws start 0 n)) c.refs.ensures)
    ∙ ap (λ ws. c.args.out.now.items ++ map f (draws start 0 a) ++ ws) rest

pub returns-clause-number : goal.returns-clause-number
returns-clause-number c =
    let start : ℕ = c.args.source.now.number in
    let a : ℕ = refs c.args.shape in
    let b : ℕ = data_words c.args.shape in
    c.in_ok-push_data.ensures.number
    ∙ ap (λ n. after n c.data_words.result) (c.in_ok-push_references.ensures.number ∙ ap (after start) c.refs.ensures)
    ∙ ap (after (after start a)) c.data_words.ensures
    ∙ after_after start a b
