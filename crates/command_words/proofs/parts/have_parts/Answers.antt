use Rattle.std.proofs.Common.{◌≡◌, ◌<◌, [], arith, get_or, map, length, string_bytes}
use Rattle.std.proofs.lemmas.List.{get_or-map, length-map}
use Rattle.std.proofs.lemmas.Bool.{false≢true}
use Rattle.command_words.proofs.Forms.{follow_more, follow_none}
use Rattle.command_words.proofs.parts.have_parts.Goals as goal

pub returns-in-None : goal.returns-in-None
returns-in-None c =
    let words = map string_bytes c.args.words.now in
    let i = c.loop-word.word-index in
    let below : i < length words = omega (arith, length-map c.args.words.now string_bytes, c.loop-word-test.true) in
    let a = get_or-map string_bytes c.args.words.now i c.word-item.result [] c.loop-word-test.true in
    let b = c.word-item.is in
    let d = c.as_str.ensures.value in
    let at : get_or words i [] ≡ c.as_str.result.now = cc in
    let never = c.in-None.ensures.none c.as_str.result.now in (
      (λ yes. absurd (false≢true yes)),
      λ have. absurd (follow_none c.loop-word.waits words i c.as_str.result.now below at c.loop-word.invariant (never _ c.form_of.ensures) have),
    )

pub loop-word-preserved : goal.loop-word-preserved
loop-word-preserved c =
    let words = map string_bytes c.args.words.now in
    let i = c.loop-word.word-index in
    let below : i < length words = omega (arith, length-map c.args.words.now string_bytes, c.loop-word-test.true) in
    let a = get_or-map string_bytes c.args.words.now i c.word-item.result [] c.loop-word-test.true in
    let b = c.word-item.is in
    let d = c.as_str.ensures.value in
    let at : get_or words i [] ≡ c.as_str.result.now = cc in
    follow_more c.loop-word.waits c.in-Some.then words i c.as_str.result.now below at c.loop-word.invariant
    (c.in-Some.ensures.some c.as_str.result.now _ c.form_of.ensures)
