use Rattle.std.proofs.Common.{◌≡◌, List, ℕ, [], false, replicate, length, ap, rules, ◌∙◌}
use Rattle.std.proofs.lemmas.List.{length-replicate}
use Rattle.image_core.specs.Object.{references_at}
use Rattle.image_core.specs.Heap.{Heap}
use Rattle.image_mark.specs.Waiting.{MarksNamed}
use Rattle.image_mark.specs.Ahead.{Fills}
use Rattle.image_mark.proofs.Liveness.{roots_within, references_within, fits_at, heads_within}
use Rattle.image_mark.proofs.Ahead.{first_within, going-first, next_live, next_loaded, next_within, going-next, going-ends}
use Rattle.image_mark.proofs.mark.mark_one.Goals as goal

pub mark_named-requires-clause-within : goal.mark_named-requires-clause-within
mark_named-requires-clause-within c =
    let count : length c.in_ok-marks.marks ≡ length c.args.image.now.words =
    ap length c.in_ok-marks.ensures ∙ ap (λ ws. length (replicate (length ws) false)) c.words-words.ensures.words ∙ length-replicate (length c.args.image.now.words) false in
    rw (c.roots.ensures.roots, count) (roots_within c.args.image.now c.roots.ensures.lawful)

pub look_ahead-requires : goal.look_ahead-requires
look_ahead-requires c =
    let named : MarksNamed c.args.image.now.roots (replicate (length c.args.image.now.words) false) c.mark_named.new.marks [] c.mark_named.new.waiting.items =
    rw (c.roots.ensures.roots, c.in_ok-marks.ensures, c.words-words.ensures.words, c.new-waiting.ensures.items) at c.in_ok-mark_named.ensures in
    rw c.words-words.ensures.words (first_within c.args.image.now c.roots.ensures.lawful _ _ named)

pub loop-next-init : goal.loop-next-init
loop-next-init c =
    let named : MarksNamed c.args.image.now.roots (replicate (length c.args.image.now.words) false) c.mark_named.new.marks [] c.mark_named.new.waiting.items =
    rw (c.roots.ensures.roots, c.in_ok-marks.ensures, c.words-words.ensures.words, c.new-waiting.ensures.items) at c.in_ok-mark_named.ensures in
    let fills : Fills c.args.image.now.words [] c.look_ahead.new.ring c.mark_named.new.waiting.items c.look_ahead.new.waiting.items =
    rw (c.words-words.ensures.words, c.new-ring.ensures) at c.look_ahead.ensures in
    going-first c.args.image.now c.roots.ensures.lawful _ _ named _ _ fills

pub references_by-named-requires-clause-header : goal.references_by-named-requires-clause-header
references_by-named-requires-clause-header c =
    rw c.words-words.ensures.words (next_loaded c.args.image.now c.roots.ensures.lawful _ _ _ _ _ c.in-Some.ensures.some c.loop-next.invariant)

pub references_by-named-requires-clause-fits : goal.references_by-named-requires-clause-fits
references_by-named-requires-clause-fits c =
    rw c.words-words.ensures.words
    (fits_at c.args.image.now c.roots.ensures.lawful c.in-Some.next.place
    (next_live c.args.image.now c.roots.ensures.lawful _ _ _ _ _ c.in-Some.ensures.some c.loop-next.invariant))

pub mark_named-requires-in-Some-clause-within : goal.mark_named-requires-in-Some-clause-within
mark_named-requires-in-Some-clause-within c =
    rw (c.references_by-named.ensures, c.words-words.ensures.words, c.loop-next.invariant.sound.each)
    (references_within c.args.image.now c.roots.ensures.lawful c.in-Some.next.place
    (next_live c.args.image.now c.roots.ensures.lawful _ _ _ _ _ c.in-Some.ensures.some c.loop-next.invariant))

pub look_ahead-requires-in-Some : goal.look_ahead-requires-in-Some
look_ahead-requires-in-Some c =
    let named : MarksNamed (references_at c.args.image.now.words c.in-Some.next.place) c.loop-next.marks c.mark_named-in-Some.new.marks c.loop-next.waiting.items c.mark_named-in-Some.new.waiting.items =
    rw (c.references_by-named.ensures, c.words-words.ensures.words) at c.in_ok-mark_named-2.ensures in
    rw c.words-words.ensures.words (next_within c.args.image.now c.roots.ensures.lawful _ _ _ _ _ c.in-Some.ensures.some c.loop-next.invariant _ _ named)

pub loop-next-preserved : goal.loop-next-preserved
loop-next-preserved c =
    let named : MarksNamed (references_at c.args.image.now.words c.in-Some.next.place) c.loop-next.marks c.mark_named-in-Some.new.marks c.loop-next.waiting.items c.mark_named-in-Some.new.waiting.items =
    rw (c.references_by-named.ensures, c.words-words.ensures.words) at c.in_ok-mark_named-2.ensures in
    let fills : Fills c.args.image.now.words c.take.new.self c.look_ahead-in-Some.new.ring c.mark_named-in-Some.new.waiting.items c.look_ahead-in-Some.new.waiting.items =
    rw c.words-words.ensures.words at c.look_ahead-in-Some.ensures in
    going-next c.args.image.now c.roots.ensures.lawful _ _ _ _ _ c.in-Some.ensures.some c.loop-next.invariant _ _ named _ _ fills

pub marks_at-requires : goal.marks_at-requires
marks_at-requires c =
    rw (c.heads.ensures.heads, c.loop-next.invariant.sound.each) (heads_within c.args.image.now c.roots.ensures.lawful)

pub returns : goal.returns
returns c =
    rw (c.in_ok-live.ensures, c.heads.ensures.heads)
    (going-ends c.args.image.now c.roots.ensures.lawful c.loop-next.marks c.loop-next.waiting.items c.loop-next.ring c.in_default.ensures.none.0 c.loop-next.invariant)
