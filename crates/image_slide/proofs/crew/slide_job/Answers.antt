use Rattle.std.proofs.Common.{◌≡◌, ℕ, ◌-◌, ◌++◌, ◌∷◌, [], map, ap, ◌∙◌, arith}
use Rattle.std.specs.List.{range_with_len}
use Rattle.std.proofs.lemmas.List.{append_assoc, map_push}
use Rattle.std.proofs.lemmas.List.Elements.{All-same, All-push}
use Rattle.image_slide.specs.Jobs.{first_of, end_of}
use Rattle.image_slide.specs.Parts.{IsSlid}
use Rattle.image_slide.specs.declared.pieces.Part.{Part}
use Rattle.image_slide.proofs.Halving.{range_more}
use Rattle.image_slide.proofs.crew.slide_job.Goals as goal

pub loop-piece-preserved : goal.loop-piece-preserved
loop-piece-preserved c =
    let inv = c.loop-piece.invariant in let parts = c.loop-piece.parts.items in let part = c.in_ok-slid_piece.field-0 in
    let P = IsSlid c.args.image.now c.args.marks.now c.args.ranks.now in
    let first = first_of c.args.job in let piece : ℕ = c.loop-piece.piece in
    let low = c.loop-piece.auto.piece in let value = c.first_piece-piece.ensures.value in
    let pushed = c.in_ok-push.ensures.items in
    let old = map (λ (p : Part). p.piece) c.args.parts.now.items in
    record {
      numbers = ap (map (λ (p : Part). p.piece)) pushed
          ∙ (map_push (λ (p : Part). p.piece) parts part
          ∙ (ap (λ l. l ++ part.piece ∷ []) inv.numbers
          ∙ (append_assoc old (range_with_len first (piece - first)) (part.piece ∷ [])
          ∙ ap (λ l. old ++ l) (range_more first piece part.piece (omega (arith, low, value)) c.in_ok-slid_piece.ensures.number))));
      few = omega (arith, inv.few, low, value, c.loop-piece-test.true, c.end_piece-piece-end.ensures.value);
      slid = All-same P c.push.new.self.items _ pushed (All-push P parts part inv.slid c.in_ok-slid_piece.ensures.slid);
    }

pub returns-clause-numbers : goal.returns-clause-numbers
returns-clause-numbers c =
    let inv = c.loop-piece.invariant in
    let count : c.loop-piece.piece - first_of c.args.job ≡ end_of c.args.job - first_of c.args.job =
    omega (arith, inv.few, c.loop-piece-test.false, c.end_piece-piece-end.ensures.value) in
    inv.numbers ∙ ap (λ n. map (λ (p : Part). p.piece) c.args.parts.now.items ++ range_with_len (first_of c.args.job) n) count
