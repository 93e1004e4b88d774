use Rattle.std.proofs.Common.{ℕ, List, map, length}
use Rattle.image_slide.specs.Parts.{HaveWords}
use Rattle.image_slide.proofs.Placed.{Fitting, InPlace}
use Rattle.image_slide.proofs.joins.in_places.Given as goal

-- each piece is left, or its words are in place
abbrev pub invariant-loop-part : goal.invariant-loop-part
invariant-loop-part l = record {
  fitting : Fitting l.pieces l.rest.items (map (λ place. place.items) l.places.items);
  placed : (words_of : ℕ → List ℕ) → HaveWords words_of l.fn.parts.items
      → HaveWords words_of l.rest.items × InPlace words_of l.pieces l.rest.items (map (λ place. place.items) l.places.items);
}

abbrev pub decreases-loop-part : goal.decreases-loop-part
decreases-loop-part l = length l.rest.items
