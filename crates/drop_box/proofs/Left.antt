-- From the laws to the words that are left.
use Rattle.std.proofs.Common.{◌≡◌, ℕ, Option, List, [], ◌∷◌, length, get_or, map, refl, arith, ◌∙◌}
use Rattle.atomic_table.proofs.Lists.{at_map}
use Rattle.room_gate.specs.Shows.{Caller}
use Rattle.room_gate.specs.Closing as gate
use Rattle.drop_box.specs.declared.uses.Visit.{Visit}
use Rattle.drop_box.specs.Box.{box_meaning}
use Rattle.drop_box.specs.Closing.{IsLeftOver}

two_words : (ws : List ℕ) → length ws ≡ 2 → ws ≡ get_or ws 0 0 ∷ get_or ws 1 0 ∷ []
two_words [] e = absurd (omega arith)
two_words (a ∷ []) e = absurd (omega arith)
two_words (a ∷ b ∷ []) e = refl
two_words (a ∷ b ∷ c ∷ ws) e = absurd (omega arith)

pub left_of : {X S : Type 0} (x : X) (callers : ℕ) (passes : List (Caller Visit)) (words : List ℕ)
    (slots : List (Option S)) → length passes ≡ callers
    → gate.IsLeft (box_meaning {X = X} {S = S}) x callers (map gate.last_of passes) words slots
    → IsLeftOver passes words
left_of x callers passes words slots many left =
    let shows = left.lawful.shows in
    let rang = left.lawful.rang in
    let crowd = left.crowd in
    record {
      views = left.views;
      crowd = omega arith;
      each = λ i p e. left.each i (gate.last_of p) (at_map gate.last_of passes i p e);
      shown = two_words words left.sized ∙ (λ i. shows i ∷ rang i ∷ []);
    }
