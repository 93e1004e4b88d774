use Rattle.std.proofs.Common.{◌≡◌, ℕ, List, [], ◌∷◌, length, take, min, ap, ◌∙◌, arith}
use Rattle.std.proofs.lemmas.List.{length-take}
use Rattle.room_io.proofs.laws.wrong_gains_are_refused.Goals as goal

pub returns-clause-longer : goal.returns-clause-longer
returns-clause-longer c = λ gained.
    let two : List ℕ = 7 ∷ 8 ∷ [] in
    let long : ◌≡◌ {A = ℕ} 3 (min gained.0 2) =
    ap (λ (l : List ℕ). length l) gained.2 ∙ length-take gained.0 two in
    omega arith
