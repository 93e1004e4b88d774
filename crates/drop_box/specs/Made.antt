-- What follows from a step that is made as said.
use Rattle.std.proofs.Common.{◌≡◌, ℕ, ap, subst, sym, ◌∙◌}
use Rattle.room_rule.specs.Use.{IsAt, UserStep}
use Rattle.room_rule.specs.Callers.{one_view}
use Rattle.drop_box.specs.declared.uses.Visit.{Visit}
use Rattle.drop_box.specs.Box.{Makes}

-- to show a fact of the step, show it of the word, the value and the view that it is said to make
pub made : {S : Type 0} {s : UserStep S Visit} {word value : ℕ} {change : Visit → Visit}
    {May : Visit → Type 0} → Makes s word value change May → (v : Visit)
    → IsAt s.before.views s.who v → (P : ℕ → ℕ → Visit → Type 0)
    → (May v → P word value (change v)) → P s.word s.value s.after
made {s = s} {word} {value} {change} {May} m v at P h =
    let same : m.view ≡ v = one_view s.before.views s.who m.view v m.at at in
    let new : s.after ≡ change v = m.after_is ∙ ap change same in
    subst (λ (t : ℕ × ℕ × Visit). P t.0 t.1 t.2)
    (λ i. (sym m.word_is i, sym m.value_is i, sym new i))
    (h (subst May same m.may))
