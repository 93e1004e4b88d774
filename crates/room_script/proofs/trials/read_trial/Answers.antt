use Rattle.std.proofs.Common.{◌≡◌, ◌<◌, ℕ, ◌+◌, [], ◌∷◌, ◌++◌, true, is_ok, length, map, get_or, inl, Ok, ap, sym, refl, ◌∙◌, subst, arith}
use Rattle.std.proofs.lemmas.Result.{err_from_is_err_and}
use Rattle.std.proofs.lemmas.List.{length-map, map_push}
use Rattle.room_script.specs.Breaks.{BreaksAt}
use Rattle.room_script.specs.Lines.{lines_of, bytes_at}
use Rattle.room_script.specs.Trials.{outline_of, IsNext, IsWrong, SpellsTrial, IsTrial}
use Rattle.room_script.specs.declared.faults.ScriptFault.TheVariants.{Line}
use Rattle.room_script.proofs.Fronts.{never_both, same_line}
use Rattle.room_script.proofs.Plans.{line_is, fault_line}
use Rattle.room_script.proofs.Outlines.{next_read, next_breaks, trial_read, outline_same}
use Rattle.room_script.proofs.trials.read_trial.Goals as goal

-- the head breaks the rules
head_breaks : (c : goal.After-drop-lines) → (k : ℕ) × (c.in_err-form.field-0.0 ≡ Line k) × BreaksAt IsTrial (lines_of c.args.text.now) k
head_breaks c = rw (c.deref.ensures.value, c.in_ok-lines.ensures.bytes) at c.in_err-form.ensures.broken

pub returns-in_err-form-clause-found : goal.returns-in_err-form-clause-found
returns-in_err-form-clause-found c = λ o spells.
    let broken = head_breaks c in
    absurd (never_both IsTrial (lines_of c.args.text.now) broken.0 (o, spells) broken.2)

pub returns-in_err-form-clause-told : goal.returns-in_err-form-clause-told
returns-in_err-form-clause-told c = λ k breaks.
    let broken = head_breaks c in
    let passed = err_from_is_err_and c.from_residual-in_err-form.result c.from_residual-in_err-form.ensures.1 in
    rw (passed.1, passed.2, broken.1, same_line IsTrial (lines_of c.args.text.now) broken.0 k broken.2 breaks) (inl refl)

-- a line that may not follow breaks them
breaks : (c : goal.After-drop-lines-in-Ok-false) → BreaksAt IsTrial (lines_of c.args.text.now) (c.loop-i.i + 1)
breaks c =
    let pieces = c.in_ok-lines.lines.items in
    let line = c.index-line.result.now in
    let within : c.loop-i.i < length pieces = omega (arith, c.in_ok-lines.lines.ok.0) in
    let at = line_is c.args.text.now pieces c.loop-i.i line within c.index-line.ensures in
    let scripts = map (λ s. s.items) c.loop-i.scripts.items in
    let wrong : IsWrong c.in_ok-form.field-0.form scripts (bytes_at c.args.text.now line) = c.add_line.ensures.wrong (c.in-Ok-false.is ∙ ap Ok c.in-Ok-false.field-0-test) in
    rw (← c.in_ok-lines.ensures.bytes) (next_breaks c.in_ok-form.field-0.form (map (bytes_at c.args.text.now) pieces) c.in_ok-form.field-0.layout c.in_ok-form.field-0.blocks c.in_ok-form.field-0.draws c.loop-i.i scripts c.loop-i.script.items
    c.loop-i.invariant (omega arith) (omega (arith, length-map pieces (bytes_at c.args.text.now))) (subst (IsWrong c.in_ok-form.field-0.form scripts) (sym at) wrong))

pub returns-in-Ok-false-clause-found : goal.returns-in-Ok-false-clause-found
returns-in-Ok-false-clause-found c = λ o spells. absurd (never_both IsTrial (lines_of c.args.text.now) (c.loop-i.i + 1) (o, spells) (breaks c))

pub returns-in-Ok-false-clause-broken : goal.returns-in-Ok-false-clause-broken
returns-in-Ok-false-clause-broken c = λ k e. rw (← fault_line (c.loop-i.i + 1) k e) (breaks c)

pub returns-in-Ok-false-clause-told : goal.returns-in-Ok-false-clause-told
returns-in-Ok-false-clause-told c = λ k other. inl (ap Line (same_line IsTrial (lines_of c.args.text.now) (c.loop-i.i + 1) k (breaks c) other))

pub loop-i-preserved : goal.loop-i-preserved
loop-i-preserved c =
    let pieces = c.in_ok-lines.lines.items in
    let line = c.index-line.result.now in
    let within : c.loop-i.i < length pieces = omega (arith, c.in_ok-lines.lines.ok.0) in
    let at = line_is c.args.text.now pieces c.loop-i.i line within c.index-line.ensures in
    let scripts = map (λ s. s.items) c.loop-i.scripts.items in
    let scripts' = map (λ s. s.items) c.add_line.new.scripts.items in
    let next : IsNext c.in_ok-form.field-0.form scripts c.loop-i.script.items (bytes_at c.args.text.now line) scripts' c.add_line.new.script.items =
    c.add_line.ensures.next (c.in-Ok-true.is ∙ ap Ok c.in-Ok-true.field-0-test) in
    next_read c.in_ok-form.field-0.form (map (bytes_at c.args.text.now) pieces) c.in_ok-form.field-0.layout c.in_ok-form.field-0.blocks c.in_ok-form.field-0.draws c.loop-i.i scripts c.loop-i.script.items scripts' c.add_line.new.script.items
    c.loop-i.invariant (omega (arith, length-map pieces (bytes_at c.args.text.now)))
    (subst (λ x. IsNext c.in_ok-form.field-0.form scripts c.loop-i.script.items x scripts' c.add_line.new.script.items) (sym at) next)

-- all lines are read
spells : (c : goal.After-drop-lines-2) → SpellsTrial (lines_of c.args.text.now) (outline_of (record { layout = c.in_ok-form.field-0.layout; blocks = c.in_ok-form.field-0.blocks; draws = c.in_ok-form.field-0.draws; scripts = c.push.new.self }))
spells c =
    let pieces = c.in_ok-lines.lines.items in
    let pushed : is_ok c.push.result ≡ true = sym c.map_err.ensures.variant ∙ ap is_ok c.in_ok-map_err.was in
    let items : c.push.new.self.items ≡ c.loop-i.scripts.items ++ c.loop-i.script ∷ [] = rw pushed at c.push.ensures.items in
    rw (items, map_push, ← c.in_ok-lines.ensures.bytes) (trial_read c.in_ok-form.field-0.form (map (bytes_at c.args.text.now) pieces) _ c.loop-i.i (omega (arith, length-map pieces (bytes_at c.args.text.now), c.in_ok-lines.lines.ok.0)) c.loop-i.invariant)

pub returns-clause-found : goal.returns-clause-found
returns-clause-found c = λ o other. outline_same (lines_of c.args.text.now) _ o (spells c) other

pub returns-clause-told : goal.returns-clause-told
returns-clause-told c = λ k other. never_both IsTrial (lines_of c.args.text.now) k (_, spells c) other
