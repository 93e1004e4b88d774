use Rattle.std.proofs.Common.{◌≡◌, ◌<◌, ℕ, ◌+◌, [], ◌∷◌, ◌++◌, true, is_ok, length, map, inl, ap, sym, refl, ◌∙◌, arith}
use Rattle.std.proofs.lemmas.Result.{err_from_is_err_and}
use Rattle.std.proofs.lemmas.List.{length-map}
use Rattle.room_script.specs.Breaks.{BreaksAt}
use Rattle.room_script.specs.Lines.{lines_of, bytes_at}
use Rattle.room_script.specs.Schedules.{plan_of, Spells, IsSchedule}
use Rattle.room_script.specs.declared.faults.ScriptFault.TheVariants.{Line}
use Rattle.room_script.proofs.Fronts.{never_both, same_line}
use Rattle.room_script.proofs.Plans.{act_more, act_breaks, line_is, all_read, plan_same, fault_line}
use Rattle.room_script.proofs.schedules.read_schedule.Goals as goal

-- the head breaks the rules
head_breaks : (c : goal.After-drop-lines) → (k : ℕ) × (c.in_err-rooms.field-0.0 ≡ Line k) × BreaksAt IsSchedule (lines_of c.args.text.now) k
head_breaks c = rw (c.deref.ensures.value, c.in_ok-lines.ensures.bytes) at c.in_err-rooms.ensures.broken

pub returns-in_err-rooms-clause-found : goal.returns-in_err-rooms-clause-found
returns-in_err-rooms-clause-found c = λ p spells.
    let broken = head_breaks c in
    absurd (never_both IsSchedule (lines_of c.args.text.now) broken.0 (p, spells) broken.2)

pub returns-in_err-rooms-clause-told : goal.returns-in_err-rooms-clause-told
returns-in_err-rooms-clause-told c = λ k breaks.
    let broken = head_breaks c in
    let passed = err_from_is_err_and c.from_residual-in_err-rooms.result c.from_residual-in_err-rooms.ensures.1 in
    rw (passed.1, passed.2, broken.1, same_line IsSchedule (lines_of c.args.text.now) broken.0 k broken.2 breaks) (inl refl)

-- a line that is no act's breaks them
breaks : (c : goal.After-drop-lines-in-None) → BreaksAt IsSchedule (lines_of c.args.text.now) (c.loop-i.i + 1)
breaks c =
    let pieces = c.in_ok-lines.lines.items in
    let line = c.index-line.result.now in
    let within : c.loop-i.i < length pieces = omega (arith, c.in_ok-lines.lines.ok.0) in
    let at = line_is c.args.text.now pieces c.loop-i.i line within c.index-line.ensures in
    rw (← c.in_ok-lines.ensures.bytes) (act_breaks (map (bytes_at c.args.text.now) pieces) c.in_ok-rooms.rooms c.in_ok-rooms.callers c.loop-i.acts.items c.loop-i.i c.loop-i.invariant
    (omega arith) (omega (arith, length-map pieces (bytes_at c.args.text.now))) (λ a is. let e = (c.in-None.ensures a).1 (is.0, sym at ∙ is.1) in cc))

pub returns-in-None-clause-found : goal.returns-in-None-clause-found
returns-in-None-clause-found c = λ p spells. absurd (never_both IsSchedule (lines_of c.args.text.now) (c.loop-i.i + 1) (p, spells) (breaks c))

pub returns-in-None-clause-broken : goal.returns-in-None-clause-broken
returns-in-None-clause-broken c = λ k e. rw (← fault_line (c.loop-i.i + 1) k e) (breaks c)

pub returns-in-None-clause-told : goal.returns-in-None-clause-told
returns-in-None-clause-told c = λ k other. inl (ap Line (same_line IsSchedule (lines_of c.args.text.now) (c.loop-i.i + 1) k (breaks c) other))

pub loop-i-preserved : goal.loop-i-preserved
loop-i-preserved c =
    let pieces = c.in_ok-lines.lines.items in
    let line = c.index-line.result.now in
    let within : c.loop-i.i < length pieces = omega (arith, c.in_ok-lines.lines.ok.0) in
    let at = line_is c.args.text.now pieces c.loop-i.i line within c.index-line.ensures in
    let is = (c.in-Some.ensures c.in-Some.act).0 refl in
    let pushed : is_ok c.push.result ≡ true = sym c.map_err.ensures.variant ∙ ap is_ok c.in_ok-map_err-in-Some.was in
    let items : c.push.new.self.items ≡ c.loop-i.acts.items ++ c.in-Some.act ∷ [] = rw pushed at c.push.ensures.items in
    rw items (act_more (map (bytes_at c.args.text.now) pieces) c.in_ok-rooms.rooms c.in_ok-rooms.callers c.loop-i.acts.items c.loop-i.i c.in-Some.act c.loop-i.invariant
    (omega (arith, length-map pieces (bytes_at c.args.text.now))) (is.0, at ∙ is.1))

-- all lines are read
spells : (c : goal.After-drop-lines-2) → Spells (lines_of c.args.text.now) (plan_of (record { rooms = c.in_ok-rooms.rooms; callers = c.in_ok-rooms.callers; acts = c.loop-i.acts }))
spells c =
    let pieces = c.in_ok-lines.lines.items in
    rw (← c.in_ok-lines.ensures.bytes) (all_read (map (bytes_at c.args.text.now) pieces) _ c.loop-i.i (omega (arith, length-map pieces (bytes_at c.args.text.now), c.in_ok-lines.lines.ok.0)) c.loop-i.invariant)

pub returns-clause-found : goal.returns-clause-found
returns-clause-found c = λ p other. plan_same (lines_of c.args.text.now) _ p (spells c) other

pub returns-clause-told : goal.returns-clause-told
returns-clause-told c = λ k other. never_both IsSchedule (lines_of c.args.text.now) k (_, spells c) other
