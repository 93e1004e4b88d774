use Rattle.std.proofs.Common.{◌≡◌, ℕ, length, sym, ◌∙◌, subst, arith}
use Rattle.std.proofs.lemmas.List.{length-map}
use Rattle.bay_store.specs.Closing.{IsClosed}
use Rattle.room_script.specs.Trials.{outline_of}
use Rattle.room_trial.proofs.Together.{ready, came_so, all_back, of_played}
use Rattle.room_trial.proofs.crews.play.Goals as goal

pub in_threads-requires-after_bounds : goal.in_threads-requires-after_bounds
in_threads-requires-after_bounds g c κs within i p h is =
    let made = c.in_ok-bay in let passes = made.passes in let ok = passes.ok.0 in
    let many : c.len-callers.result ≡ length c.deref.result.now = omega (arith, c.len-callers.ensures, c.deref.ensures.len) in
    rw (← many) (ready made.bay.site _ _ passes.items made.ensures.passes i p (omega (arith, h, ok)) is)

pub close-requires : goal.close-requires
close-requires g c =
    let made = c.in_ok-bay in let ends = c.in_ok-ends in let parts = c.in_ok-passes in
    let ok = made.passes.ok.0 in let ends_ok = ends.ends.ok.0 in let scripts = c.args.trial.now.scripts in
    let many : c.len-callers.result ≡ length scripts.items = omega (arith, c.len-callers.ensures, scripts.ok.0) in
    let callers : made.bay.callers ≡ length (outline_of c.args.trial.now).scripts =
    made.ensures.callers ∙ (many ∙ sym (length-map scripts.items _)) in
    let came = came_so made.bay.usage made.bay.site c.args.trial.now c.len-callers.result c.deref.result.now made.passes.items
    parts.field-0.passes.items ends.ends.items parts.field-0.entries.items c.deref.ensures.value many
    made.ensures.passes (omega (arith, ends.ensures.len, ok, ends_ok)) ends.ensures.each parts.ensures.passes parts.ensures.entries in
    rw callers (all_back _ _ _ _ _ _ parts.field-0.entries came)

pub returns-in-Ok : goal.returns-in-Ok
returns-in-Ok g c =
    let made = c.in_ok-bay in let ends = c.in_ok-ends in let parts = c.in_ok-passes in
    let ok = made.passes.ok.0 in let ends_ok = ends.ends.ok.0 in let scripts = c.args.trial.now.scripts in
    let many : c.len-callers.result ≡ length scripts.items = omega (arith, c.len-callers.ensures, scripts.ok.0) in
    let callers : made.bay.callers ≡ length (outline_of c.args.trial.now).scripts =
    made.ensures.callers ∙ (many ∙ sym (length-map scripts.items _)) in
    let came = came_so made.bay.usage made.bay.site c.args.trial.now c.len-callers.result c.deref.result.now made.passes.items
    parts.field-0.passes.items ends.ends.items parts.field-0.entries.items c.deref.ensures.value many
    made.ensures.passes (omega (arith, ends.ensures.len, ok, ends_ok)) ends.ensures.each parts.ensures.passes parts.ensures.entries in
    of_played _ _ _ _ _ _ parts.field-0.entries came c.in-Ok.closed made.ensures.usage.0 made.ensures.usage.1
    (subst (λ (n : ℕ). IsClosed made.bay.usage n parts.field-0.passes.items c.in-Ok.closed) callers c.in-Ok.ensures.closed)
