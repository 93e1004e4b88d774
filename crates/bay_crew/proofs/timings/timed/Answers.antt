use Rattle.std.proofs.Common.{◌≡◌, ◌*◌, length, ◌∙◌, subst, sym, arith}
use Rattle.std.proofs.Math.Nat.{mul-le-mul_right}
use Rattle.bay_crew.specs.Timings.{HadEntries, calls_of}
use Rattle.bay_crew.proofs.Timing.{ready, by_runs, few_calls, all_made, few_made}
use Rattle.bay_crew.proofs.timings.timed.Goals as goal

pub all_rounds-requires-clause-can : goal.all_rounds-requires-clause-can
all_rounds-requires-clause-can g c κs within i p h is =
    let made = c.in_ok-bay in let passes = made.passes in let ok = passes.ok.0 in
    let items = c.args.items in let run = c.args.run in
    ready made.bay.usage.layout made.bay.site _ c.args.callers _ passes.items made.ensures.passes
    (omega (arith, by_runs items run, few_calls items run, c.ranges.items.fits)) i p (omega (arith, h, ok)) is

pub total-requires : goal.total-requires
total-requires g c =
    let made = c.in_ok-made.made in let items = c.args.items in let run = c.args.run in
    let layout = c.in_ok-bay.bay.usage.layout in
    let long : length made.items ≡ c.args.callers =
    omega (arith, c.in_ok-made.ensures.len, made.ok.0, c.in_ok-bay.passes.ok.0, c.in_ok-bay.ensures.passes.long) in
    few_made layout (c.args.callers * calls_of items run) _
    (all_made layout c.args.callers items run c.deref.result.now made.items c.deref.ensures.value long c.in_ok-made.ensures.each)
    (omega (arith, mul-le-mul_right (calls_of items run) c.requires.callers, few_calls items run, c.ranges.items.fits))

pub returns : goal.returns
returns g c =
    let made = c.in_ok-made.made in let calls = c.args.callers * calls_of c.args.items c.args.run in
    let layout = c.in_ok-bay.bay.usage.layout in
    let long : length made.items ≡ c.args.callers =
    omega (arith, c.in_ok-made.ensures.len, made.ok.0, c.in_ok-bay.passes.ok.0, c.in_ok-bay.ensures.passes.long) in
    subst (λ l. HadEntries l calls c.total.result) c.in_ok-bay.ensures.usage.0
    (subst (λ n. HadEntries layout calls n) (sym c.total.ensures)
    (all_made layout c.args.callers c.args.items c.args.run c.deref.result.now made.items c.deref.ensures.value long c.in_ok-made.ensures.each))
