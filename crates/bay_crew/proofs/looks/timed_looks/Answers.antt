use Rattle.std.proofs.Common.{◌≡◌, ◌*◌, length, subst, sym, arith}
use Rattle.std.proofs.Math.Nat.{mul-le-mul_right}
use Rattle.bay_crew.specs.Timings.{HadEntries}
use Rattle.bay_crew.proofs.Timing.{ready, all_calls, few_made}
use Rattle.bay_crew.proofs.looks.timed_looks.Goals as goal

pub all_looks-requires-clause-can : goal.all_looks-requires-clause-can
all_looks-requires-clause-can g c κs within i p h is =
    let made = c.in_ok-bay in let passes = made.passes in let ok = passes.ok.0 in
    ready made.bay.usage.layout made.bay.site _ c.args.callers _ passes.items made.ensures.passes
    (omega (arith, c.ranges.times.fits)) i p (omega (arith, h, ok)) is

pub total-requires : goal.total-requires
total-requires g c =
    let made = c.in_ok-made.made in let times = c.args.times in
    let layout = c.in_ok-bay.bay.usage.layout in
    let long : length made.items ≡ c.args.callers =
    omega (arith, c.in_ok-made.ensures.len, made.ok.0, c.in_ok-bay.passes.ok.0, c.in_ok-bay.ensures.passes.long) in
    few_made layout (c.args.callers * times) _
    (all_calls layout c.args.callers times c.deref.result.now made.items c.deref.ensures.value long c.in_ok-made.ensures.each)
    (omega (arith, mul-le-mul_right times c.requires.callers, c.ranges.times.fits))

pub returns : goal.returns
returns g c =
    let made = c.in_ok-made.made in let times = c.args.times in
    let all = c.args.callers * times in let layout = c.in_ok-bay.bay.usage.layout in
    let long : length made.items ≡ c.args.callers =
    omega (arith, c.in_ok-made.ensures.len, made.ok.0, c.in_ok-bay.passes.ok.0, c.in_ok-bay.ensures.passes.long) in
    subst (λ l. HadEntries l all c.total.result) c.in_ok-bay.ensures.usage.0
    (subst (λ n. HadEntries layout all n) (sym c.total.ensures)
    (all_calls layout c.args.callers times c.deref.result.now made.items c.deref.ensures.value long c.in_ok-made.ensures.each))
