use Rattle.std.proofs.Common.{◌≡◌, ◌/◌, ◌*◌, length, ◌∙◌, subst, sym, arith}
use Rattle.std.proofs.Math.Nat.{div-mul-le_self, mul-le-mul_right}
use Rattle.bay_crew.specs.Timings.{HadEntries}
use Rattle.bay_crew.specs.Handfuls.{calls_in}
use Rattle.bay_crew.proofs.Timing.{ready, all_calls, few_made}
use Rattle.bay_crew.proofs.PuttingSome.{few_draws, few_calls}
use Rattle.bay_crew.proofs.handfuls.timed_handfuls.Goals as goal

pub all_turns-requires-clause-can : goal.all_turns-requires-clause-can
all_turns-requires-clause-can g c κs within i p h is =
    let made = c.in_ok-bay in let passes = made.passes in let ok = passes.ok.0 in
    let items = c.args.items in let turn = c.args.turn in
    ready made.bay.usage.layout made.bay.site _ c.args.callers _ passes.items made.ensures.passes
    (omega (arith, few_draws turn (items / 32), div-mul-le_self items 32, c.ranges.items.fits)) i p (omega (arith, h, ok)) is

pub total-requires : goal.total-requires
total-requires g c =
    let made = c.in_ok-made.made in let items = c.args.items in let turn = c.args.turn in
    let layout = c.in_ok-bay.bay.usage.layout in let calls = items / 32 * calls_in turn in
    let long : length made.items ≡ c.args.callers =
    omega (arith, c.in_ok-made.ensures.len, made.ok.0, c.in_ok-bay.passes.ok.0, c.in_ok-bay.ensures.passes.long) in
    few_made layout (c.args.callers * calls) _
    (all_calls layout c.args.callers calls c.deref.result.now made.items c.deref.ensures.value long c.in_ok-made.ensures.each)
    (omega (arith, mul-le-mul_right calls c.requires.callers, few_calls turn (items / 32), div-mul-le_self items 32, c.ranges.items.fits))

pub returns : goal.returns
returns g c =
    let made = c.in_ok-made.made in let calls = c.args.items / 32 * calls_in c.args.turn in
    let all = c.args.callers * calls in let layout = c.in_ok-bay.bay.usage.layout in
    let long : length made.items ≡ c.args.callers =
    omega (arith, c.in_ok-made.ensures.len, made.ok.0, c.in_ok-bay.passes.ok.0, c.in_ok-bay.ensures.passes.long) in
    subst (λ l. HadEntries l all c.total.result) c.in_ok-bay.ensures.usage.0
    (subst (λ n. HadEntries layout all n) (sym c.total.ensures)
    (all_calls layout c.args.callers calls c.deref.result.now made.items c.deref.ensures.value long c.in_ok-made.ensures.each))
