use Rattle.std.proofs.Common.{◌≡◌, ◌+◌, ◌*◌, length, take, sym, ap, subst, arith}
use Rattle.bay_rule.specs.Words.{room_at, spare_at}
use Rattle.bay_rule.specs.Told.{push_some_told}
use Rattle.bay_store.proofs.DrawingSome.{handful_drawn}
use Rattle.bay_store.proofs.handfuls.push_paged.Goals as goal

pub returns-clause-draws : goal.returns-clause-draws
returns-clause-draws c =
    let x = c.args.rooms.now.usage in let paged = c.requires.paged in
    let pages = c.count-pages.result.0 in let free = c.count-pages.result.1 in
    let room : room_at x.layout x.blocks pages ≡ 64 * pages = ap (λ l. room_at l x.blocks pages) paged in
    let u = c.count-pages.new.inside.caller.user in let w = c.draw-rank.new.inside.caller.user in
    let told = subst (λ n. push_some_told x.layout x.blocks n c.args.who c.args.items.now pages free u c.draw-rank.result (c.draw-rank.result + length c.args.items.now) w)
    (ap (λ i. i.opening.turn) c.count-pages.ensures.same) c.draw-rank.ensures.told in
    handful_drawn x c.args.who c.args.inside.now.opening.turn c.args.items.now pages free c.draw-rank.result 0 _ _ _ c.stopped-handful.result
    u w told c.requires.some
    (omega (arith, room)) (sym (ap (λ l. spare_at l free) paged)) c.len.ensures c.stopped-handful.ensures.stored c.stopped-handful.ensures.stop
    c.args.inside.now.caller.user c.store_paged.new.inside.caller.user _ c.requires.ready.rests c.count-pages.ensures.counted c.store_paged.ensures.fills
    (λ e. c.store_paged.ensures.none (subst (λ l. length (take c.stopped-handful.result.stored l) ≡ 0) (sym c.as_slice.ensures) e))
