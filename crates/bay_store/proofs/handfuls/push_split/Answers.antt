use Rattle.std.proofs.Common.{◌≡◌, ◌∙◌, ◌*◌, length, take, refl, sym, ap, subst, arith}
use Rattle.bay_rule.specs.declared.bay_use.BayUse.{BayUse}
use Rattle.bay_rule.specs.Words.{room_at, spare_at}
use Rattle.bay_store.proofs.DrawingSome.{handful_drawn}
use Rattle.bay_store.proofs.handfuls.push_split.Goals as goal

pub returns-clause-draws : goal.returns-clause-draws
returns-clause-draws c =
    let x = c.args.rooms.now.usage in let split = c.requires.split in
    let blocks = c.blocks-2.ensures.value ∙ ap (λ (y : BayUse). y.blocks) c.usage.ensures in
    let room : room_at x.layout x.blocks 0 ≡ 32 * x.blocks = ap (λ l. room_at l x.blocks 0) split in
    handful_drawn x c.args.who c.args.inside.now.opening.turn c.args.items.now 0 0 c.draw-rank.result 0 _ 0 _ c.stopped-handful.result
    c.args.inside.now.caller.user c.draw-rank.new.inside.caller.user c.draw-rank.ensures.told c.requires.some
    (omega (arith, room, blocks)) (sym (ap (λ l. spare_at l 0) split)) c.len.ensures c.stopped-handful.ensures.stored c.stopped-handful.ensures.stop
    c.args.inside.now.caller.user c.store_split.new.inside.caller.user c.args.inside.now.caller.user.stage c.requires.ready.rests refl c.store_split.ensures.fills
    (λ e. c.store_split.ensures.none (subst (λ l. length (take c.stopped-handful.result.stored l) ≡ 0) (sym c.as_slice.ensures) e))
