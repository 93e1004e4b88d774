use Rattle.std.proofs.Common.{◌≡◌, ◌∙◌, ℕ, refl, sym, ap, subst, arith}
use Rattle.bay_core.specs.History.{own}
use Rattle.bay_core.specs.Rooms.{room_of}
use Rattle.bay_rule.specs.declared.views.BayView.{BayView}
use Rattle.bay_store.specs.Wishes.{op_of}
use Rattle.bay_store.specs.Sharing.{MayDo}
use Rattle.bay_store.specs.Handfuls.{DrawsSome}
use Rattle.bay_store.proofs.ActingSome.{still_own, few_stored}
use Rattle.bay_store.proofs.bays.Bay.act_some.Goals as goal

pub push_some-rank-requires-clause-ready : goal.push_some-rank-requires-clause-ready
push_some-rank-requires-clause-ready c =
    let inv = c.inside.invariant in
    record {
      room_is = inv.room ∙ ap (λ z. room_of (op_of z)) c.several_of-items.ensures;
      rests = inv.rests.stage;
      fresh = inv.fresh;
      limited = omega (arith, inv.rests.draws, inv.few);
    }

pub invariant_of-done : goal.invariant_of-done
invariant_of-done c =
    let i = c.inside.inside in let inv = c.inside.invariant in
    let d = c.push_some-rank.ensures.draws in let same = c.push_some-rank.ensures.same in
    let now = c.push_some-rank.new.inside.caller in
    let may = subst (λ z. MayDo z i.held i.inside.caller.draws) c.several_of-items.ensures inv.may in
    let draws = ap (λ j. j.caller.draws) same in
    record {
      rests = record {
        stage = ap (λ (v : BayView). v.stage) d.view ∙ inv.rests.stage;
        due = ap (λ (v : BayView). v.due) d.view ∙ inv.rests.due;
        draws = omega (arith, draws, inv.rests.draws, d.drawn);
        held_is = omega (arith, ap (λ (v : BayView). v.held) d.view, inv.rests.held_is);
        mine = subst (λ (who : ℕ). now.user.mine ≡ own who now.user.seen)
            (sym inv.who ∙ ap (λ j. j.caller.who) (sym same)) (still_own _ _ _ _ _ _ _ _ _ d.draws (subst (λ (who : ℕ). i.inside.caller.user.mine ≡ own who i.inside.caller.user.seen) inv.who inv.rests.mine));
      };
      few = omega (arith, draws, may.few, few_stored _ _ _ _ _ _ _ _ _ d.draws, c.len.ensures);
      owed = omega (arith, may.shares, c.len.ensures);
    }

pub returns : goal.returns
returns c =
    let i = c.inside.inside in let inv = c.inside.invariant in
    let d = c.push_some-rank.ensures.draws in let same = c.push_some-rank.ensures.same in
    let now = c.push_some-rank.new.inside in
    let may = subst (λ z. MayDo z i.held i.inside.caller.draws) c.several_of-items.ensures inv.may in
    let admitted = c.turn-turn.ensures.let_in in
    let one : admitted.0 ≡ c.first-first.result = (let both = sym admitted.1 ∙ c.first-first.ensures in cc) in
    rw (sym c.inside.view_is, sym c.self.view_is, c.turn-turn.ensures.value, c.several_of-items.ensures) (record {
      draws = subst (λ n. DrawsSome c.self.inside.rooms.usage c.several_of-items.result n i.inside.opening.turn c.push_some-rank.result.0 c.push_some-rank.result.1.stored c.push_some-rank.result.1.stop i.inside.caller.user now.caller.user) (sym inv.who) d.draws;
      turn = refl;
      first = ap (λ j. j.caller.first) same ∙ c.first-first.ensures;
      soon = omega (arith, one, admitted.2.prompt);
      owes = omega (arith, few_stored _ _ _ _ _ _ _ _ _ d.draws, c.len.ensures);
      share = omega (arith, may.shares, inv.rests.held_is);
      same = same ∙ ap (λ (u : BayView). record i.inside { caller = record i.inside.caller { user = u }; held = now.held }) d.view;
    })
