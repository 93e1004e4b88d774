use Rattle.std.proofs.Common.{◌≡◌, ◌∙◌, ℕ, ◌+◌, ◌≤◌, refl, sym, ap, subst, arith}
use Rattle.bay_core.specs.History.{own}
use Rattle.bay_rule.specs.declared.views.BayView.{BayView}
use Rattle.bay_store.specs.Sharing.{MayAct, held_acted}
use Rattle.bay_rule.specs.declared.bay_use.TheConstants.{ROOMS}
use Rattle.bay_store.proofs.Acted.{fits, has_share, uses, still_due, adds, keeps, spills, view}
use Rattle.bay_store.proofs.bays.Bay.act_one.Goals as goal

pub invariant_of-done : goal.invariant_of-done
invariant_of-done c =
    let i = c.args.inside in let inv = c.requires.actor in
    let a = c.in-Some.ensures.acts in let same = c.in-Some.ensures.same in
    let now = c.operate.new.inside.caller in
    let reply = c.in-Some.reply in
    let draws = ap (λ j. j.caller.draws) same in
    let held : held_acted c.args.op reply i.caller.user.held ≡ c.held_after.result =
    ap (held_acted c.args.op reply) inv.rests.held_is ∙ sym c.held_after.ensures in
    let may = subst (λ (n : ℕ). MayAct c.args.op c.args.item n i.caller.draws) (sym inv.rests.held_is) inv.may in
    let fit = fits _ _ _ _ _ i.caller now _ _ a i.caller.draws may in
    record {
      rests = record {
        stage = a.answered.rests;
        due = still_due _ _ _ _ _ i.caller now _ _ a ∙ inv.rests.due;
        draws = omega (arith, draws, inv.rests.draws, uses _ _ _ _ _ i.caller now _ _ a);
        held_is = a.answered.held_is ∙ held;
        mine = subst (λ (who : ℕ). now.user.mine ≡ own who now.user.seen)
            (sym inv.who ∙ ap (λ j. j.caller.who) (sym same)) a.answered.of_seen;
      };
      few = omega (arith, held, draws, fit.few);
      owed = omega (arith, held, fit.owed, c.owes.ensures);
    }

pub returns-in-Some : goal.returns-in-Some
returns-in-Some c =
    let i = c.args.inside in let inv = c.requires.actor in
    let acts = c.in-Some.ensures.acts in let same = c.in-Some.ensures.same in
    let now = c.operate.new.inside in let reply = c.in-Some.reply in
    let admitted = c.turn-turn.ensures.let_in in
    let one : admitted.0 ≡ c.first-first.result = (let both = sym admitted.1 ∙ c.first-first.ensures in cc) in
    let soon : i.opening.turn ≤ c.first-first.result + ROOMS = omega (arith, one, admitted.2.prompt) in
    let may : MayAct c.args.op c.args.item i.caller.user.held i.caller.draws =
    subst (λ (n : ℕ). MayAct c.args.op c.args.item n i.caller.draws) (sym inv.rests.held_is) inv.may in
    rw (sym c.self.view_is, c.turn-turn.ensures.value) (record {
      adds = adds c.self.inside.rooms.usage c.args.who i.opening.turn c.args.op c.args.item i.caller now.caller c.in-Some.rank reply acts
          c.first-first.result (sym inv.who) (ap (λ j. j.caller.first) same ∙ c.first-first.ensures) soon;
      turn = refl;
      keeps = keeps _ _ _ _ _ i.caller now.caller _ _ acts;
      owes = c.owes.ensures;
      share = has_share c.args.op reply _ i.caller.draws (fits _ _ _ _ _ i.caller now.caller _ _ acts _ may);
      spills = spills _ _ _ _ _ i.caller now.caller _ _ acts;
      same = same ∙ ap (λ (u : BayView). record i { caller = record i.caller { user = u }; held = now.held })
          (view _ _ _ _ _ i.caller now.caller _ _ acts inv.rests.stage);
    })
