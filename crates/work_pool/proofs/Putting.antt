-- The answer of a put tells what the bay's call told.
use Rattle.std.proofs.Common.{◌≡◌, ◌∙◌, ℕ, ◌≤◌, refl, sym, ap, subst, arith}
use Rattle.room_gate.specs.Shows.{Caller}
use Rattle.bay_core.specs.History.{own}
use Rattle.bay_core.specs.declared.calls.Op.{Op}
use Rattle.bay_core.specs.declared.calls.Reply.{Reply}
use Rattle.bay_core.specs.declared.calls.Reply.TheVariants as replies
use Rattle.bay_rule.specs.declared.bay_use.BayUse.{BayUse}
use Rattle.bay_rule.specs.declared.views.BayView.{BayView}
use Rattle.bay_store.specs.Calls.{Calls, StaysOut, PutGives}
use Rattle.bay_store.specs.Sharing.{held_called}
use Rattle.bay_store.specs.declared.receipts.Receipt.{Receipt}
use Rattle.bay_store.specs.declared.receipts.Pushed.{Pushed}
use Rattle.bay_store.specs.declared.receipts.Pushed.TheVariants as pushed
use Rattle.work_pool.specs.Puts.{IsStill, PutsIn, PutsNone, Puts, answer_to}
use Rattle.work_pool.proofs.Gaining.{gains_out, gains_call, out_of_draws, hears_out, hears_call}

module _ (x : BayUse) (op : Op) (item : ℕ) (before now : Caller BayView) (mine : before.user.mine ≡ own before.who before.user.seen) where
  still_after : (r : Receipt) → Calls x op item before now r
      → held_called op r.entry.reply before.user.held ≡ before.user.held → IsStill before now
  still_after r c held = record {
    held = ap (λ (p : Caller BayView). p.user.held) c.same ∙ held;
    hears = hears_call x op item before now r c;
  }

  puts_in : (r : Receipt) (reply : Reply) → Calls x op item before now r → r.entry.reply ≡ reply
      → held_called op reply before.user.held ≡ before.user.held
      → PutsIn x op item reply before now r
  puts_in r reply c is held = record {
    adds = c.adds;
    reply_is = is;
    gains = gains_call x op item before now r mine c;
    still = still_after r c (ap (λ y. held_called op y before.user.held) is ∙ held);
  }

  puts_none : StaysOut x op before now → PutsNone x before now
  puts_none out = record {
    gains = gains_out x op before now mine out;
    spent = out_of_draws x op before now out;
    still = record {
      held = ap (λ (p : Caller BayView). p.user.held) out.tries.same;
      hears = hears_out x op before now out;
    };
  }

  pub put_tells : (p : Pushed) → PutGives x op item before now p
      → Puts x op item before now (answer_to p item)
  put_tells (pushed.Stored r) g = puts_in r replies.Done g.0 g.1 refl
  put_tells (pushed.Full r) g = (refl, r, puts_in r replies.Full g.0 g.1 refl)
  put_tells pushed.Spent g = (refl, puts_none g)
