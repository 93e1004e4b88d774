-- The steps of looks, and what a look did.
use Rattle.std.proofs.Common.{◌≡◌, ◌∙◌, ℕ, ◌+◌, ◌^◌, ◌<◌, None, false, refl, sym, ap, subst, arith}
use Rattle.room_rule.specs.Steps.{CanStep}
use Rattle.bay_core.specs.declared.calls.Layout.{Layout}
use Rattle.bay_core.specs.declared.calls.Op.{Op}
use Rattle.bay_core.specs.declared.calls.Op.TheVariants.{Push, Pop, Enq, Deq, Peek, Sizes}
use Rattle.bay_core.specs.declared.calls.Reply.TheVariants.{Item, Empty}
use Rattle.bay_core.specs.declared.calls.Reply.TheVariants as replies
use Rattle.bay_core.specs.declared.numbers.TheConstants.{MOST_DRAWS}
use Rattle.bay_core.specs.Rooms.{room_of}
use Rattle.bay_rule.specs.declared.bay_use.BayUse.{BayUse}
use Rattle.bay_rule.specs.declared.views.Look.TheVariants.{AtTop, AtCell, AtCount, AtHead, AtTail}
use Rattle.bay_rule.specs.declared.views.Stage.TheVariants.{Resting, Looking}
use Rattle.bay_rule.specs.declared.views.BayView.{BayView}
use Rattle.bay_rule.specs.Bay.{bay}
use Rattle.bay_rule.specs.Draws.{used}
use Rattle.bay_rule.specs.Words.{looks_of}
use Rattle.bay_rule.specs.Newest.{newest_reply}
use Rattle.bay_rule.specs.Leaving.{note, staged}
use Rattle.bay_rule.specs.Told.{of_users, Added, look_told}
use Rattle.bay_rule.specs.Answered.{Answered}
use Rattle.bay_rule.proofs.CanPeek.{can_peek, can_size}
use Rattle.bay_rule.proofs.Answering.{finished_call}
use Rattle.bay_rule.proofs.LooksAnswered.{peeked_empty, sized}
use Rattle.bay_store.specs.Acting.{Acts, Sees}

-- the deciding step of a look of either kind
pub may_look : (x : BayUse) (layout : Layout) (blocks room t who word : ℕ) (v : BayView) (op : Op) → room_of op ≡ 4
    → room ≡ 4 → x.layout ≡ layout → x.blocks ≡ blocks → word ≡ looks_of x → v.stage ≡ Resting → v.last < t → used v < MOST_DRAWS
    → CanStep bay x who v word (λ n. n + 1) room t None (λ n. n + 1 < 2 ^ 64) (of_users (look_told layout blocks t who op))
may_look x layout blocks room t who word v Push look e l f is rests fresh limited = absurd (omega (arith, look))
may_look x layout blocks room t who word v Pop look e l f is rests fresh limited = absurd (omega (arith, look))
may_look x layout blocks room t who word v Enq look e l f is rests fresh limited = absurd (omega (arith, look))
may_look x layout blocks room t who word v Deq look e l f is rests fresh limited = absurd (omega (arith, look))
may_look x layout blocks room t who word v Peek look e l f is rests fresh limited = can_peek x layout blocks room t who word v e l f is rests fresh limited
may_look x layout blocks room t who word v Sizes look e l f is rests fresh limited = can_size x layout blocks room t who word v e l f is rests fresh limited

-- what it tells, by equal numbers
pub look_as : (l m : Layout) (b c t u who : ℕ) (op : Op) (v w : BayView) (old new : ℕ) → l ≡ m → b ≡ c → t ≡ u
    → look_told l b t who op v old new w → look_told m c u who op v old new w
look_as l m b c t u who op v w old new e f g told = subst (λ y. look_told y c u who op v old new w) e
    (subst (λ y. look_told l y u who op v old new w) f (subst (λ y. look_told l b y who op v old new w) g told))

module _ (x : BayUse) (turn who old : ℕ) (v w : BayView) where
  -- a peek: w is its view after the deciding step, and u that after the load of `top`
  module _ (a : Added x.layout x.blocks who v w (note turn old who Peek 0 false) (Looking AtTop) v.frozen v.spare old v.held) where
    pub saw_none : (u : BayView) → u ≡ staged w Resting → newest_reply w.seen ≡ Empty → Acts x who turn Peek 0 v u old Empty
    saw_none u is r = record {
      stored = false;
      frozen = v.frozen;
      spare = v.spare;
      old = old;
      rank_is = refl;
      finds = tt;
      keeps = (refl, refl);
      answered = peeked_empty x.layout x.blocks turn who old v w a u is r;
    }

    -- the top item is seen
    pub saw_item : (place item : ℕ) (u z : BayView) → u ≡ staged w (Looking (AtCell place)) → Sees u z item → Acts x who turn Peek 0 v z old (Item item)
    saw_item place item u z e s = record {
      stored = false;
      frozen = v.frozen;
      spare = v.spare;
      old = old;
      rank_is = refl;
      finds = tt;
      keeps = (refl, refl);
      answered = subst (λ h. Answered x.layout x.blocks who v z (note turn old who Peek 0 false) (Item item) v.frozen v.spare old h) (omega arith)
          (finished_call x.layout x.blocks who v w z _ _ v.frozen v.spare old v.held (Item item) s.aim a (s.view ∙ ap (λ (y : BayView). record y { stage = Resting; aim = s.aim }) e) (sym (ap (λ (y : BayView). newest_reply y.seen) e) ∙ s.reply));
    }

  -- a look at both lengths: u is the view after the load of `top`, and z that after the load of `head`
  pub saw_sizes : Added x.layout x.blocks who v w (note turn old who Sizes 0 false) (Looking AtCount) v.frozen v.spare old v.held
      → (stack queue items head : ℕ) (u z y : BayView) → u ≡ staged w (Looking (AtHead items)) → z ≡ staged u (Looking (AtTail items head))
      → y ≡ staged z Resting → newest_reply z.seen ≡ replies.Sizes stack queue → Acts x who turn Sizes 0 v y old (replies.Sizes stack queue)
  saw_sizes a stack queue items head u z y e f is r = record {
    stored = false;
    frozen = v.frozen;
    spare = v.spare;
    old = old;
    rank_is = refl;
    finds = tt;
    keeps = (refl, refl);
    answered = sized x.layout x.blocks turn who old v w a stack queue items head u z y e f is r;
  }
