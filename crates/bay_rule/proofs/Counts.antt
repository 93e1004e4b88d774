-- No count among the words of a bay is large.
use Rattle.std.proofs.Common.{ℕ, zero, suc, ◌+◌, ◌^◌, ◌<◌, ◌≤◌, List, length, get_or, sym, subst, inl, inr, arith}
use Rattle.room_core.specs.Gate.{Gate, Shut, Held, Keyed}
use Rattle.bay_core.specs.declared.calls.Layout.{Layout}
use Rattle.bay_core.specs.declared.calls.Layout.TheVariants.{Split, Paged}
use Rattle.bay_core.specs.declared.calls.Noted.{Noted}
use Rattle.bay_core.specs.Noted.{after}
use Rattle.bay_core.proofs.Growing.{IsHistory-fits}
use Rattle.bay_rule.specs.declared.bay_use.BayUse.{BayUse}
use Rattle.bay_rule.specs.declared.views.BayView.{BayView}
use Rattle.bay_rule.specs.Words.{looks_of, queue_end, spare_blocks}
use Rattle.bay_rule.specs.Views.{acted}
use Rattle.bay_rule.specs.Ends.{QueueHeld, QueueFits, LooksFit}
use Rattle.bay_rule.specs.Accounts.{AccountsIn}
use Rattle.bay_rule.specs.Shows.{Shows}
use Rattle.bay_rule.specs.CountLaws.{counts_in, IsCount}
use Rattle.bay_rule.specs.Keeping.Seats.{acts_few}
use Rattle.bay_rule.proofs.Few.{few_came}
use Rattle.bay_rule.proofs.TopLow.{top_low}
use Rattle.bay_rule.proofs.CanShare.{shares_few, few_items}

counts_most : (layout : Layout) → counts_in layout ≤ 8
counts_most Split = omega arith
counts_most Paged = omega arith

held_near : (limit spare r t taken n head tail acts : ℕ) (h : List Noted) → acts ≤ 64 → QueueHeld limit spare r t taken n head tail acts h
    → (head ≤ taken + 64) × (tail ≤ taken + n + 64)
held_near limit spare zero t taken n head tail acts h few k = (omega (arith, k.head_is), omega (arith, k.tail_is))
held_near limit spare (suc zero) t taken n head tail acts h few k = (omega (arith, k.head_is), omega (arith, k.tail_is))
held_near limit spare (suc (suc zero)) t taken n head tail acts h few k = (omega (arith, k.head_is), omega (arith, k.high, few))
held_near limit spare (suc (suc (suc zero))) t taken n head tail acts h few k = (omega (arith, k.high, few), omega (arith, k.tail_is))
held_near limit spare (suc (suc (suc (suc r)))) t taken n head tail acts h few k = (omega (arith, k.head_is), omega (arith, k.tail_is))

-- `head` and `tail` are near the queue's ends
ends_near : (limit spare : ℕ) (g : Gate) (taken n head tail : ℕ) (views : List BayView) (h : List Noted) → length views ≤ 64
    → QueueFits limit spare g taken n head tail views h → (head ≤ taken + 64) × (tail ≤ taken + n + 64)
ends_near limit spare (Shut t) taken n head tail views h few k = (omega (arith, k.head_is), omega (arith, k.tail_is))
ends_near limit spare (Held r t ins) taken n head tail views h few k =
    held_near limit spare r t taken n head tail (acted views t) h (omega (arith, acts_few views t, few)) k
ends_near limit spare (Keyed r t c) taken n head tail views h few k = (k.head_near, k.tail_near)

-- `looks` is at most the callers
looks_few : (looks : ℕ) (g : Gate) (views : List BayView) (h : List Noted) → length views ≤ 64 → LooksFit looks g views h → looks ≤ 64
looks_few looks (Shut t) views h few k = omega (arith, k)
looks_few looks (Held r t ins) views h few k = omega (arith, k.high, acts_few views t, few)
looks_few looks (Keyed r t c) views h few k = elim k [ inl z ↦ omega (arith, z) | inr z ↦ z.1 ]

module _ (x : BayUse) (h : List Noted) (words : List ℕ) (views : List BayView) (g : Gate) (k : Shows x h words views g) where
  ends : (get_or words 1 0 ≤ (after h).taken + 64) × (get_or words 2 0 ≤ (after h).taken + length (after h).queue + 64)
  ends = ends_near (queue_end x words) (spare_blocks x words) g (after h).taken (length (after h).queue) (get_or words 1 0) (get_or words 2 0) views h k.few k.ends

  -- the counts of blocks
  blocks_few : (layout : Layout) (blocks word : ℕ) → blocks ≤ 16384 → AccountsIn layout blocks g words views (after h) → word < 4 → suc (suc (suc (suc word))) < counts_in layout
      → get_or words (suc (suc (suc (suc word)))) 0 < 2 ^ 58
  blocks_few Split blocks word small a l m = absurd (omega (arith, m))
  blocks_few Paged blocks zero small a l m = omega (arith, small, a.kept.total, a.near.low_in, a.near.queue_in)
  blocks_few Paged blocks (suc zero) small a l m = omega (arith, small, a.kept.total, a.near.low_in, a.near.queue_in)
  blocks_few Paged blocks (suc (suc zero)) small a l m = omega (arith, a.near.low_in, few_came x h words views g k)
  blocks_few Paged blocks (suc (suc (suc zero))) small a l m = omega (arith, a.near.queue_near, few_came x h words views g k)
  blocks_few Paged blocks (suc (suc (suc (suc word)))) small a l m = absurd (omega (arith, l))

  counts_at : (word : ℕ) → word < counts_in x.layout → get_or words word 0 < 2 ^ 58
  counts_at zero l = omega (arith, top_low x h words views g k)
  counts_at (suc zero) l = omega (arith, ends.0, few_came x h words views g k)
  counts_at (suc (suc zero)) l = omega (arith, ends.1, few_came x h words views g k)
  counts_at (suc (suc (suc zero))) l =
      omega (
        arith,
        k.live,
        shares_few views (λ d. (k.each d).held),
        k.few,
        few_items x.layout x.blocks (after h) k.small (IsHistory-fits x.layout x.blocks h k.legal),
      )
  counts_at (suc (suc (suc (suc word)))) l =
      blocks_few x.layout x.blocks word k.small k.accounts (omega (arith, l, counts_most x.layout)) l

pub counts_few : (x : BayUse) (h : List Noted) (words : List ℕ) (views : List BayView) (gate : Gate) (word : ℕ) → Shows x h words views gate
    → IsCount x.layout x.blocks word → get_or words word 0 < 2 ^ 58
counts_few x h words views gate word k is = elim is [
  | inl l ↦ counts_at x h words views gate k word l
  | inr e ↦ subst (λ a. get_or words a 0 < 2 ^ 58) (sym e) (omega (arith, looks_few (get_or words (looks_of x) 0) gate views h k.few k.looks))
]
