-- Who may change a user word: by the phase of who steps.
use Rattle.std.proofs.Common.{◌≡◌, ◌≢◌, ℕ, ◌^◌, ◌<◌, Bool, true, false, Option, get_or, inl, inr, sym, ap, refl, ◌∙◌, subst}
use Rattle.room_core.specs.declared.phases.Phase.{Phase}
use Rattle.room_core.specs.declared.phases.Phase.TheVariants.{Out, Looking, Glancing, Seizing, Counting, Admitting, Turning, Inside, Exiting, Peering, Scanning, Passing}
use Rattle.room_core.specs.Gate.{Gate, Held, gate, inside}
use Rattle.room_core.specs.Trace.{trace}
use Rattle.room_rule.specs.Use.{Meaning, IsInsider, UserStep, user_step, user_place, contents_of}
use Rattle.room_rule.specs.Laws.{Laws}
use Rattle.room_rule.specs.Told.{Seated, held_in}
use Rattle.room_rule.specs.States.{ShowsKey}
use Rattle.room_rule.specs.Writers.{IsEmpty, HoldsWords, Allowed, UserMove, HoldersStepOnWords, OutsidersChangeTouchWords}
use Rattle.room_rule.specs.declared.rule.Plan.{Plan}
use Rattle.room_rule.proofs.Acts.{Table, Rule}
use Rattle.room_rule.proofs.States.{none_by_the_key}
use Rattle.room_rule.proofs.UserSteps.{user_word, stands_inside, has_key, stands_outside, keyed_by}

not_true : false ≡ true → ⊥
not_true e = cc

module _ {X S V : Type 0} (M : Meaning X S V) (m : ℕ) (laws : Laws M) where
  -- the word as the content has it
  word_small : (k : Plan X) (s : Table M m k) (r : Rule M m k s) (me : Seated S V) (word : ℕ)
      (change : ℕ → ℕ) → UserMove M m k s me word change → get_or r.content.words word 0 < 2 ^ 64
  word_small k s r me word change move =
      subst (λ (z : ℕ). z < 2 ^ 64) (user_word M m k s r word) move.small

  holders_by : (k : Plan X) (s : Table M m k) (r : Rule M m k s) (me : Seated S V) (word : ℕ)
      (change : ℕ → ℕ) (move : UserMove M m k s me word change) (p : Phase) → me.0.phase ≡ p
      → Allowed M m k.usage me word change p → M.is_touch k.usage word ≡ false
      → HoldsWords r.world me.0.who
  holders_by k s r me word change move (Inside room ticket first turn to) at can not =
      let so = stands_inside M m k s r move.id me.0 room ticket turn to first move.at move.pass at in
      inl (subst (λ (z : Gate). IsInsider z me.0.who) (sym so.1) so.0.inside)
  holders_by k s r me word change move (Exiting room turn) at can not = inr (
    room,
    turn,
    keyed_by M m k s r move.id me.0 room turn move.at move.pass at,
    λ c other.
        none_by_the_key M m k s r me.0 c other
        (record { id = move.id; at = move.at; pass = move.pass; room = room; turn = turn; phase = at }),
  )
  holders_by k s r me word change move Out at can not =
      let stands = stands_outside M m k s r move.id me.0 move.at move.pass at in
      let a = can r.content (gate (trace r.world.history)) stands
      (word_small k s r me word change move) in
      let touch = laws.touch_words.touches k.usage
      (user_step r.content (gate (trace r.world.history)) me.0.who word
      (change (get_or r.content.words word 0)) a.1.0 _) a.1.1 in
      absurd (not_true (sym not ∙ touch))
  holders_by k s r me word change move (Looking room ticket first) at can not = absurd can
  holders_by k s r me word change move (Glancing room ticket first) at can not = absurd can
  holders_by k s r me word change move (Seizing room ticket first idle) at can not = absurd can
  holders_by k s r me word change move (Counting room ticket first turn) at can not = absurd can
  holders_by k s r me word change move (Admitting room ticket first turn to) at can not = absurd can
  holders_by k s r me word change move (Turning room ticket first to) at can not = absurd can
  holders_by k s r me word change move (Peering room turn j w) at can not = absurd can
  holders_by k s r me word change move (Scanning room turn j) at can not = absurd can
  holders_by k s r me word change move (Passing turn next) at can not = absurd can

  pub holders_step_on_words : HoldersStepOnWords M m
  holders_step_on_words k s r me word change move not =
      holders_by k s r me word change move me.0.phase refl move.allowed not

  -- an insider and the key's holder leave a touch word as it is
  keeps_by : (k : Plan X) (s : Table M m k) (r : Rule M m k s) (me : Seated S V) (word : ℕ)
      (change : ℕ → ℕ) (move : UserMove M m k s me word change) (p : Phase) → me.0.phase ≡ p
      → Allowed M m k.usage me word change p → M.is_touch k.usage word ≡ true
      → (change (get_or r.content.words word 0) ≡ get_or r.content.words word 0 → ⊥)
      → p ≡ Out
  keeps_by k s r me word change move Out at can is other = refl
  keeps_by k s r me word change move (Inside room ticket first turn to) at can is other =
      let so = stands_inside M m k s r move.id me.0 room ticket turn to first move.at move.pass at in
      let ins = inside (trace r.world.history) in
      let a = can r.content ins so.0 (word_small k s r me word change move) in
      absurd (other (laws.touch_words.steps k.usage room
      (user_step r.content (Held room turn ins) me.0.who word (change (get_or r.content.words word 0))
      a.1.0 (contents_of (held_in me.1))) is a.1.1))
  keeps_by k s r me word change move (Exiting room turn) at can is other =
      let so = has_key M m k s r move.id me.0 room turn move.at move.pass at in
      let a = can r.content so.0 so.1 (word_small k s r me word change move) in
      absurd (other (laws.touch_words.exits k.usage room _ is a.1))
  keeps_by k s r me word change move (Looking room ticket first) at can is other = absurd can
  keeps_by k s r me word change move (Glancing room ticket first) at can is other = absurd can
  keeps_by k s r me word change move (Seizing room ticket first idle) at can is other = absurd can
  keeps_by k s r me word change move (Counting room ticket first turn) at can is other = absurd can
  keeps_by k s r me word change move (Admitting room ticket first turn to) at can is other = absurd can
  keeps_by k s r me word change move (Turning room ticket first to) at can is other = absurd can
  keeps_by k s r me word change move (Peering room turn j w) at can is other = absurd can
  keeps_by k s r me word change move (Scanning room turn j) at can is other = absurd can
  keeps_by k s r me word change move (Passing turn next) at can is other = absurd can

  pub outsiders_change_touch_words : OutsidersChangeTouchWords M m
  outsiders_change_touch_words k s r me word change move is other =
      keeps_by k s r me word change move me.0.phase refl move.allowed is (λ same.
      let e = user_word M m k s r word in other (ap change e ∙ (same ∙ sym e)))
