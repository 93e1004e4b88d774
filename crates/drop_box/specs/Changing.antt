-- What holds of a drop box after one caller's step.
use Rattle.std.proofs.Common.{◌≡◌, ℕ, ◌+◌, ◌^◌, ◌≤◌, Bool, true, cond, List, set, ap, arith, length-set}
use Rattle.std.specs.Prelude.{slice_index, ◌==◌}
use Rattle.room_core.specs.Gate.{Gate, Shut, Held, Keyed}
use Rattle.room_rule.specs.Use.{IsAt, Slots, Content}
use Rattle.room_rule.specs.Callers.{after_step, sum_after}
use Rattle.drop_box.specs.declared.uses.Visit.{Visit}
use Rattle.drop_box.specs.Box.{turnstile, bell, went, TurnstileShows, MayKeep, HasOneKeeper, Boxed}

-- 1 where it is so, and else 0
abbrev pub one_if : Bool → ℕ
one_if b = cond b 1 0

-- a step that leaves its caller's last turn leaves the count of each turn
pub went_same : (views : List Visit) (who : ℕ) (v after : Visit) → IsAt views who v
    → after.last ≡ v.last → (turn : ℕ) → went turn (set views who after) ≡ went turn views
went_same views who v after at last turn =
    let count = sum_after (λ (w : Visit). one_if (w.last == turn)) views who v after at in
    let same : one_if (after.last == turn) ≡ one_if (v.last == turn) =
    ap (λ (k : ℕ). one_if (k == turn)) last in
    omega arith

-- the turnstile shows what it showed, and so do the views
pub shows_same : (gate : Gate) (n : ℕ) (views new : List Visit)
    → ((turn : ℕ) → went turn new ≡ went turn views) → TurnstileShows gate n views → TurnstileShows gate n new
shows_same (Shut turn) n views new same h = h
shows_same (Held room turn ins) n views new same h = let e = same turn in omega arith
shows_same (Keyed room turn holder) n views new same h = tt

-- Of a step that writes the words and moves the slot, what is left to show: what the turnstile
-- shows, the bell, the slot, and who may keep it.
pub changed : {S : Type 0} (s : Content S Visit) (gate : Gate) (who : ℕ) (v after : Visit)
    (words : List ℕ) (slots : Slots S) → Boxed s gate → IsAt s.views who v
    → TurnstileShows gate (slice_index words turnstile) (set s.views who after)
    → slice_index words bell + v.rings ≡ slice_index s.words bell + after.rings
    → after.rings ≤ 2 ^ 32
    → HasOneKeeper slots (set s.views who after)
    → (after.keeps ≡ true → MayKeep gate (slice_index words turnstile) who after)
    → ((c : ℕ) (w : Visit) → MayKeep gate (slice_index s.words turnstile) c w
    → MayKeep gate (slice_index words turnstile) c w)
    → Boxed (record { words = words; slots = slots; views = set s.views who after }) gate
changed s gate who v after words slots h at shows rang rarely slot mine others =
    let few = h.few in
    let sized = length-set s.views who after in
    let rung = sum_after (λ (w : Visit). w.rings) s.views who v after at in
    let before = h.rang in
    record {
      few = omega arith;
      shows = shows;
      rang = omega arith;
      rarely = after_step (λ c (w : Visit). w.rings ≤ 2 ^ 32) s.views who after rarely
          (λ c w ne e. h.rarely c w e);
      slot = slot;
      rightly = after_step
          (λ c (w : Visit). w.keeps ≡ true → MayKeep gate (slice_index words turnstile) c w)
          s.views who after mine (λ c w ne e k. others c w (h.rightly c w e k));
    }
