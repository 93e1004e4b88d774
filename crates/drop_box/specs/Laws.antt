-- The laws of a drop box, in their order.
use Rattle.std.proofs.Common.{◌≡◌, ℕ, ◌≤◌, ◌↔◌, ⊎_elim, inl, inr, true, eqb, None, sym, refl, ap, subst, arith, ◌∙◌, eq-eqb}
use Rattle.std.specs.Prelude.{◌==◌}
use Rattle.std.proofs.lemmas.Bool.{eqb-true, cond_both}
use mathlib.Core.Option.{some, none, some-injective, some-ne-none}
use Rattle.room_core.specs.Gate.{Gate, Held, Keyed}
use Rattle.room_rule.specs.Use.{IsAt, Meaning, UserStep, user_step, written, rewritten}
use Rattle.room_rule.specs.Laws as law
use Rattle.room_rule.specs.Callers.{at_below, one_view, sum_within}
use Rattle.drop_box.specs.declared.uses.Visit.{Visit}
use Rattle.drop_box.specs.Box.{turnstile, bell, new_visit, slot_if, Boxed, GoesThrough, BringsHome, box_meaning}
use Rattle.drop_box.specs.Made.{made}
use Rattle.drop_box.specs.Keeping.{not_both, not_leaver, kept_slot, moves_one, stays}
use Rattle.drop_box.specs.Steps.{goes_through, brings_home, sets_back, rings_once}

-- the turnstile is not the bell
not_bell : (word : ℕ) → word ≡ turnstile → (word == bell) ≡ true → ⊥
not_bell word e f = let g : word ≡ bell = eqb-true word bell f in omega arith

module _ {X S : Type 0} where
  abbrev M : Meaning X S Visit
  M = box_meaning

  -- 1. every caller is new, the words are 0, and the slot is at home
  pub starts : law.Starts M
  starts x callers s few wide each long slotted home all =
      let is_new : (c : ℕ) (v : Visit) → IsAt s.views c v → v ≡ new_visit =
      λ c v e. one_view s.views c v new_visit e
      (all c (let t = at_below s.views c v e in omega arith)) in
      let silent : (c : ℕ) (v : Visit) → IsAt s.views c v → v.rings ≤ 0 =
      λ c v e. let r = ap (λ (w : Visit). w.rings) (is_new c v e) in omega arith in
      let keepless : (c : ℕ) (v : Visit) → IsAt s.views c v → v.keeps ≡ true → ⊥ =
      λ c v e k. not_both v.keeps (ap (λ (w : Visit). w.keeps) (is_new c v e)) k in
      let none_rang = sum_within (λ (v : Visit). v.rings) 0 s.views silent in
      let first = each turnstile (omega arith) in
      let second = each bell (omega arith) in
      record {
        few = omega arith;
        shows = first;
        rang = omega arith;
        rarely = λ c v e. let r = silent c v e in omega arith;
        slot = record {
          keeper = λ o. absurd (some-ne-none None
              (some-injective (some None) none (sym (home 0 (omega arith)) ∙ o)));
          out = λ c k. absurd (keepless c k.0 k.1 k.2);
          alone = λ c d k l. absurd (keepless c k.0 k.1 k.2);
        };
        rightly = λ c v e k. absurd (keepless c v e k);
      }

  -- 2. the turnstile shows 0, and nobody keeps the slot
  pub opens : law.Opens M
  opens x s turn room h = let zero = h.shows in record {
    few = h.few;
    shows = omega arith;
    rang = h.rang;
    rarely = h.rarely;
    slot = h.slot;
    rightly = λ c v e k. absurd (h.rightly c v e k).0;
  }

  -- 3. who was inside is inside
  pub enters : law.Enters M
  enters x s room turn ins who v h at may low = record {
    few = h.few;
    shows = h.shows;
    rang = h.rang;
    rarely = h.rarely;
    slot = h.slot;
    rightly = λ c w e k. let m = h.rightly c w e k in
        (cond_both (eqb who c) true (ins c) (λ b. b ≡ true) (λ t. refl) (λ t. m.0), m.1, m.2);
  }

  -- 4. an insider goes through the turnstile, or brings the slot home
  pub steps : law.Steps M
  steps x s room turn ins who v word value after contents st under may =
      let gate : Gate = Held room turn ins in
      let to : ℕ → ℕ → Visit → Type 0 =
      λ word value after. Boxed (written M s who v word value after contents) gate in
      let step : UserStep S Visit = user_step s gate who word value after contents in
      ⊎_elim
      (λ (p : GoesThrough step).
      made p v st.view to (goes_through x s room turn ins who v contents st))
      (λ (p : BringsHome step).
      made p v st.view to (brings_home x s room turn ins who v contents st))
      may

  -- 5. who leaves is not the one that keeps the slot
  pub leaves : law.Leaves M
  leaves x s room turn ins who v st may = let h = st.lawful in record {
    few = h.few;
    shows = h.shows;
    rang = h.rang;
    rarely = h.rarely;
    slot = h.slot;
    rightly = λ c w e k. let m = h.rightly c w e k in
        (stays ins who c (not_leaver s.views who c v w may st.view e k) ∙ m.0, m.1, m.2);
  }

  -- 5. and where nobody is left, nobody keeps it
  pub leaves_last : law.LeavesLast M
  leaves_last x s room turn ins who v st may alone = let h = st.lawful in record {
    few = h.few;
    shows = tt;
    rang = h.rang;
    rarely = h.rarely;
    slot = h.slot;
    rightly = λ c w e k. let m = h.rightly c w e k in
        let left = stays ins who c (not_leaver s.views who c v w may st.view e k) ∙ m.0 in
        absurd (not_both _ (alone c) left);
  }

  -- 6. the exit code sets the turnstile back
  pub exits : law.Exits M
  exits x s room turn who v word value after key under p =
      made p v key.view
      (λ word value after. Boxed (rewritten s who word value after) (Keyed room turn who))
      (λ free. sets_back x s room turn who v key)

  -- 7. the turnstile shows 0 again
  pub passes : law.Passes M
  passes x s room turn who v key rest = let h = key.lawful in record {
    few = h.few;
    shows = rest;
    rang = h.rang;
    rarely = h.rarely;
    slot = h.slot;
    rightly = λ c w e k. absurd (h.rightly c w e k).0;
  }

  -- 8. a caller rings
  pub touches : law.Touches M
  touches x s gate who v word value after st under p =
      made p v st.view (λ word value after. Boxed (rewritten s who word value after) gate)
      (rings_once x s gate who v st)

  -- the last turn of a caller is that in which it went through the turnstile
  pub last_turns : law.LastTurns M
  last_turns = record {
    starts = λ c. refl;
    steps = λ x s room turn ins who v word value after contents st under may.
        let to : ℕ → ℕ → Visit → Type 0 = λ word value after. law.StaysOrTurns M v after turn in
        let step : UserStep S Visit = user_step s (Held room turn ins) who word value after contents in
        ⊎_elim
        (λ (p : GoesThrough step). made p v st.view to (λ once. inr refl))
        (λ (p : BringsHome step). made p v st.view to (λ kept. inl refl))
        may;
    exits = λ x s room turn who v word value after key under p.
        made p v key.view (λ word value after. law.StaysOrTurns M v after turn) (λ free. inl refl);
    touches = λ x s gate who v word value after st under p.
        made p v st.view (λ word value after. after.last ≡ v.last) (λ few. refl);
  }

  -- only the bell is a touch word
  pub touch_words : law.TouchWords M
  touch_words = record {
    touches = λ x s p. eq-eqb s.word bell p.word_is;
    steps = λ x room s is may. absurd (not_bell s.word
        (⊎_elim (λ (p : GoesThrough s). p.word_is) (λ (p : BringsHome s). p.word_is) may) is);
    exits = λ x room s is p. absurd (not_bell s.word p.word_is is);
  }

  -- the slot
  pub slots : law.SlotLaws M
  slots = record {
    out = λ x s gate k h under.
        let zero : 0 ≡ k = omega arith in
        subst (λ (j : ℕ). IsAt s.slots j none ↔ law.IsKept M s.views j) zero (
          λ o. let keeper = h.slot.keeper o in let view = keeper.1 in
              (keeper.0, view.0, view.1, ap slot_if view.2),
          λ keeper. h.slot.out keeper.0
              (keeper.1, keeper.2, (kept_slot keeper.1.keeps 0 keeper.3).0),
        );
    one = λ x s gate c d u v k h e f i j.
        h.slot.alone c d (u, e, (kept_slot u.keeps k i).0) (v, f, (kept_slot v.keeps k j).0);
    insiders = λ x s gate c v k h e i.
        let kept = kept_slot v.keeps k i in let number = kept.1 in
        ((h.rightly c v e kept.0).0, omega arith);
    moves = λ x room s v e may. moves_one v.keeps s.after.keeps;
    leaves = λ x v may. ap slot_if may;
  }

  pub box_laws : law.Laws M
  box_laws = record {
    starts = starts;
    opens = opens;
    enters = enters;
    steps = steps;
    leaves = leaves;
    leaves_last = leaves_last;
    exits = exits;
    passes = passes;
    touches = touches;
    last_turns = last_turns;
    touch_words = touch_words;
    slots = slots;
  }
