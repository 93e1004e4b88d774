-- Who keeps the slot after a step.
use Rattle.std.proofs.Common.{◌≡◌, ◌≢◌, ℕ, ⊎_elim, inl, inr, ◌⊎◌, Bool, true, false, Option, Some, List, length, set, sym, refl, ap, subst, arith, ◌∙◌, cond, ne_eqb}
use Rattle.std.proofs.lemmas.Bool.{cases_eq}
use mathlib.Core.Option.{some, none, some-injective, some-ne-none}
use lib.ListN.{get_elem?}
use Rattle.atomic_table.proofs.Lists.{at_set, set_here, set_else}
use Rattle.room_core.specs.Gate.{without}
use Rattle.room_rule.specs.Laws.{MovesOne}
use Rattle.room_rule.specs.Use.{IsAt, Slots, slots_after}
use Rattle.room_rule.specs.Callers.{at_below, one_view}
use Rattle.drop_box.specs.declared.uses.Visit.{Visit}
use Rattle.drop_box.specs.Box.{slot_if, Keeps, HasOneKeeper}

-- nothing is both
pub not_both : (b : Bool) → b ≡ false → b ≡ true → ⊥
not_both b e f = let h : false ≡ true = sym e ∙ f in cc

-- who does not keep the slot shows that it does not
pub not_kept : (b : Bool) → (b ≡ true → ⊥) → b ≡ false
not_kept true h = absurd (h refl)
not_kept false h = refl

-- the slot that is kept is slot 0
pub kept_slot : (b : Bool) (k : ℕ) → slot_if b ≡ Some k → (b ≡ true) × (k ≡ 0)
kept_slot true k e = (refl, let f : 0 ≡ k = cc in sym f)
kept_slot false k e = cc

-- no step moves two slots: there is one
pub moves_one : (b c : Bool) → MovesOne (slot_if b) (slot_if c)
moves_one true true = refl
moves_one true false = tt
moves_one false true = tt
moves_one false false = tt

-- who may leave does not keep the slot
pub not_leaver : (views : List Visit) (who c : ℕ) (v w : Visit) → v.keeps ≡ false → IsAt views who v
    → IsAt views c w → w.keeps ≡ true → who ≢ c
not_leaver views who c v w out at e k t =
    let same = one_view views who v w at (ap (get_elem? views) t ∙ e) in
    not_both v.keeps out (ap (λ (z : Visit). z.keeps) same ∙ k)

-- who is another than the leaver is still inside, if it was
pub stays : (ins : ℕ → Bool) (who c : ℕ) → who ≢ c → without ins who c ≡ ins c
stays ins who c ne = ap (λ (b : Bool). cond b false (ins c)) (ne_eqb who c ne)

module _ {S : Type 0} where
  -- a step leaves the slot where its caller keeps it after as before
  pub slot_stays : (slots : Slots S) (contents : Option S) (b c : Bool) → c ≡ b
      → slots_after slots (slot_if b) (slot_if c) contents ≡ slots
  slot_stays slots contents true true e = refl
  slot_stays slots contents false false e = refl
  slot_stays slots contents true false e = cc
  slot_stays slots contents false true e = cc

  pub slot_leaves : (slots : Slots S) (contents : Option S) (b c : Bool) → b ≡ false → c ≡ true
      → slots_after slots (slot_if b) (slot_if c) contents ≡ set slots 0 none
  slot_leaves slots contents false true e f = refl
  slot_leaves slots contents true c e f = cc
  slot_leaves slots contents false false e f = cc

  pub slot_comes : (slots : Slots S) (contents : Option S) (b c : Bool) → b ≡ true → c ≡ false
      → slots_after slots (slot_if b) (slot_if c) contents ≡ set slots 0 (some contents)
  slot_comes slots contents true false e f = refl
  slot_comes slots contents false c e f = cc
  slot_comes slots contents true true e f = cc

  pub moved_to : {slots new : Slots S} {views : List Visit} → slots ≡ new → HasOneKeeper new views
      → HasOneKeeper slots views
  moved_to {views = views} e h = subst (λ (z : Slots S). HasOneKeeper z views) (sym e) h

module _ {S : Type 0} (slots : Slots S) (views : List Visit) (who : ℕ) (v after : Visit)
    (h : HasOneKeeper slots views) (at : IsAt views who v) where
  abbrev Views : List Visit
  Views = set views who after

  -- who keeps it after the step is the one that made it, or kept it before
  keeps_after : (c : ℕ) → Keeps Views c
      → ((c ≡ who) × (after.keeps ≡ true)) ⊎ ((c ≢ who) × Keeps views c)
  keeps_after c k = ⊎_elim
      (λ (t : (c ≡ who) × (after ≡ k.0)).
      inl (t.0, ap (λ (w : Visit). w.keeps) t.1 ∙ k.2))
      (λ (t : (c ≢ who) × IsAt views c k.0). inr (t.0, (k.0, t.1, k.2)))
      (at_set views who c after k.0 k.1)

  keeps_here : after.keeps ≡ true → Keeps Views who
  keeps_here e = (after, set_here views who after (at_below views who v at), e)

  keeps_other : (c : ℕ) → c ≢ who → Keeps views c → Keeps Views c
  keeps_other c ne k = (k.0, set_else views who c after ne ∙ k.1, k.2)

  -- the caller keeps it after the step as before
  pub same_keeper : after.keeps ≡ v.keeps → HasOneKeeper slots Views
  same_keeper e =
      let before : (c : ℕ) → Keeps Views c → Keeps views c = λ c k. ⊎_elim
      (λ (t : (c ≡ who) × (after.keeps ≡ true)).
      subst (Keeps views) (sym t.0) (v, at, sym e ∙ t.1))
      (λ (t : (c ≢ who) × Keeps views c). t.1)
      (keeps_after c k) in
      let now : (c : ℕ) → Keeps views c → Keeps Views c = λ c k. ⊎_elim
      (λ (t : c ≡ who). subst (Keeps Views) (sym t)
      (keeps_here (e ∙ (ap (λ (w : Visit). w.keeps)
      (one_view views c v k.0 (ap (get_elem? views) t ∙ at) k.1) ∙ k.2))))
      (λ (t : c ≢ who). keeps_other c t k)
      (cases_eq c who) in
      record {
        keeper = λ o. let k = h.keeper o in (k.0, now k.0 k.1);
        out = λ c k. h.out c (before c k);
        alone = λ a b k l. h.alone a b (before a k) (before b l);
      }

  -- it takes the slot, which nobody kept
  pub new_keeper : length slots ≡ 1 → ((c : ℕ) → Keeps views c → ⊥) → after.keeps ≡ true
      → HasOneKeeper (set slots 0 none) Views
  new_keeper long free e =
      let only : (c : ℕ) → Keeps Views c → c ≡ who = λ c k. ⊎_elim
      (λ (t : (c ≡ who) × (after.keeps ≡ true)). t.0)
      (λ (t : (c ≢ who) × Keeps views c). absurd (free c t.1))
      (keeps_after c k) in
      record {
        keeper = λ o. (who, keeps_here e);
        out = λ c k. set_here slots 0 none (omega arith);
        alone = λ a b k l. only a k ∙ sym (only b l);
      }

  -- it brings the slot home, which it kept
  pub no_keeper : length slots ≡ 1 → (contents : Option S) → v.keeps ≡ true → after.keeps ≡ false
      → HasOneKeeper (set slots 0 (some contents)) Views
  no_keeper long contents mine e =
      let nobody : (c : ℕ) → Keeps Views c → ⊥ = λ c k. ⊎_elim
      (λ (t : (c ≡ who) × (after.keeps ≡ true)). not_both after.keeps e t.1)
      (λ (t : (c ≢ who) × Keeps views c). t.0 (h.alone c who t.1 (v, at, mine)))
      (keeps_after c k) in
      let home : IsAt (set slots 0 (some contents)) 0 (some contents) =
      set_here slots 0 (some contents) (omega arith) in
      record {
        keeper = λ o. absurd (some-ne-none contents (some-injective (some contents) none (sym home ∙ o)));
        out = λ c k. absurd (nobody c k);
        alone = λ a b k l. absurd (nobody a k);
      }
