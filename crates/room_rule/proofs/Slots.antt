-- Slots: which of them are at home, and what a step that takes one or brings one home does to what
-- its seat carries.
use Rattle.std.proofs.Common.{◌≡◌, ℕ, zero, suc, ◌<◌, ◌⊎◌, ⊎_elim, inl, inr, true, false, Option, Some, None, List, [], ◌∷◌, length, map, replicate, set, sym, refl, ap, ◌∙◌, arith, length-set}
use mathlib.Core.Option as maybe
use mathlib.Core.Option.{some, none, some-injective, some-ne-none}
use lib.ListN.{get_elem?}
use Rattle.atomic_table.specs.Table.{Act as SlotAct, keeps, takes, gives, carried_after, homes_after, Valid, rest, put_back}
use Rattle.room_core.specs.Gate.{Gate, Shut, Held, Keyed}
use Rattle.room_rule.specs.Use.{IsAt, Slots, Content, contents_of, at_home, slots_after, held_after, Meaning, IsInsider, Outside}
use Rattle.room_rule.specs.Laws.{MovesOne, IsKept, SlotLaws}
use Rattle.room_rule.specs.Told.{held_in, Carries}

none_of : (o : Option ℕ) → ((k : ℕ) → o ≡ Some k → ⊥) → o ≡ None
none_of None h = refl
none_of (Some k) h = absurd (h k refl)

not_both : true ≡ false → ⊥
not_both e = cc

-- who is outside is no insider
pub out_is_not_in : (gate : Gate) (c : ℕ) → Outside gate c → IsInsider gate c → ⊥
out_is_not_in (Shut turn) c out is = is
out_is_not_in (Held room turn ins) c out is = not_both (sym is ∙ out)
out_is_not_in (Keyed room turn holder) c out is = is

-- a slot is out, or at home
out_or_home : {A : Type 0} (l : List (maybe.Option A)) (k : ℕ) → k < length l
    → IsAt l k none ⊎ ((a : A) × IsAt l k (some a))
out_or_home [] k h = absurd (omega arith)
out_or_home (none ∷ l) zero h = inl refl
out_or_home (some a ∷ l) zero h = inr (a, refl)
out_or_home (x ∷ l) (suc k) h = out_or_home l k (omega arith)

-- where each slot is at home, and its contents are those of the list, the list is all of them
pub all_home : {A : Type 0} (l : List (maybe.Option A)) (xs : List A) → length l ≡ length xs
    → ((k : ℕ) → IsAt l k none → ⊥) → ((k : ℕ) (a : A) → IsAt l k (some a) → IsAt xs k a)
    → l ≡ map some xs
all_home [] [] long home same = refl
all_home [] (x ∷ xs) long home same = absurd (omega arith)
all_home (none ∷ l) xs long home same = absurd (home 0 refl)
all_home (some a ∷ l) [] long home same = absurd (omega arith)
all_home {A} (some a ∷ l) (x ∷ xs) long home same =
    let first : x ≡ a = some-injective x a (same 0 a refl) in
    let more : l ≡ map some xs =
    all_home l xs (omega arith) (λ k. home (suc k)) (λ k. same (suc k)) in
    λ i. some (sym first i) ∷ more i

pub all_none : {A : Type 0} (n k : ℕ) (a : A) → k < n → IsAt (map some (replicate n a)) k (some a)
all_none zero k a h = absurd (omega arith)
all_none (suc n) zero a h = refl
all_none (suc n) (suc k) a h = all_none n k a (omega arith)

pub length_after : {S : Type 0} (slots : Slots S) (before after : Option ℕ) (contents : Option S)
    → length (slots_after slots before after contents) ≡ length slots
length_after slots None None contents = refl
length_after slots None (Some k) contents = length-set slots k none
length_after slots (Some k) None contents = length-set slots k (some contents)
length_after slots (Some k) (Some j) contents = refl

-- what a seat does with its slot in a step before which its caller keeps one slot, and after which
-- the other
pub record Moves {S : Type 0} (stands slots : Slots S) (carried : List (ℕ × Option S))
    (before after : Option ℕ) : Type 0 where
  pub act : SlotAct (Option S)
  pub valid : Valid stands carried act
  pub homes : homes_after stands carried act ≡ slots_after slots before after
      (contents_of (held_in carried))
  pub carries : Carries after (carried_after carried act)
  pub held : held_in (carried_after carried act) ≡ held_after slots before after (held_in carried)

pub moves_one : {S : Type 0} (homes slots : Slots S) (carried : List (ℕ × Option S))
    (before after : Option ℕ) → homes ≡ slots → Carries before carried
    → (before ≡ None → (k : ℕ) → after ≡ Some k → (y : Option S) × IsAt slots k (some y))
    → ((k j : ℕ) → before ≡ Some k → after ≡ Some j → k ≡ j)
    → Moves homes slots carried before after
moves_one homes slots carried None None same has home one = record {
  act = keeps;
  valid = tt;
  homes = same;
  carries = has;
  held = refl;
}
moves_one {S} homes slots carried None (Some k) same has home one =
    let h = home refl k refl in
    record {
      act = takes k h.0;
      valid = ap (λ (l : Slots S). get_elem? l k) same ∙ h.1;
      homes = ap (λ (l : Slots S). set l k none) same;
      carries = (h.0, ap (λ (l : List (ℕ × Option S)). (k, h.0) ∷ l) has);
      held = ap (λ (z : maybe.Option (maybe.Option (Option S))). Some (at_home z)) (sym h.1);
    }
moves_one {S} homes slots carried (Some k) None same has home one =
    record {
      act = gives;
      valid = tt;
      homes = ap (put_back homes) has.1 ∙ ap (λ (l : Slots S). set l k (some has.0)) same
          ∙ ap (λ (l : List (ℕ × Option S)). set slots k (some (contents_of (held_in l))))
          (sym has.1);
      carries = ap (λ (l : List (ℕ × Option S)). rest l) has.1;
      held = ap (λ (l : List (ℕ × Option S)). held_in (rest l)) has.1;
    }
moves_one {S} homes slots carried (Some k) (Some j) same has home one =
    let only : ℕ → List (ℕ × Option S) = λ z. (z, has.0) ∷ [] in
    record {
      act = keeps;
      valid = tt;
      homes = same;
      carries = (
        has.0,
        has.1 ∙ ap only (one k j refl refl),
      );
      held = refl;
    }

pub same_slot : (before after : Option ℕ) (k j : ℕ) → MovesOne before after → before ≡ Some k
    → after ≡ Some j → k ≡ j
same_slot None after k j one e f = absurd (cc)
same_slot (Some a) None k j one e f = absurd (cc)
same_slot (Some a) (Some b) k j one e f =
    let x : a ≡ k = cc in let y : b ≡ j = cc in sym x ∙ one ∙ y

module _ {X S V : Type 0} (M : Meaning X S V) (laws : SlotLaws M) (x : X) (s : Content S V)
    (gate : Gate) (lawful : M.lawful x s gate) where
  -- who is not inside keeps no slot
  pub keeps_none : (c : ℕ) (v : V) → IsAt s.views c v → (IsInsider gate c → ⊥) → M.keeps v ≡ None
  keeps_none c v at out =
      none_of (M.keeps v) (λ k e. out (laws.insiders x s gate c v k lawful at e).0)

  -- a slot that nobody keeps is at home
  pub home : (k : ℕ) → k < M.slots x → length s.slots ≡ M.slots x → (IsKept M s.views k → ⊥)
      → (y : Option S) × IsAt s.slots k (some y)
  home k below long free = ⊎_elim
      (λ out. absurd (free ((laws.out x s gate k lawful below).0 out)))
      (λ at. at)
      (out_or_home s.slots k (omega arith))
