-- Two insiders that compare what they have seen have seen the same.
use Rattle.std.proofs.Common.{◌≡◌, ◌∙◌, ℕ, suc, ◌+◌, ◌-◌, ◌≤◌, Some, ltb, List, [], ◌∷◌, ◌++◌, length, refl, sym, ap, subst, arith, append-nil, length-append}
use mathlib.Core.Option.{some-injective}
use Rattle.std.proofs.lemmas.Bool.{cond-false, le-ltb}
use Rattle.std.proofs.lemmas.List.{nil_from_length}
use Rattle.atomic_table.proofs.Lists.{at_longer}
use Rattle.room_core.specs.declared.items.Opening.{Opening}
use Rattle.room_rule.specs.Use.{IsAt, Meaning}
use Rattle.room_rule.specs.Callers.{at_below}
use Rattle.room_rule.specs.Openings.{StartsWith, longer, latest}
use Rattle.room_rule.specs.View.{noted, learned}
use Rattle.room_rule.specs.Told.{Seated}
use Rattle.room_rule.specs.Looking.{Finds, looked_by}
use Rattle.room_rule.specs.declared.views.Shown.{Shown}
use Rattle.room_gate.specs.InsideModel.{IsInside}
use Rattle.room_gate.specs.Meeting.{IsIn, met}
use Rattle.room_gate.specs.declared.inside.Inside.TheInside.{Inside}

-- lists as long as each other, where what stands in the one stands there in the other
by_places : {A : Type 0} (l n : List A) → length l ≡ length n
    → ((i : ℕ) (a : A) → IsAt l i a → IsAt n i a) → l ≡ n
by_places [] [] e h = refl
by_places [] (y ∷ ys) e h = absurd (omega arith)
by_places (x ∷ xs) [] e h = absurd (omega arith)
by_places (x ∷ xs) (y ∷ ys) e h =
    ap (λ (z : _). z ∷ xs) (sym (some-injective y x (h 0 x refl)))
    ∙ ap (λ (l : List _). y ∷ l) (by_places xs ys (omega arith) (λ i a q. h (suc i) a q))

-- a beginning as long as the whole is the whole
whole_is : {A : Type 0} (whole part : List A) → StartsWith whole part
    → length whole ≡ length part → whole ≡ part
whole_is whole part s e =
    let long : length whole ≡ length part + length s.0 = ap length s.1 ∙ length-append part s.0 in
    s.1 ∙ ap (λ (l : List _). part ++ l) (nil_from_length s.0 (omega arith)) ∙ append-nil part

longer_first : (a b : List Opening) → length a ≡ length b → longer a b ≡ a
longer_first a b e =
    cond-false (ltb (length a) (length b)) b a (le-ltb (length a) (length b) (omega arith))

-- an insider, and what another finds that learned what it has seen
no_later : {V : Type 0} (v w : Shown V) (turn room turn' n : ℕ) → IsIn v turn
    → Finds (learned w (noted v)) room turn' n → turn ≤ turn'
no_later v w turn room turn' n a found =
    let at = found.known (turn - 1) a.opening
    (at_longer v.seen w.known (turn - 1) a.opening a.last) in
    let below = at_below found.openings at.0 a.opening at.1 in
    let number = found.numbered at.0 a.opening at.1 in let is = a.turn_is in
    let long = found.long in omega arith

module _ {V : Type 0} (v w : Shown V) (turn turn' room room' n n' : ℕ) (a : IsIn v turn)
    (b : IsIn w turn') (found : Finds (learned v (noted w)) room turn n)
    (found' : Finds (learned w (noted v)) room' turn' n') where
  one_turn : turn ≡ turn'
  one_turn =
      let x = no_later v w turn room' turn' n' a found' in
      let y = no_later w v turn' room turn n b found in omega arith

  as_long : length v.seen ≡ length w.seen
  as_long = let e = one_turn in let x = a.long in let y = b.long in omega arith

  same_seen : v.seen ≡ w.seen
  same_seen =
      let all : found.openings ≡ v.seen = whole_is found.openings v.seen
      (subst (StartsWith found.openings) (longer_first v.seen w.seen as_long) found.seen)
      (found.long ∙ sym a.long) in
      let all' : found'.openings ≡ w.seen = whole_is found'.openings w.seen
      (subst (StartsWith found'.openings) (longer_first w.seen v.seen (sym as_long)) found'.seen)
      (found'.long ∙ sym b.long) in
      by_places v.seen w.seen as_long (λ i o at.
      let x = found.numbered i o (subst (λ (l : List Opening). IsAt l i o) (sym all) at) in
      let there = found'.known i o (at_longer v.seen w.known i o at) in
      let y = found'.numbered there.0 o there.1 in
      let place : there.0 ≡ i = omega arith in
      subst (λ (l : List Opening). IsAt l i o) all'
      (subst (λ (z : ℕ). IsAt found'.openings z o) place there.1))

-- the seat after its look, where what it learned was as long as what it had seen
met_as : {S V : Type 0} (me after : Seated S V) (w : Shown V) (n : ℕ)
    → length me.0.seen ≡ length w.seen
    → looked_by (learned me.0 (noted w), me.1) n after → met me after
met_as me after w n e told =
    let same = longer_first me.0.seen w.seen e in
    let is : after ≡ (
      record me.0 { known = w.seen ++ me.0.known; active = n; loads = me.0.loads + 1 },
      me.1,
    ) = told.0 ∙ (λ i. (
      record me.0 {
        seen = same i;
        known = w.seen ++ me.0.known;
        active = n;
        loads = me.0.loads + 1;
      },
      me.1,
    )) in
    is ∙ (λ i. (
      record me.0 {
        known = (sym is i).0.known;
        active = (sym is i).0.active;
        loads = me.0.loads + 1;
      },
      me.1,
    ))

pub record Meets {S V : Type 0} (me me' after after' : Seated S V) : Type 0 where
  pub one : met me after
  pub two : met me' after'
  pub seen : me.0.seen ≡ me'.0.seen

-- two insiders learned of each other, and looked
pub meets : {S V : Type 0} (me me' after after' : Seated S V) (turn turn' n n' : ℕ) → IsIn me.0 turn
    → IsIn me'.0 turn' → looked_by (learned me.0 (noted me'.0), me.1) n after
    → looked_by (learned me'.0 (noted me.0), me'.1) n' after' → Meets me me' after after'
meets me me' after after' turn turn' n n' a b told told' =
    let found = told.1 a.room a.ticket turn a.to a.first a.phase in
    let found' = told'.1 b.room b.ticket turn' b.to b.first b.phase in
    let long = as_long me.0 me'.0 turn turn' a.room b.room n n' a b found found' in
    record {
      one = met_as me after me'.0 n long told;
      two = met_as me' after' me.0 n' (sym long) told';
      seen = same_seen me.0 me'.0 turn turn' a.room b.room n n' a b found found';
    }

-- by its token
pub is_in : {X S V : Type 0} (m : ℕ) (M : Meaning X S V) (i : Inside X V S) → IsInside m M i
    → IsIn i.seat.me.0 i.turn
is_in m M i is = record {
  role = is.of.role;
  room = i.room;
  ticket = i.ticket;
  to = i.to;
  first = Some i.first;
  phase = is.phase;
  long = is.admitted.latest ∙ is.turn;
  opening = latest i.seat.me.0.seen;
  turn_is = is.turn;
  last = subst (λ (z : ℕ). IsAt i.seat.me.0.seen (z - 1) (latest i.seat.me.0.seen)) is.turn
      is.admitted.own;
}
