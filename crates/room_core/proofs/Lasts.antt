-- What a lawful trace says of its last opening, and of all.
use Rattle.std.proofs.Common.{◌≡◌, ℕ, ◌≤◌, false, List, [], ◌∷◌, Option, Some, None, refl, sym, ap, inl, inr, arith, eqb}
use Rattle.std.proofs.lemmas.Bool.{cond_both, eqb-true, eqb-false}
use Rattle.room_core.specs.declared.items.Item.{Item}
use Rattle.room_core.specs.declared.items.Opening.{Opening}
use Rattle.room_core.specs.declared.items.Item.TheVariants.{Opened, Entered, Left, ExitBegun, ExitEnded}
use Rattle.room_core.specs.Trace.{is_closing, trace, onto, last_opening, openings, all_opened}
use Rattle.room_core.specs.Runs.{Moment}
use Rattle.room_core.proofs.Backward.{last_to, Lawful, LawfulAt, LawfulBack}
use mathlib.Core.Option.{some, some-ne-none}
use lib.ListN.{get_elem?}
use Rattle.room_core.proofs.Lists.{at_snoc}

pub record Lasts (t : List Item) : Type 0 where
  pub turn : (o : Opening) → last_opening t ≡ Some o → o.turn ≡ openings t
  pub none : last_opening t ≡ None → (openings t ≡ 0) × (is_closing t ≡ false)
  pub each : (i : ℕ) (o : Opening) → get_elem? (all_opened t) i ≡ some o → o.to ≤ last_to o.room t

lasts_on : (c : ℕ) (history : List Moment) (item : Item) (t : List Item) → Lawful c history item t
    → Lasts t → Lasts (item ∷ t)
lasts_on c history (Opened turn r from to) t w k = record {
  turn = λ o e. let q : turn ≡ o.turn = cc in omega (arith, w.0);
  none = λ e. absurd (cc);
  each = λ i o at. elim (at_snoc (all_opened t) (record { turn = turn; room = r; from = from; to = to }) o i at) [
    | inl old ↦ cond_both (eqb r o.room) to (last_to o.room t) (λ (z : ℕ). o.to ≤ z)
        (λ q.
        let same : r ≡ o.room = eqb-true r o.room q in
        let was = k.each i o old in
        let f : last_to r t ≡ last_to o.room t = ap (λ (z : ℕ). last_to z t) same in
        omega (arith, w.1, w.2))
        (λ _. k.each i o old)
    | inr new ↦ cond_both (eqb r o.room) to (last_to o.room t) (λ (z : ℕ). o.to ≤ z)
        (λ _. let q : to ≡ o.to = ap (λ (z : Opening). z.to) new in omega arith)
        (λ q. absurd (eqb-false r o.room q (ap (λ (z : Opening). z.room) new)))
  ];
}
lasts_on c history (Entered d r) t w k = record { turn = k.turn; none = k.none; each = k.each }
lasts_on c history (Left d) t w k = record { turn = k.turn; none = k.none; each = k.each }
lasts_on c history (ExitBegun r) t w k = record {
  turn = k.turn;
  none = λ e. absurd (let q = w.1 in cc);
  each = k.each;
}
lasts_on c history (ExitEnded r) t w k = record { turn = k.turn; none = k.none; each = k.each }

lasts_onto : (c : ℕ) (history : List Moment) (item : Option Item) (t : List Item)
    → LawfulAt c history item t → Lasts t → Lasts (onto item t)
lasts_onto c history None t w k = k
lasts_onto c history (Some item) t w k = lasts_on c history item t w k

pub lasts : (history : List Moment) → LawfulBack history → Lasts (trace history)
lasts [] w = record {
  turn = λ o e. absurd (cc);
  none = λ e. (refl, refl);
  each = λ i o at. absurd (some-ne-none o (sym at));
}
lasts (m ∷ history) w =
    lasts_onto m.caller history m.event.two (onto m.event.one (trace history)) w.1
    (lasts_onto m.caller history m.event.one (trace history) w.0 (lasts history w.2))
