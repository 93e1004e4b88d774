-- The one list of openings: it grows, its turns are 1, 2, 3 and so on, and the last of them
-- admits whoever is inside.
use Rattle.std.proofs.Common.{◌≡◌, ℕ, suc, ◌+◌, ◌-◌, ◌^◌, ◌<◌, ◌≤◌, ⊎_elim, Option, Some, None, List, [], ◌∷◌, ◌++◌, length, get_or, sym, refl, ap, ◌∙◌, subst, arith, append-nil}
use mathlib.Core.Option.{some, some-injective}
use lib.ListN.{get_elem?}
use Rattle.std.proofs.lemmas.List.Sums.{sum_by-cons}
use Rattle.atomic_table.proofs.Lists.{at_last}
use Rattle.room_core.specs.declared.items.Item.{Item}
use Rattle.room_core.specs.declared.items.Item.TheVariants.{Opened, Entered, Left, ExitBegun, ExitEnded}
use Rattle.room_core.specs.declared.items.Opening.{Opening}
use Rattle.room_core.specs.Runs.{World, Moment, start}
use Rattle.room_core.specs.Trace.{trace, onto}
use Rattle.room_core.specs.Trace.{all_opened, openings, last_opening}
use Rattle.room_core.proofs.Backward.{Lawful, LawfulAt}
use Rattle.room_core.proofs.Backward.{LawfulBack}
use Rattle.room_core.proofs.Admitting.{length_opened}
use Rattle.room_core.specs.Runs.{Reached}
use Rattle.room_core.proofs.Late.{onto_more}
use Rattle.room_core.proofs.Sums.{total, waits_small}
use Rattle.room_core.proofs.Reached.{Sound, run_sound, start_sound}
use Rattle.room_rule.specs.Use.{IsAt}
use Rattle.room_rule.specs.Openings.{StartsWith, no_opening, latest, last_of, IsAdmitted}
use Rattle.room_rule.specs.Told.{ComesIn}
use Rattle.room_rule.proofs.Lists.{at_end, starts_trans, none_there}

opened_onto : (item : Option Item) (t : List Item)
    → StartsWith (all_opened (onto item t)) (all_opened t)
opened_onto None t = ([], sym (append-nil (all_opened t)))
opened_onto (Some (Opened turn r from to)) t =
    (record { turn = turn; room = r; from = from; to = to } ∷ [], refl)
opened_onto (Some (Entered c r)) t = ([], sym (append-nil (all_opened t)))
opened_onto (Some (Left c)) t = ([], sym (append-nil (all_opened t)))
opened_onto (Some (ExitBegun r)) t = ([], sym (append-nil (all_opened t)))
opened_onto (Some (ExitEnded r)) t = ([], sym (append-nil (all_opened t)))

-- a moment adds to the list at its end
pub grown : (m : Moment) (h : List Moment)
    → StartsWith (all_opened (trace (m ∷ h))) (all_opened (trace h))
grown m h =
    let t = trace h in let u = onto m.event.one t in
    starts_trans (all_opened (onto m.event.two u)) (all_opened u) (all_opened t)
    (opened_onto m.event.two u) (opened_onto m.event.one t)

pub more_openings : (m : Moment) (h : List Moment) → openings (trace h) ≤ openings (trace (m ∷ h))
more_openings m h =
    let a = onto_more m.event.one (trace h) in
    let b = onto_more m.event.two (onto m.event.one (trace h)) in
    omega arith

abbrev opening : ℕ → ℕ → ℕ → ℕ → Opening
opening turn r from to = record { turn = turn; room = r; from = from; to = to }

-- the opening at each place has the next turn
pub record IsNumbered (t : List Item) : Type 0 where
  pub turn : (i : ℕ) (o : Opening) → IsAt (all_opened t) i o → o.turn ≡ i + 1

numbered_on : (c : ℕ) (h : List Moment) (item : Item) (t : List Item) → Lawful c h item t
    → IsNumbered t → IsNumbered (item ∷ t)
numbered_on c h (Opened turn r from to) t law old = record {
  turn = λ i o at. ⊎_elim (λ f. old.turn i o f)
      (λ (q : (i ≡ length (all_opened t)) × (opening turn r from to ≡ o)).
      let is : turn ≡ o.turn = ap (λ (z : Opening). z.turn) q.1 in let place = q.0 in
      let long = length_opened t in let next = law.0 in
      omega arith)
      (at_end (all_opened t) (opening turn r from to) o i at);
}
numbered_on c h (Entered d r) t law old = record { turn = old.turn }
numbered_on c h (Left d) t law old = record { turn = old.turn }
numbered_on c h (ExitBegun r) t law old = record { turn = old.turn }
numbered_on c h (ExitEnded r) t law old = record { turn = old.turn }

numbered_onto : (c : ℕ) (h : List Moment) (item : Option Item) (t : List Item)
    → LawfulAt c h item t → IsNumbered t → IsNumbered (onto item t)
numbered_onto c h None t law old = old
numbered_onto c h (Some item) t law old = numbered_on c h item t law old

pub numbered : (h : List Moment) → LawfulBack h → IsNumbered (trace h)
numbered [] law = record { turn = λ i o at. absurd (none_there i o at) }
numbered (m ∷ h) law = numbered_onto m.caller h m.event.two (onto m.event.one (trace h)) law.1
    (numbered_onto m.caller h m.event.one (trace h) law.0 (numbered h law.2))

-- the last opening of the trace is the last of the list
latest_snoc : (d : Opening) (l : List Opening) (o : Opening) → last_of d (l ++ o ∷ []) ≡ o
latest_snoc d [] o = refl
latest_snoc d (x ∷ xs) o = latest_snoc x xs o

latest_is : (t : List Item) (o : Opening) → last_opening t ≡ Some o → latest (all_opened t) ≡ o
latest_is [] o e = absurd (cc)
latest_is (Opened turn r from to ∷ t) o e =
    let same : opening turn r from to ≡ o = cc in
    latest_snoc no_opening (all_opened t) (opening turn r from to) ∙ same
latest_is (Entered c r ∷ t) o e = latest_is t o e
latest_is (Left c ∷ t) o e = latest_is t o e
latest_is (ExitBegun r ∷ t) o e = latest_is t o e
latest_is (ExitEnded r ∷ t) o e = latest_is t o e

-- and stands at the end of the list
record StandsLast (t : List Item) (o : Opening) : Type 0 where
  pub there : IsAt (all_opened t) (openings t - 1) o
  pub some : 0 < openings t

stands_last : (t : List Item) (o : Opening) → last_opening t ≡ Some o → StandsLast t o
stands_last [] o e = absurd (cc)
stands_last (Opened turn r from to ∷ t) o e =
    let same : opening turn r from to ≡ o = cc in
    let long : length (all_opened t) ≡ openings t + 1 - 1 =
    (let l = length_opened t in omega arith) in
    record {
      there = at_last (all_opened t) (opening turn r from to) (openings t + 1 - 1) long
          ∙ ap some same;
      some = omega arith;
    }
stands_last (Entered c r ∷ t) o e = let s = stands_last t o e in
    record { there = s.there; some = s.some }
stands_last (Left c ∷ t) o e = let s = stands_last t o e in
    record { there = s.there; some = s.some }
stands_last (ExitBegun r ∷ t) o e = let s = stands_last t o e in
    record { there = s.there; some = s.some }
stands_last (ExitEnded r ∷ t) o e = let s = stands_last t o e in
    record { there = s.there; some = s.some }

sums_le : (a b : List ℕ) → length a ≡ length b → ((i : ℕ) → get_or a i 0 ≤ get_or b i 0)
    → total a ≤ total b
sums_le [] [] e h = omega arith
sums_le [] (y ∷ ys) e h = omega arith
sums_le (x ∷ xs) [] e h = absurd (omega arith)
sums_le (x ∷ xs) (y ∷ ys) e h =
    omega (
      arith,
      sum_by-cons (λ n. n) x xs,
      sum_by-cons (λ n. n) y ys,
      h 0,
      sums_le xs ys (omega arith) (λ i. h (suc i)),
    )

module _ (m n : ℕ) (few : m ≤ 7) (crowd : n ≤ 64) (w : World) (reached : Reached m n w) where
  everything : Sound m n w
  everything = subst (Sound m n) reached.1
      (run_sound m n reached.0 (start m n) crowd (start_sound m n few))

  -- there are no more openings than tickets
  openings_low : openings (trace w.history) ≤ 2 ^ 54
  openings_low =
      let a = everything in
      let grants =
      sums_le w.state.words.grant w.state.words.wait a.good.inv.grants a.good.inv.granted in
      let waits = waits_small n w.state.words w.state.phases
      (trace w.history) w.state.draws crowd a.good.inv a.sums in
      let paid = a.sums.paid in
      omega arith

  -- two openings of one turn are one
  same_turn : (i j : ℕ) (p o : Opening) → IsAt (all_opened (trace w.history)) i p
      → IsAt (all_opened (trace w.history)) j o → p.turn ≡ o.turn → p ≡ o
  same_turn i j p o at there same =
      let num = numbered w.history (everything).more.lawful in
      let x = num.turn i p at in let y = num.turn j o there in let place : i ≡ j = omega arith in
      some-injective p o (sym at ∙ ap (get_elem? (all_opened (trace w.history))) place ∙ there)

  -- who comes in by the last opening of the trace
  pub comes_in : (o : Opening) (room ticket turn to first : ℕ) (before : List Opening)
      → last_opening (trace w.history) ≡ Some o
      → o.room ≡ room → o.turn ≡ turn → o.to ≡ to → o.from < ticket → ticket ≤ to → first ≤ turn
      → turn ≤ first + m
      → StartsWith (all_opened (trace w.history)) before
      → ComesIn m room ticket turn to first before (all_opened (trace w.history))
  comes_in o room ticket turn to first before last room_is turn_is to_is low high looked prompt
      starts =
      let t = trace w.history in let all = all_opened t in
      let is : latest all ≡ o = latest_is t o last in
      let s = stands_last t o last in let more = s.some in
      let number : o.turn ≡ openings t - 1 + 1 =
      (numbered w.history (everything).more.lawful).turn (openings t - 1) o s.there in
      let long : length all ≡ openings t = length_opened t in let small = openings_low in
      let place : o.turn - 1 ≡ openings t - 1 = omega arith in
      record {
        seen = starts;
        room_is = ap (λ (z : Opening). z.room) is ∙ room_is;
        turn_is = ap (λ (z : Opening). z.turn) is ∙ turn_is;
        to_is = ap (λ (z : Opening). z.to) is ∙ to_is;
        admitted = subst (IsAdmitted m ticket first all) (sym is) (record {
          own = ap (get_elem? all) place ∙ s.there;
          latest = omega arith;
          only = λ i p at same. same_turn i (openings t - 1) p o at s.there same;
          above = low;
          within = omega arith;
          looked = omega arith;
          prompt = omega arith;
          small = omega arith;
        });
      }
