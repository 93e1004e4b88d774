-- What is left when all callers made their stays.
use Rattle.std.proofs.Common.{◌≡◌, ℕ, zero, suc, ◌+◌, ◌<◌, ◌≤◌, Bool, List, [], ◌∷◌, length, map, refl, sym, ap, ◌∙◌, subst, arith}
use Rattle.std.specs.Prelude.{Option, slice_index, slice_index_or}
use Rattle.std.specs.List.{sum_by, range_with_len}
use Rattle.std.proofs.lemmas.List.Sums.{sum_by-cons}
use mathlib.Core.Option.{some-injective}
use Rattle.atomic_table.specs.Seated.{TableId}
use Rattle.atomic_table.proofs.Lists.{at_map, at_index}
use Rattle.room_rule.specs.Use.{IsAt}
use Rattle.room_rule.specs.Callers.{at_below}
use Rattle.room_gate.specs.Shows.{Caller, newcomer as new_pass}
use Rattle.room_gate.specs.Making.{ArePasses}
use Rattle.room_gate.specs.Closing.{AreAll, IsLeft, last_of}
use Rattle.room_gate.specs.Together.{EachGives}
use Rattle.room_gate.proofs.Closing.{numbered_are_all}
use Rattle.room_gate.proofs.Together.{thing_at, given_at}
use Rattle.stay_tally.specs.declared.uses.Tally.{Tally}
use Rattle.stay_tally.specs.declared.uses.Stays.{Stays}
use Rattle.stay_tally.specs.Tally.{counted_in, newcomer, tallied}
use Rattle.stay_tally.specs.Laws.{none_counted}
use Rattle.stay_tally.specs.Crews.{first_room, stays_in, all_in, HasStayed, IsReady}

-- the pass of a caller that made no stay
abbrev fresh : TableId → ℕ → ℕ → Caller Stays
fresh site limit who = new_pass site limit (λ c. newcomer) who

-- the new passes can make so many stays
pub ready : (site : TableId) (limit callers stays : ℕ) (passes : List (Caller Stays))
    → ArePasses site limit (λ who. newcomer) callers passes → callers ≤ 64 → stays ≤ limit
    → (i : ℕ) (p : Caller Stays) → i < length passes → p ≡ slice_index_or passes i p
    → IsReady site stays p
ready site limit callers stays passes are few most i p h is =
    let new = are.each i p (at_index passes i p h is) in let long = are.long in
    subst (λ (z : Caller Stays). IsReady site stays z) (sym new) (record {
      own = refl;
      who = omega arith;
      draws = omega arith;
      wide = refl;
    })

-- the pass of each caller, in their order, after all its stays
abbrev pub AreDone : Bool → ℕ → TableId → ℕ → List (Caller Stays) → Type 0
AreDone spread stays site limit passes = (i : ℕ) (p : Caller Stays) → IsAt passes i p
    → HasStayed spread (first_room spread i) stays (fresh site limit i) p

pub done : (spread : Bool) (stays : ℕ) (site : TableId) (limit callers : ℕ)
    (before after : List (Caller Stays)) → ArePasses site limit (λ who. newcomer) callers before
    → length after ≡ length before
    → EachGives (λ p. HasStayed spread (first_room spread p.who) stays p) before after
    → AreDone spread stays site limit after
done spread stays site limit callers before after are same each i p at =
    let below = at_below after i p at in let q = thing_at before i (omega arith) in
    subst (λ (z : Caller Stays). HasStayed spread (first_room spread z.who) stays z p)
    (are.each i q.0 q.1)
    (given_at (λ z. HasStayed spread (first_room spread z.who) stays z) before after each i q.0 p q.1 at)

-- they are the passes of all callers
pub all_back : (spread : Bool) (stays : ℕ) (site : TableId) (limit callers : ℕ)
    (passes : List (Caller Stays)) → length passes ≡ callers
    → AreDone spread stays site limit passes → AreAll site callers passes
all_back spread stays site limit callers passes many are =
    numbered_are_all site callers passes many (λ i p at. let has = are i p at in (
      ap (λ (z : Caller Stays). z.site) has.same,
      ap (λ (z : Caller Stays). z.who) has.same,
    ))

-- a sum over a list whose each value is known by its place
sum_each : {A : Type 0} (f : A → ℕ) (g : ℕ → ℕ) (l : List A) (a n : ℕ) → length l ≡ n
    → ((i j : ℕ) (v : A) → a + i ≡ j → IsAt l i v → f v ≡ g j)
    → sum_by f l ≡ sum_by g (range_with_len a n)
sum_each f g [] a zero long each = refl
sum_each f g [] a (suc n) long each = absurd (omega arith)
sum_each f g (x ∷ xs) a zero long each = absurd (omega arith)
sum_each f g (x ∷ xs) a (suc n) long each =
    let first = each 0 a x (omega arith) refl in
    let rest = sum_each f g xs (a + 1) n (omega arith) (λ i j v e at. each (suc i) j v (omega arith) at) in
    omega (arith, sum_by-cons f x xs, sum_by-cons g a (range_with_len (a + 1) n))

-- each word counts the stays of all callers in its room
pub words_left : (spread : Bool) (stays : ℕ) (site : TableId) (limit callers : ℕ) (x : Tally)
    (passes : List (Caller Stays)) (words : List ℕ) (slots : List (Option (Unit {0})))
    → length passes ≡ callers → AreDone spread stays site limit passes
    → IsLeft tallied x callers (map last_of passes) words slots
    → (r : ℕ) → r < 4 → slice_index words r ≡ all_in spread callers stays r
words_left spread stays site limit callers x passes words slots many are left r h =
    left.lawful.sums r h
    ∙ sum_each (counted_in r) (λ who. stays_in spread (first_room spread who) stays r) left.views 0
    callers left.crowd (λ i j v e at.
    let below = at_below left.views i v at in let crowd = left.crowd in
    let mine = thing_at passes i (omega arith) in let p = mine.0 in let has = are i p mine.1 in
    let who : p.who ≡ i = ap (λ (z : Caller Stays). z.who) has.same in
    let its : IsAt left.views i p.user = subst (λ (z : ℕ). IsAt left.views z p.user) who
    (left.each i (last_of p) (at_map last_of passes i p mine.1)) in
    let same : v ≡ p.user = some-injective v p.user (sym at ∙ its) in
    let none = none_counted r h in let counted = has.counted r h in
    let view = ap (counted_in r) same in
    let place : i ≡ j = omega arith in
    let from = ap (λ (z : ℕ). stays_in spread (first_room spread z) stays r) place in
    omega arith)
