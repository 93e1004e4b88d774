-- What the loops of a close keep, and what is left at its end.
use Rattle.std.proofs.Common.{◌≡◌, ◌≢◌, ◌⊎◌, ℕ, zero, suc, ◌+◌, ◌*◌, ◌<◌, ◌≤◌, inl, inr, Bool, true, false, get_or, set, Option, List, [], ◌∷◌, ◌++◌, map, take, drop, length, refl, ap, sym, ◌∙◌, subst, arith}
use mathlib.Core.Option.{some-injective}
use Rattle.std.proofs.lemmas.Bool.{cases_eq}
use Rattle.std.proofs.lemmas.List.{get_or-set_same, get_or-set_other}
use Rattle.atomic_table.specs.Seated.{TableId}
use Rattle.room_core.specs.Gate.{Shut}
use Rattle.room_rule.specs.Use.{IsAt, Slots, Meaning}
use Rattle.room_rule.specs.Closes.{AreApart, Ends}
use Rattle.room_rule.specs.declared.rule.Plan.{Plan}
use Rattle.room_rule.specs.declared.views.Ended.{Ended}
use Rattle.room_rule.proofs.Lists.{none_there, of_map}
use Rattle.room_gate.specs.Shows.{Caller}
use Rattle.room_gate.specs.Closing.{AreAll, last_of, IsLeft}

-- one value more of a list is copied
take_more : {A : Type 0} (xs : List A) (done : ℕ) (x : A) → IsAt xs done x
    → take (suc done) xs ≡ take done xs ++ x ∷ []
take_more [] done x at = absurd (none_there done x at)
take_more (y ∷ ys) zero x at = λ i. some-injective y x at i ∷ []
take_more (y ∷ ys) (suc done) x at = ap (λ (l : List _). y ∷ l) (take_more ys done x at)

-- a list that was copied so far, and got one value more
pub pushed_on : {A : Type 0} (xs old new : List A) (done next : ℕ) (x : A) → next ≡ done + 1
    → new ≡ old ++ x ∷ [] → old ≡ take done xs → IsAt xs done x → new ≡ take next xs
pushed_on xs old new done next x more pushed is at =
    let e : suc done ≡ next = omega arith in
    pushed ∙ ap (λ (l : List _). l ++ x ∷ []) is ∙ sym (take_more xs done x at)
    ∙ ap (λ (z : ℕ). take z xs) e

-- what stands behind the first values of a list
pub at_dropped : {A : Type 0} (xs : List A) (from done place : ℕ) (x : A) → place ≡ from + done
    → IsAt xs place x → IsAt (drop from xs) done x
at_dropped xs zero done place x e at =
    subst (λ (z : ℕ). IsAt xs z x) (let q : place ≡ done = omega arith in q) at
at_dropped [] (suc from) done place x e at = absurd (none_there place x at)
at_dropped (y ∷ ys) (suc from) done zero x e at = absurd (omega arith)
at_dropped (y ∷ ys) (suc from) done (suc place) x e at =
    at_dropped ys from done place x (omega arith) at

-- a row from which the value at a place is taken: what stands behind it, and what before
pub still_full : (filled now : List Bool) (i k : ℕ) → now ≡ set filled i false → i + 1 ≤ k
    → get_or filled k false ≡ true → get_or now k false ≡ true
still_full filled now i k e after full =
    ap (λ (l : List Bool). get_or l k false) e
    ∙ get_or-set_other filled i k false false (λ q. omega arith) ∙ full

pub empty_now : (filled now : List Bool) (i k : ℕ) → now ≡ set filled i false
    → i < length filled → k < i + 1 → (k < i → get_or filled k false ≡ false)
    → get_or now k false ≡ false
empty_now filled now i k e below under empty =
    ap (λ (l : List Bool). get_or l k false) e ∙ elim (cases_eq k i) [
      | inl same ↦ ap (λ (z : ℕ). get_or (set filled i false) z false) same
          ∙ get_or-set_same filled i false false below
      | inr ne ↦ get_or-set_other filled i k false false ne ∙ empty (omega arith)
    ]

-- the last of a list goes to the front of the results
map_last : {A B : Type 0} (f : A → B) (l : List A) (a : A) (r : List B)
    → map f (l ++ a ∷ []) ++ r ≡ map f l ++ f a ∷ r
map_last f [] a r = refl
map_last f (x ∷ xs) a r = ap (λ (z : List _). f x ∷ z) (map_last f xs a r)

-- the last of those that are left is taken in
pub gathered : {A B : Type 0} (f : A → B) (all rest : List A) (last : A) (before after whole : List B)
    → all ≡ rest ++ last ∷ [] → after ≡ f last ∷ before → map f all ++ before ≡ whole
    → map f rest ++ after ≡ whole
gathered f all rest last before after whole is taken so_far =
    ap (λ (l : List _). map f rest ++ l) taken ∙ sym (map_last f rest last before)
    ∙ ap (λ (l : List _). map f l ++ before) (sym is) ∙ so_far

-- the passes of all callers are as many, and no two of one
pub ended_apart : {V : Type 0} (passes : List (Caller V))
    → ((i j : ℕ) (p q : Caller V) → IsAt passes i p → IsAt passes j q → p.who ≡ q.who → i ≡ j)
    → AreApart (map last_of passes)
ended_apart passes once i j e f at there same =
    let a = of_map last_of passes i e at in let b = of_map last_of passes j f there in
    once i j a.0 b.0 a.1 b.1
    (ap (λ (z : Ended _). z.who) a.2 ∙ same ∙ sym (ap (λ (z : Ended _). z.who) b.2))

-- passes of which each has its place's number
pub numbered_are_all : {V : Type 0} (site : TableId) (callers : ℕ) (passes : List (Caller V))
    → length passes ≡ callers
    → ((i : ℕ) (p : Caller V) → IsAt passes i p → (p.site ≡ site) × (p.who ≡ i))
    → AreAll site callers passes
numbered_are_all site callers passes many each = record {
  many = many;
  own = λ i p at. (each i p at).0;
  once = λ i j p q at there same. sym (each i p at).1 ∙ same ∙ (each j q there).1;
}

-- two values that were pushed
pub two_pushed : {A : Type 0} (a b : A) (none first both : List A) → none ≡ []
    → first ≡ none ++ a ∷ [] → both ≡ first ++ b ∷ [] → both ≡ a ∷ b ∷ []
two_pushed a b none first both empty one two =
    two ∙ ap (λ (l : List _). l ++ b ∷ []) (one ∙ ap (λ (l : List _). l ++ a ∷ []) empty)

-- the passes of two callers, the one before the other
module _ {V : Type 0} (one two : Caller V) where
  of_site : (site : TableId) (i : ℕ) (p : Caller V) → one.site ≡ site → two.site ≡ site
      → IsAt (one ∷ two ∷ []) i p → p.site ≡ site
  of_site site zero p own its at = subst (λ (z : Caller V). z.site ≡ site) (some-injective one p at) own
  of_site site (suc zero) p own its at = subst (λ (z : Caller V). z.site ≡ site) (some-injective two p at) its
  of_site site (suc (suc i)) p own its at = absurd (none_there i p at)

  of_number : (i : ℕ) (p : Caller V) → IsAt (one ∷ two ∷ []) i p
      → ((i ≡ 0) × (one.who ≡ p.who)) ⊎ ((i ≡ 1) × (two.who ≡ p.who))
  of_number zero p at = inl (refl, ap (λ (z : Caller V). z.who) (some-injective one p at))
  of_number (suc zero) p at = inr (refl, ap (λ (z : Caller V). z.who) (some-injective two p at))
  of_number (suc (suc i)) p at = absurd (none_there i p at)

  pub two_are_all : (site : TableId) (callers : ℕ) → callers ≡ 2 → one.site ≡ site → two.site ≡ site
      → one.who ≢ two.who → AreAll site callers (one ∷ two ∷ [])
  two_are_all site callers many own its apart = record {
    many = sym many;
    own = λ i p at. of_site site i p own its at;
    once = λ i j p q at there same. elim (of_number i p at) [
      | inl a ↦ elim (of_number j q there) [
        | inl b ↦ a.0 ∙ sym b.0
        | inr b ↦ absurd (apart (a.1 ∙ same ∙ sym b.1))
      ]
      | inr a ↦ elim (of_number j q there) [
        | inl b ↦ absurd (apart (b.1 ∙ sym same ∙ sym a.1))
        | inr b ↦ a.0 ∙ sym b.0
      ]
    ];
  }

past_first : (a b : List ℕ) (n : ℕ) → length a ≡ n → drop n (a ++ b) ≡ b
past_first [] b zero e = refl
past_first [] b (suc n) e = absurd (omega arith)
past_first (x ∷ a) b zero e = absurd (omega arith)
past_first (x ∷ a) b (suc n) e = past_first a b n (omega arith)

-- what a closed table shows is what is left
pub left_by_end : {X S V : Type 0} (M : Meaning X S V) (m : ℕ) (k : Plan X)
    (ended : List (Ended V)) (ws words : List ℕ) (slots : List (Option S))
    → words ≡ drop (1 + 3 * m) ws → Ends M m k ended ws slots
    → IsLeft M k.usage k.callers ended words slots
left_by_end {X} {S} {V} M m k ended ws words slots copied e =
    let is : words ≡ e.content.words = copied ∙ ap (drop (1 + 3 * m)) e.words
    ∙ past_first e.rooms e.content.words (1 + 3 * m) e.long in
    record {
      sized = ap length is ∙ e.sized;
      slotted = e.slotted;
      views = e.content.views;
      crowd = e.crowd;
      each = e.each;
      turn = e.turn;
      lawful = subst (λ (z : List ℕ × Slots S).
          M.lawful k.usage (record { words = z.0; slots = z.1; views = e.content.views })
          (Shut e.turn)) (λ i. (sym is i, e.at_home i)) e.lawful;
    }
