-- What the loops of a close keep, and what is left at its end.
use Rattle.std.proofs.Common.{◌≡◌, ℕ, zero, suc, ◌+◌, ◌<◌, ◌≤◌, inl, inr, Bool, true, false, cond, eqb, eq-eqb, ne_eqb, get_or, List, [], ◌∷◌, ◌++◌, length, length-append, append_assoc, refl, ap, sym, ◌∙◌, subst, arith}
use Rattle.std.specs.Prelude.{Contains}
use mathlib.Core.Option.{some-injective, some-ne-none}
use Rattle.std.proofs.lemmas.Bool.{cases_eq, cases_lt}
use Rattle.atomic_table.specs.Table.{Final, Seen}
use Rattle.bit_sets.specs.Bits.{bit_of}
use Rattle.mark_words.specs.Bits.{times}
use Rattle.mark_words.specs.Rule.{IsAt, Ruled}
use Rattle.mark_words.specs.Shows.{Claimant}
use Rattle.mark_words.specs.Closing.{joined, all_won, all_found, IsTold}
use Rattle.mark_words.specs.Ending.{Reads, HasAll, Ends}
use Rattle.mark_words.specs.declared.rule.Plan.{Plan}
use Rattle.mark_words.specs.declared.views.Known.{Known}
use Rattle.bit_sets.proofs.Bits.{bit_small}
use Rattle.mark_words.proofs.Totals.{alone}

-- a bit that stands in a list does so some number of times, and the other way round
pub times_from : (xs : List ℕ) (b k : ℕ) → k < length xs → get_or xs k b ≡ b → 0 < times b xs
times_from [] b k below is = absurd (omega arith)
times_from (x ∷ xs) b zero below is =
    let e : ◌≡◌ {A = ℕ} (cond (eqb x b) 1 0) 1 = ap (λ t. cond t 1 0) (eq-eqb x b is) in omega arith
times_from (x ∷ xs) b (suc k) below is =
    let q = times_from xs b k (omega arith) is in omega arith

pub times_contains : (xs : List ℕ) (b : ℕ) → Contains xs b → 0 < times b xs
times_contains xs b h = times_from xs b h.0 h.1 h.2

pub contains_times : (xs : List ℕ) (b : ℕ) → 0 < times b xs → Contains xs b
contains_times [] b h = absurd (omega arith)
contains_times (x ∷ xs) b h = elim (cases_eq x b) [
  | inl same ↦ (0, omega arith, same)
  | inr ne ↦ (let e : ◌≡◌ {A = ℕ} (cond (eqb x b) 1 0) 0 = ap (λ t. cond t 1 0) (ne_eqb x b ne) in
      let q = contains_times xs b (omega arith) in (suc q.0, (let l = q.1 in omega arith), q.2))
]

new_there : (set : List Bool) (b : ℕ) (value : Bool) → b ≡ length set
    → get_or (set ++ value ∷ []) b false ≡ value
new_there [] zero value e = refl
new_there [] (suc b) value e = absurd (omega arith)
new_there (x ∷ xs) zero value e = absurd (omega arith)
new_there (x ∷ xs) (suc b) value e = new_there xs b value (omega arith)

old_there : (set : List Bool) (b : ℕ) (value : Bool) → b < length set
    → get_or (set ++ value ∷ []) b false ≡ get_or set b false
old_there [] b value e = absurd (omega arith)
old_there (x ∷ xs) zero value e = refl
old_there (x ∷ xs) (suc b) value e = old_there xs b value (omega arith)

past_end : (set : List Bool) (b : ℕ) → length set ≤ b → get_or set b false ≡ false
past_end [] b e = refl
past_end (x ∷ xs) zero e = absurd (omega arith)
past_end (x ∷ xs) (suc b) e = past_end xs b (omega arith)

one_or_none : (t : Bool) → cond t 1 0 ≤ 1
one_or_none true = omega arith
one_or_none false = omega arith

is_set : (t : Bool) → ◌≡◌ {A = ℕ} (cond t 1 0) 1 → t ≡ true
is_set true e = refl
is_set false e = absurd (omega arith)

-- a bit by the test whether it is 1
as_number : (n : ℕ) → n < 2 → n ≡ cond (eqb n 1) 1 0
as_number zero e = refl
as_number (suc zero) e = refl
as_number (suc (suc n)) e = absurd (omega arith)

-- the last of those that are left is taken in
last_joined : (f : Claimant → List ℕ) (l : List Claimant) (c : Claimant) (r : List ℕ)
    → joined f (l ++ c ∷ []) ++ r ≡ joined f l ++ (f c ++ r)
last_joined f [] c r = append_assoc (f c) [] r
last_joined f (x ∷ xs) c r = append_assoc (f x) (joined f (xs ++ c ∷ [])) r
    ∙ ap (λ l. f x ++ l) (last_joined f xs c r) ∙ sym (append_assoc (f x) (joined f xs) (f c ++ r))

pub so_far : (f : Claimant → List ℕ) (all rest : List Claimant) (c : Claimant)
    (before after whole : List ℕ) → all ≡ rest ++ c ∷ [] → after ≡ f c ++ before
    → joined f all ++ before ≡ whole → joined f rest ++ after ≡ whole
so_far f all rest c before after whole is taken was =
    ap (λ l. joined f rest ++ l) taken ∙ sym (last_joined f rest c before)
    ∙ ap (λ l. joined f l ++ before) (sym is) ∙ was

-- what stands there is read
pub at_value : (l : List ℕ) (i x : ℕ) → IsAt l i x → get_or l i 0 ≡ x
at_value [] i x e = absurd (some-ne-none x (sym e))
at_value (y ∷ ys) zero x e = some-injective y x e
at_value (y ∷ ys) (suc i) x e = at_value ys i x e

-- one bit more is read
pub reads_more : (words : List ℕ) (bit : ℕ) (set more : List Bool) (value : Bool)
    → more ≡ set ++ value ∷ [] → value ≡ eqb (bit_of words bit) 1 → Reads words bit set
    → Reads words (bit + 1) more
reads_more words bit set more value is told r =
    subst (Reads words (bit + 1)) (sym is) (record {
      long = (let l = r.long in
          let q : length (set ++ value ∷ []) ≡ length set + 1 = length-append set (value ∷ []) in
          omega arith);
      each = λ b below. elim (cases_eq b bit) [
        | inl same ↦ new_there set b value (same ∙ sym r.long) ∙ told
            ∙ ap (λ (z : ℕ). eqb (bit_of words z) 1) (sym same)
        | inr ne ↦ old_there set b value (let l = r.long in omega arith) ∙ r.each b (omega arith)
      ];
    })

-- what a table shows whose seats are all in one
pub ends : {S : Type 0} (k : Plan) (id : ℕ) (v : Known) (ws : List ℕ) (xs : List S)
    (set : List Bool) → v.parts ≡ k.seats → Final (Seen (Ruled k) id v) ws xs
    → Reads ws k.bits set → Ends k.bits v set
ends k id v ws xs set all final reads =
    let s = final.0 in let r = final.1.0 in let at = final.1.1 in
    let alone_won : (b : ℕ) → times b v.won ≡ bit_of ws b = λ b.
    sym (alone (λ z. z.parts) (λ z. times b z.won) s.views id v at
    (λ j x there e. ap (λ l. times b l) (r.idle j x there e)) (r.parts ∙ sym all))
    ∙ r.won b ∙ ap (λ l. bit_of l b) final.2 in
    let value : (b : ℕ) → bit_of ws b ≡ cond (get_or set b false) 1 0 = λ b.
    elim (cases_lt b k.bits) [
      | inl below ↦ as_number (bit_of ws b) (bit_small ws b)
          ∙ ap (λ t. cond t 1 0) (sym (reads.each b below))
      | inr past ↦ ap (λ l. bit_of l b) (sym final.2) ∙ r.clear b (omega arith)
          ∙ ap (λ t. cond t 1 0) (sym (past_end set b (let l = reads.long in omega arith)))
    ] in
    record {
      long = reads.long;
      won = λ b. alone_won b ∙ value b;
      found = λ b h. is_set (get_or set b false) (sym (value b) ∙ ap (λ l. bit_of l b) (sym final.2)
          ∙ r.found id v b at h);
    }

-- what is told of one seat that has taken in all others is told of all
pub told : (bits : ℕ) (seats : List Claimant) (v : Known) (set : List Bool) → HasAll seats v
    → Ends bits v set → IsTold bits seats set
told bits seats v set has e =
    let won : (b : ℕ) → times b (all_won seats) ≡ cond (get_or set b false) 1 0 = λ b.
    ap (times b) (sym has.won) ∙ e.won b in
    record {
      long = e.long;
      won = λ b. (
        λ h. contains_times (all_won seats) b (
            let p = won b in let q : ◌≡◌ {A = ℕ} (cond (get_or set b false) 1 0) 1 = ap (λ t. cond t 1 0) h in
            omega arith),
        λ h. is_set (get_or set b false) (
            let p = won b in let q = times_contains (all_won seats) b h in
            let few = one_or_none (get_or set b false) in omega arith),
      );
      once = λ b. (let p = won b in let few = one_or_none (get_or set b false) in omega arith);
      found = λ b h. e.found b (
          let p : times b v.found ≡ times b (all_found seats) = ap (times b) has.found in
          let q = times_contains (all_found seats) b h in omega arith);
    }

pub append_none : (l m : List ℕ) → m ≡ [] → l ++ m ≡ l
append_none [] m e = e
append_none (x ∷ xs) m e = ap (λ l. x ∷ l) (append_none xs m e)
