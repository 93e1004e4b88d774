-- Each step on the table keeps its rule.
use Rattle.std.proofs.Common.{◌≡◌, ◌≢◌, ℕ, zero, suc, ◌+◌, ◌*◌, ◌/◌, ◌%◌, ◌^◌, ◌<◌, ⊎_elim, inl, inr, List, [], ◌∷◌, ◌++◌, get_or, set, replicate, length, length-set, refl, ap, sym, ◌∙◌, subst, arith}
use Rattle.std.specs.Prelude.{bit_or}
use Rattle.std.specs.Int.{bit_at}
use mathlib.Core.Option.{none}
use Rattle.std.proofs.lemmas.Bool.{cases_eq}
use Rattle.std.proofs.lemmas.List.{length-replicate, set-get_or}
use Rattle.atomic_table.specs.Table.{State, Me, step, keeps, opening, Allows, Splits, Joins, Enters}
use Rattle.atomic_table.proofs.Lists.{at_set, at_snoc}
use Rattle.bit_sets.specs.Bits.{bit_of}
use Rattle.mark_words.specs.Bits.{times}
use Rattle.mark_words.specs.Rule.{IsAt, Ruled}
use Rattle.mark_words.specs.Told.{Claimed, Looked, Named}
use Rattle.mark_words.specs.View.{maker, after_hire, hired, nobody, taken_in, aims, claims, looks}
use Rattle.mark_words.specs.declared.rule.Plan.{Plan}
use Rattle.mark_words.specs.declared.views.Known.{Known}
use Rattle.bit_sets.proofs.Bits.{with_bit, bit_same, bit_other, bit_stays, no_bit, same_bit}
use Rattle.mark_words.proofs.Totals.{times_same, times_other, times_append, total_set, total_append, part_le}

-- one view alone
only : (v w : Known) (j : ℕ) → IsAt (v ∷ []) j w → v ≡ w
only v w zero at = mathlib.Core.Option.some-injective v w at
only v w (suc j) at = absurd (mathlib.Core.Option.some-ne-none w (sym at))

-- how often the view won the bit
abbrev won_by : ℕ → Known → ℕ
won_by b v = times b v.won

parts_of : Known → ℕ
parts_of v = v.parts

module _ {S : Type 0} (k : Plan) where
  -- the rule holds at the start
  pub opens : Ruled {S = S} k (opening (replicate (k.bits / 64 / 64 * 64 + 128) 0) [] (maker k))
  opens = record {
    won = λ b. sym (no_bit (k.bits / 64 / 64 * 64 + 128) b);
    found = λ id v b at some_found. absurd (
        let e : 0 ≡ times b v.found = ap (λ z. times b z.found) (only (maker k) v id at) in omega arith);
    clear = λ b past. no_bit (k.bits / 64 / 64 * 64 + 128) b;
    wide = (let e : length (replicate {A = ℕ} (k.bits / 64 / 64 * 64 + 128) 0) ≡ k.bits / 64 / 64 * 64 + 128 =
        length-replicate {A = ℕ} (k.bits / 64 / 64 * 64 + 128) 0 in omega arith);
    parts = omega arith;
    idle = λ id v at e. ap (λ z. z.won) (sym (only (maker k) v id at));
  }

  -- the maker makes a seat
  pub hires : (id : ℕ) (v : Known) → 0 < v.parts → v.won ≡ []
      → Splits (Ruled {S = S} k) id v (after_hire v) (hired v)
  hires id v left none_won s r at =
      let l = set s.views id (after_hire v) in
      record {
        won = λ b. (let p = total_set (λ z. times b z.won) s.views id v (after_hire v) at in
            let q = total_append (λ z. times b z.won) l (hired v ∷ []) in
            let e = r.won b in omega arith);
        found = λ j x b there some_found. ⊎_elim
            (λ old. ⊎_elim
            (λ (t : (j ≡ id) × (after_hire v ≡ x)). r.found id v b at
            (let e : times b v.found ≡ times b x.found = ap (λ z. times b z.found) t.1 in omega arith))
            (λ (t : (j ≢ id) × IsAt s.views j x). r.found j x b t.1 some_found)
            (at_set s.views id j (after_hire v) x old))
            (λ (e : hired v ≡ x). absurd (
            let f : 0 ≡ times b x.found = ap (λ z. times b z.found) e in omega arith))
            (at_snoc l (hired v) x j there);
        clear = r.clear;
        wide = r.wide;
        parts = (let p = total_set (λ z. z.parts) s.views id v (after_hire v) at in
            let q = total_append (λ z. z.parts) l (hired v ∷ []) in
            let e = r.parts in omega arith);
        idle = λ j x there e. ⊎_elim
            (λ old. ⊎_elim
            (λ (t : (j ≡ id) × (after_hire v ≡ x)). ap (λ z. z.won) (sym t.1) ∙ none_won)
            (λ (t : (j ≢ id) × IsAt s.views j x). r.idle j x t.1 e)
            (at_set s.views id j (after_hire v) x old))
            (λ (f : hired v ≡ x). ap (λ z. z.won) (sym f))
            (at_snoc l (hired v) x j there);
      }

  -- a seat comes in that takes in others
  pub enters : (slots i : ℕ) (then : ℕ → Known → Type 0) → ((n : ℕ) → then n nobody)
      → Enters (Ruled {S = S} k) slots i then
  enters slots i then told s r sized small = (
    nobody,
    record {
      won = λ b. (let q = total_append (λ z. times b z.won) s.views (nobody ∷ []) in
          let e = r.won b in omega arith);
      found = λ j x b there some_found. ⊎_elim (λ old. r.found j x b old some_found)
          (λ (e : nobody ≡ x). absurd (
          let f : 0 ≡ times b x.found = ap (λ z. times b z.found) e in omega arith))
          (at_snoc s.views nobody x j there);
      clear = r.clear;
      wide = r.wide;
      parts = (let q = total_append (λ z. z.parts) s.views (nobody ∷ []) in
          let e = r.parts in omega arith);
      idle = λ j x there e. ⊎_elim (λ old. r.idle j x old e)
          (λ (f : nobody ≡ x). ap (λ z. z.won) (sym f))
          (at_snoc s.views nobody x j there);
    },
    told (get_or s.words i 0),
  )

  -- it takes in a seat
  pub joins : (id : ℕ) (v : Known) (other : ℕ) (w : Known)
      → Joins (Ruled {S = S} k) id v other w (taken_in v w) nobody
  joins id v other w s r at apart there =
      let both = taken_in v w in let l = set s.views id both in
      let was : IsAt s.views other w = ⊎_elim
      (λ (t : (other ≡ id) × (both ≡ w)). absurd (apart t.0))
      (λ (t : (other ≢ id) × IsAt s.views other w). t.1)
      (at_set s.views id other both w there) in
      record {
        won = λ b. (let p = total_set (λ z. times b z.won) s.views id v both at in
            let q = total_set (λ z. times b z.won) l other w nobody there in
            let a = times_append b w.won v.won in
            let e = r.won b in omega arith);
        found = λ j x b here some_found. ⊎_elim
            (λ (t : (j ≡ other) × (nobody ≡ x)). absurd (
            let f : 0 ≡ times b x.found = ap (λ z. times b z.found) t.1 in omega arith))
            (λ (t : (j ≢ other) × IsAt l j x). ⊎_elim
            (λ (u : (j ≡ id) × (both ≡ x)). elim (cases_eq (times b v.found) 0) [
              | inl zero_there ↦ r.found other w b was (
                  let f : times b both.found ≡ times b x.found = ap (λ z. times b z.found) u.1 in
                  let a = times_append b w.found v.found in omega arith)
              | inr some_there ↦ r.found id v b at (omega arith)
            ])
            (λ (u : (j ≢ id) × IsAt s.views j x). r.found j x b u.1 some_found)
            (at_set s.views id j both x t.1))
            (at_set l other j nobody x here);
        clear = r.clear;
        wide = r.wide;
        parts = (let p = total_set (λ z. z.parts) s.views id v both at in
            let q = total_set (λ z. z.parts) l other w nobody there in
            let e = r.parts in omega arith);
        idle = λ j x here e. ⊎_elim
            (λ (t : (j ≡ other) × (nobody ≡ x)). ap (λ z. z.won) (sym t.1))
            (λ (t : (j ≢ other) × IsAt l j x). ⊎_elim
            (λ (u : (j ≡ id) × (both ≡ x)).
            let f : v.parts + w.parts ≡ x.parts = ap (λ z. z.parts) u.1 in
            let of_v : v.won ≡ [] = r.idle id v at (omega arith) in
            let of_w : w.won ≡ [] = r.idle other w was (omega arith) in
            ap (λ z. z.won) (sym u.1) ∙ (λ i. of_w i ++ of_v i))
            (λ (u : (j ≢ id) × IsAt s.views j x). r.idle j x u.1 e)
            (at_set s.views id j both x t.1))
            (at_set l other j nobody x here);
      }

  -- the state after a claim of the bit, which was d
  abbrev after : State S Known → ℕ → ℕ → Known → State S Known
  after s id b w = record {
    words = with_bit s.words b;
    homes = s.homes;
    views = set s.views id w;
  }

  claimed_rule : (s : State S Known) (id : ℕ) (v : Known) (b word : ℕ) → Ruled k s → b < k.bits
      → IsAt s.views id v → v.parts ≡ 1 → (d : ℕ) → bit_of s.words b ≡ d
      → Ruled k (after s id b (claims b word d v))
  claimed_rule s id v b word r below at part zero is =
      let new = claims b word zero v in
      let wide : b / 64 < length s.words = (let w = r.wide in omega arith) in
      record {
        won = λ c. (let p = total_set (λ z. times c z.won) s.views id v new at in
            let e = r.won c in elim (cases_eq c b) [
              | inl same ↦ (let q = times_same b v.won in let f = bit_same s.words b wide in
                  rw same (let p2 = total_set (λ z. times b z.won) s.views id v new at in
                  let e2 = r.won b in omega arith))
              | inr ne ↦ (let q = times_other b c v.won ne in
                  let f = bit_other s.words b c wide ne in omega arith)
            ]);
        found = λ j x c there some_found. bit_stays s.words b c wide (⊎_elim
            (λ (t : (j ≡ id) × (new ≡ x)). r.found id v c at
            (let e : times c v.found ≡ times c x.found = ap (λ z. times c z.found) t.1 in omega arith))
            (λ (t : (j ≢ id) × IsAt s.views j x). r.found j x c t.1 some_found)
            (at_set s.views id j new x there));
        clear = λ c past. bit_other s.words b c wide (λ e. omega arith) ∙ r.clear c past;
        wide = (let w = r.wide in
            let e = length-set s.words (b / 64) (bit_or (get_or s.words (b / 64) 0) (2 ^ (b % 64))) in
            omega arith);
        parts = (let p = total_set (λ z. z.parts) s.views id v new at in
            let e = r.parts in omega arith);
        idle = λ j x there e. ⊎_elim
            (λ (t : (j ≡ id) × (new ≡ x)). absurd (
            let f : v.parts ≡ x.parts = ap (λ z. z.parts) t.1 in omega arith))
            (λ (t : (j ≢ id) × IsAt s.views j x). r.idle j x t.1 e)
            (at_set s.views id j new x there);
      }
  claimed_rule s id v b word r below at part (suc d) is =
      let new = claims b word (suc d) v in
      let wide : b / 64 < length s.words = (let w = r.wide in omega arith) in
      let one : bit_of s.words b ≡ 1 =
      (let small = Rattle.bit_sets.proofs.Bits.bit_small s.words b in omega arith) in
      let still : (c : ℕ) → bit_of (with_bit s.words b) c ≡ bit_of s.words c = λ c.
      elim (cases_eq c b) [
        | inl same ↦ ap (bit_of (with_bit s.words b)) same ∙ bit_same s.words b wide ∙ sym one
            ∙ ap (bit_of s.words) (sym same)
        | inr ne ↦ bit_other s.words b c wide ne
      ] in
      record {
        won = λ c. (let p = total_set (λ z. times c z.won) s.views id v new at in
            let e = r.won c in let f = still c in omega arith);
        found = λ j x c there some_found. ⊎_elim
            (λ (t : (j ≡ id) × (new ≡ x)). elim (cases_eq c b) [
              | inl same ↦ still c ∙ ap (bit_of s.words) same ∙ one
              | inr ne ↦ still c ∙ r.found id v c at (
                  let e : times c (b ∷ v.found) ≡ times c x.found = ap (λ z. times c z.found) t.1 in
                  let q = times_other b c v.found ne in omega arith)
            ])
            (λ (t : (j ≢ id) × IsAt s.views j x). still c ∙ r.found j x c t.1 some_found)
            (at_set s.views id j new x there);
        clear = λ c past. still c ∙ r.clear c past;
        wide = (let w = r.wide in
            let e = length-set s.words (b / 64) (bit_or (get_or s.words (b / 64) 0) (2 ^ (b % 64))) in
            omega arith);
        parts = (let p = total_set (λ z. z.parts) s.views id v new at in
            let e = r.parts in omega arith);
        idle = λ j x there e. ⊎_elim
            (λ (t : (j ≡ id) × (new ≡ x)). absurd (
            let f : v.parts ≡ x.parts = ap (λ z. z.parts) t.1 in omega arith))
            (λ (t : (j ≢ id) × IsAt s.views j x). r.idle j x t.1 e)
            (at_set s.views id j new x there);
      }

  -- a seat may claim a bit
  pub claims_bit : (slots id : ℕ) (me : Me S Known) (word mask b : ℕ) → b < k.bits
      → word ≡ b / 64 → mask ≡ 2 ^ (b % 64) → me.0.parts ≡ 1
      → Allows (Ruled k) slots id me word (λ n. bit_or n mask)
      (Claimed (step slots word mask 0 none) me)
  claims_bit slots id me word mask b below is_word is_mask part s r sized at small =
      let d : ℕ = bit_of s.words b in
      let found : ℕ = get_or s.words word 0 in
      let at_word : b / 64 ≡ word = sym is_word in let with_mask : 2 ^ (b % 64) ≡ mask = sym is_mask in
      let same : with_bit s.words b ≡ set s.words word (bit_or found mask) =
      λ i. set s.words (at_word i) (bit_or (get_or s.words (at_word i) 0) (with_mask i)) in (
        claims b found d me.0,
        keeps,
        tt,
        subst (λ (l : List ℕ). Ruled k (record {
          words = l;
          homes = s.homes;
          views = set s.views id (claims b found d me.0);
        })) same (claimed_rule s id me.0 b found r below at part d refl),
        record {
          view = λ c its_word its_mask.
              let e : b ≡ c = same_bit b c (sym is_word ∙ its_word) (sym is_mask ∙ its_mask) in
              λ i. claims (e i) found (bit_at (get_or s.words (at_word i) 0) (e i % 64)) me.0;
          fresh = λ c its_word its_mask clear.
              let low = part_le (λ (z : Known). times c z.won) s.views id me.0 at in
              let all = r.won c in
              let none : bit_of s.words c ≡ 0 =
              ap (λ (i : ℕ). bit_at (get_or s.words i 0) (c % 64)) (sym its_word) ∙ clear in (
                omega (arith, low, all, none),
                elim (cases_eq (times c me.0.found) 0) [
                  | inl absent ↦ absent
                  | inr there ↦ absurd (let one = r.found id me.0 c at (omega (arith, there)) in omega (arith, one, none))
                ],
              );
          slots = refl;
        },
      )

  -- the words stay, and one view changes that won what it had won
  same_words : (s : State S Known) (id : ℕ) (v new : Known) → Ruled k s → IsAt s.views id v → new.won ≡ v.won → new.parts ≡ v.parts
      → ((c : ℕ) → 0 < times c new.found → bit_of s.words c ≡ 1)
      → Ruled k (record { words = s.words; homes = s.homes; views = set s.views id new })
  same_words s id v new r at won_is parts_are set_there = record {
    won = λ c. (let p = total_set (λ z. times c z.won) s.views id v new at in
        let q : times c new.won ≡ times c v.won = ap (times c) won_is in
        let e = r.won c in omega arith);
    found = λ j x c there some_found. ⊎_elim
        (λ (t : (j ≡ id) × (new ≡ x)). set_there c
        (let e : times c new.found ≡ times c x.found = ap (λ z. times c z.found) t.1 in omega arith))
        (λ (t : (j ≢ id) × IsAt s.views j x). r.found j x c t.1 some_found)
        (at_set s.views id j new x there);
    clear = r.clear;
    wide = r.wide;
    parts = (let p = total_set (λ z. z.parts) s.views id v new at in
        let e = r.parts in omega arith);
    idle = λ j x there e. ⊎_elim
        (λ (t : (j ≡ id) × (new ≡ x)). ap (λ z. z.won) (sym t.1) ∙ won_is ∙ r.idle id v at
        (let f : new.parts ≡ x.parts = ap (λ z. z.parts) t.1 in omega arith))
        (λ (t : (j ≢ id) × IsAt s.views j x). r.idle j x t.1 e)
        (at_set s.views id j new x there);
  }

  -- a load leaves the words
  loaded_rule : (s : State S Known) (id word : ℕ) (new : Known) → Ruled k (record { words = s.words; homes = s.homes; views = set s.views id new })
      → Ruled k (record { words = set s.words word (get_or s.words word 0); homes = s.homes; views = set s.views id new })
  loaded_rule s id word new r =
      subst (λ (l : List ℕ). Ruled k (record { words = l; homes = s.homes; views = set s.views id new })) (sym (set-get_or s.words word 0)) r

  -- a seat may be told a place
  pub names_place : (slots id : ℕ) (me : Me S Known) (word : ℕ) → Allows (Ruled k) slots id me word (λ n. n) (Named (step slots word 0 0 none) me)
  names_place slots id me word s r sized at small = (
    aims word me.0,
    keeps,
    tt,
    loaded_rule s id word (aims word me.0) (same_words s id me.0 (aims word me.0) r at refl refl (λ c some. r.found id me.0 c at some)),
    record { view = refl; slots = refl },
  )

  looked_rule : (s : State S Known) (id : ℕ) (v : Known) (b word : ℕ) → Ruled k s → IsAt s.views id v → (d : ℕ) → bit_of s.words b ≡ d
      → Ruled k (record { words = s.words; homes = s.homes; views = set s.views id (looks b word d v) })
  looked_rule s id v b word r at zero is = same_words s id v v r at refl refl (λ c some. r.found id v c at some)
  looked_rule s id v b word r at (suc d) is =
      let one : bit_of s.words b ≡ 1 =
      (let small = Rattle.bit_sets.proofs.Bits.bit_small s.words b in omega arith) in
      same_words s id v (looks b word (suc d) v) r at refl refl (λ c some. elim (cases_eq c b) [
        | inl same ↦ ap (bit_of s.words) same ∙ one
        | inr ne ↦ r.found id v c at (let q = times_other b c v.found ne in omega arith)
      ])

  -- a seat may look at a bit
  pub looks_at_bit : (slots id : ℕ) (me : Me S Known) (word b : ℕ) → word ≡ b / 64 → me.0.aim % 64 ≡ b % 64
      → Allows (Ruled k) slots id me word (λ n. n) (Looked (step slots word 0 0 none) me)
  looks_at_bit slots id me word b is_word is_place s r sized at small =
      let found : ℕ = get_or s.words word 0 in
      let d : ℕ = bit_at found (b % 64) in
      let there : bit_of s.words b ≡ d = ap (λ (i : ℕ). bit_at (get_or s.words i 0) (b % 64)) (sym is_word) in (
        looks b found d me.0,
        keeps,
        tt,
        loaded_rule s id word (looks b found d me.0) (looked_rule s id me.0 b found r at d there),
        record {
          view = λ c its_word its_place.
              let e : b ≡ c = omega (arith, is_word, its_word, is_place, its_place) in
              λ i. looks (e i) found (bit_at found (e i % 64)) me.0;
          slots = refl;
        },
      )
