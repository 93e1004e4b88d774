-- A work whose items come back to what it keeps.
use Rattle.std.proofs.Common.{◌≡◌, ℕ, ◌+◌, ◌-◌, ◌≤◌, List, [], ◌∷◌, ◌++◌, length, take, drop, All, Option, Some, None, MatchOption, refl, sym, ap, ◌∙◌, subst, arith}
use Rattle.std.specs.Option.{option_to_list}
use Rattle.std.specs.List.Sorted.{IsPermutation}
use Rattle.std.proofs.lemmas.List.{append-nil, take-append-le, drop-append-le, length-append, length-drop}
use Rattle.std.proofs.lemmas.List.Sorted.{IsPermutation-append_comm}
use Rattle.work_pool.specs.Standing.{Standing, Handles, Keeps, Unkeeps}
use Rattle.work_crew.specs.Keeping.{Keeping, HandsOut}

-- a work by what came to be given, of which so many are given
abbrev pub standing : ℕ → List ℕ → Keeping → List ℕ → Standing
standing at came kept done = record {
  given = take at came;
  to_give = drop at came;
  kept_items = kept.items;
  spare = kept.spare;
  done = done;
}

-- it keeps an item more
pub keeps_one : (at : ℕ) (came done : List ℕ) (before now : Keeping) (item : ℕ)
    → now ≡ record { items = before.items ++ item ∷ []; spare = before.spare - 1 }
    → Keeps item (standing at came before done) (standing at came now done)
keeps_one at came done before now item is = record {
  kept_items = subst (λ (k : Keeping). IsPermutation k.items (item ∷ before.items)) (sym is)
      (IsPermutation-append_comm before.items (item ∷ []));
  same = ap (λ (k : Keeping). standing at came (record { items = now.items; spare = k.spare }) done) is;
}

-- it handed out one of them
pub unkeeps_one : (at : ℕ) (came done : List ℕ) (before now : Keeping) (r : Option ℕ) → HandsOut before now r
    → Unkeeps (standing at came before done) (standing at came now done) r
unkeeps_one at came done before now (Some item) is = (
  subst (λ l. IsPermutation l (item ∷ now.items)) (sym is.0) (IsPermutation-append_comm now.items (item ∷ [])),
  omega (arith, is.1),
  refl,
)
unkeeps_one at came done before now None is = (is.0, ap (λ k. standing at came k done) is.1)

no_item : (xs : List ℕ) → length xs ≡ 0 → xs ≡ []
no_item [] none = refl
no_item (x ∷ xs) none = absurd (omega (arith, none))

-- the last item of a list, which has room for so many
pub hands_out : (before xs : List ℕ) (space old new : ℕ) (r : Option ℕ) → before ≡ xs ++ option_to_list r
    → length before ≡ old → length xs ≡ new → old ≤ space → MatchOption r ((old ≡ 0) × (new ≡ 0)) (λ x. new + 1 ≡ old)
    → HandsOut (record { items = before; spare = space - old }) (record { items = xs; spare = space - new }) r
hands_out before xs space old new (Some item) is long many room cases = (is, omega (arith, room, cases))
hands_out before xs space old new None is long many room cases =
    let none : xs ≡ [] = no_item xs (many ∙ cases.1) in
    let old_none : before ≡ [] = no_item before (long ∙ cases.0) in
    (old_none, (λ i. record { items = (none ∙ sym old_none) i; spare = space - (cases.1 ∙ sym cases.0) i }))

-- it handled an item, by which more came
pub handled : (leads : ℕ → Type 0) (item at : ℕ) (came more now done : List ℕ) (before kept : Keeping)
    → now ≡ came ++ more → kept.items ≡ before.items → at ≤ length came → All leads more
    → length came - at + length more ≤ kept.spare
    → Handles leads item (standing at came before done) (standing at now kept (done ++ item ∷ []))
handled leads item at came more now done before kept is same within led room =
    let front : take at now ≡ take at came = ap (take at) is ∙ take-append-le at came more within in
    let back : drop at now ≡ drop at came ++ more = ap (drop at) is ∙ drop-append-le at came more within in
    record {
      more = more;
      led = led;
      room = omega (arith, room, within, ap length back, length-append (drop at came) more, length-drop at came);
      same = λ i. record {
        given = front i;
        to_give = back i;
        kept_items = same i;
        spare = kept.spare;
        done = done ++ item ∷ [];
      };
    }
