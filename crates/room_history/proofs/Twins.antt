-- Entries that share turn and rank.
use Rattle.std.proofs.Common.{◌≡◌, ◌≢◌, ℕ, zero, suc, ◌+◌, ◌-◌, ◌<◌, ◌≤◌, ◌⊎◌, inl, inr, true, false, cond, eqb, eq-eqb, Less, Equal, Greater, List, [], ◌∷◌, length, get_or, refl, sym, ap, ◌∙◌, subst, arith}
use Rattle.std.specs.Prelude.{count_by}
use Rattle.std.specs.List.{AllByRecursion}
use Rattle.std.specs.List.Sorted.{IsPermutation, IsSortedByKey}
use Rattle.std.specs.Ordering.{is_lt, nat_cmp, ordering_then}
use Rattle.std.proofs.lemmas.Bool.{cases_eq, cases_lt, lt-ltb, le-ltb, false≢true}
use Rattle.std.proofs.lemmas.Bool.Decides.{nat_tests}
use Rattle.std.proofs.lemmas.List.{get_or_default}
use Rattle.std.proofs.lemmas.List.Sums.{sum_by-cons}
use Rattle.std.proofs.lemmas.List.Sorted.{sum_by-IsPermutation}
use Rattle.bay_core.specs.declared.calls.Entry.{Entry}
use Rattle.bay_core.specs.Legal.{Before, Ordered, OrderedBelow}
use Rattle.room_history.specs.Order.{IsFirstDisorder}
use Rattle.room_history.specs.Merging.{AtMost, IsRising, stands_at, AreTwins, IsLeastTwin}
use Rattle.room_history.proofs.Chains.{Chain, chain_from, each_weaker, one_order}

-- a turn and a rank are less than those of an entry
abbrev IsUnder : ℕ → ℕ → Entry → Type 0
IsUnder t r e = (t < e.turn) ⊎ ((t ≡ e.turn) × (r < e.rank))

abbrev Rises : Entry → Entry → Type 0
Rises d e = AtMost d.turn d.rank e.turn e.rank

before_trans : (a b c : Entry) → Before a b → Before b c → Before a c
before_trans a b c p q =
    elim p [
      | inl l ↦ elim q [ inl k ↦ inl (omega (arith, l, k)) | inr k ↦ inl (omega (arith, l, k.0)) ]
      | inr l ↦ elim q [ inl k ↦ inl (omega (arith, l.0, k)) | inr k ↦ inr (l.0 ∙ k.0, omega (arith, l.1, k.1)) ]
    ]

never_before : (a : Entry) → Before a a → ⊥
never_before a p = elim p [ inl l ↦ omega (arith, l) | inr l ↦ omega (arith, l.1) ]

rises_trans : (a b c : Entry) → Rises a b → Rises b c → Rises a c
rises_trans a b c p q =
    elim p [
      | inl l ↦ elim q [ inl k ↦ inl (omega (arith, l, k)) | inr k ↦ inl (omega (arith, l, k.0)) ]
      | inr l ↦ elim q [ inl k ↦ inl (omega (arith, l.0, k)) | inr k ↦ inr (l.0 ∙ k.0, omega (arith, l.1, k.1)) ]
    ]

under_rises : (t r : ℕ) (d e : Entry) → IsUnder t r d → Rises d e → IsUnder t r e
under_rises t r d e p q =
    elim p [
      | inl l ↦ elim q [ inl k ↦ inl (omega (arith, l, k)) | inr k ↦ inl (omega (arith, l, k.0)) ]
      | inr l ↦ elim q [ inl k ↦ inl (omega (arith, l.0, k)) | inr k ↦ inr (l.0 ∙ k.0, omega (arith, l.1, k.1)) ]
    ]

-- what stands after an entry of this turn and rank
under_before : (t r : ℕ) (d e : Entry) → d.turn ≡ t → d.rank ≡ r → Before d e → IsUnder t r e
under_before t r d e turn rank p = elim p [ inl less ↦ inl (omega (arith, less, turn)) | inr less ↦ inr (omega (arith, less.0, turn), omega (arith, less.1, rank)) ]

under_or_most : (t r u q : ℕ) → AtMost t r u q ⊎ ((u < t) ⊎ ((u ≡ t) × (q < r)))
under_or_most t r u q =
    elim (cases_lt t u) [
      | inl less ↦ inl (inl less)
      | inr most ↦ elim (cases_eq t u) [
        | inl same ↦ elim (cases_lt q r) [ inl less ↦ inr (inr (sym same, less)) | inr least ↦ inl (inr (same, least)) ]
        | inr other ↦ inr (inl (omega (arith, most, other)))
      ]
    ]

less_first : (m n p q : ℕ) → m < n → is_lt (ordering_then (nat_cmp m n) (nat_cmp p q)) ≡ true
less_first m n p q less = ap (λ t. is_lt (ordering_then (cond t Less (cond (eqb m n) Equal Greater)) (nat_cmp p q))) (lt-ltb m n less)

less_second : (m n p q : ℕ) → m ≡ n → p < q → is_lt (ordering_then (nat_cmp m n) (nat_cmp p q)) ≡ true
less_second m n p q same less =
    ap (λ t. is_lt (ordering_then (cond t Less (cond (eqb m n) Equal Greater)) (nat_cmp p q))) (le-ltb m n (omega (arith, same)))
    ∙ (ap (λ t. is_lt (ordering_then (cond t Equal Greater) (nat_cmp p q))) (eq-eqb m n same)
    ∙ ap (λ t. is_lt (cond t Less (cond (eqb p q) Equal Greater))) (lt-ltb p q less))

-- what a sort by turn and rank leaves
pub rising_sorted : (es : List Entry) → IsSortedByKey {K = ℕ × ℕ} (λ e. (e.turn, e.rank)) (λ x y. ordering_then (nat_cmp x.0 y.0) (nat_cmp x.1 y.1)) es → IsRising es
rising_sorted es up k d within =
    let a = get_or es k d in
    let b = get_or es (k + 1) d in
    let least = up k d (omega arith) within in
    elim (under_or_most a.turn a.rank b.turn b.rank) [
      | inl most ↦ most
      | inr under ↦ elim under [
        | inl less ↦ absurd (false≢true (sym least ∙ less_first b.turn a.turn b.rank a.rank less))
        | inr less ↦ absurd (false≢true (sym least ∙ less_second b.turn a.turn b.rank a.rank less.0 less.1))
      ]
    ]

-- neither is before the other
even : (d e : Entry) → Rises d e → (Before d e → ⊥) → (d.turn ≡ e.turn) × (d.rank ≡ e.rank)
even d e p never =
    elim p [
      | inl less ↦ absurd (never (inl less))
      | inr same ↦ elim (cases_lt d.rank e.rank) [ inl less ↦ absurd (never (inr (same.0, less))) | inr most ↦ (same.0, omega (arith, same.1, most)) ]
    ]

pub chain_ordered : (es : List Entry) → Ordered es → Chain Before es
chain_ordered es ordered = chain_from Before before_trans es ordered

stands : (t r : ℕ) (e : Entry) → e.turn ≡ t → e.rank ≡ r → stands_at t r e ≡ true
stands t r e turn rank = grind (arith, nat_tests)

other_turn : (t r : ℕ) (e : Entry) → e.turn ≢ t → stands_at t r e ≡ false
other_turn t r e ne = grind (arith, nat_tests)

other_rank : (t r : ℕ) (e : Entry) → e.rank ≢ r → stands_at t r e ≡ false
other_rank t r e ne = grind (arith, nat_tests)

stands_not : (t r : ℕ) (e : Entry) → IsUnder t r e → stands_at t r e ≡ false
stands_not t r e under = elim under [ inl less ↦ other_turn t r e (omega (arith, less)) | inr less ↦ other_rank t r e (omega (arith, less.1)) ]

stands_or_not : (t r : ℕ) (e : Entry) → ((e.turn ≡ t) × (e.rank ≡ r)) ⊎ (stands_at t r e ≡ false)
stands_or_not t r e =
    elim (cases_eq e.turn t) [
      | inl turn ↦ elim (cases_eq e.rank r) [ inl rank ↦ inl (turn, rank) | inr other ↦ inr (other_rank t r e other) ]
      | inr other ↦ inr (other_turn t r e other)
    ]

count_one : (t r : ℕ) (e : Entry) (es : List Entry) → stands_at t r e ≡ true → count_by (stands_at t r) (e ∷ es) ≡ 1 + count_by (stands_at t r) es
count_one t r e es is = sum_by-cons (λ x. cond (stands_at t r x) 1 0) e es ∙ ap (λ b. cond b 1 0 + count_by (stands_at t r) es) is

count_none : (t r : ℕ) (e : Entry) (es : List Entry) → stands_at t r e ≡ false → count_by (stands_at t r) (e ∷ es) ≡ count_by (stands_at t r) es
count_none t r e es is =
    sum_by-cons (λ x. cond (stands_at t r x) 1 0) e es ∙ (ap (λ b. cond b 1 0 + count_by (stands_at t r) es) is ∙ omega arith)

count_under : (t r : ℕ) (es : List Entry) → AllByRecursion (IsUnder t r) es → count_by (stands_at t r) es ≡ 0
count_under t r [] under = refl
count_under t r (e ∷ es) under = count_none t r e es (stands_not t r e under.0) ∙ count_under t r es under.1

-- where entries stand in order, no two share turn and rank
at_most_one : (t r : ℕ) (es : List Entry) → Chain Before es → count_by (stands_at t r) es ≤ 1
at_most_one t r [] chain = omega arith
at_most_one t r (e ∷ es) chain =
    elim (stands_or_not t r e) [
      | inl is ↦ (
          let under = each_weaker (Before e) (IsUnder t r) (λ x. under_before t r e x is.0 is.1) es chain.0 in
          omega (arith, count_one t r e es (stands t r e is.0 is.1), count_under t r es under)
          )
      | inr other ↦ omega (arith, count_none t r e es other, at_most_one t r es chain.1)
    ]

pub no_twins : (es : List Entry) (t r : ℕ) → Ordered es → AreTwins es t r → ⊥
no_twins es t r ordered twins = omega (arith, at_most_one t r es (chain_ordered es ordered), twins)

-- the first two entries that share turn and rank, where no entry stands before an earlier one
least_at : (es : List Entry) (i : ℕ) (d : Entry) → Chain Rises es → OrderedBelow es (suc i) → suc i < length es → (Before (get_or es i d) (get_or es (suc i) d) → ⊥)
    → IsLeastTwin es (get_or es (suc i) d).turn (get_or es (suc i) d).rank
least_at [] i d chain ordered within never = absurd (omega (arith, within))
least_at (a ∷ []) i d chain ordered within never = absurd (omega (arith, within))
least_at (a ∷ b ∷ es) zero d chain ordered within never =
    let same = even a b chain.0.0 never in record {
      twins = omega (
        arith,
        count_one b.turn b.rank a (b ∷ es) (stands b.turn b.rank a same.0 same.1),
        count_one b.turn b.rank b es (stands b.turn b.rank b refl refl),
      );
      least = λ t r twins. elim (under_or_most b.turn b.rank t r) [
        | inl most ↦ most
        | inr under ↦ (
            let first : IsUnder t r a = elim under [ inl less ↦ inl (omega (arith, less, same.0)) | inr less ↦ inr (omega (arith, less.0, same.0), omega (arith, less.1, same.1)) ] in
            let none = count_under t r (a ∷ b ∷ es) (first, (under, each_weaker (Rises b) (IsUnder t r) (λ e. under_rises t r b e under) es chain.1.0)) in
            absurd (omega (arith, none, twins))
            )
      ];
    }
least_at (a ∷ b ∷ es) (suc i) d chain ordered within never =
    let shifted : OrderedBelow (b ∷ es) (suc i) = λ k x less.
    let past : suc k + 1 ≡ suc (k + 1) = omega arith in
    subst (λ j. Before (get_or (b ∷ es) k x) (get_or (a ∷ b ∷ es) j x)) past (ordered (suc k) x (omega (arith, less))) in
    let rest = least_at (b ∷ es) i d chain.1 shifted (omega (arith, within)) never in
    let first : Before a b = ordered 0 a (omega arith) in
    let after : AllByRecursion (Before a) (b ∷ es) = (first, each_weaker (Rises b) (Before a) (λ e. under_rises a.turn a.rank b e first) es chain.1.0) in
    let more : (t r : ℕ) → AreTwins (a ∷ b ∷ es) t r → AreTwins (b ∷ es) t r = λ t r twins. elim (stands_or_not t r a) [
      | inl is ↦ (
          let under = each_weaker (Before a) (IsUnder t r) (λ x. under_before t r a x is.0 is.1) (b ∷ es) after in
          absurd (omega (arith, count_one t r a (b ∷ es) (stands t r a is.0 is.1), count_under t r (b ∷ es) under, twins))
          )
      | inr other ↦ omega (arith, count_none t r a (b ∷ es) other, twins)
    ] in
    let c = get_or (b ∷ es) (suc i) d in record {
      twins = elim (stands_or_not c.turn c.rank a) [
        | inl is ↦ omega (arith, count_one c.turn c.rank a (b ∷ es) (stands c.turn c.rank a is.0 is.1), rest.twins)
        | inr other ↦ omega (arith, count_none c.turn c.rank a (b ∷ es) other, rest.twins)
      ];
      least = λ t r twins. rest.least t r (more t r twins);
    }

least_twin : (es : List Entry) (i : ℕ) (d : Entry) → IsRising es → IsFirstDisorder es i → IsLeastTwin es (get_or es i d).turn (get_or es i d).rank
least_twin es zero d rising found = absurd (omega (arith, found.counted))
least_twin es (suc i) d rising found =
    let back : suc i - 1 ≡ i = omega arith in
    let never : Before (get_or es i d) (get_or es (suc i) d) → ⊥ = subst (λ j. Before (get_or es j d) (get_or es (suc i) d) → ⊥) back (found.disorder d) in
    least_at es i d (chain_from Rises rises_trans es rising) found.ordered found.within never

-- entries have the same twins in any order
count_moved : (xs ys : List Entry) (t r : ℕ) → IsPermutation xs ys → count_by (stands_at t r) ys ≡ count_by (stands_at t r) xs
count_moved xs ys t r moved = sum_by-IsPermutation (λ x. cond (stands_at t r x) 1 0) xs ys moved

pub twins_moved : (xs ys : List Entry) (t r : ℕ) → IsPermutation xs ys → AreTwins xs t r → AreTwins ys t r
twins_moved xs ys t r moved twins = omega (arith, count_moved xs ys t r moved, twins)

pub twins_back : (xs ys : List Entry) (t r : ℕ) → IsPermutation xs ys → AreTwins ys t r → AreTwins xs t r
twins_back xs ys t r moved twins = omega (arith, count_moved xs ys t r moved, twins)

-- the twins that the first disorder shows, among the entries in the order in which they were given
pub twin_found : (all given seen : List Entry) (i : ℕ) (a b : Entry) → IsPermutation given all → IsRising all → seen ≡ all → IsFirstDisorder seen i → a ≡ get_or all i a → b ≡ get_or all i b
    → IsLeastTwin given a.turn b.rank
twin_found all given seen i a b moved rising same found a_is b_is =
    let within : i < length all = omega (arith, found.within, ap length same) in
    let least = least_twin all i a rising (subst (λ xs. IsFirstDisorder xs i) same found) in
    let one : get_or all i a ≡ b = get_or_default all i a b within ∙ sym b_is in
    let here : IsLeastTwin all a.turn b.rank = subst (λ e. IsLeastTwin all a.turn e.rank) one (subst (λ e. IsLeastTwin all e.turn (get_or all i a).rank) (sym a_is) least) in
    record { twins = twins_back given all a.turn b.rank moved here.twins; least = λ t r twins. here.least t r (twins_moved given all t r moved twins) }

-- there is one least pair
pub one_least : (es : List Entry) (t r u q : ℕ) → IsLeastTwin es t r → IsLeastTwin es u q → (t ≡ u) × (r ≡ q)
one_least es t r u q first second =
    elim (first.least u q second.twins) [
      | inl less ↦ elim (second.least t r first.twins) [ inl more ↦ absurd (omega (arith, less, more)) | inr same ↦ absurd (omega (arith, less, same.0)) ]
      | inr same ↦ elim (second.least t r first.twins) [ inl more ↦ absurd (omega (arith, same.0, more)) | inr back ↦ (same.0, omega (arith, same.1, back.1)) ]
    ]

-- entries stand in order in one way alone
pub one_history : (xs ys : List Entry) → IsPermutation xs ys → Ordered xs → Ordered ys → xs ≡ ys
one_history xs ys moved first second = one_order Before before_trans never_before xs ys moved (chain_ordered xs first) (chain_ordered ys second)
