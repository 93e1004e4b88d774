-- Each list of lines is a schedule, or a line of it is the first that breaks the rules.
use Rattle.std.proofs.Common.{◌≡◌, ℕ, zero, suc, ◌+◌, ◌<◌, ◌≤◌, ◌^◌, ◌⊎◌, inl, inr, Bool, true, false, List, [], ◌∷◌, ◌++◌, Some, None, Decides, cond, length, get_or, take, drop, ap, sym, refl, ◌∙◌, arith}
use Rattle.std.specs.Prelude.{codes, decimal, slice_range}
use Rattle.std.specs.List.{position_or_len}
use Rattle.std.specs.Str.{bytes_eq}
use Rattle.std.specs.Str.Parse.{digits_value}
use Rattle.std.proofs.lemmas.Bool.{cases_lt, false≢true, lt-ltb, le-ltb}
use Rattle.std.proofs.lemmas.Fmt.{decimal_injective}
use Rattle.std.proofs.lemmas.List.{append_cancel_left, take-append-drop, take_at}
use Rattle.std.proofs.lemmas.Slice.Eq.{bytes_eq-Decides}
use Rattle.room_core.specs.declared.acts.Act.{Act}
use Rattle.room_core.specs.declared.acts.Act.TheVariants.{Draw, Step, Leave}
use Rattle.room_script.specs.Breaks.{BreaksAt}
use Rattle.room_script.specs.Lines.{is_space}
use Rattle.room_script.specs.Numbers.{IsNumber, IsNumberAfter, IsTwoNumbers}
use Rattle.room_script.specs.Schedules.{Spells, IsSchedule}
use Rattle.room_script.proofs.Acts.{IsActLine, acted}
use Rattle.room_script.proofs.Decimals.{value_of}
use Rattle.room_script.proofs.Heads.{head_spelled, title_breaks, rooms_break, callers_break}
use Rattle.room_script.proofs.Plans.{plan, act_more, act_breaks, all_read}
use Rattle.room_script.proofs.Spelled.{after_word, two_split, no_two}

tested : {P : Type 0} (b : Bool) → Decides b P → P ⊎ (P → ⊥)
tested true d = inl (d.0 refl)
tested false d = inr (λ p. false≢true (d.1 p))

-- a list of bytes is another one, or not
pub same_or_not : (xs ys : List ℕ) → (xs ≡ ys) ⊎ (xs ≡ ys → ⊥)
same_or_not xs ys = tested (bytes_eq xs ys) (bytes_eq-Decides xs ys)

number_or_not : (bytes : List ℕ) → ((n : ℕ) × IsNumber bytes n) ⊎ ((n : ℕ) → IsNumber bytes n → ⊥)
number_or_not bytes =
    let v = digits_value 10 bytes in
    elim (cases_lt v (2 ^ 64)) [
      | inl small ↦ elim (same_or_not bytes (decimal v)) [
        | inl same ↦ inl (v, record { fits = small; digits = same })
        | inr other ↦ inr (λ n is. other (is.digits ∙ ap decimal (sym (value_of bytes n is))))
      ]
      | inr big ↦ inr (λ n is. omega (arith, big, is.fits, value_of bytes n is))
    ]

word_or_not : (word bytes : List ℕ) → ((rest : List ℕ) × (bytes ≡ word ++ rest)) ⊎ ((rest : List ℕ) → bytes ≡ word ++ rest → ⊥)
word_or_not word bytes =
    elim (same_or_not (take (length word) bytes) word) [
      | inl same ↦ inl (drop (length word) bytes, sym (take-append-drop (length word) bytes) ∙ ap (λ xs. xs ++ drop (length word) bytes) same)
      | inr other ↦ inr (λ rest e. other (ap (take (length word)) e ∙ take_at word rest (length word) refl))
    ]

pub after_or_not : (word bytes : List ℕ) → ((n : ℕ) × IsNumberAfter word bytes n) ⊎ ((n : ℕ) → IsNumberAfter word bytes n → ⊥)
after_or_not word bytes =
    elim (word_or_not word bytes) [
      | inl begins ↦ elim (number_or_not begins.0) [
        | inl found ↦ inl (found.0, (after_word word bytes begins.0 found.0 begins.1).0 found.1)
        | inr never ↦ inr (λ n is. never n ((after_word word bytes begins.0 n begins.1).1 is))
      ]
      | inr other ↦ inr (λ n is. other (decimal n) is.digits)
    ]

two_or_not : (bytes : List ℕ) → ((a : ℕ) × (b : ℕ) × IsTwoNumbers bytes a b) ⊎ ((a b : ℕ) → IsTwoNumbers bytes a b → ⊥)
two_or_not bytes =
    let s = position_or_len is_space bytes in
    elim (cases_lt s (length bytes)) [
      | inl within ↦ (
          let found = ap (λ t. cond t (Some s) None) (sym (lt-ltb s (length bytes) within)) in
          elim (number_or_not (take s bytes)) [
            | inl first ↦ elim (number_or_not (slice_range bytes (s + 1) (length bytes))) [
              | inl second ↦ inl (first.0, second.0, (two_split bytes s first.0 second.0 found).1 (first.1, second.1))
              | inr never ↦ inr (λ a b is. never b ((two_split bytes s a b found).0 is).1)
            ]
            | inr never ↦ inr (λ a b is. never a ((two_split bytes s a b found).0 is).0)
          ]
          )
      | inr past ↦ inr (λ a b is. no_two bytes a b (ap (λ t. cond t (Some s) None) (sym (le-ltb s (length bytes) past))) is)
    ]

draw_or_not : (line : List ℕ) → ((a : ℕ × Act) × IsActLine line a) ⊎ ((c r : ℕ) → IsActLine line (acted c (Draw r)) → ⊥)
draw_or_not line =
    elim (word_or_not (codes "draw ") line) [
      | inl begins ↦ elim (two_or_not begins.0) [
        | inl two ↦ inl (acted two.0 (Draw two.1), ((two.2.first_fits, two.2.second_fits), begins.1 ∙ ap (λ xs. codes "draw " ++ xs) two.2.digits))
        | inr never ↦ inr (λ c r is. never c r (record { first_fits = is.0.0; second_fits = is.0.1; digits = append_cancel_left (codes "draw ") begins.0 _ (sym begins.1 ∙ is.1) }))
      ]
      | inr other ↦ inr (λ c r is. other _ is.1)
    ]

no_act : (line : List ℕ) → ((c r : ℕ) → IsActLine line (acted c (Draw r)) → ⊥) → ((n : ℕ) → IsNumberAfter (codes "step ") line n → ⊥)
    → ((n : ℕ) → IsNumberAfter (codes "leave ") line n → ⊥) → (a : ℕ × Act) → IsActLine line a → ⊥
no_act line draw step leave (c, Draw r) is = draw c r is
no_act line draw step leave (c, Step) is = step c (record { fits = is.0; digits = is.1 })
no_act line draw step leave (c, Leave) is = leave c (record { fits = is.0; digits = is.1 })

act_or_not : (line : List ℕ) → ((a : ℕ × Act) × IsActLine line a) ⊎ ((a : ℕ × Act) → IsActLine line a → ⊥)
act_or_not line =
    elim (draw_or_not line) [
      | inl draw ↦ inl draw
      | inr no_draw ↦ elim (after_or_not (codes "step ") line) [
        | inl step ↦ inl (acted step.0 Step, (step.1.fits, step.1.digits))
        | inr no_step ↦ elim (after_or_not (codes "leave ") line) [
          | inl leave ↦ inl (acted leave.0 Leave, (leave.1.fits, leave.1.digits))
          | inr no_leave ↦ inr (no_act line no_draw no_step no_leave)
        ]
      ]
    ]

-- a number after a word, between limits
pub limited_or_not : (word line : List ℕ) (least most : ℕ) → most < 2 ^ 64 → ((n : ℕ) × ((least ≤ n) × (n ≤ most)) × (line ≡ word ++ decimal n)) ⊎ ((n : ℕ) → ((least ≤ n) × (n ≤ most)) × (line ≡ word ++ decimal n) → ⊥)
limited_or_not word line least most small =
    elim (after_or_not word line) [
      | inl found ↦ (
          let same : (n : ℕ) → n ≤ most → line ≡ word ++ decimal n → found.0 ≡ n = λ n few is. decimal_injective found.0 n found.1.fits (omega (arith, few)) (append_cancel_left word _ _ (sym found.1.digits ∙ is)) in
          elim (cases_lt found.0 least) [
            | inl none ↦ inr (λ n is. omega (arith, none, is.0.0, same n is.0.1 is.1))
            | inr some ↦ elim (cases_lt most found.0) [
              | inl many ↦ inr (λ n is. omega (arith, many, is.0.1, same n is.0.1 is.1))
              | inr few ↦ inl (found.0, (some, few), found.1.digits)
            ]
          ]
          )
      | inr never ↦ inr (λ n is. never n (record { fits = omega (arith, is.0.1); digits = is.1 }))
    ]

-- the lines from one on, where those before it are read
from_line : (lines : List (List ℕ)) (rooms callers : ℕ) (fuel i : ℕ) (acts : List (ℕ × Act)) → length lines ≤ i + fuel → 3 ≤ i → Spells (take i lines) (plan rooms callers acts)
    → IsSchedule lines ⊎ ((k : ℕ) × BreaksAt IsSchedule lines k)
from_line lines rooms callers zero i acts enough past front = inl (plan rooms callers acts, all_read lines _ i (omega arith) front)
from_line lines rooms callers (suc fuel) i acts enough past front =
    elim (cases_lt i (length lines)) [
      | inl within ↦ elim (act_or_not (get_or lines i [])) [
        | inl found ↦ from_line lines rooms callers fuel (i + 1) (acts ++ found.0 ∷ []) (omega arith) (omega arith) (act_more lines rooms callers acts i found.0 front within found.1)
        | inr never ↦ inr (i + 1, act_breaks lines rooms callers acts i front past within never)
      ]
      | inr ended ↦ inl (plan rooms callers acts, all_read lines _ i ended front)
    ]

pub either : (lines : List (List ℕ)) → IsSchedule lines ⊎ ((k : ℕ) × BreaksAt IsSchedule lines k)
either lines =
    elim (same_or_not (get_or lines 0 []) (codes "schedule 1")) [
      | inl title ↦ elim (limited_or_not (codes "rooms ") (get_or lines 1 []) 1 7 (omega arith)) [
        | inl rooms ↦ elim (limited_or_not (codes "callers ") (get_or lines 2 []) 1 64 (omega arith)) [
          | inl callers ↦ from_line lines rooms.0 callers.0 (length lines) 3 [] (omega arith) (omega arith) (head_spelled lines rooms.0 callers.0 title (rooms.1, rooms.2) (callers.1, callers.2))
          | inr never ↦ inr (3, callers_break lines rooms.0 title (rooms.1, rooms.2) never)
        ]
        | inr never ↦ inr (2, rooms_break lines title never)
      ]
      | inr other ↦ inr (1, title_breaks lines other)
    ]
