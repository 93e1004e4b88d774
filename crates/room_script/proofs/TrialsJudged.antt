-- Each list of lines is a trial, or a line of it is the first that breaks the rules.
use Rattle.std.proofs.Common.{◌≡◌, ℕ, zero, suc, ◌+◌, ◌<◌, ◌≤◌, ◌^◌, ◌⊎◌, inl, inr, List, [], ◌∷◌, ◌++◌, length, get_or, take, refl, arith}
use Rattle.std.specs.Prelude.{codes}
use Rattle.std.proofs.lemmas.Bool.{cases_eq, cases_lt}
use Rattle.bay_core.specs.declared.calls.Layout.{Layout}
use Rattle.bay_core.specs.declared.calls.Layout.TheVariants.{Split, Paged}
use Rattle.room_script.specs.declared.trials.Line.{Line}
use Rattle.room_script.specs.declared.trials.Line.TheVariants.{Push, Pop, Enq, Deq, Peek, Sizes}
use Rattle.room_script.specs.Breaks.{BreaksAt}
use Rattle.room_script.specs.Numbers.{IsNumberAfter}
use Rattle.room_script.specs.Trials.{IsForm, IsCallLine, title_line, caller_line, layout_line, least_blocks, IsNext, IsWrong, SpellsIn, IsTrial}
use Rattle.room_script.proofs.Judged.{same_or_not, after_or_not, limited_or_not}
use Rattle.room_script.proofs.TrialHeads.{outline, title_wrong, layout_wrong, blocks_wrong, draws_wrong, caller_wrong, head_read}
use Rattle.room_script.proofs.Outlines.{next_read, next_breaks, trial_read}

no_call : (form : ℕ) (line : List ℕ) → ((n : ℕ) → IsNumberAfter (codes "push ") line n → ⊥) → ((n : ℕ) → IsNumberAfter (codes "enq ") line n → ⊥) → (line ≡ codes "pop" → ⊥) → (line ≡ codes "deq" → ⊥)
    → (form ≡ 2 → line ≡ codes "peek" → ⊥) → (form ≡ 2 → line ≡ codes "sizes" → ⊥) → (a : Line) → IsCallLine form line a → ⊥
no_call form line push enq pop deq peek sizes (Push n) is = push n (record { fits = is.0; digits = is.2 })
no_call form line push enq pop deq peek sizes Pop is = pop is.2
no_call form line push enq pop deq peek sizes (Enq n) is = enq n (record { fits = is.0; digits = is.2 })
no_call form line push enq pop deq peek sizes Deq is = deq is.2
no_call form line push enq pop deq peek sizes Peek is = peek is.1 is.2
no_call form line push enq pop deq peek sizes Sizes is = sizes is.1 is.2

-- a line that the second form alone has
look_or_not : (form : ℕ) (line word : List ℕ) → ((form ≡ 2) × (line ≡ word)) ⊎ (form ≡ 2 → line ≡ word → ⊥)
look_or_not form line word =
    elim (cases_eq form 2) [
      | inl two ↦ elim (same_or_not line word) [ inl is ↦ inl (two, is) | inr other ↦ inr (λ _ is. other is) ]
      | inr first ↦ inr (λ two is. first two)
    ]

call_or_not : (form : ℕ) (line : List ℕ) → ((a : Line) × IsCallLine form line a) ⊎ ((a : Line) → IsCallLine form line a → ⊥)
call_or_not form line =
    elim (after_or_not (codes "push ") line) [
      | inl push ↦ inl (Push push.0, (push.1.fits, tt, push.1.digits))
      | inr no_push ↦ elim (after_or_not (codes "enq ") line) [
        | inl enq ↦ inl (Enq enq.0, (enq.1.fits, tt, enq.1.digits))
        | inr no_enq ↦ elim (same_or_not line (codes "pop")) [
          | inl pop ↦ inl (Pop, (tt, tt, pop))
          | inr no_pop ↦ elim (same_or_not line (codes "deq")) [
            | inl deq ↦ inl (Deq, (tt, tt, deq))
            | inr no_deq ↦ elim (look_or_not form line (codes "peek")) [
              | inl peek ↦ inl (Peek, (tt, peek.0, peek.1))
              | inr no_peek ↦ elim (look_or_not form line (codes "sizes")) [
                | inl sizes ↦ inl (Sizes, (tt, sizes.0, sizes.1))
                | inr no_sizes ↦ inr (no_call form line no_push no_enq no_pop no_deq no_peek no_sizes)
              ]
            ]
          ]
        ]
      ]
    ]

next_or_not : (form : ℕ) (scripts : List (List Line)) (s : List Line) (line : List ℕ)
    → ((scripts' : List (List Line)) × (s' : List Line) × IsNext form scripts s line scripts' s') ⊎ IsWrong form scripts line
next_or_not form scripts s line =
    elim (same_or_not line caller_line) [
      | inl caller ↦ elim (cases_lt (length scripts + 1) 64) [
        | inl few ↦ inl (scripts ++ s ∷ [], [], inl (caller, few, refl, refl))
        | inr many ↦ inr (inl (caller, many))
      ]
      | inr other ↦ elim (call_or_not form line) [
        | inl call ↦ inl (scripts, s ++ call.0 ∷ [], inr (call.0, call.1, refl, refl))
        | inr never ↦ inr (inr (other, never))
      ]
    ]

no_layout : (line : List ℕ) → (line ≡ codes "layout split" → ⊥) → (line ≡ codes "layout paged" → ⊥) → (l : Layout) → line ≡ layout_line l → ⊥
no_layout line split paged Split is = split is
no_layout line split paged Paged is = paged is

layout_or_not : (line : List ℕ) → ((l : Layout) × (line ≡ layout_line l)) ⊎ ((l : Layout) → line ≡ layout_line l → ⊥)
layout_or_not line =
    elim (same_or_not line (codes "layout split")) [
      | inl split ↦ inl (Split, split)
      | inr no_split ↦ elim (same_or_not line (codes "layout paged")) [ inl paged ↦ inl (Paged, paged) | inr no_paged ↦ inr (no_layout line no_split no_paged) ]
    ]

-- the lines from one on, where those before it are read
from_line : (form : ℕ) (lines : List (List ℕ)) (l : Layout) (b d : ℕ) (fuel i : ℕ) (scripts : List (List Line)) (s : List Line) → length lines ≤ i + fuel → 5 ≤ i
    → SpellsIn form (take i lines) (outline l b d (scripts ++ s ∷ [])) → IsTrial lines ⊎ ((k : ℕ) × BreaksAt IsTrial lines k)
from_line form lines l b d zero i scripts s enough past front = inl (outline l b d (scripts ++ s ∷ []), trial_read form lines _ i (omega arith) front)
from_line form lines l b d (suc fuel) i scripts s enough past front =
    elim (cases_lt i (length lines)) [
      | inl within ↦ elim (next_or_not form scripts s (get_or lines i [])) [
        | inl next ↦ from_line form lines l b d fuel (i + 1) next.0 next.1 (omega arith) (omega arith) (next_read form lines l b d i scripts s next.0 next.1 front within next.2)
        | inr wrong ↦ inr (i + 1, next_breaks form lines l b d i scripts s front past within wrong)
      ]
      | inr ended ↦ inl (outline l b d (scripts ++ s ∷ []), trial_read form lines _ i ended front)
    ]

pub either_trial : (lines : List (List ℕ)) → IsTrial lines ⊎ ((k : ℕ) × BreaksAt IsTrial lines k)
either_trial lines =
    elim (limited_or_not (codes "trial ") (get_or lines 0 []) 1 2 (omega arith)) [
      | inr never ↦ inr (1, title_wrong lines never)
      | inl form ↦ (
          let title : IsForm form.0 × (get_or lines 0 [] ≡ title_line form.0) = (form.1, form.2) in
          elim (layout_or_not (get_or lines 1 [])) [
            | inr other ↦ inr (2, layout_wrong lines form.0 title other)
            | inl layout ↦ elim (limited_or_not (codes "blocks ") (get_or lines 2 []) (least_blocks layout.0) 16384 (omega arith)) [
              | inr never ↦ inr (3, blocks_wrong lines form.0 title layout.0 layout.1 never)
              | inl blocks ↦ elim (limited_or_not (codes "draws ") (get_or lines 3 []) 1 (2 ^ 48) (omega arith)) [
                | inr never ↦ inr (4, draws_wrong lines form.0 title layout.0 layout.1 blocks.0 (blocks.1, blocks.2) never)
                | inl draws ↦ elim (same_or_not (get_or lines 4 []) caller_line) [
                  | inr other ↦ inr (5, caller_wrong lines form.0 title layout.0 layout.1 blocks.0 (blocks.1, blocks.2) draws.0 (draws.1, draws.2) other)
                  | inl caller ↦ from_line form.0 lines layout.0 blocks.0 draws.0 (length lines) 5 [] [] (omega arith) (omega arith)
                      (head_read lines form.0 title layout.0 layout.1 blocks.0 (blocks.1, blocks.2) draws.0 (draws.1, draws.2) caller)
                ]
              ]
            ]
          ]
          )
    ]
