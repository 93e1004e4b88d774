-- The scripts of a trial, line by line, and what the lines say as a whole.
use Rattle.std.proofs.Common.{◌≡◌, ℕ, zero, suc, ◌+◌, ◌<◌, ◌≤◌, ◌^◌, inl, inr, false, cond, List, [], ◌∷◌, ◌++◌, length, get_or, take, drop, ap, sym, refl, ◌∙◌, subst, arith}
use Rattle.std.specs.Prelude.{codes, All}
use Rattle.std.specs.List.{flat_map}
use Rattle.std.proofs.lemmas.Fmt.{decimal_injective}
use Rattle.std.proofs.lemmas.List.{append_cancel_left, append-nil, take_more, take_all, length-append, get_or-take}
use Rattle.std.proofs.lemmas.List.Elements.{All-nil, All-push, All-get_or}
use Rattle.bay_core.specs.declared.calls.Layout.{Layout}
use Rattle.bay_core.specs.declared.calls.Layout.TheVariants.{Split, Paged}
use Rattle.room_script.specs.declared.trials.Line.{Line}
use Rattle.room_script.specs.Breaks.{BreaksAt}
use Rattle.room_script.specs.Trials.{Outline, IsForm, HasLine, title_line, caller_line, layout_line, blocks_line, draws_line, call_line, script_lines, outline_lines, IsNext, IsWrong, SpellsIn, SpellsTrial, IsTrial}
use Rattle.room_script.proofs.Fronts.{breaks_next}
use Rattle.room_script.proofs.Scripts.{IsRow, each_row, begins, begun, begun_cons, begun_append, begun_scripts, lines_caller, lines_call, last_is, scripts_call, scripts_caller, scripts_same}
use Rattle.room_script.proofs.TrialHeads.{outline, layout_same, Shares, begun_at}

-- one line more
grown : (form : ℕ) (lines : List (List ℕ)) (o p : Outline) (i : ℕ) (line : List ℕ) → SpellsIn form (take i lines) o → i < length lines → get_or lines i [] ≡ line
    → outline_lines form p ≡ outline_lines form o ++ line ∷ [] → take (i + 1) lines ≡ outline_lines form p
grown form lines o p i line front within at more =
    take_more lines i [] within ∙ (ap (λ xs. xs ++ get_or lines i [] ∷ []) front.spelled ∙ (ap (λ x. outline_lines form o ++ x ∷ []) at ∙ sym more))

module _ (form : ℕ) (lines : List (List ℕ)) (l : Layout) (b d : ℕ) where
  -- a line that may follow the scripts that were read
  pub next_read : (i : ℕ) (scripts : List (List Line)) (s : List Line) (scripts' : List (List Line)) (s' : List Line) → SpellsIn form (take i lines) (outline l b d (scripts ++ s ∷ [])) → i < length lines
      → IsNext form scripts s (get_or lines i []) scripts' s' → SpellsIn form (take (i + 1) lines) (outline l b d (scripts' ++ s' ∷ []))
  next_read i scripts s scripts' s' front within next =
      elim next [
        | inl caller ↦ (
            let now : SpellsIn form (take (i + 1) lines) (outline l b d ((scripts ++ s ∷ []) ++ [] ∷ [])) = record {
              known = front.known;
              calls = All-push (All (HasLine form)) (scripts ++ s ∷ []) [] front.calls (All-nil (HasLine form));
              within = record {
                blocks = front.within.blocks;
                draws = front.within.draws;
                scripts = scripts_caller (scripts ++ s ∷ []) front.within.scripts (omega (arith, caller.1, length-append scripts (s ∷ [])));
              };
              spelled = grown form lines _ (outline l b d ((scripts ++ s ∷ []) ++ [] ∷ [])) i caller_line front within caller.0
                  (ap (λ xs. take 4 (outline_lines form (outline l b d [])) ++ xs) (lines_caller (scripts ++ s ∷ [])));
            } in
            rw (caller.2, caller.3) now
            )
        | inr call ↦ (
            let a = call.0 in
            let now : SpellsIn form (take (i + 1) lines) (outline l b d (scripts ++ (s ++ a ∷ []) ∷ [])) = record {
              known = front.known;
              calls = last_is (All (HasLine form)) scripts s (s ++ a ∷ []) (λ all. All-push (HasLine form) s a all call.1.1) front.calls;
              within = record {
                blocks = front.within.blocks;
                draws = front.within.draws;
                scripts = scripts_call scripts s a front.within.scripts call.1.0;
              };
              spelled = grown form lines _ (outline l b d (scripts ++ (s ++ a ∷ []) ∷ [])) i (call_line a) front within call.1.2
                  (ap (λ xs. take 4 (outline_lines form (outline l b d [])) ++ xs) (lines_call scripts s a));
            } in
            rw (call.2, call.3) now
            )
      ]

layout_begins : (l : Layout) → begins (layout_line l) ≡ false
layout_begins Split = refl
layout_begins Paged = refl

-- as many lines begin a script as there are scripts
begun_outline : (form : ℕ) (o : Outline) → begun (outline_lines form o) ≡ length o.scripts
begun_outline form o =
    omega (
      arith,
      begun_cons (title_line form) (drop 1 (outline_lines form o)),
      begun_cons (layout_line o.layout) (drop 2 (outline_lines form o)),
      ap {B = ℕ} (λ t. cond t 1 0) (layout_begins o.layout),
      begun_cons (blocks_line o.blocks) (drop 3 (outline_lines form o)),
      begun_cons (draws_line o.draws) (flat_map script_lines o.scripts),
      begun_scripts o.scripts,
    )

-- a line after the first four begins a script or is a call
row_at : (lines : List (List ℕ)) (i : ℕ) (shares : Shares lines i) → 4 ≤ i → IsRow shares.form (get_or (outline_lines shares.form shares.told) i [])
row_at lines (suc (suc (suc (suc j)))) shares past =
    All-get_or (IsRow shares.form) (flat_map script_lines shares.told.scripts) j [] (omega (arith, shares.long)) (each_row shares.form shares.told.scripts shares.within.scripts.calls shares.calls)
row_at lines zero shares past = absurd (omega (arith, past))
row_at lines (suc zero) shares past = absurd (omega (arith, past))
row_at lines (suc (suc zero)) shares past = absurd (omega (arith, past))
row_at lines (suc (suc (suc zero))) shares past = absurd (omega (arith, past))

-- two forms have two lines
form_same : (f g : ℕ) → IsForm f → IsForm g → title_line f ≡ title_line g → f ≡ g
form_same f g is other e = decimal_injective f g (omega (arith, is)) (omega (arith, other)) (append_cancel_left (codes "trial ") _ _ e)

-- a line that may not follow the scripts that were read
pub next_breaks : (form : ℕ) (lines : List (List ℕ)) (l : Layout) (b d i : ℕ) (scripts : List (List Line)) (s : List Line) → SpellsIn form (take i lines) (outline l b d (scripts ++ s ∷ []))
    → 5 ≤ i → i < length lines → IsWrong form scripts (get_or lines i []) → BreaksAt IsTrial lines (i + 1)
next_breaks form lines l b d i scripts s front past within wrong =
    let o = outline l b d (scripts ++ s ∷ []) in
    breaks_next IsTrial lines i (omega arith) ([], (o, rw append-nil (record { form = form; spelled = front })))
    (λ inside more. elim wrong [
      | inl many ↦ (
          let p = more.1.0 in
          let spells = more.1.1 in
          let whole : begun (take (i + 1) lines ++ more.0) ≡ length p.scripts = ap begun spells.spelled.spelled ∙ begun_outline spells.form p in
          let before : begun (take i lines) ≡ length (scripts ++ s ∷ []) = ap begun front.spelled ∙ begun_outline form o in
          let here : begun (take (i + 1) lines) ≡ begun (take i lines) + begun (caller_line ∷ []) =
          ap begun (take_more lines i [] within ∙ ap (λ x. take i lines ++ x ∷ []) many.0) ∙ begun_append (take i lines) (caller_line ∷ []) in
          omega (
            arith,
            whole,
            before,
            here,
            begun_append (take (i + 1) lines) more.0,
            begun_cons caller_line [],
            length-append scripts (s ∷ []),
            many.1,
            spells.spelled.within.scripts.few,
          )
          )
      | inr none ↦ (
          let at = begun_at lines i inside more in
          let title : get_or lines 0 [] ≡ title_line form = sym (get_or-take i lines 0 [] (omega (arith, past))) ∙ ap (λ xs. get_or xs 0 []) front.spelled in
          let same : at.form ≡ form = form_same at.form form at.known front.known (sym (at.are 0 (omega arith)) ∙ title) in
          elim (row_at lines i at (omega (arith, past))) [
            | inl caller ↦ none.0 (at.are i (omega arith) ∙ caller)
            | inr call ↦ none.1 call.0 (call.1.0, subst (λ f. HasLine f call.0) same call.1.1, at.are i (omega arith) ∙ call.1.2)
          ]
          )
    ])
    (λ ends. absurd (omega arith))

-- the lines as a whole
pub trial_read : (form : ℕ) (lines : List (List ℕ)) (o : Outline) (i : ℕ) → length lines ≤ i → SpellsIn form (take i lines) o → SpellsTrial lines o
trial_read form lines o i past front = record { form = form; spelled = rw (take_all i lines past) at front }

-- lines say one thing
pub outline_same : (lines : List (List ℕ)) (o p : Outline) → SpellsTrial lines o → SpellsTrial lines p → o ≡ p
outline_same lines o p one other =
    let first = one.spelled in
    let second = other.spelled in
    let e : outline_lines one.form o ≡ outline_lines other.form p = sym first.spelled ∙ second.spelled in
    let layout = layout_same o.layout p.layout (ap (λ ls. get_or ls 1 []) e) in
    let blocks = decimal_injective o.blocks p.blocks (omega (arith, first.within.blocks.1)) (omega (arith, second.within.blocks.1)) (append_cancel_left (codes "blocks ") _ _ (ap (λ ls. get_or ls 2 []) e)) in
    let draws = decimal_injective o.draws p.draws (omega (arith, first.within.draws)) (omega (arith, second.within.draws)) (append_cancel_left (codes "draws ") _ _ (ap (λ ls. get_or ls 3 []) e)) in
    let scripts = scripts_same o.scripts p.scripts first.within.scripts.calls second.within.scripts.calls (ap (drop 4) e) in
    ap (λ l. outline l o.blocks o.draws o.scripts) layout
    ∙ (ap (λ n. outline p.layout n o.draws o.scripts) blocks ∙ (ap (λ n. outline p.layout p.blocks n o.scripts) draws ∙ ap (λ xs. outline p.layout p.blocks p.draws xs) scripts))
