-- The first five lines of a trial.
use Rattle.std.proofs.Common.{◌≡◌, ◌≢◌, ℕ, ◌+◌, ◌<◌, ◌≤◌, inl, inr, List, [], ◌∷◌, ◌++◌, length, get_or, take, drop, ap, sym, refl, ◌∙◌, subst, arith}
use Rattle.std.specs.Prelude.{codes, All}
use Rattle.std.specs.List.{flat_map}
use Rattle.std.proofs.lemmas.Bool.{cases_lt}
use Rattle.std.proofs.lemmas.List.{length-take, length-append, get_or_append_left, get_or-take, get_or_past, take_more, take-append-drop}
use Rattle.std.proofs.lemmas.List.Elements.{All-nil, All-cons}
use Rattle.bay_core.specs.declared.calls.Layout.{Layout}
use Rattle.bay_core.specs.declared.calls.Layout.TheVariants.{Split, Paged}
use Rattle.room_script.specs.declared.trials.Line.{Line}
use Rattle.room_script.specs.Breaks.{Begins, BreaksAt}
use Rattle.room_script.specs.Trials.{Outline, IsForm, IsBlocks, IsDraws, IsCall, HasLine, title_line, layout_line, blocks_line, draws_line, caller_line, script_lines, outline_lines, AreScripts, IsWithin, SpellsIn, IsTrial}
use Rattle.room_script.proofs.Fronts.{breaks_next}

abbrev pub outline : Layout → ℕ → ℕ → List (List Line) → Outline
outline layout blocks draws scripts = record { layout = layout; blocks = blocks; draws = draws; scripts = scripts }

-- with one caller, that does nothing
abbrev pub idle : Layout → ℕ → ℕ → Outline
idle layout blocks draws = outline layout blocks draws ([] ∷ [])

idle_within : (layout : Layout) (blocks draws : ℕ) → IsBlocks layout blocks → IsDraws draws → IsWithin (idle layout blocks draws)
idle_within layout blocks draws is_blocks is_draws = record {
  blocks = is_blocks;
  draws = is_draws;
  scripts = record { some = omega arith; few = omega arith; calls = All-cons (All IsCall) [] [] (All-nil IsCall) (All-nil (All IsCall)) };
}

two_blocks : (layout : Layout) → IsBlocks layout 2
two_blocks Split = (omega arith, omega arith)
two_blocks Paged = (omega arith, omega arith)

one_draw : IsDraws 1
one_draw = (omega arith, omega arith)

-- the lines of one script or more begin with the one that begins a script
begins_so : (scripts : List (List Line)) → 1 ≤ length scripts → (1 ≤ length (flat_map script_lines scripts)) × (get_or (flat_map script_lines scripts) 0 [] ≡ caller_line)
begins_so [] some = absurd (omega (arith, some))
begins_so (s ∷ scripts) some = (omega arith, refl)

idle_calls : (form : ℕ) → All (All (HasLine form)) ([] ∷ [])
idle_calls form = All-cons (All (HasLine form)) [] [] (All-nil (HasLine form)) (All-nil (All (HasLine form)))

-- a trial has five lines at least
long : (form : ℕ) (o : Outline) → IsWithin o → 5 ≤ length (outline_lines form o)
long form o within = omega (arith, (begins_so o.scripts within.scripts.some).0)

fifth : (form : ℕ) (o : Outline) → IsWithin o → get_or (outline_lines form o) 4 [] ≡ caller_line
fifth form o within = (begins_so o.scripts within.scripts.some).1

-- two layouts have two lines
pub layout_same : (l m : Layout) → layout_line l ≡ layout_line m → l ≡ m
layout_same Split Split e = refl
layout_same Paged Paged e = refl
layout_same Split Paged e = absurd (omega (arith, ap (λ xs. get_or xs 7 0) e))
layout_same Paged Split e = absurd (omega (arith, ap (λ xs. get_or xs 7 0) e))

-- this line and those before it are the trial's
abbrev pub AreLines : ℕ → List (List ℕ) → Outline → ℕ → Type 0
AreLines form lines o i = (j : ℕ) → j ≤ i → get_or lines j [] ≡ get_or (outline_lines form o) j []

-- a trial that has this line where it stands, and those before it
pub record Shares (lines : List (List ℕ)) (i : ℕ) : Type 0 where
  pub form : ℕ
  pub known : IsForm form
  pub told : Outline
  pub within : IsWithin told
  pub calls : All (All (HasLine form)) told.scripts
  pub are : AreLines form lines told i
  pub long : i < length (outline_lines form told)

-- some trial has this line where it stands, and those before it
pub begun_at : (lines : List (List ℕ)) (i : ℕ) → i < length lines → Begins IsTrial (take (i + 1) lines) → Shares lines i
begun_at lines i within begins =
    let o = begins.1.0 in
    let form = begins.1.1.form in
    let spells = begins.1.1.spelled in
    let inside : i < length (take (i + 1) lines) = omega (arith, length-take (i + 1) lines) in
    let same : (j : ℕ) → j ≤ i → get_or (take (i + 1) lines ++ begins.0) j [] ≡ get_or lines j [] =
    λ j near. get_or_append_left (take (i + 1) lines) begins.0 [] j (omega (arith, near, inside)) ∙ get_or-take (i + 1) lines j [] (omega (arith, near)) in
    record {
      form = form;
      known = spells.known;
      told = o;
      within = spells.within;
      calls = spells.calls;
      are = λ j near. sym (same j near) ∙ ap (λ xs. get_or xs j []) spells.spelled;
      long = omega (arith, inside, length-append (take (i + 1) lines) begins.0, ap length spells.spelled);
    }

-- the first n lines are those of the trial, in the form
pub record Front (form : ℕ) (lines : List (List ℕ)) (o : Outline) (n : ℕ) : Type 0 where
  pub enough : n ≤ length lines
  pub same : take n lines ≡ take n (outline_lines form o)

front_none : (form : ℕ) (lines : List (List ℕ)) (o : Outline) → Front form lines o 0
front_none form lines o = record { enough = omega arith; same = refl }

front_more : (form : ℕ) (lines : List (List ℕ)) (o : Outline) (n : ℕ) → Front form lines o n → n < length (outline_lines form o) → 0 < length (get_or (outline_lines form o) n [])
    → get_or lines n [] ≡ get_or (outline_lines form o) n [] → Front form lines o (n + 1)
front_more form lines o n front there some at =
    elim (cases_lt n (length lines)) [
      | inl within ↦ record {
        enough = omega arith;
        same = take_more lines n [] within ∙ (ap (λ xs. xs ++ get_or lines n [] ∷ []) front.same
            ∙ (ap (λ x. take n (outline_lines form o) ++ x ∷ []) at ∙ sym (take_more (outline_lines form o) n [] there)));
      }
      | inr past ↦ absurd (omega (arith, some, ap length (sym (get_or_past lines n [] past) ∙ at)))
    ]

-- the line after those is no trial's
next_breaks : (form : ℕ) → IsForm form → (lines : List (List ℕ)) (l : Layout) (b d n : ℕ) → Front form lines (idle l b d) n → IsWithin (idle l b d) → n < 5
    → ((share : Shares lines n) → ⊥) → BreaksAt IsTrial lines (n + 1)
next_breaks form known lines l b d n front within early wrong =
    let o = idle l b d in
    breaks_next IsTrial lines n front.enough (
      drop n (outline_lines form o),
      (
        o,
        record {
          form = form;
          spelled = record {
            known = known;
            within = within;
            calls = idle_calls form;
            spelled = ap (λ xs. xs ++ drop n (outline_lines form o)) front.same ∙ take-append-drop n (outline_lines form o);
          };
        },
      ),
    )
    (λ inside begins. wrong (begun_at lines n inside begins))
    (λ ends keeps. omega (arith, ends, early, long keeps.1.form keeps.0 keeps.1.spelled.within, ap length keeps.1.spelled.spelled))

one_form : IsForm 1
one_form = (omega arith, omega arith)

module _ (lines : List (List ℕ)) where
  pub title_wrong : ((form : ℕ) → IsForm form × (get_or lines 0 [] ≡ title_line form) → ⊥) → BreaksAt IsTrial lines 1
  title_wrong wrong =
      next_breaks 1 one_form lines Split 2 1 0 (front_none 1 lines (idle Split 2 1)) (idle_within Split 2 1 (two_blocks Split) one_draw) (omega arith)
      (λ s. wrong s.form (s.known, s.are 0 (omega arith)))

  module _ (form : ℕ) (title : IsForm form × (get_or lines 0 [] ≡ title_line form)) where
    front_one : (l : Layout) (b d : ℕ) → Front form lines (idle l b d) 1
    front_one l b d = front_more form lines (idle l b d) 0 (front_none form lines (idle l b d)) (omega arith) (omega arith) title.1

    pub layout_wrong : ((l : Layout) → get_or lines 1 [] ≡ layout_line l → ⊥) → BreaksAt IsTrial lines 2
    layout_wrong wrong =
        next_breaks form title.0 lines Split 2 1 1 (front_one Split 2 1) (idle_within Split 2 1 (two_blocks Split) one_draw) (omega arith) (λ s. wrong s.told.layout (s.are 1 (omega arith)))

    layout_some : (l : Layout) → 0 < length (layout_line l)
    layout_some Split = omega arith
    layout_some Paged = omega arith

    module _ (l : Layout) (second : get_or lines 1 [] ≡ layout_line l) where
      front_two : (b d : ℕ) → Front form lines (idle l b d) 2
      front_two b d = front_more form lines (idle l b d) 1 (front_one l b d) (omega arith) (layout_some l) second

      pub blocks_wrong : ((n : ℕ) → IsBlocks l n × (get_or lines 2 [] ≡ blocks_line n) → ⊥) → BreaksAt IsTrial lines 3
      blocks_wrong wrong =
          next_breaks form title.0 lines l 2 1 2 (front_two 2 1) (idle_within l 2 1 (two_blocks l) one_draw) (omega arith) (λ s.
          let same : s.told.layout ≡ l = layout_same s.told.layout l (sym (s.are 1 (omega arith)) ∙ second) in
          wrong s.told.blocks (subst (λ m. IsBlocks m s.told.blocks) same s.within.blocks, s.are 2 (omega arith)))

      module _ (b : ℕ) (third : IsBlocks l b × (get_or lines 2 [] ≡ blocks_line b)) where
        front_three : (d : ℕ) → Front form lines (idle l b d) 3
        front_three d = front_more form lines (idle l b d) 2 (front_two b d) (omega arith) (omega arith) third.1

        pub draws_wrong : ((n : ℕ) → IsDraws n × (get_or lines 3 [] ≡ draws_line n) → ⊥) → BreaksAt IsTrial lines 4
        draws_wrong wrong =
            next_breaks form title.0 lines l b 1 3 (front_three 1) (idle_within l b 1 third.0 one_draw) (omega arith) (λ s. wrong s.told.draws (s.within.draws, s.are 3 (omega arith)))

        module _ (d : ℕ) (fourth : IsDraws d × (get_or lines 3 [] ≡ draws_line d)) where
          front_four : Front form lines (idle l b d) 4
          front_four = front_more form lines (idle l b d) 3 (front_three d) (omega arith) (omega arith) fourth.1

          pub caller_wrong : get_or lines 4 [] ≢ caller_line → BreaksAt IsTrial lines 5
          caller_wrong wrong =
              next_breaks form title.0 lines l b d 4 front_four (idle_within l b d third.0 fourth.0) (omega arith) (λ s. wrong (s.are 4 (omega arith) ∙ fifth s.form s.told s.within))

          pub head_read : get_or lines 4 [] ≡ caller_line → SpellsIn form (take 5 lines) (idle l b d)
          head_read caller = record {
            known = title.0;
            within = idle_within l b d third.0 fourth.0;
            calls = idle_calls form;
            spelled = (front_more form lines (idle l b d) 4 front_four (omega arith) (omega arith) caller).same;
          }
