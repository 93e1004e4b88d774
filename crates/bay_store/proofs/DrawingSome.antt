-- A handful inside its room: what its fetch-and-add and its stores told, and what they leave.
use Rattle.std.proofs.Common.{◌≡◌, ◌∙◌, ℕ, ◌+◌, ◌-◌, ◌*◌, ◌^◌, ◌<◌, ◌≤◌, ◌⊎◌, inl, inr, List, [], length, take, drop, refl, sym, ap, subst, arith}
use Rattle.std.proofs.lemmas.List.{take_all, length-take, length-drop}
use Rattle.bay_core.specs.declared.calls.Layout.{Layout}
use Rattle.bay_core.specs.declared.calls.Layout.TheVariants.{Split, Paged}
use Rattle.bay_core.specs.declared.calls.Op.TheVariants.{Push}
use Rattle.bay_core.specs.declared.calls.Noted.{Noted}
use Rattle.bay_core.specs.Noted.{after, entries}
use Rattle.bay_core.specs.History.{GoesOn}
use Rattle.bay_rule.specs.declared.bay_use.BayUse.{BayUse}
use Rattle.bay_rule.specs.declared.views.Stage.{Stage}
use Rattle.bay_rule.specs.declared.views.Stage.TheVariants.{Resting}
use Rattle.bay_rule.specs.declared.views.BayView.{BayView}
use Rattle.bay_rule.specs.Words.{room_at, spare_at}
use Rattle.bay_rule.specs.Leaving.{frozen_after, spare_after, overflowed, filling, staged}
use Rattle.bay_rule.specs.Told.{IsFrozen, Stood, AddedSome, places_in, push_some_told}
use Rattle.bay_rule.specs.Answered.{AnsweredSome}
use Rattle.bay_rule.proofs.Answering.{answered_some}
use Rattle.bay_rule.proofs.Entries.{entries_some}
use Rattle.bay_store.specs.Sharing.{view_calling}
use Rattle.bay_store.specs.Acting.{KeepsLoaded}
use Rattle.bay_store.specs.Adding.{known}
use Rattle.bay_store.specs.Handfuls.{cells_end, StopsAt, refused_of, overflows_of, AddsSome, DrawsSome, Fills, HasDrawn}
use Rattle.bay_store.specs.declared.receipts.Handful.{Handful}
use Rattle.bay_store.specs.declared.receipts.Stop.{Stop}
use Rattle.bay_store.specs.declared.receipts.Stop.TheVariants.{All, Full, Overflow, Spent}

-- what it told, by equal numbers
pub told_as : (layout layout' : Layout) (blocks blocks' turn turn' who : ℕ) (items items' : List ℕ) (pages free old new : ℕ) (v w : BayView)
    → layout ≡ layout' → blocks ≡ blocks' → turn ≡ turn' → items ≡ items'
    → push_some_told layout blocks turn who items pages free v old new w
    → push_some_told layout' blocks' turn' who items' pages free v old new w
told_as layout layout' blocks blocks' turn turn' who items items' pages free old new v w e f g h t =
    subst (λ l. push_some_told l blocks' turn' who items' pages free v old new w) e
    (subst (λ b. push_some_told layout b turn' who items' pages free v old new w) f
    (subst (λ n. push_some_told layout blocks n who items' pages free v old new w) g
    (subst (λ i. push_some_told layout blocks turn who i pages free v old new w) h t)))

-- what the fetch-and-add told where some items have entries
pub record HasEntered (x : BayUse) (who turn : ℕ) (items : List ℕ) (pages free rank stored : ℕ)
    (stop : Stop) (u w : BayView) : Type 0 where
  pub some : 0 < length (take stored items) + length (refused_of stop (drop stored items))
  pub added : AddedSome x.layout x.blocks turn who u w (take stored items) (refused_of stop (drop stored items))
      (frozen_after x.layout u pages) (spare_after x.layout u free) rank (u.held - stored)
      (u.spilled + overflows_of stop)

-- and where none has
pub record HasMissed (x : BayUse) (who turn : ℕ) (items : List ℕ) (pages free rank stored : ℕ)
    (stop : Stop) (u w : BayView) : Type 0 where
  pub none : stored ≡ 0
  pub over : stop ≡ Overflow
  pub view : w ≡ overflowed u turn (frozen_after x.layout u pages) (spare_after x.layout u free) rank
      (u.spilled + 1) u.overran
  pub history : List Noted
  pub goes_on : GoesOn history u.seen
  pub stood : Stood x.layout x.blocks who turn Push (frozen_after x.layout u pages)
      (spare_after x.layout u free) rank history

-- one of both
abbrev pub HasCome : BayUse → ℕ → ℕ → List ℕ → ℕ → ℕ → ℕ → ℕ → Stop → BayView → BayView → Type 0
HasCome x who turn items pages free rank stored stop u w =
    HasEntered x who turn items pages free rank stored stop u w
    ⊎ HasMissed x who turn items pages free rank stored stop u w

module _ (x : BayUse) (who turn : ℕ) (items : List ℕ) (pages free rank new : ℕ) (u w : BayView)
    (told : push_some_told x.layout x.blocks turn who items pages free u rank new w) where
  -- the ranks of a stack begin at its bottom
  pub low_rank : 2 ^ 32 ≤ rank
  low_rank = elim told [ inl e ↦ e.0 | inr d ↦ elim d [ inl e ↦ e.0 | inr e ↦ e.0 ] ]

  whole : (stored : ℕ) → stored ≡ places_in (cells_end x pages) rank (length items) → rank + length items ≤ cells_end x pages
      → AddedSome x.layout x.blocks turn who u w items [] (frozen_after x.layout u pages) (spare_after x.layout u free) rank (u.held - length items) u.spilled
      → AddedSome x.layout x.blocks turn who u w (take stored items) [] (frozen_after x.layout u pages) (spare_after x.layout u free) rank (u.held - stored) (u.spilled + 0)
  whole stored is fits a =
      let all : stored ≡ length items = omega (arith, is, fits) in
      let these : items ≡ take stored items = sym (take_all stored items (omega (arith, all))) in
      let held : u.held - length items ≡ u.held - stored = ap (λ n. u.held - n) (sym all) in
      let spilled : u.spilled ≡ u.spilled + 0 = omega arith in
      subst (λ l. AddedSome x.layout x.blocks turn who u w l [] (frozen_after x.layout u pages) (spare_after x.layout u free) rank (u.held - stored) (u.spilled + 0)) these
      (subst (λ h. AddedSome x.layout x.blocks turn who u w items [] (frozen_after x.layout u pages) (spare_after x.layout u free) rank h (u.spilled + 0)) held
      (subst (λ n. AddedSome x.layout x.blocks turn who u w items [] (frozen_after x.layout u pages) (spare_after x.layout u free) rank (u.held - length items) n) spilled a))

  pub came : (stored : ℕ) (stop : Stop) → 1 ≤ length items → stored ≡ places_in (cells_end x pages) rank (length items)
      → StopsAt (cells_end x pages) (spare_at x.layout free) (rank + length items) stop
      → HasCome x who turn items pages free rank stored stop u w
  came stored All some is fits = elim told [
    | inl e ↦ inl (record { some = omega (arith, some, is, fits, length-take stored items); added = whole stored is e.1 e.2 })
    | inr d ↦ elim d [
      | inl e ↦ absurd (omega (arith, e.1, fits))
      | inr e ↦ absurd (omega (arith, e.1, fits))
    ]
  ]
  came stored Full some is fits = elim told [
    | inl e ↦ absurd (omega (arith, e.1, fits.0))
    | inr d ↦ elim d [
      | inl e ↦ inl (record {
        some = omega (arith, some, is, length-take stored items, length-drop stored items);
        added = subst (λ n. AddedSome x.layout x.blocks turn who u w (take n items) (drop n items) (frozen_after x.layout u pages) (spare_after x.layout u free) rank (u.held - n) (u.spilled + 0)) (sym is)
            (let spilled : u.spilled ≡ u.spilled + 0 = omega arith in
            subst (λ n. AddedSome x.layout x.blocks turn who u w (take (places_in (cells_end x pages) rank (length items)) items) (drop (places_in (cells_end x pages) rank (length items)) items) (frozen_after x.layout u pages) (spare_after x.layout u free) rank (u.held - places_in (cells_end x pages) rank (length items)) n) spilled e.3);
      })
      | inr e ↦ absurd (omega (arith, e.2, fits.1))
    ]
  ]
  came stored Overflow some is fits = elim told [
    | inl e ↦ absurd (omega (arith, e.1, fits.0))
    | inr d ↦ elim d [
      | inl e ↦ absurd (omega (arith, e.2, fits.1))
      | inr e ↦ elim e.3 [
        | inl f ↦ inl (record {
          some = omega (arith, some, is, f.0, length-take stored items);
          added = subst (λ n. AddedSome x.layout x.blocks turn who u w (take n items) [] (frozen_after x.layout u pages) (spare_after x.layout u free) rank (u.held - n) (u.spilled + 1)) (sym is) f.1;
        })
        | inr f ↦ inr (record { none = omega (arith, is, f.0); over = refl; view = f.1; history = f.2; goes_on = f.3; stood = f.4 })
      ]
    ]
  ]
  came stored Spent some is fits = absurd fits

-- what it has still to do then
pub stage_some : (x : BayUse) (who turn : ℕ) (items : List ℕ) (pages free rank stored : ℕ) (stop : Stop) (u w : BayView)
    → HasCome x who turn items pages free rank stored stop u w
    → w.stage ≡ filling (rank - 2 ^ 32) (take stored items)
stage_some x who turn items pages free rank stored stop u w come = elim come [
  | inl h ↦ ap (λ (y : BayView). y.stage) h.added.view
  | inr h ↦ ap (λ (y : BayView). y.stage) h.view ∙ ap (λ n. filling (rank - 2 ^ 32) (take n items)) (sym h.none)
]

-- the words that it loaded are those by which it stops
room_same : (layout : Layout) (blocks pages frozen : ℕ) (u : BayView) → frozen ≡ frozen_after layout u pages
    → room_at layout blocks pages ≡ room_at layout blocks frozen
room_same Split blocks pages frozen u e = refl
room_same Paged blocks pages frozen u e = ap (λ n. 64 * n) (sym e)

spare_same : (layout : Layout) (free spare : ℕ) (u : BayView) → spare ≡ spare_after layout u free
    → spare_at layout free ≡ spare_at layout spare
spare_same Split free spare u e = refl
spare_same Paged free spare u e = sym e

keeps_some : (layout : Layout) (pages free frozen spare : ℕ) (v u : BayView) (stage : Stage) → u ≡ staged v stage
    → frozen ≡ frozen_after layout u pages → spare ≡ spare_after layout u free
    → KeepsLoaded layout Push v.frozen v.spare frozen spare
keeps_some Split pages free frozen spare v u stage loaded e f =
    (e ∙ ap (λ (y : BayView). y.frozen) loaded, f ∙ ap (λ (y : BayView). y.spare) loaded)
keeps_some Paged pages free frozen spare v u stage loaded e f = tt

nothing : (stored : ℕ) (stop : Stop) (items : List ℕ) → stored ≡ 0 → stop ≡ Overflow
    → length (take stored items) + length (refused_of stop (drop stored items)) ≡ 0
nothing stored stop items e f =
    subst (λ n. length (take n items) + length (refused_of stop (drop n items)) ≡ 0) (sym e)
    (subst (λ s. length (take 0 items) + length (refused_of s (drop 0 items)) ≡ 0) (sym f) refl)

-- from the view before what it loaded to the view after its stores
module _ (x : BayUse) (who turn : ℕ) (items : List ℕ) (pages free rank stored : ℕ) (stop : Stop) (v u w w' : BayView)
    (stage : Stage) (rests : v.stage ≡ Resting) (loaded : u ≡ staged v stage)
    (is : stored ≡ places_in (cells_end x pages) rank (length items))
    (fits : StopsAt (cells_end x pages) (spare_at x.layout free) (rank + length items) stop) where
  module _ (h : HasEntered x who turn items pages free rank stored stop u w) (fills : Fills w w') where
    a : AnsweredSome x.layout x.blocks turn who v w' (take stored items) (refused_of stop (drop stored items)) (frozen_after x.layout u pages) (spare_after x.layout u free) rank (u.held - stored) (u.spilled + overflows_of stop)
    a = answered_some x.layout x.blocks turn who v u w w' stage (take stored items) (refused_of stop (drop stored items)) (frozen_after x.layout u pages) (spare_after x.layout u free) rank (u.held - stored) (u.spilled + overflows_of stop) w'.aim loaded h.added fills

    held : w'.held ≡ v.held - stored
    held = a.held_is ∙ ap (λ (y : BayView). y.held - stored) loaded

    overran : v.overran ≡ w'.overran
    overran = sym (ap (λ (y : BayView). y.overran) a.same)

    stood : Stood x.layout x.blocks who turn Push w'.frozen w'.spare rank a.history
    stood = subst (λ n. Stood x.layout x.blocks who turn Push n w'.spare rank a.history) (sym a.frozen_is)
        (subst (λ n. Stood x.layout x.blocks who turn Push (frozen_after x.layout u pages) n rank a.history) (sym a.spare_is) a.stood)

    view : w' ≡ view_calling v w' (v.held - stored)
    view =
        let P : Stage → ℕ → ℕ → Type 0 = λ z o n. w' ≡ record v {
          mine = w'.mine;
          seen = w'.seen;
          last = w'.last;
          stage = z;
          frozen = w'.frozen;
          spare = w'.spare;
          aim = w'.aim;
          old = w'.old;
          drawn = w'.drawn;
          spilled = w'.spilled;
          overran = o;
          held = n;
        } in
        subst (λ z. P z w'.overran (v.held - stored)) (a.rests ∙ sym rests)
        (subst (λ n. P w'.stage w'.overran n) held
        (subst (λ o. P w'.stage o w'.held) overran a.same))

    adds : AddsSome x who turn rank (take stored items) (refused_of stop (drop stored items)) a.history v.mine (known w')
    adds = record {
      some = h.some;
      seen = a.seen;
      mine = a.mine;
      all_mine = a.of_seen;
      told = ap entries a.seen ∙ entries_some turn who rank (take stored items) (refused_of stop (drop stored items)) a.history;
      frozen = subst (λ n. IsFrozen x.layout Push n (after a.history)) (sym a.frozen_is) a.still;
      legal = a.legal;
      since = a.since;
    }

    entered : DrawsSome x items who turn rank stored stop v w'
    entered = record {
      history = a.history;
      goes_on = a.goes_on;
      stood = stood;
      old = a.old_is;
      last = a.last;
      cells = is ∙ ap (λ n. places_in (2 ^ 32 + n) rank (length items)) (room_same x.layout x.blocks pages w'.frozen u a.frozen_is);
      stops = subst (λ n. StopsAt (2 ^ 32 + n) (spare_at x.layout w'.spare) (rank + length items) stop) (room_same x.layout x.blocks pages w'.frozen u a.frozen_is)
          (subst (λ n. StopsAt (cells_end x pages) n (rank + length items) stop) (spare_same x.layout free w'.spare u a.spare_is) fits);
      gains = inl adds;
      keeps = keeps_some x.layout pages free w'.frozen w'.spare v u stage loaded a.frozen_is a.spare_is;
      spills = record {
        spilled = a.spilled_is ∙ ap (λ (y : BayView). y.spilled + overflows_of stop) loaded;
        overran = omega (arith, overran);
      };
    }

  module _ (h : HasMissed x who turn items pages free rank stored stop u w) (same : w' ≡ w) where
    e : w' ≡ overflowed v turn (frozen_after x.layout u pages) (spare_after x.layout u free) rank (v.spilled + 1) v.overran
    e = same ∙ (h.view ∙ ap (λ (y : BayView). overflowed y turn (frozen_after x.layout u pages) (spare_after x.layout u free) rank (y.spilled + 1) y.overran) loaded)

    frozen_is : w'.frozen ≡ frozen_after x.layout u pages
    frozen_is = ap (λ (y : BayView). y.frozen) e

    spare_is : w'.spare ≡ spare_after x.layout u free
    spare_is = ap (λ (y : BayView). y.spare) e

    left : w' ≡ view_calling v w' (v.held - stored)
    left =
        let F : Stage → ℕ → BayView = λ z n. record v {
          last = turn;
          stage = z;
          frozen = frozen_after x.layout u pages;
          spare = spare_after x.layout u free;
          old = rank;
          drawn = v.drawn + 1;
          spilled = v.spilled + 1;
          held = n;
        } in
        let kept : v.held ≡ v.held - stored = omega (arith, h.none) in
        let is_left : w' ≡ F v.stage (v.held - stored) = e ∙ (ap (λ z. F z v.held) (sym rests) ∙ ap (F v.stage) kept) in
        subst (λ y. y ≡ view_calling v y (v.held - stored)) (sym is_left) refl

    missed : DrawsSome x items who turn rank stored stop v w'
    missed = record {
      history = h.history;
      goes_on = subst (λ (y : BayView). GoesOn h.history y.seen) loaded h.goes_on;
      stood = subst (λ n. Stood x.layout x.blocks who turn Push n w'.spare rank h.history) (sym frozen_is)
          (subst (λ n. Stood x.layout x.blocks who turn Push (frozen_after x.layout u pages) n rank h.history) (sym spare_is) h.stood);
      old = ap (λ (y : BayView). y.old) e;
      last = ap (λ (y : BayView). y.last) e;
      cells = is ∙ ap (λ n. places_in (2 ^ 32 + n) rank (length items)) (room_same x.layout x.blocks pages w'.frozen u frozen_is);
      stops = subst (λ n. StopsAt (2 ^ 32 + n) (spare_at x.layout w'.spare) (rank + length items) stop) (room_same x.layout x.blocks pages w'.frozen u frozen_is)
          (subst (λ n. StopsAt (cells_end x pages) n (rank + length items) stop) (spare_same x.layout free w'.spare u spare_is) fits);
      gains = inr (
        nothing stored stop items h.none h.over,
        record {
          mine = ap (λ (y : BayView). y.mine) e;
          seen = ap (λ (y : BayView). y.seen) e;
          aim = ap (λ (y : BayView). y.aim) e;
        },
      );
      keeps = keeps_some x.layout pages free w'.frozen w'.spare v u stage loaded frozen_is spare_is;
      spills = record {
        spilled = ap (λ (y : BayView). y.spilled) e ∙ ap (λ s. v.spilled + overflows_of s) (sym h.over);
        overran = omega (arith, ap (λ (y : BayView). y.overran) e);
      };
    }

  pub drawn : HasCome x who turn items pages free rank stored stop u w → Fills w w' → (stored ≡ 0 → w' ≡ w)
      → HasDrawn x items who turn rank (record { stored = stored; stop = stop }) v w'
  drawn come fills none = elim come [
    | inl h ↦ record { draws = entered h fills; drawn = (a h fills).drawn; view = view h fills }
    | inr h ↦ (let same = none h.none in record {
      draws = missed h same;
      drawn = ap (λ (y : BayView). y.drawn) (e h same);
      view = left h same;
    })
  ]

-- by where the cells end and the free blocks, as the code has them
module _ (x : BayUse) (who turn : ℕ) (items : List ℕ) (pages free rank new bound spare count : ℕ) (h : Handful) (u w : BayView)
    (told : push_some_told x.layout x.blocks turn who items pages free u rank new w) (some : 1 ≤ length items)
    (bound_is : bound ≡ cells_end x pages) (spare_is : spare ≡ spare_at x.layout free) (count_is : count ≡ length items)
    (stored : h.stored ≡ places_in bound rank count) (stops : StopsAt bound spare (rank + count) h.stop) where
  places : h.stored ≡ places_in (cells_end x pages) rank (length items)
  places = subst (λ n. h.stored ≡ places_in (cells_end x pages) rank n) count_is
      (subst (λ n. h.stored ≡ places_in n rank count) bound_is stored)

  fitting : StopsAt (cells_end x pages) (spare_at x.layout free) (rank + length items) h.stop
  fitting = subst (λ n. StopsAt (cells_end x pages) (spare_at x.layout free) (rank + n) h.stop) count_is
      (subst (λ n. StopsAt (cells_end x pages) n (rank + count) h.stop) spare_is
      (subst (λ n. StopsAt n spare (rank + count) h.stop) bound_is stops))

  come : HasCome x who turn items pages free rank h.stored h.stop u w
  come = came x who turn items pages free rank new u w told h.stored h.stop some places fitting

  -- what it has still to do before its stores
  pub stage_then : w.stage ≡ filling (rank - 2 ^ 32) (take h.stored items)
  stage_then = stage_some x who turn items pages free rank h.stored h.stop u w come

  -- and what it leaves after them
  pub handful_drawn : (v w' : BayView) (stage : Stage) → v.stage ≡ Resting → u ≡ staged v stage → Fills w w'
      → (length (take h.stored items) ≡ 0 → w' ≡ w) → HasDrawn x items who turn rank h v w'
  handful_drawn v w' stage rests loaded fills none =
      drawn x who turn items pages free rank h.stored h.stop v u w w' stage rests loaded places fitting come fills
      (λ e. none (omega (arith, e, length-take h.stored items)))
