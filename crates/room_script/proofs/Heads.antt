-- The first three lines of a schedule.
use Rattle.std.proofs.Common.{◌≡◌, ◌≢◌, ℕ, ◌+◌, ◌<◌, List, [], ◌∷◌, ◌++◌, length, get_or, take, ap, sym, refl, ◌∙◌, arith}
use Rattle.std.specs.Prelude.{codes, All}
use Rattle.std.proofs.lemmas.List.{length-take, length-append, get_or_append_left, get_or-take}
use Rattle.std.proofs.lemmas.List.Elements.{All-nil}
use Rattle.room_script.specs.Breaks.{Begins, BreaksAt}
use Rattle.room_script.specs.Schedules.{Plan, IsRooms, IsCallers, IsAct, rooms_line, callers_line, plan_lines, Spells, IsSchedule}
use Rattle.room_script.proofs.Fronts.{breaks_next}

-- some numbers of rooms and callers spell a schedule without acts
short : (rooms callers : ℕ) → IsRooms rooms → IsCallers callers → IsSchedule (codes "schedule 1" ∷ rooms_line rooms ∷ callers_line callers ∷ [])
short rooms callers is_rooms is_callers =
    (record { rooms = rooms; callers = callers; acts = [] }, record { rooms = is_rooms; callers = is_callers; acts = All-nil IsAct; spelled = refl })

one_room : IsRooms 1
one_room = (omega arith, omega arith)

one_caller : IsCallers 1
one_caller = (omega arith, omega arith)

-- the line of some schedule that stands where this one does
pub begun_at : (lines : List (List ℕ)) (i : ℕ) → i < length lines → Begins IsSchedule (take (i + 1) lines)
    → (p : Plan) × IsRooms p.rooms × IsCallers p.callers × All IsAct p.acts × (get_or lines i [] ≡ get_or (plan_lines p) i []) × (i < length (plan_lines p))
begun_at lines i within begins =
    let p = begins.1.0 in
    let spells = begins.1.1 in
    let inside : i < length (take (i + 1) lines) = omega (arith, length-take (i + 1) lines) in
    let same : get_or (take (i + 1) lines ++ begins.0) i [] ≡ get_or lines i [] = get_or_append_left (take (i + 1) lines) begins.0 [] i inside ∙ get_or-take (i + 1) lines i [] (omega arith) in
    (p, spells.rooms, spells.callers, spells.acts, sym same ∙ ap (λ xs. get_or xs i []) spells.spelled, omega (arith, inside, length-append (take (i + 1) lines) begins.0, ap length spells.spelled))

-- a schedule has three lines at least
pub too_short : (lines : List (List ℕ)) → length lines < 3 → IsSchedule lines → ⊥
too_short lines few keeps = omega (arith, few, ap length keeps.1.spelled)

pub head_spelled : (lines : List (List ℕ)) (rooms callers : ℕ) → get_or lines 0 [] ≡ codes "schedule 1" → IsRooms rooms × (get_or lines 1 [] ≡ rooms_line rooms)
    → IsCallers callers × (get_or lines 2 [] ≡ callers_line callers) → Spells (take 3 lines) (record { rooms = rooms; callers = callers; acts = [] })
head_spelled [] rooms callers title second third = absurd (omega (arith, ap length title))
head_spelled (x ∷ []) rooms callers title second third = absurd (omega (arith, ap length second.1))
head_spelled (x ∷ y ∷ []) rooms callers title second third = absurd (omega (arith, ap length third.1))
head_spelled (x ∷ y ∷ z ∷ more) rooms callers title second third = record { rooms = second.0; callers = third.0; acts = All-nil IsAct; spelled = cc }

pub title_breaks : (lines : List (List ℕ)) → get_or lines 0 [] ≢ codes "schedule 1" → BreaksAt IsSchedule lines 1
title_breaks lines wrong =
    breaks_next IsSchedule lines 0 (omega arith) (codes "schedule 1" ∷ rooms_line 1 ∷ callers_line 1 ∷ [], short 1 1 one_room one_caller)
    (λ within begins. wrong (begun_at lines 0 within begins).4)
    (λ ends. too_short lines (omega (arith, ends)))

pub rooms_break : (lines : List (List ℕ)) → get_or lines 0 [] ≡ codes "schedule 1" → ((m : ℕ) → IsRooms m × (get_or lines 1 [] ≡ rooms_line m) → ⊥) → BreaksAt IsSchedule lines 2
rooms_break [] title wrong = absurd (omega (arith, ap length title))
rooms_break (x ∷ more) title wrong =
    breaks_next IsSchedule (x ∷ more) 1 (omega arith) (rooms_line 1 ∷ callers_line 1 ∷ [], rw title (short 1 1 one_room one_caller))
    (λ within begins. let at = begun_at (x ∷ more) 1 within begins in wrong at.0.rooms (at.1, at.4))
    (λ ends. too_short (x ∷ more) (omega (arith, ends)))

pub callers_break : (lines : List (List ℕ)) (rooms : ℕ) → get_or lines 0 [] ≡ codes "schedule 1" → IsRooms rooms × (get_or lines 1 [] ≡ rooms_line rooms)
    → ((n : ℕ) → IsCallers n × (get_or lines 2 [] ≡ callers_line n) → ⊥) → BreaksAt IsSchedule lines 3
callers_break [] rooms title second wrong = absurd (omega (arith, ap length title))
callers_break (x ∷ []) rooms title second wrong = absurd (omega (arith, ap length second.1))
callers_break (x ∷ y ∷ more) rooms title second wrong =
    breaks_next IsSchedule (x ∷ y ∷ more) 2 (omega arith) (callers_line 1 ∷ [], rw (title, second.1) (short rooms 1 second.0 one_caller))
    (λ within begins. let at = begun_at (x ∷ y ∷ more) 2 within begins in wrong at.0.callers (at.2, at.4))
    (λ ends. too_short (x ∷ y ∷ more) (omega (arith, ends)))
