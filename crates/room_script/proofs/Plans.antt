-- The acts of a schedule, line by line, and what the lines say as a whole.
use Rattle.std.proofs.Common.{◌≡◌, ℕ, zero, suc, ◌+◌, ◌<◌, ◌≤◌, List, [], ◌∷◌, ◌++◌, length, get_or, take, drop, map, ap, sym, refl, ◌∙◌, arith}
use Rattle.std.specs.Prelude.{codes, All, Result, Err}
use Rattle.std.proofs.lemmas.Fmt.{decimal_injective}
use Rattle.std.proofs.lemmas.List.{append_cancel_left, append-nil, take_more, take_all, length-map, get_or-map, map_push}
use Rattle.std.proofs.lemmas.List.Elements.{All-head, All-tail, All-get_or, All-push}
use Rattle.room_core.specs.declared.acts.Act.{Act}
use Rattle.room_core.specs.declared.acts.Act.TheVariants.{Step}
use Rattle.room_script.specs.declared.faults.ScriptFault.{ScriptFault}
use Rattle.room_script.specs.declared.faults.ScriptFault.TheVariants.{Line}
use Rattle.room_script.specs.declared.pieces.Piece.{Piece}
use Rattle.room_script.specs.Lines.{bytes_at}
use Rattle.room_script.specs.Breaks.{BreaksAt}
use Rattle.room_script.specs.Schedules.{Plan, IsAct, act_line, rooms_line, callers_line, plan_lines, Spells, IsSchedule}
use Rattle.room_script.proofs.Acts.{act_line-injective}
use Rattle.room_script.proofs.Fronts.{breaks_next}
use Rattle.room_script.proofs.Heads.{begun_at}

abbrev pub plan : ℕ → ℕ → List (ℕ × Act) → Plan
plan rooms callers acts = record { rooms = rooms; callers = callers; acts = acts }

-- one more line, and one more act
pub act_more : (lines : List (List ℕ)) (rooms callers : ℕ) (acts : List (ℕ × Act)) (i : ℕ) (a : ℕ × Act) → Spells (take i lines) (plan rooms callers acts) → i < length lines
    → IsAct a × (get_or lines i [] ≡ act_line a) → Spells (take (i + 1) lines) (plan rooms callers (acts ++ a ∷ []))
act_more lines rooms callers acts i a front within is = record {
  rooms = front.rooms;
  callers = front.callers;
  acts = All-push IsAct acts a front.acts is.0;
  spelled = take_more lines i [] within ∙ (ap (λ xs. xs ++ get_or lines i [] ∷ []) front.spelled
      ∙ (ap (λ x. plan_lines (plan rooms callers acts) ++ x ∷ []) is.1 ∙ ap (λ xs. codes "schedule 1" ∷ rooms_line rooms ∷ callers_line callers ∷ xs) (sym (map_push act_line acts a))));
}

-- a line after the first three that is no act's
pub act_breaks : (lines : List (List ℕ)) (rooms callers : ℕ) (acts : List (ℕ × Act)) (i : ℕ) → Spells (take i lines) (plan rooms callers acts) → 3 ≤ i → i < length lines
    → ((a : ℕ × Act) → IsAct a × (get_or lines i [] ≡ act_line a) → ⊥) → BreaksAt IsSchedule lines (i + 1)
act_breaks lines rooms callers acts (suc (suc (suc j))) front past within wrong =
    let i : ℕ = suc (suc (suc j)) in
    breaks_next IsSchedule lines i (omega arith) ([], (plan rooms callers acts, rw append-nil front))
    (λ inside begins.
    let at = begun_at lines i inside begins in
    let inside : j < length at.0.acts = omega (arith, at.5, length-map at.0.acts act_line) in
    wrong (get_or at.0.acts j (0, Step)) (All-get_or IsAct at.0.acts j (0, Step) inside at.3, at.4 ∙ get_or-map act_line at.0.acts j (0, Step) [] inside))
    (λ ends. absurd (omega arith))
act_breaks lines rooms callers acts zero front past within wrong = absurd (omega arith)
act_breaks lines rooms callers acts (suc zero) front past within wrong = absurd (omega arith)
act_breaks lines rooms callers acts (suc (suc zero)) front past within wrong = absurd (omega arith)

-- the line at a place
pub line_is : (text : List ℕ) (pieces : List Piece) (i : ℕ) (line : Piece) → i < length pieces → line ≡ get_or pieces i line → get_or (map (bytes_at text) pieces) i [] ≡ bytes_at text line
line_is text pieces i line within is = get_or-map (bytes_at text) pieces i line [] within ∙ ap (bytes_at text) (sym is)

-- the lines as a whole
pub all_read : (lines : List (List ℕ)) (p : Plan) (i : ℕ) → length lines ≤ i → Spells (take i lines) p → Spells lines p
all_read lines p i past front = rw (take_all i lines past) at front

acts_same : (xs ys : List (ℕ × Act)) → All IsAct xs → All IsAct ys → map act_line xs ≡ map act_line ys → xs ≡ ys
acts_same [] [] fits fits' e = refl
acts_same [] (y ∷ ys) fits fits' e = absurd (omega (arith, ap length e))
acts_same (x ∷ xs) [] fits fits' e = absurd (omega (arith, ap length e))
acts_same (x ∷ xs) (y ∷ ys) fits fits' e =
    let heads : act_line x ≡ act_line y = ap (λ ls. get_or ls 0 []) e in
    let tails : map act_line xs ≡ map act_line ys = ap (drop 1) e in
    ap (λ z. z ∷ xs) (act_line-injective x y (All-head IsAct x xs fits) (All-head IsAct y ys fits') heads)
    ∙ ap (λ zs. y ∷ zs) (acts_same xs ys (All-tail IsAct x xs fits) (All-tail IsAct y ys fits') tails)

-- lines say one thing
pub plan_same : (lines : List (List ℕ)) (p q : Plan) → Spells lines p → Spells lines q → p ≡ q
plan_same lines p q first second =
    let e : plan_lines p ≡ plan_lines q = sym first.spelled ∙ second.spelled in
    let rooms = decimal_injective p.rooms q.rooms (omega (arith, first.rooms)) (omega (arith, second.rooms)) (append_cancel_left (codes "rooms ") _ _ (ap (λ ls. get_or ls 1 []) e)) in
    let callers = decimal_injective p.callers q.callers (omega (arith, first.callers)) (omega (arith, second.callers)) (append_cancel_left (codes "callers ") _ _ (ap (λ ls. get_or ls 2 []) e)) in
    let acts = acts_same p.acts q.acts first.acts second.acts (ap (drop 3) e) in
    ap (λ n. plan n p.callers p.acts) rooms ∙ (ap (λ n. plan q.rooms n p.acts) callers ∙ ap (λ xs. plan q.rooms q.callers xs) acts)

-- the number of a fault's line
pub fault_line : {T : Type 0} (j k : ℕ) → ◌≡◌ {A = Result T ScriptFault} (Err (Line j)) (Err (Line k)) → j ≡ k
fault_line j k e = cc
