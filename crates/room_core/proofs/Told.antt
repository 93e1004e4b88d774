-- What the state says of the moments that led to it.
use Rattle.std.proofs.Common.{◌≡◌, ℕ, ◌+◌, ◌<◌, cond, List, ◌∷◌, length, get_or, set, Some, None, refl, sym, ap, ◌∙◌, subst, arith, eqb}
use Rattle.std.proofs.lemmas.Bool.{cond-true, cond-false, eq-eqb, ne_eqb}
use Rattle.room_core.specs.declared.acts.Act.{Act}
use Rattle.room_core.specs.declared.phases.Phase.{Phase}
use Rattle.room_core.specs.declared.phases.Phase.TheVariants.{Out, Looking, Glancing, Seizing, Counting, Admitting, Turning, Inside, Exiting, Peering, Scanning, Passing}
use Rattle.room_core.specs.declared.acts.Act.TheVariants.{Draw, Step, Leave}
use Rattle.room_core.specs.declared.words.Touch.TheVariants.{Add}
use Rattle.room_core.specs.declared.words.Word.TheVariants.{Wait}
use Rattle.room_core.specs.Words.{Words, touched}
use Rattle.room_core.specs.Machine.{Row, quiet}
use Rattle.room_core.specs.Active.{seen}
use Rattle.room_core.specs.Runs.{Moment}
use Rattle.room_core.specs.Trace.{first_by}
use Rattle.room_core.proofs.Lists.{each_set}
use Rattle.room_core.proofs.Invariant.{ticket_of, room_of, phase}
use Rattle.room_core.proofs.Went.{Went, drawn, found, missed, saw_idle, saw_busy, won, lost, counted_wait, opened, opened_in, entered, left, left_last, exited, chose, ended, went_on, scanned, passed, rested}
use Rattle.room_core.proofs.Due.{first_of}
use Rattle.room_core.proofs.Backward.{draws, draw_by, last_draw, first_in, wait_by, draws_at_load}

-- the moment of a row
abbrev pub moment : ℕ → Act → Row → Moment
moment c act row = record { caller = c; act = act; event = row.1 }

abbrev pub LoadedAt : ℕ → List Moment → Phase → Type 0
LoadedAt d history (Admitting room ticket first turn to) = draws_at_load d room history ≡ to
LoadedAt d history _ = Unit {0}

-- what the moments say of a caller in this phase
pub record Told (history : List Moment) (d : ℕ) (p : Phase) : Type 0 where
  pub ticket : 0 < ticket_of p → last_draw d history ≡ Some (room_of p, ticket_of p)
  pub first : 0 < ticket_of p → first_in d history ≡ first_of p
  pub loaded : LoadedAt d history p

pub record Tie (s : Words) (ps : List Phase) (history : List Moment) : Type 0 where
  pub drawn : (r : ℕ) → draws r history ≡ get_or s.wait r 0
  pub each : (d : ℕ) → Told history d (phase ps d)

-- a moment of another caller says nothing new
loaded_other : (history : List Moment) (m : Moment) (d : ℕ) (p : Phase) → (m.caller ≡ d → ⊥)
    → LoadedAt d history p → LoadedAt d (m ∷ history) p
loaded_other history m d (Admitting room ticket first turn to) ne l =
    cond-false (eqb m.caller d)
    (wait_by room m.event.touch (draws room history) (draws_at_load d room history))
    (draws_at_load d room history) (ne_eqb m.caller d ne)
    ∙ l
loaded_other history m d Out ne l = tt
loaded_other history m d (Looking _ _ _) ne l = tt
loaded_other history m d (Glancing _ _ _) ne l = tt
loaded_other history m d (Seizing _ _ _ _) ne l = tt
loaded_other history m d (Counting _ _ _ _) ne l = tt
loaded_other history m d (Turning _ _ _ _) ne l = tt
loaded_other history m d (Inside _ _ _ _ _) ne l = tt
loaded_other history m d (Exiting _ _) ne l = tt
loaded_other history m d (Peering _ _ _ _) ne l = tt
loaded_other history m d (Scanning _ _ _) ne l = tt
loaded_other history m d (Passing _ _) ne l = tt

told_other : (history : List Moment) (m : Moment) (d : ℕ) (p : Phase) → (m.caller ≡ d → ⊥)
    → Told history d p → Told (m ∷ history) d p
told_other history m d p ne t = record {
  ticket =
      λ h.
      cond-false (eqb m.caller d) (draw_by m.act history (last_draw d history))
      (last_draw d history) (ne_eqb m.caller d ne)
      ∙ t.ticket h;
  first =
      λ h.
      cond-false (eqb m.caller d) (first_by m.act m.event.touch (first_in d history))
      (first_in d history) (ne_eqb m.caller d ne)
      ∙ t.first h;
  loaded = loaded_other history m d p ne t.loaded;
}

told_own : (history : List Moment) (m : Moment) (p : Phase)
    → (0 < ticket_of p → draw_by m.act history (last_draw m.caller history) ≡ Some (room_of p, ticket_of p))
    → (0 < ticket_of p → first_by m.act m.event.touch (first_in m.caller history) ≡ first_of p)
    → LoadedAt m.caller (m ∷ history) p → Told (m ∷ history) m.caller p
told_own history m p a b l = record {
  ticket =
      λ h.
      cond-true (eqb m.caller m.caller) (draw_by m.act history (last_draw m.caller history))
      (last_draw m.caller history) (eq-eqb m.caller m.caller refl)
      ∙ a h;
  first =
      λ h.
      cond-true (eqb m.caller m.caller) (first_by m.act m.event.touch (first_in m.caller history))
      (first_in m.caller history) (eq-eqb m.caller m.caller refl)
      ∙ b h;
  loaded = l;
}

mine : (c : ℕ) (s : Words) (history : List Moment) (p : Phase) (act : Act) (row : Row)
    → Went c s p act row → ((r : ℕ) → draws r history ≡ get_or s.wait r 0) → Told history c p
    → Told (moment c act row ∷ history) c row.0
mine c s h p act row (drawn r hr) dr t =
    told_own h
    (moment c (Draw r)
    (quiet (Looking r (get_or s.wait r 0 + 1) None) (Add (Wait r) (get_or s.wait r 0)))) _
    (λ _. ap (λ v. Some (r, v + 1)) (dr r)) (λ _. refl) tt
mine c s h p act row (found room ticket first le) dr t =
    told_own h (moment c Step row) _ t.ticket t.first tt
mine c s h p act row (missed room ticket first le) dr t =
    told_own h (moment c Step row) _ t.ticket t.first tt
mine c s h p act row (saw_idle room ticket first z) dr t =
    told_own h (moment c Step row) _ t.ticket (λ w. ap (λ f. seen f s.active) (t.first w)) tt
mine c s h p act row (saw_busy room ticket first) dr t =
    told_own h (moment c Step row) _ t.ticket (λ w. ap (λ f. seen f s.active) (t.first w)) tt
mine c s h p act row (won room ticket first) dr t =
    told_own h (moment c Step row) _ t.ticket t.first tt
mine c s h p act row (lost room ticket first idle) dr t =
    told_own h (moment c Step row) _ t.ticket t.first tt
mine c s h p act row (counted_wait room ticket first turn) dr t =
    told_own h (moment c Step row) _ t.ticket t.first
    (cond-true (eqb c c) (cond (eqb room room) (draws room h) (draws_at_load c room h)) (draws_at_load c room h) (eq-eqb c c refl)
    ∙ cond-true (eqb room room) (draws room h) (draws_at_load c room h) (eq-eqb room room refl) ∙ dr room)
mine c s h p act row (opened_in room ticket first turn to) dr t =
    told_own h (moment c Step row) _ t.ticket t.first tt
mine c s h p act row (entered room ticket first to) dr t =
    told_own h (moment c Step row) _ t.ticket (λ w. ap (λ f. seen f s.active) (t.first w)) tt
mine c s h p act row (left room ticket first turn to short) dr t =
    told_own h (moment c Leave row) _ (λ z. absurd (omega arith)) (λ z. absurd (omega arith)) tt
mine c s h p act row (left_last room ticket first turn to full) dr t =
    told_own h (moment c Leave row) _ (λ z. absurd (omega arith)) (λ z. absurd (omega arith)) tt
mine c s h p act row went dr t =
    told_own h (moment c Step row) _ (λ z. absurd (omega arith)) (λ z. absurd (omega arith)) tt

draws_went : (c : ℕ) (s : Words) (history : List Moment) (p : Phase) (act : Act) (row : Row)
    → Went c s p act row → ((r : ℕ) → draws r history ≡ get_or s.wait r 0)
    → (r : ℕ) → draws r (moment c act row ∷ history) ≡ get_or (touched s row.1.touch).wait r 0
draws_went c s h p act row (drawn q hq) dr =
    each_set (λ r v. cond (eqb q r) 1 0 + draws r h ≡ v) s.wait q (get_or s.wait q 0 + 1) 0 hq
    (omega (arith, cond-true {A = ℕ} (eqb q q) 1 0 (eq-eqb q q refl), dr q))
    (λ r ne. omega (arith, cond-false {A = ℕ} (eqb q r) 1 0 (ne_eqb q r (λ e. ne (sym e))), dr r))
draws_went c s h p act row went dr = λ r. omega (arith, dr r)

pub tie_went : (c : ℕ) (s : Words) (ps : List Phase) (history : List Moment) (p : Phase) (act : Act) (row : Row)
    → Went c s p act row → c < length ps → phase ps c ≡ p → Tie s ps history
    → Tie (touched s row.1.touch) (set ps c row.0) (moment c act row ∷ history)
tie_went c s ps history p act row w h e t = record {
  drawn = draws_went c s history p act row w t.drawn;
  each = each_set (λ d q. Told (moment c act row ∷ history) d q) ps c row.0 Out h
      (mine c s history p act row w t.drawn (subst (Told history c) e (t.each c)))
      (λ d ne. told_other history (moment c act row) d (phase ps d) (λ q. ne (sym q)) (t.each d));
}
