-- An insider finds its turn and its room in the active word.
use Rattle.std.proofs.Common.{◌≡◌, ℕ, ◌+◌, ◌<◌, ◌≤◌, Option, List, get_or, set, refl, sym, ap, ◌∙◌, subst, arith}
use Rattle.std.proofs.lemmas.List.{set-get_or}
use Rattle.atomic_table.specs.Table.{keeps}
use Rattle.room_core.specs.declared.phases.Phase.{Phase}
use Rattle.room_core.specs.declared.phases.Phase.TheVariants.{Inside}
use Rattle.room_core.specs.Runs.{World, Reached}
use Rattle.room_core.specs.Machine.{phase_of}
use Rattle.room_core.specs.Trace.{trace, is_exiting}
use Rattle.room_core.specs.Active.{turn_of, code_of}
use Rattle.room_core.proofs.Invariant.{ticket_of, room_of, Fits}
use Rattle.room_core.proofs.Rows.{admitted_open, fits_at}
use Rattle.room_core.proofs.Facts.{sound, insider, held_turn}
use Rattle.room_core.proofs.Admitting.{length_opened}
use Rattle.room_rule.specs.Use.{Meaning}
use Rattle.room_rule.specs.Callers.{after_step}
use Rattle.room_rule.specs.Openings.{world_openings}
use Rattle.room_rule.specs.Looking.{looked_again, Finds, looked_by}
use Rattle.room_rule.specs.Rule.{Knows}
use Rattle.room_rule.specs.Told.{Seated, IsNoEvent}
use Rattle.room_rule.specs.declared.rule.Plan.{Plan}
use Rattle.room_rule.specs.declared.views.Role.{Role}
use Rattle.room_rule.specs.declared.views.Role.TheVariants.{Pass}
use Rattle.room_rule.specs.declared.views.Shown.{Shown}
use Rattle.room_rule.proofs.Opened.{numbered}
use Rattle.room_rule.proofs.Acts.{Rule, mine}
use Rattle.room_rule.proofs.Seats.{with_views, with_seats, So, Kept}

module _ (m n : ℕ) (few : m ≤ 7) (crowd : n ≤ 64) (w : World) (reached : Reached m n w) where
  -- while a caller is inside, the active word is that of its room and turn
  word_inside : (c room ticket turn to : ℕ) (first : Option ℕ)
      → phase_of w.state c ≡ Inside room ticket first turn to
      → (turn_of w.state.words.active ≡ turn) × (code_of w.state.words.active ≡ room + 1)
  word_inside c room ticket turn to first e =
      let a = sound m n few crowd w reached in
      let s = w.state.words in let t = trace w.history in
      let p : Phase = Inside room ticket first turn to in
      let f : Fits s (is_exiting t) p = fits_at s w.state.phases t c p a.good.inv e in
      let some : 0 < ticket_of (phase_of w.state c) =
      subst (λ (z : Phase). 0 < ticket_of z) (sym e) f.0.some in
      let low : ticket_of (phase_of w.state c) ≤ get_or s.grant (room_of (phase_of w.state c)) 0 =
      subst (λ (z : Phase). ticket_of z ≤ get_or s.grant (room_of z) 0) (sym e) f.0.granted in
      let held : get_or s.done room 0 < get_or s.grant room 0 =
      subst (λ (z : Phase). get_or s.done (room_of z) 0 < get_or s.grant (room_of z) 0) e
      (admitted_open s w.state.phases t c a.good.inv some low) in
      (sym f.1, (let code = (a.good.inv.open_room room held).code in omega arith))

module _ {X S V : Type 0} (M : Meaning X S V) (m : ℕ) (k : Plan X) where
  pub looks_again : (slots id : ℕ) (me : Seated S V) → me.0.role ≡ Pass
      → IsNoEvent M m k slots id me 0 (λ n. n) (looked_by me)
  unfolding with_seats
  looks_again slots id me is s r _ here _ =
      let v : Shown V = me.0 in let w = r.world in let t = trace w.history in
      let n : ℕ = get_or s.words 0 0 in let now : Shown V = looked_again v n in
      let h = mine M m k s r id v here is in
      let so : So M m k s r id now =
      subst (λ (z : Role). Knows w r.content.views r.roll id z now) (sym is) (record {
        seat = h.seat;
        made = h.made;
        phase = h.phase;
        draws = h.draws;
        user = h.user;
        seen = h.seen;
        known = h.known;
      }) in
      let found : n ≡ w.state.words.active = ap (λ (l : List ℕ). get_or l 0 0) r.words in
      let same : set s.words 0 n ≡ s.words = set-get_or s.words 0 0 in
      let finds : (room ticket turn to : ℕ) (first : Option ℕ)
      → v.phase ≡ Inside room ticket first turn to → Finds v room turn n =
      λ room ticket turn to first at.
      let phase : phase_of w.state v.who ≡ Inside room ticket first turn to = h.phase ∙ at in
      let in_it = insider m k.callers r.few_rooms r.few_callers w r.reached v.who room ticket turn
      to first phase in
      let word = word_inside m k.callers r.few_rooms r.few_callers w r.reached v.who room ticket turn
      to first phase in
      record {
        turn_is = ap turn_of found ∙ word.0;
        code_is = ap code_of found ∙ word.1;
        openings = world_openings w;
        long = length_opened t
            ∙ sym (held_turn m k.callers r.few_rooms r.few_callers w r.reached room turn to
            in_it.0.now);
        numbered =
            (numbered w.history
            (sound m k.callers r.few_rooms r.few_callers w r.reached).more.lawful).turn;
        seen = h.seen;
        known = h.known;
      } in (
        now,
        keeps,
        tt,
        subst (λ (l : List ℕ). (after : Rule M m k
            (record { words = l; homes = s.homes; views = set s.views id now }))
            × (after.world ≡ w)) (sym same) (
              with_views M m k s r (set s.views id now)
                  (after_step (So M m k s r) s.views id now so (λ j d _ e. r.each j d e))
                  (after_step (Kept M m k s r) s.views id now (r.kept id v here) (λ j d _ e. r.kept j d e)),
              refl,
            ),
        (refl, finds),
      )
