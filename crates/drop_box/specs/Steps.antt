-- Each step of a drop box keeps what holds of it.
use Rattle.std.proofs.Common.{◌≡◌, ◌≢◌, ℕ, ◌+◌, ◌^◌, ◌<◌, ⊎_elim, Bool, true, false, Option, List, length, set, sym, refl, ap, subst, arith, ◌∙◌, eq-eqb, ne_eqb}
use Rattle.std.specs.Prelude.{slice_index, slice_set, ◌==◌}
use Rattle.std.proofs.lemmas.Bool.{cases_eq}
use Rattle.std.proofs.lemmas.List.{get_or-set_same, get_or-set_other}
use Rattle.room_core.specs.Gate.{Gate, Held, Keyed}
use Rattle.room_rule.specs.Use.{Meaning, Content, written, rewritten, StandsInside, HasKey, StandsOutside}
use Rattle.room_rule.specs.Callers.{sum_after}
use Rattle.drop_box.specs.declared.uses.Visit.{Visit}
use Rattle.drop_box.specs.Box.{turnstile, bell, through, TurnstileShows, Boxed, box_meaning}
use Rattle.drop_box.specs.Keeping.{not_both, not_kept, slot_stays, slot_leaves, slot_comes, same_keeper, new_keeper, no_keeper, moved_to}
use Rattle.drop_box.specs.Changing.{one_if, went_same, shows_same, changed}

module _ {X S : Type 0} (x : X) (s : Content S Visit) where
  abbrev M : Meaning X S Visit
  M = box_meaning

  abbrev n : ℕ
  n = slice_index s.words turnstile

  -- a word after it is written, and the other word
  here : (word value : ℕ) → word < length s.words
      → slice_index (slice_set s.words word value) word ≡ value
  here word value long = get_or-set_same s.words word value 0 long

  there : (word other value : ℕ) → other ≢ word
      → slice_index (slice_set s.words word value) other ≡ slice_index s.words other
  there word other value ne = get_or-set_other s.words word other value 0 ne

  -- what the turnstile shows, where it shows the same
  shows_on : (gate : Gate) (k : ℕ) (views : List Visit) → k ≡ n → TurnstileShows gate n views → TurnstileShows gate k views
  shows_on gate k views e h = subst (λ (j : ℕ). TurnstileShows gate j views) (sym e) h

  -- a caller goes through the turnstile
  pub goes_through : (room turn : ℕ) (ins : ℕ → Bool) (who : ℕ) (v : Visit) (contents : Option S)
      → StandsInside M x room turn ins who v s
      → v.last < turn
      → Boxed (written M s who v turnstile (n + 1) (through turn n v) contents)
      (Held room turn ins)
  goes_through room turn ins who v contents st once =
      let h = st.lawful in
      let after : Visit = through turn n v in
      let long = st.sized in
      let one_more = here turnstile (n + 1) (omega arith) in
      let bell_same = there turnstile bell (n + 1) (λ e. omega arith) in
      let count = sum_after (λ (w : Visit). one_if (w.last == turn)) s.views who v after st.view in
      let was_not : ◌≡◌ {A = ℕ} (one_if (v.last == turn)) 0 =
      ap one_if (ne_eqb v.last turn (λ e. omega arith)) in
      let is : ◌≡◌ {A = ℕ} (one_if (turn == turn)) 1 = ap one_if (eq-eqb turn turn refl) in
      let shows = h.shows in
      let kept_none : v.keeps ≡ false = not_kept v.keeps
      (λ k. let m = h.rightly who v st.view k in let in_turn = m.1 in omega arith) in
      changed s (Held room turn ins) who v after _ _ h st.view
      (omega arith) (omega arith) (h.rarely who v st.view)
      (⊎_elim
      (λ (t : n ≡ 0). moved_to (slot_leaves s.slots contents v.keeps (n == 0) kept_none (eq-eqb n 0 t))
      (new_keeper s.slots s.views who v after h.slot st.view st.slotted
      (λ c k. let m = h.rightly c k.0 k.1 k.2 in let above = m.2 in omega arith) (eq-eqb n 0 t)))
      (λ (t : n ≢ 0). let still = ne_eqb n 0 t ∙ sym kept_none in
      moved_to (slot_stays s.slots contents v.keeps (n == 0) still)
      (same_keeper s.slots s.views who v after h.slot st.view still))
      (cases_eq n 0))
      (λ k. (st.inside, refl, omega arith))
      (λ c w m. let above = m.2 in (m.0, m.1, omega arith))

  -- who keeps the slot brings it home
  pub brings_home : (room turn : ℕ) (ins : ℕ → Bool) (who : ℕ) (v : Visit) (contents : Option S)
      → StandsInside M x room turn ins who v s
      → v.keeps ≡ true
      → Boxed (written M s who v turnstile n (record v { keeps = false }) contents)
      (Held room turn ins)
  brings_home room turn ins who v contents st kept =
      let h = st.lawful in
      let after : Visit = record v { keeps = false } in
      let long = st.sized in
      let same = here turnstile n (omega arith) in
      let bell_same = there turnstile bell n (λ e. omega arith) in
      let count = went_same s.views who v after st.view refl turn in
      let shows = h.shows in
      changed s (Held room turn ins) who v after _ _ h st.view
      (omega arith) (omega arith) (h.rarely who v st.view)
      (moved_to (slot_comes s.slots contents v.keeps false kept refl)
      (no_keeper s.slots s.views who v after h.slot st.view st.slotted contents kept refl))
      (λ k. absurd (not_both false refl k))
      (λ c w m. let above = m.2 in (m.0, m.1, omega arith))

  -- the exit code sets the turnstile back
  pub sets_back : (room turn who : ℕ) (v : Visit)
      → HasKey M x room turn who v s
      → Boxed (rewritten s who turnstile 0 v) (Keyed room turn who)
  sets_back room turn who v key =
      let h = key.lawful in
      let bell_same = there turnstile bell 0 (λ e. omega arith) in
      changed s (Keyed room turn who) who v v _ _ h key.view
      tt (omega arith) (h.rarely who v key.view)
      (same_keeper s.slots s.views who v v h.slot key.view refl)
      (λ k. absurd (let m = h.rightly who v key.view k in m.0))
      (λ c w m. absurd m.0)

  -- a caller rings
  pub rings_once : (gate : Gate) (who : ℕ) (v : Visit)
      → StandsOutside M x gate who v s
      → v.rings < 2 ^ 32
      → Boxed (rewritten s who bell (slice_index s.words bell + 1) (record v { rings = v.rings + 1 }))
      gate
  rings_once gate who v st few =
      let h = st.lawful in
      let after : Visit = record v { rings = v.rings + 1 } in
      let value : ℕ = slice_index s.words bell + 1 in
      let long = st.sized in
      let more = here bell value (omega arith) in
      let same = there bell turnstile value (λ e. omega arith) in
      changed s gate who v after _ _ h st.view
      (shows_on gate _ _ same (shows_same gate n s.views (set s.views who after)
      (went_same s.views who v after st.view refl) h.shows))
      (omega arith) (omega arith)
      (same_keeper s.slots s.views who v after h.slot st.view refl)
      (λ k. let m = h.rightly who v st.view k in let above = m.2 in (m.0, m.1, omega arith))
      (λ c w m. let above = m.2 in (m.0, m.1, omega arith))
