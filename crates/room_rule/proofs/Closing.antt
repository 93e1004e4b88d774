-- The close: all passes go into one seat, which keeps their last views.
use Rattle.std.proofs.Common.{◌≡◌, ◌≢◌, ℕ, zero, suc, ◌<◌, ⊎_elim, Bool, true, false, cond, eqb, Option, List, [], ◌∷◌, ◌++◌, length, map, set, sym, refl, ap, ◌∙◌, subst, arith}
use mathlib.Core.Option.{none, some-injective}
use lib.ListN.{get_elem?}
use Rattle.std.proofs.lemmas.Bool.{eq-eqb, ne_eqb}
use Rattle.std.proofs.lemmas.List.{length-map}
use Rattle.atomic_table.specs.Table.{Enters, Joins, Final, Seen}
use Rattle.atomic_table.proofs.Lists.{at_set, at_snoc, set_else}
use Rattle.room_core.specs.declared.phases.Phase.TheVariants.{Out}
use Rattle.room_core.specs.Words.{listed}
use Rattle.room_core.specs.Runs.{World}
use Rattle.room_core.specs.Machine.{phase_of}
use Rattle.room_core.specs.Trace.{trace}
use Rattle.room_core.specs.Trace.{openings}
use Rattle.room_core.specs.Gate.{Shut, gate}
use Rattle.room_core.proofs.Facts.{all_out}
use Rattle.room_core.proofs.Listed.{length-listed}
use Rattle.room_rule.specs.Use.{IsAt, Slots, Meaning}
use Rattle.room_rule.specs.Callers.{at_below, after_step}
use Rattle.room_rule.specs.Laws.{IsKept, Laws}
use Rattle.room_rule.specs.View.{keeper, gone, taken_in}
use Rattle.room_rule.specs.Quietly.{IsQuiet}
use Rattle.room_rule.specs.Rule.{Roll, IsTakenIn, Knows, Ruled}
use Rattle.room_rule.specs.Closes.{AreApart, Ends}
use Rattle.room_rule.specs.declared.rule.Plan.{Plan}
use Rattle.room_rule.specs.declared.views.Role.{Role}
use Rattle.room_rule.specs.declared.views.Role.TheVariants.{Maker, Pass, Note, Keeper, Gone}
use Rattle.room_rule.specs.declared.views.Ended.{Ended}
use Rattle.room_rule.specs.declared.views.Shown.{Shown}
use Rattle.room_rule.proofs.Lists.{none_there, of_map}
use Rattle.room_rule.proofs.Counting.{each_is_in}
use Rattle.room_rule.proofs.Slots.{all_home}
use Rattle.room_rule.proofs.Acts.{Table, Rule, mine, sizes_of}
use Rattle.room_rule.proofs.Seats.{with_views, with_seats, So, Kept}

keeper_not : Keeper ≡ Pass → ⊥
keeper_not e = cc

gone_not : Gone ≡ Pass → ⊥
gone_not e = cc

here_either : (b : Bool) (x id : ℕ) → x ≡ id → cond b id x ≡ id
here_either true x id e = refl
here_either false x id e = e

-- the caller's seat is the keeper's from now on
abbrev with_keeper : Roll → ℕ → ℕ → Roll
with_keeper roll who id =
    record {
      seat_of = λ c. cond (eqb c who) id (roll.seat_of c);
      maker = roll.maker;
      made =
          roll.made;
    }

-- what another seat shows stays so, where one caller goes to the keeper
still_so : {V : Type 0} (world : World) (views : List V) (roll : Roll) (who id other j : ℕ)
    → roll.seat_of who ≡ other → j ≢ other → (role : Role) (x : Shown V)
    → Knows world views roll j role x → Knows world views (with_keeper roll who id) j role x
still_so world views roll who id other j was apart Maker x h = h
still_so world views roll who id other j was apart Note x h = h
still_so world views roll who id other j was apart Gone x h = tt
still_so world views roll who id other j was apart Pass x h =
    let ne : x.who ≢ who = λ e. apart (sym h.seat ∙ (ap roll.seat_of e ∙ was)) in
    record {
      seat = ap (λ (b : Bool). cond b id (roll.seat_of x.who)) (ne_eqb x.who who ne) ∙ h.seat;
      made = h.made;
      phase = h.phase;
      draws = h.draws;
      user = h.user;
      seen = h.seen;
      known = h.known;
    }
still_so world views roll who id other j was apart Keeper x h = λ i e at.
    let q = h i e at in
    let ne : e.who ≢ who = λ f. apart (sym q.seat ∙ (ap roll.seat_of f ∙ was)) in
    record {
      seat = ap (λ (b : Bool). cond b id (roll.seat_of e.who)) (ne_eqb e.who who ne)
          ∙ q.seat;
      made = q.made;
      out = q.out;
      user = q.user;
    }

module _ {X S V : Type 0} (M : Meaning X S V) (m : ℕ) (k : Plan X) where
  -- a new seat is a keeper that has taken in no pass
  pub keeper_has_come : (s : Table M m k) (r : Rule M m k s)
      → IsQuiet M m k s r (s.views ++ keeper M.starts ∷ [])
  unfolding with_seats
  keeper_has_come s r =
      let new = keeper M.starts in (
        with_views M m k s r (s.views ++ new ∷ [])
            (λ j d e. ⊎_elim (λ f. r.each j d f)
            (λ (t : new ≡ d). subst (λ (z : Shown V). So M m k s r j z) t
            (λ i x at. absurd (none_there i x at))) (at_snoc s.views new d j e))
            (λ j d e. ⊎_elim (λ f. r.kept j d f)
            (λ (t : new ≡ d). subst (λ (z : Shown V). Kept M m k s r j z) t
            (λ f. absurd (keeper_not f))) (at_snoc s.views new d j e)),
        refl,
      )

  pub keeper_enters : (slots word : ℕ)
      → Enters (Ruled M m k) slots word (λ n w. w ≡ keeper M.starts)
  keeper_enters slots word s r _ _ = (keeper M.starts, (keeper_has_come s r).0, refl)

  -- all passes of the keeper, with one more
  all_in : (s : Table M m k) (r : Rule M m k s) (id : ℕ) (v w : Shown V)
      → Knows r.world r.content.views r.roll id Keeper v
      → w.who < r.roll.made → phase_of r.world.state w.who ≡ Out → IsAt r.content.views w.who w.user
      → (i : ℕ) (e : Ended V) → IsAt (taken_in v w).ended i e
      → IsTakenIn r.world r.content.views (with_keeper r.roll w.who id) id e
  all_in s r id v w mine made out user zero e at =
      let same : record { who = w.who; user = w.user } ≡ e =
      some-injective (record { who = w.who; user = w.user }) e at in
      subst (λ (z : Ended V).
      IsTakenIn r.world r.content.views (with_keeper r.roll w.who id) id z) same
      (record {
        seat = ap (λ (b : Bool). cond b id (r.roll.seat_of w.who))
            (eq-eqb w.who w.who refl);
        made = made;
        out = out;
        user = user;
      })
  all_in s r id v w mine made out user (suc i) e at = let q = mine i e at in
      record {
        seat = here_either (eqb e.who w.who) (r.roll.seat_of e.who) id q.seat;
        made =
            q.made;
        out = q.out;
        user = q.user;
      }

  -- the keeper takes in a pass
  pub takes_in : (s : Table M m k) (r : Rule M m k s) (id other : ℕ) (v w : Shown V)
      → IsAt s.views id v → IsAt s.views other w → v.role ≡ Keeper → w.role ≡ Pass → w.phase ≡ Out
      → IsQuiet M m k s r (set (set s.views id (taken_in v w)) other (gone M.starts))
  unfolding with_seats
  takes_in s r id other v w at was is its_role out =
      let now = taken_in v w in let end = gone M.starts in
      let roll' = with_keeper r.roll w.who id in
      let So' : ℕ → Shown V → Type 0 = λ j d. Knows r.world r.content.views roll' j d.role d in
      let mine_ = subst (λ (z : Role). Knows r.world r.content.views r.roll id z v) is
      (r.each id v at) in
      let its = mine M m k s r other w was its_role in
      let so : So' id now =
      subst (λ (z : Role). Knows r.world r.content.views roll' id z now) (sym is)
      (all_in s r id v w mine_ its.made (its.phase ∙ out) its.user) in (
        with_seats M m k s r roll' (set (set s.views id now) other end) r.few_made
            (λ j d e. ⊎_elim
            (λ (t : (j ≡ other) × (end ≡ d)). subst (λ (z : Shown V). So' j z) t.1 tt)
            (λ (t : (j ≢ other) × IsAt (set s.views id now) j d). ⊎_elim
            (λ (q : (j ≡ id) × (now ≡ d)).
            subst (λ (z : ℕ × Shown V). So' z.0 z.1) (λ i. (sym q.0 i, q.1 i)) so)
            (λ (q : (j ≢ id) × IsAt s.views j d).
            still_so r.world r.content.views r.roll w.who id other j its.seat t.0 d.role d
            (r.each j d q.1))
            (at_set s.views id j now d t.1))
            (at_set (set s.views id now) other j end d e))
            r.unmade
            (after_step (Kept M m k s r) (set s.views id now) other end (λ e. absurd (gone_not e))
            (λ j d _ e. after_step (Kept M m k s r) s.views id now
            (λ f. absurd (keeper_not (sym is ∙ f))) (λ i x _ f. r.kept i x f) j d e)),
        refl,
      )

  pub keeper_joins : (id : ℕ) (v : Shown V) (other : ℕ) (w : Shown V) → v.role ≡ Keeper
      → w.role ≡ Pass → w.phase ≡ Out
      → Joins (Ruled M m k) id v other w (taken_in v w) (gone M.starts)
  keeper_joins id v other w is its_role out s r at apart there =
      let was : IsAt s.views other w =
      sym (set_else s.views id other (taken_in v w) apart) ∙ there in
      (takes_in s r id other v w at was is its_role out).0

  -- no slot is out where the gate is shut
  none_out : Laws M → (s : Table M m k) (r : Rule M m k s) (turn : ℕ)
      → M.lawful k.usage r.content (Shut turn) → (j : ℕ) → IsAt r.content.slots j none → ⊥
  none_out laws s r turn lawful j out =
      let below : j < length r.content.slots = at_below r.content.slots j none out in
      let long : length r.content.slots ≡ M.slots k.usage = r.slotted in
      let kept : IsKept M r.content.views j =
      (laws.slots.out k.usage r.content (Shut turn) j lawful (omega arith)).0 out in
      (laws.slots.insiders k.usage r.content (Shut turn) kept.0 kept.1 j lawful kept.2 kept.3).0

  -- where the keeper has taken in as many passes as there are callers, no two of one, all are out
  all_are_out : (s : Table M m k) (r : Rule M m k s) (id : ℕ) (ended : List (Ended V))
      → ((i : ℕ) (e : Ended V) → IsAt ended i e
      → IsTakenIn r.world r.content.views r.roll id e)
      → length ended ≡ k.callers → AreApart ended → (c : ℕ) → c < k.callers
      → phase_of r.world.state c ≡ Out
  all_are_out s r id ended mine_ long apart c under =
      let who : Ended V → ℕ = λ e. e.who in let few = r.few_made in
      let found = each_is_in (map who ended) k.callers (length-map ended who ∙ long)
      (λ i a at. let o = of_map who ended i a at in let low = (mine_ i o.0 o.1).made in
      let same = o.2 in omega arith)
      (λ i j a at there. let o = of_map who ended i a at in
      let p = of_map who ended j a there in apart i j o.0 p.0 o.1 p.1 (o.2 ∙ sym p.2))
      c under in
      let its = of_map who ended found.0 c found.1 in
      ap (phase_of r.world.state) (sym its.2) ∙ (mine_ found.0 its.0 its.1).out

  -- the table at the end, where the keeper has each pass
  pub ends_with : Laws M → (id : ℕ) (v : Shown V) (ws : List ℕ) (xs : List (Option S))
      → v.role ≡ Keeper → length v.ended ≡ k.callers → AreApart v.ended
      → Final (Seen (Ruled M m k) id v) ws xs → Ends M m k v.ended ws xs
  ends_with laws id v ws xs is many apart f =
      let s = f.0 in let r = f.1.0 in
      let mine_ = subst (λ (z : Role). Knows r.world r.content.views r.roll id z v) is
      (r.each id v f.1.1) in
      let shut : gate (trace r.world.history) ≡ Shut (openings (trace r.world.history)) =
      all_out m k.callers r.few_rooms r.few_callers r.world r.reached
      (all_are_out s r id v.ended mine_ many apart) in
      let lawful : M.lawful k.usage r.content (Shut (openings (trace r.world.history))) =
      subst (M.lawful k.usage r.content) shut r.lawful in
      let same : length s.homes ≡ length r.content.slots = ap length r.slots in
      let long : length s.homes ≡ length xs = f.3 in
      record {
        rooms = listed r.world.state.words;
        content = r.content;
        words = sym f.2 ∙ r.words;
        long = length-listed m r.world.state.words (sizes_of M m k s r);
        sized = r.sized;
        at_home = all_home r.content.slots xs (sym same ∙ long)
            (none_out laws s r (openings (trace r.world.history)) lawful)
            (λ j y at. f.4 j y (ap (λ (l : Slots S). get_elem? l j) r.slots ∙ at));
        slotted = sym long ∙ same ∙ r.slotted;
        crowd = r.crowd;
        each = λ i e at. (mine_ i e at).user;
        turn = openings (trace r.world.history);
        lawful = lawful;
      }
