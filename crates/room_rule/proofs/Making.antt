-- A new table meets the rule, and the maker may make each pass.
use Rattle.std.proofs.Common.{◌≡◌, ◌≢◌, ℕ, zero, suc, ◌+◌, ◌*◌, ◌<◌, ◌≤◌, ⊎_elim, Bool, true, false, cond, eqb, None, List, [], ◌∷◌, ◌++◌, length, get_or, map, set, replicate, sym, refl, ap, ◌∙◌, subst, arith, eq-eqb, ne_eqb, length-set, le_refl}
use mathlib.Core.Option.{some, some-injective, some-ne-none}
use lib.ListN.{get_elem?}
use Rattle.std.proofs.lemmas.List.{length-map, length-replicate}
use Rattle.atomic_table.specs.Table.{Splits, opening}
use Rattle.room_core.specs.declared.phases.Phase.TheVariants.{Out, Exiting}
use Rattle.room_core.specs.Words.{listed}
use Rattle.room_core.specs.Runs.{World, start}
use Rattle.room_core.proofs.Apart.{outs, zeros}
use Rattle.room_rule.specs.Use.{IsAt, Slots, Meaning}
use Rattle.room_rule.specs.Callers.{after_step}
use Rattle.room_rule.specs.Laws.{Laws}
use Rattle.room_rule.specs.View.{maker, hired, after_hire}
use Rattle.room_rule.specs.Quietly.{IsQuiet}
use Rattle.room_rule.proofs.Acts.{Table, Rule}
use Rattle.room_rule.proofs.Seats.{with_seats}
use Rattle.room_rule.specs.Openings.{world_openings}
use Rattle.room_rule.specs.Rule.{Roll, Knows, is_waiting, ShowsKept, Ruled}
use Rattle.room_rule.specs.declared.rule.Plan.{Plan}
use Rattle.room_rule.specs.declared.views.Role.{Role}
use Rattle.room_rule.specs.declared.views.Role.TheVariants.{Maker, Pass, Note, Keeper, Gone}
use Rattle.room_rule.specs.declared.views.Shown.{Shown}
use Rattle.room_rule.proofs.Lists.{at_end, only_one, none_there}
use Rattle.room_rule.proofs.Slots.{all_none}

-- the starting views of so many callers, from the number c on
starting : {V : Type 0} → (ℕ → V) → ℕ → ℕ → List V
starting starts c zero = []
starting starts c (suc left) = starts c ∷ starting starts (c + 1) left

length-starting : {V : Type 0} (starts : ℕ → V) (c left : ℕ)
    → length (starting starts c left) ≡ left
unfolding starting
length-starting starts c zero = refl
length-starting starts c (suc left) = ap suc (length-starting starts (c + 1) left)

starting_at : {V : Type 0} (starts : ℕ → V) (c left i : ℕ) → i < left
    → IsAt (starting starts c left) i (starts (c + i))
unfolding starting
starting_at starts c zero i h = absurd (omega arith)
starting_at starts c (suc left) zero h = let e : c ≡ c + 0 = omega arith in
    ap (λ (z : ℕ). some (starts z)) e
starting_at starts c (suc left) (suc i) h = let e : (c + 1) + i ≡ c + suc i = omega arith in
    starting_at starts (c + 1) left i (omega arith) ∙ ap (λ (z : ℕ). some (starts z)) e

starting_low : {V : Type 0} (starts : ℕ → V) (last : V → ℕ) (c left i : ℕ) (v : V)
    → ((x : ℕ) → last (starts x) ≡ 0) → IsAt (starting starts c left) i v → last v ≡ 0
unfolding starting
starting_low starts last c zero i v low e = absurd (some-ne-none v (sym e))
starting_low starts last c (suc left) zero v low e = ap last (sym (some-injective (starts c) v e))
    ∙ low c
starting_low starts last c (suc left) (suc i) v low e =
    starting_low starts last (c + 1) left i v low e

replicate-append : (a b : ℕ)
    → ◌≡◌ {A = List ℕ} (replicate a 0 ++ replicate b 0) (replicate (a + b) 0)
replicate-append zero b = let e : b ≡ 0 + b = omega arith in ap (λ (z : ℕ). replicate z 0) e
replicate-append (suc a) b = let e : suc (a + b) ≡ suc a + b = omega arith in
    ap (λ (l : List ℕ). 0 ∷ l) (replicate-append a b) ∙ ap (λ (z : ℕ). replicate z 0) e

-- the words of the rooms at the start
listed_start : (m n : ℕ)
    → ◌≡◌ {A = List ℕ} (replicate (1 + 3 * m) 0) (listed (start m n).state.words)
listed_start m n = let e : 1 + 3 * m ≡ suc (m + (m + m)) = omega arith in
    ap (λ (z : ℕ). replicate z 0) e
    ∙ ap (λ (l : List ℕ). 0 ∷ l) (sym (replicate-append m (m + m)))
    ∙ ap (λ (l : List ℕ). 0 ∷ (replicate m 0 ++ l)) (sym (replicate-append m m))

maker_not : Maker ≡ Pass → ⊥
maker_not e = cc

out_not : (a b : ℕ) → Out ≡ Exiting a b → ⊥
out_not a b e = cc

not_waiting : false ≡ true → ⊥
not_waiting e = cc

-- one seat more for the caller that is made next
abbrev with_seat : Roll → ℕ → Roll
with_seat roll id =
    record {
      seat_of = λ c. cond (eqb c roll.made) id (roll.seat_of c);
      maker = roll.maker;
      made =
          roll.made + 1;
    }

-- what another seat shows stays so, where a pass is made
still_so : {V : Type 0} (world : World) (views : List V) (roll : Roll) (next j id : ℕ)
    → id ≡ roll.maker → j ≢ id → (role : Role) (x : Shown V)
    → Knows world views roll j role x → Knows world views (with_seat roll next) j role x
still_so world views roll next j id own apart Maker x h = absurd (apart (h.0 ∙ sym own))
still_so world views roll next j id own apart Gone x h = tt
still_so world views roll next j id own apart Note x h = h
still_so world views roll next j id own apart Keeper x h = λ i e at.
    let q = h i e at in let l = q.made in let ne : e.who ≢ roll.made = λ f. omega arith in
    record {
      seat = ap (λ (b : Bool). cond b next (roll.seat_of e.who)) (ne_eqb e.who roll.made ne)
          ∙ q.seat;
      made = omega arith;
      out = q.out;
      user = q.user;
    }
still_so world views roll next j id own apart Pass x h =
    let l = h.made in let ne : x.who ≢ roll.made = λ e. omega arith in
    record {
      seat = ap (λ (b : Bool). cond b next (roll.seat_of x.who)) (ne_eqb x.who roll.made ne)
          ∙ h.seat;
      made = omega arith;
      phase = h.phase;
      draws = h.draws;
      user = h.user;
      seen = h.seen;
      known = h.known;
    }

module _ {X S V : Type 0} (M : Meaning X S V) (m : ℕ) (k : Plan X) where
  -- a new table
  pub begins : Laws M → m ≤ 7 → (user : List ℕ) → k.callers ≤ 64 → length user ≡ M.words k.usage
      → ((i : ℕ) → i < M.words k.usage → get_or user i 0 ≡ M.start k.usage k.callers i)
      → (r : Ruled M m k
      (opening (replicate (1 + 3 * m) 0 ++ user) (replicate (M.slots k.usage) None)
      (maker M.starts))) × (r.world ≡ start m k.callers)
  begins laws few_rooms user few sized words =
      let views = starting M.starts 0 k.callers in let w = start m k.callers in
      let n : ℕ = M.slots k.usage in
      let slots : Slots S = map some (replicate n None) in
      let slotted : length slots ≡ n = length-map (replicate n None) some
      ∙ length-replicate n None in
      let first : (c : ℕ) → c < k.callers → IsAt views c (M.starts c) = λ c under.
      starting_at M.starts 0 k.callers c under
      ∙ ap (λ (z : ℕ). some (M.starts z)) (let q : 0 + c ≡ c = omega arith in q) in (
        record {
          world = w;
          reached = ([], refl);
          content = record { words = user; slots = slots; views = views };
          words = ap (λ (l : List ℕ). l ++ user) (listed_start m k.callers);
          sized = sized;
          slots = refl;
          slotted = slotted;
          crowd = length-starting M.starts 0 k.callers;
          few_callers = few;
          few_rooms = few_rooms;
          roll = record { seat_of = λ c. c; maker = 0; made = 0 };
          few_made = omega arith;
          each = λ j v e. let o = only_one (maker M.starts) v j e in
              subst (λ (z : Shown V).
              Knows w views (record { seat_of = λ c. c; maker = 0; made = 0 }) j z.role z) o.1
              (o.0, refl);
          unmade = λ c _ under.
              record { out = outs k.callers c; draws = zeros k.callers c; user = first c under };
          kept = λ j v e. subst (λ (z : Shown V). ShowsKept M k.usage user z)
              (only_one (maker M.starts) v j e).1 (λ f. absurd (maker_not f));
          lawful = laws.starts k.usage k.callers
              (record { words = user; slots = slots; views = views }) few sized words
              (length-starting M.starts 0 k.callers) slotted (λ j under. all_none n j None under) first;
          past = λ c v e. let q =
              starting_low M.starts M.last 0 k.callers c v laws.last_turns.starts e in omega arith;
          waits = λ c v e f. absurd (not_waiting (ap is_waiting (sym (outs k.callers c)) ∙ f));
        },
        refl,
      )

  pub opens : Laws M → m ≤ 7 → (user : List ℕ) → k.callers ≤ 64 → length user ≡ M.words k.usage
      → ((i : ℕ) → i < M.words k.usage → get_or user i 0 ≡ M.start k.usage k.callers i)
      → Ruled M m k
      (opening (replicate (1 + 3 * m) 0 ++ user) (replicate (M.slots k.usage) None)
      (maker M.starts))
  opens laws few_rooms user few sized words = (begins laws few_rooms user few sized words).0

  -- the maker makes the next pass
  pub hires_quietly : (s : Table M m k) (r : Rule M m k s) (id : ℕ) (v : Shown V)
      → IsAt s.views id v → v.role ≡ Maker → v.who < k.callers
      → IsQuiet M m k s r (set s.views id (after_hire v) ++ hired M.starts v ∷ [])
  unfolding with_seats
  hires_quietly s r id v at is left =
      let h = subst (λ (z : Role). Knows r.world r.content.views r.roll id z v) is
      (r.each id v at) in
      let own : id ≡ r.roll.maker = h.0 in let num : v.who ≡ r.roll.made = h.1 in
      let next : ℕ = length s.views in let roll' = with_seat r.roll next in let w = r.world in
      let new = hired M.starts v in
      let So' : ℕ → Shown V → Type 0 = λ j x. Knows w r.content.views roll' j x.role x in
      let u = r.unmade r.roll.made (le_refl r.roll.made) (omega arith) in
      let its : So' next new = record {
        seat = ap roll'.seat_of num
            ∙ ap (λ (b : Bool). cond b next (r.roll.seat_of r.roll.made))
            (eq-eqb r.roll.made r.roll.made refl);
        made = omega arith;
        phase = ap (λ (z : ℕ). get_or w.state.phases z Out) num ∙ u.out;
        draws = ap (λ (z : ℕ). get_or w.state.draws z 0) num ∙ u.draws;
        user = ap (get_elem? r.content.views) num
            ∙ (u.user ∙ ap (λ (z : ℕ). some (M.starts z)) (sym num));
        seen = (world_openings w, refl);
        known = λ i a e. absurd (none_there i a e);
      } in (
        with_seats M m k s r roll' (set s.views id (after_hire v) ++ hired M.starts v ∷ []) (omega arith)
            (λ j x e. ⊎_elim
            (after_step So' s.views id (after_hire v)
            (subst (λ (z : Role). Knows w r.content.views roll' id z (after_hire v)) (sym is)
            (own, ap (λ (z : ℕ). z + 1) num))
            (λ i y apart f. still_so w r.content.views r.roll next i id own apart y.role y
            (r.each i y f)) j x)
            (λ (t : (j ≡ length (set s.views id (after_hire v))) × (new ≡ x)).
            let here : j ≡ next = t.0 ∙ length-set s.views id (after_hire v) in
            subst (λ (z : ℕ × Shown V). So' z.0 z.1) (λ i. (sym here i, t.1 i)) its)
            (at_end (set s.views id (after_hire v)) new x j e))
            (λ c late under. r.unmade c (omega arith) under)
            (λ j x e. ⊎_elim
            (after_step (λ i y. ShowsKept M k.usage r.content.words y) s.views id (after_hire v)
            (λ f. absurd (maker_not (sym is ∙ f))) (λ i y _ f. r.kept i y f) j x)
            (λ (t : (j ≡ length (set s.views id (after_hire v))) × (new ≡ x)).
            subst (λ (z : Shown V). ShowsKept M k.usage r.content.words z) t.1
            (λ _ a b f. absurd (out_not a b f)))
            (at_end (set s.views id (after_hire v)) new x j e)),
        refl,
      )

  pub hires : (id : ℕ) (v : Shown V) → v.role ≡ Maker → v.who < k.callers
      → Splits (Ruled M m k) id v (after_hire v) (hired M.starts v)
  hires id v is left s r at = (hires_quietly s r id v at is left).0
