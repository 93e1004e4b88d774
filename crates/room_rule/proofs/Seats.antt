-- Steps that change only what seats show: a note is made, and it is learned.
use Rattle.std.proofs.Common.{◌≡◌, ℕ, ◌<◌, ◌≤◌, ⊎_elim, ltb, List, [], ◌∷◌, ◌++◌, length, set, sym, refl, ◌∙◌, subst}
use Rattle.atomic_table.specs.Table.{Splits, Joins}
use Rattle.atomic_table.proofs.Lists.{at_snoc, set_else}
use Rattle.room_rule.specs.Use.{IsAt, Meaning}
use Rattle.room_rule.specs.Callers.{after_step}
use Rattle.room_rule.specs.Openings.{world_openings}
use Rattle.room_rule.specs.View.{noted, learned, gone}
use Rattle.room_rule.specs.Quietly.{IsQuiet}
use Rattle.room_rule.specs.Rule.{Roll, Knows, IsUnmade, ShowsKept, Ruled}
use Rattle.room_rule.specs.declared.rule.Plan.{Plan}
use Rattle.room_rule.specs.declared.views.Role.{Role}
use Rattle.room_rule.specs.declared.views.Role.TheVariants.{Pass, Note, Gone}
use Rattle.room_rule.specs.declared.views.Shown.{Shown}
use Rattle.room_rule.proofs.Lists.{starts_either, among_first, among_both}
use Rattle.room_rule.proofs.Acts.{Table, Rule, mine}

gone_not : Gone ≡ Pass → ⊥
gone_not e = cc

note_not : Note ≡ Pass → ⊥
note_not e = cc

module _ {X S V : Type 0} (M : Meaning X S V) (m : ℕ) (k : Plan X) where
  -- the rule with other seats, each of which shows what is so
  unfoldable pub with_seats : (s : Table M m k) (r : Rule M m k s) (roll : Roll) (views : List (Shown V))
      → roll.made ≤ k.callers
      → ((j : ℕ) (v : Shown V) → IsAt views j v → Knows r.world r.content.views roll j v.role v)
      → ((c : ℕ) → roll.made ≤ c → c < k.callers → IsUnmade r.world r.content.views M.starts c)
      → ((j : ℕ) (v : Shown V) → IsAt views j v → ShowsKept M k.usage r.content.words v)
      → Rule M m k (record { words = s.words; homes = s.homes; views = views })
  with_seats s r roll views few each unmade kept = record {
    world = r.world;
    reached = r.reached;
    content = r.content;
    words = r.words;
    sized = r.sized;
    slots = r.slots;
    slotted = r.slotted;
    crowd = r.crowd;
    few_callers = r.few_callers;
    few_rooms = r.few_rooms;
    roll = roll;
    few_made = few;
    each = each;
    unmade = unmade;
    kept = kept;
    lawful = r.lawful;
    past = r.past;
    waits = r.waits;
  }

  -- with other views
  abbrev pub with_views : (s : Table M m k) (r : Rule M m k s) (views : List (Shown V))
      → ((j : ℕ) (v : Shown V) → IsAt views j v → Knows r.world r.content.views r.roll j v.role v)
      → ((j : ℕ) (v : Shown V) → IsAt views j v → ShowsKept M k.usage r.content.words v)
      → Rule M m k (record { words = s.words; homes = s.homes; views = views })
  with_views s r views each kept = with_seats s r r.roll views r.few_made each r.unmade kept

  -- what the seat j shows is so, and so is what it shows of the words
  abbrev pub So : (s : Table M m k) (r : Rule M m k s) → ℕ → Shown V → Type 0
  So s r j v = Knows r.world r.content.views r.roll j v.role v

  abbrev pub Kept : (s : Table M m k) (r : Rule M m k s) → ℕ → Shown V → Type 0
  Kept s r j v = ShowsKept M k.usage r.content.words v

  -- a note is learned
  pub learns_quietly : (s : Table M m k) (r : Rule M m k s) (id other : ℕ) (v w : Shown V)
      → IsAt s.views id v → IsAt s.views other w → v.role ≡ Pass → w.role ≡ Note
      → IsQuiet M m k s r (set (set s.views id (learned v w)) other (gone M.starts))
  unfolding with_seats
  learns_quietly s r id other v w at was is note =
      let all = world_openings r.world in let now = learned v w in let end = gone M.starts in
      let its = subst (λ (z : Role). Knows r.world r.content.views r.roll other z w) note
      (r.each other w was) in
      let h = mine M m k s r id v at is in
      let so : So s r id now =
      subst (λ (z : Role). Knows r.world r.content.views r.roll id z now) (sym is) (record {
        seat = h.seat;
        made = h.made;
        phase = h.phase;
        draws = h.draws;
        user = h.user;
        seen = starts_either all v.seen w.seen (ltb (length v.seen) (length w.seen)) h.seen its;
        known = among_both all w.seen v.known (among_first all w.seen its) h.known;
      }) in (
        with_views s r (set (set s.views id now) other end)
            (after_step (So s r) (set s.views id now) other end tt
            (λ j d _ e. after_step (So s r) s.views id now so (λ i x _ f. r.each i x f) j d e))
            (after_step (Kept s r) (set s.views id now) other end (λ e. absurd (gone_not e))
            (λ j d _ e. after_step (Kept s r) s.views id now (r.kept id v at)
            (λ i x _ f. r.kept i x f) j d e)),
        refl,
      )

  pub learns : (id : ℕ) (v : Shown V) (other : ℕ) (w : Shown V) → v.role ≡ Pass → w.role ≡ Note
      → Joins (Ruled M m k) id v other w (learned v w) (gone M.starts)
  learns id v other w is note s r at apart there =
      let was : IsAt s.views other w =
      sym (set_else s.views id other (learned v w) apart) ∙ there in
      (learns_quietly s r id other v w at was is note).0

  -- a note is made
  pub notes_quietly : (s : Table M m k) (r : Rule M m k s) (id : ℕ) (v : Shown V)
      → IsAt s.views id v → v.role ≡ Pass → IsQuiet M m k s r (set s.views id v ++ noted v ∷ [])
  unfolding with_seats
  notes_quietly s r id v at is = let h = mine M m k s r id v at is in (
    with_views s r (set s.views id v ++ noted v ∷ [])
        (λ j d e. ⊎_elim (λ f.
        after_step (So s r) s.views id v (r.each id v at) (λ i x _ g. r.each i x g) j d f)
        (λ (t : noted v ≡ d). subst (λ (z : Shown V). So s r j z) t h.seen)
        (at_snoc (set s.views id v) (noted v) d j e))
        (λ j d e. ⊎_elim (λ f.
        after_step (Kept s r) s.views id v (r.kept id v at) (λ i x _ g. r.kept i x g) j d f)
        (λ (t : noted v ≡ d). subst (λ (z : Shown V). Kept s r j z) t (λ e. absurd (note_not e)))
        (at_snoc (set s.views id v) (noted v) d j e)),
    refl,
  )

  pub notes : (id : ℕ) (v : Shown V) → v.role ≡ Pass → Splits (Ruled M m k) id v v (noted v)
  notes id v is s r at = (notes_quietly s r id v at is).0
