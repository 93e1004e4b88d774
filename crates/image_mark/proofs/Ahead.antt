-- Marking while some of what waits is in the ring.
use Rattle.std.proofs.Common.{◌≡◌, ℕ, ◌<◌, inl, inr, List, [], ◌∷◌, ◌++◌, Bool, false, sym, ap, subst, ◌∙◌, arith, length, get_or, map, replicate, reverse, length-append}
use Rattle.std.proofs.lemmas.List.{append-nil, append_assoc, reverse-append}
use Rattle.std.proofs.lemmas.List.Elements.{Contains-append_left, Contains-append_right, Contains-append_cases, All-nil, All-head, All-tail, All-weaker, All-contains_itself}
use Rattle.std.specs.List.{Contains, All}
use Rattle.image_core.specs.Object.{references_at}
use Rattle.image_core.specs.Heap.{Heap, IsLawful}
use Rattle.image_core.specs.Live.{MarksLive}
use Rattle.image_mark.specs.Waiting.{MarksNamed}
use Rattle.image_mark.specs.Ahead.{all_waiting, AreLoaded, Fills}
use Rattle.image_mark.specs.declared.ring.Next.{Next}
use Rattle.image_mark.proofs.Liveness.{IsLiveAt, Sound, Closed, EachMarked, Sound-none, Sound-named, Sound-popped, Closed-first, Closed-named, roots_live, references_live, fits_at, MarksLive-closed}

-- what waits beside goes on waiting
pub MarksNamed-beside : (words : List ℕ) (marks marks_now : List Bool) (waiting waiting_now beside : List ℕ) → MarksNamed words marks marks_now waiting waiting_now
    → MarksNamed words marks marks_now (waiting ++ beside) (waiting_now ++ beside)
MarksNamed-beside words marks marks_now waiting waiting_now beside named = record {
  each = named.each;
  marked = named.marked;
  waits = λ place there. elim (Contains-append_cases waiting_now beside place there) [
    | inl new ↦ elim (named.waits place new) [ inl old ↦ inl (Contains-append_left waiting beside place old) | inr is ↦ inr is ]
    | inr still ↦ inl (Contains-append_right waiting beside place still)
  ];
  waited = λ place there. elim (Contains-append_cases waiting beside place there) [
    | inl old ↦ Contains-append_left waiting_now beside place (named.waited place old)
    | inr still ↦ Contains-append_right waiting_now beside place still
  ];
  fresh = λ place m. elim (named.fresh place m) [ inl old ↦ inl old | inr there ↦ inr (Contains-append_left waiting_now beside place there) ];
  same_left = omega (arith, named.same_left, length-append waiting beside, length-append waiting_now beside);
}

-- the ring's first is the last of all that waits
pub all_waiting-taken : (waiting : List ℕ) (next : Next) (ring : List Next) → all_waiting waiting (next ∷ ring) ≡ all_waiting waiting ring ++ next.place ∷ []
all_waiting-taken waiting next ring =
    let places : List ℕ = map (λ other. other.place) ring in
    ap (λ xs. waiting ++ xs) (reverse-append (next.place ∷ []) places) ∙ sym (append_assoc waiting (reverse places) (next.place ∷ []))

-- the header at the place
abbrev pub IsLoaded : List ℕ → Next → Type 0
IsLoaded words next = next.header ≡ get_or words next.place 0

pub AreLoaded-first : (words : List ℕ) (ring rest : List Next) (next : Next) → ring ≡ next ∷ rest → AreLoaded words ring → IsLoaded words next
AreLoaded-first words ring rest next is loaded = All-head (IsLoaded words) next rest (subst (AreLoaded words) is loaded)

pub AreLoaded-rest : (words : List ℕ) (ring rest : List Next) (next : Next) → ring ≡ next ∷ rest → AreLoaded words ring → AreLoaded words rest
AreLoaded-rest words ring rest next is loaded = All-tail (IsLoaded words) next rest (subst (AreLoaded words) is loaded)

-- Marking goes on: only headers of live objects are marked, and only marked places wait; what a marked
-- object refers to is marked, unless it waits; the roots are marked; what waits in the ring has its
-- header there, and where nothing waits there nothing waits at all.
pub record Going (heap : Heap) (marks : List Bool) (waiting : List ℕ) (ring : List Next) : Type 0 where
  pub sound : Sound heap marks (all_waiting waiting ring)
  pub closed : Closed heap marks (all_waiting waiting ring)
  pub rooted : EachMarked heap.roots marks
  pub loaded : AreLoaded heap.words ring
  pub ahead : ring ≡ [] → waiting ≡ []

no_ring : (waiting : List ℕ) → all_waiting waiting [] ≡ waiting
no_ring waiting = append-nil waiting

module _ (heap : Heap) (lawful : IsLawful heap) where
  -- what waits on the stack stands among the words
  pub waiting_within : (marks : List Bool) (waiting beside : List ℕ) → Sound heap marks (waiting ++ beside) → All (λ place. place < length heap.words) waiting
  waiting_within marks waiting beside sound =
      All-weaker (Contains waiting) (λ place. place < length heap.words)
      (λ place there.
      let fits = fits_at heap lawful place (sound.marked place (sound.waits place (Contains-append_left waiting beside place there))) in
      omega (arith, fits))
      waiting (All-contains_itself waiting)

  -- the roots are marked
  module _ (marks : List Bool) (waiting : List ℕ) (named : MarksNamed heap.roots (replicate (length heap.words) false) marks [] waiting) where
    first_sound : Sound heap marks waiting
    first_sound = Sound-named heap heap.roots (replicate (length heap.words) false) marks [] waiting (roots_live heap lawful) (Sound-none heap) named

    pub first_within : All (λ place. place < length heap.words) waiting
    first_within = waiting_within marks waiting [] (subst (Sound heap marks) (sym (no_ring waiting)) first_sound)

    pub going-first : (waiting_now : List ℕ) (ring : List Next) → Fills heap.words [] ring waiting waiting_now → Going heap marks waiting_now ring
    going-first waiting_now ring fills =
        let same : all_waiting waiting_now ring ≡ waiting = fills.same ∙ no_ring waiting in
        record {
          sound = subst (Sound heap marks) (sym same) first_sound;
          closed = subst (Closed heap marks) (sym same) (Closed-first heap (length heap.words) heap.roots marks waiting named);
          rooted = λ place there. (named.marked place).1 (inr there);
          loaded = fills.loaded (All-nil (IsLoaded heap.words));
          ahead = fills.ahead;
        }

  -- the ring's first is gone through
  module _ (marks : List Bool) (waiting : List ℕ) (ring rest : List Next) (next : Next) (is : ring ≡ next ∷ rest) (going : Going heap marks waiting ring) where
    last_waits : all_waiting waiting ring ≡ all_waiting waiting rest ++ next.place ∷ []
    last_waits = ap (all_waiting waiting) is ∙ all_waiting-taken waiting next rest

    taken : Sound heap marks (all_waiting waiting rest) × IsLiveAt heap next.place
    taken = Sound-popped heap marks (all_waiting waiting ring) (all_waiting waiting rest) next.place last_waits going.sound

    pub next_live : IsLiveAt heap next.place
    next_live = taken.1

    pub next_loaded : IsLoaded heap.words next
    next_loaded = AreLoaded-first heap.words ring rest next is going.loaded

    module _ (marks_now : List Bool) (waiting_now : List ℕ) (named : MarksNamed (references_at heap.words next.place) marks marks_now waiting waiting_now) where
      beside : MarksNamed (references_at heap.words next.place) marks marks_now (all_waiting waiting rest) (all_waiting waiting_now rest)
      beside = MarksNamed-beside (references_at heap.words next.place) marks marks_now waiting waiting_now (reverse (map (λ other. other.place) rest)) named

      next_sound : Sound heap marks_now (all_waiting waiting_now rest)
      next_sound = Sound-named heap (references_at heap.words next.place) marks marks_now (all_waiting waiting rest) (all_waiting waiting_now rest)
          (references_live heap lawful next.place next_live) taken.0 beside

      pub next_within : All (λ place. place < length heap.words) waiting_now
      next_within = waiting_within marks_now waiting_now (reverse (map (λ other. other.place) rest)) next_sound

      pub going-next : (waiting_then : List ℕ) (ring_then : List Next) → Fills heap.words rest ring_then waiting_now waiting_then → Going heap marks_now waiting_then ring_then
      going-next waiting_then ring_then fills =
          let closed : Closed heap marks (all_waiting waiting rest ++ next.place ∷ []) = subst (Closed heap marks) last_waits going.closed in
          record {
            sound = subst (Sound heap marks_now) (sym fills.same) next_sound;
            closed = subst (Closed heap marks_now) (sym fills.same)
                (Closed-named heap marks marks_now (all_waiting waiting rest) (all_waiting waiting_now rest) next.place closed beside);
            rooted = λ place there. (named.marked place).1 (inl (going.rooted place there));
            loaded = fills.loaded (AreLoaded-rest heap.words ring rest next is going.loaded);
            ahead = fills.ahead;
          }

  -- nothing waits
  pub going-ends : (marks : List Bool) (waiting : List ℕ) (ring : List Next) → ring ≡ [] → Going heap marks waiting ring
      → MarksLive heap (map (λ place. get_or marks place false) heap.heads)
  going-ends marks waiting ring none going =
      let nothing : all_waiting waiting ring ≡ [] = ap (all_waiting waiting) none ∙ no_ring waiting ∙ going.ahead none in
      MarksLive-closed heap lawful marks (subst (Sound heap marks) nothing going.sound) (subst (Closed heap marks) nothing going.closed) going.rooted
