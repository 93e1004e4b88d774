-- Marks by place of live objects, and what they come to when nothing waits.
use Rattle.std.proofs.Common.{◌≡◌, ℕ, zero, suc, ◌+◌, ◌<◌, ◌≤◌, ◌⊎◌, inl, inr, List, [], ◌∷◌, ◌++◌, Bool, false, sym, subst, ◌∙◌, arith, length, get_or, map, replicate}
use Rattle.std.proofs.lemmas.List.{length-replicate, length-map, get_or-map}
use Rattle.std.proofs.lemmas.List.Elements.{Contains-append_left, Contains-push, Contains-push_cases, All-weaker, All-from_get_or}
use Rattle.std.specs.List.{Contains, All}
use Rattle.image_core.specs.Object.{refs_at, references_at}
use Rattle.image_core.specs.Heap.{Heap, head_of, IsLawful, Names}
use Rattle.image_core.specs.Live.{IsObject, IsRoot, RefersTo, IsLive, MarksLive}
use Rattle.image_core.proofs.Standing.{Fill-fits, Fill-once}
use Rattle.image_core.proofs.Naming.{Names-within}
use Rattle.image_core.proofs.Parts.{references_named}
use Rattle.image_core.proofs.Paths.{IsLive-induction, IsLive-reference, root_of, reference_of}
use Rattle.image_mark.specs.Waiting.{IsMarkedAt, MarksNamed}

-- the header of a live object stands here
abbrev pub IsLiveAt : Heap → ℕ → Type 0
IsLiveAt heap place = (object : ℕ) × IsObject heap object × (head_of heap object ≡ place) × IsLive heap object

-- only headers of live objects are marked, and only marked places wait
pub record Sound (heap : Heap) (marks : List Bool) (waiting : List ℕ) : Type 0 where
  pub each : length marks ≡ length heap.words
  pub marked : (place : ℕ) → IsMarkedAt marks place → IsLiveAt heap place
  pub waits : (place : ℕ) → Contains waiting place → IsMarkedAt marks place

-- the places that words name are marked
abbrev pub EachMarked : List ℕ → List Bool → Type 0
EachMarked words marks = (place : ℕ) → Contains words (1 + place) → IsMarkedAt marks place

-- what a marked object refers to is marked, unless it waits
abbrev pub Closed : Heap → List Bool → List ℕ → Type 0
Closed heap marks waiting = (place : ℕ) → IsMarkedAt marks place → Contains waiting place ⊎ EachMarked (references_at heap.words place) marks

none_marked : (n place : ℕ) → IsMarkedAt (replicate n false) place → ⊥
none_marked zero place marked = cc
none_marked (suc n) zero marked = cc
none_marked (suc n) (suc place) marked = none_marked n place marked

pub Sound-none : (heap : Heap) → Sound heap (replicate (length heap.words) false) []
Sound-none heap = record {
  each = length-replicate (length heap.words) false;
  marked = λ place marked. absurd (none_marked (length heap.words) place marked);
  waits = λ place there. absurd (omega (arith, there.1));
}

pub Closed-none : (heap : Heap) (n : ℕ) (waiting : List ℕ) → Closed heap (replicate n false) waiting
Closed-none heap n waiting place marked = absurd (none_marked n place marked)

-- the places that these words name are of live objects
abbrev pub NamesLive : Heap → List ℕ → Type 0
NamesLive heap words = (place : ℕ) → Contains words (1 + place) → IsLiveAt heap place

pub Sound-named : (heap : Heap) (words : List ℕ) (marks marks_now : List Bool) (waiting waiting_now : List ℕ) → NamesLive heap words
    → Sound heap marks waiting → MarksNamed words marks marks_now waiting waiting_now → Sound heap marks_now waiting_now
Sound-named heap words marks marks_now waiting waiting_now live sound named = record {
  each = named.each ∙ sound.each;
  marked = λ place marked. elim ((named.marked place).0 marked) [ inl old ↦ sound.marked place old | inr there ↦ live place there ];
  waits = λ place there. (named.marked place).1 (elim (named.waits place there) [ inl old ↦ inl (sound.waits place old) | inr new ↦ inr new ]);
}

-- a waiting place is gone through
pub Closed-named : (heap : Heap) (marks marks_now : List Bool) (waiting waiting_now : List ℕ) (place : ℕ) → Closed heap marks (waiting ++ place ∷ [])
    → MarksNamed (references_at heap.words place) marks marks_now waiting waiting_now → Closed heap marks_now waiting_now
Closed-named heap marks marks_now waiting waiting_now place closed named other marked = elim (named.fresh other marked) [
  | inl old ↦ elim (closed other old) [
    | inl there ↦ elim (Contains-push_cases waiting place other there) [
      | inl waits ↦ inl (named.waited other waits)
      | inr same ↦ inr (subst (λ p. EachMarked (references_at heap.words p) marks_now) same (λ next there. (named.marked next).1 (inr there)))
    ]
    | inr before ↦ inr (λ next there. (named.marked next).1 (inl (before next there)))
  ]
  | inr there ↦ inl there
]

-- the roots are marked first
pub Closed-first : (heap : Heap) (n : ℕ) (words : List ℕ) (marks : List Bool) (waiting : List ℕ) → MarksNamed words (replicate n false) marks [] waiting
    → Closed heap marks waiting
Closed-first heap n words marks waiting named place marked = elim (named.fresh place marked) [
  | inl old ↦ absurd (none_marked n place old)
  | inr there ↦ inl there
]

pub Sound-popped : (heap : Heap) (marks : List Bool) (waiting rest : List ℕ) (place : ℕ) → waiting ≡ rest ++ place ∷ [] → Sound heap marks waiting
    → Sound heap marks rest × IsLiveAt heap place
Sound-popped heap marks waiting rest place is sound =
    let old : Sound heap marks (rest ++ place ∷ []) = subst (Sound heap marks) is sound in (
      record { each = old.each; marked = old.marked; waits = λ other there. old.waits other (Contains-append_left rest (place ∷ []) other there) },
      old.marked place (old.waits place (Contains-push rest place)),
    )

module _ (heap : Heap) (lawful : IsLawful heap) where
  pub roots_live : NamesLive heap heap.roots
  roots_live place root =
      let there = root_of heap lawful (1 + place) root (omega arith) in
      (there.0, there.1, omega (arith, there.2), there.3)

  pub references_live : (place : ℕ) → IsLiveAt heap place → NamesLive heap (references_at heap.words place)
  references_live place at other reference =
      let from : ℕ = at.0 in
      let in' : Contains (references_at heap.words (head_of heap from)) (1 + other) =
      subst (λ p. Contains (references_at heap.words p) (1 + other)) (sym at.2) reference in
      let there = reference_of heap lawful from (1 + other) at.1 in' (omega arith) in
      (there.0, there.1, omega (arith, there.2), IsLive-reference heap from there.0 at.3 there.3)

  pub roots_within : All (λ word. word ≤ length heap.words) heap.roots
  roots_within = All-weaker (Names heap.heads) (λ word. word ≤ length heap.words)
      (λ word names. Names-within heap.format heap.words heap.heads word lawful.fill names) heap.roots lawful.roots

  pub references_within : (place : ℕ) → IsLiveAt heap place → All (λ word. word ≤ length heap.words) (references_at heap.words place)
  references_within place at =
      let all : All (Names heap.heads) (references_at heap.words (head_of heap at.0)) =
      references_named heap.format heap.words heap.heads (head_of heap at.0) (lawful.references at.0 0 at.1) in
      All-weaker (Names heap.heads) (λ word. word ≤ length heap.words)
      (λ word names. Names-within heap.format heap.words heap.heads word lawful.fill names) (references_at heap.words place)
      (subst (λ p. All (Names heap.heads) (references_at heap.words p)) at.2 all)

  pub heads_within : All (λ place. place < length heap.words) heap.heads
  heads_within = All-from_get_or (λ place. place < length heap.words) heap.heads 0
      (λ object below. omega (arith, Fill-fits heap.format heap.words heap.heads lawful.fill object below))

  pub fits_at : (place : ℕ) → IsLiveAt heap place → place + refs_at heap.words place < length heap.words
  fits_at place at = subst (λ p. p + refs_at heap.words p < length heap.words) at.2
      (omega (arith, Fill-fits heap.format heap.words heap.heads lawful.fill at.0 at.1))

  -- nothing waits
  pub MarksLive-closed : (marks : List Bool) → Sound heap marks [] → Closed heap marks [] → EachMarked heap.roots marks
      → MarksLive heap (map (λ place. get_or marks place false) heap.heads)
  MarksLive-closed marks sound closed rooted =
      let P : ℕ → Type 0 = λ object. IsMarkedAt marks (head_of heap object) in
      let start : (object : ℕ) → IsRoot heap object → P object = λ object root. rooted (head_of heap object) root.1 in
      let step : (object other : ℕ) → P object → RefersTo heap object other → P other =
      λ object other marked refers. elim (closed (head_of heap object) marked) [
        | inl there ↦ absurd (omega (arith, there.1))
        | inr all ↦ all (head_of heap other) refers.2
      ] in
      record {
        each = length-map heap.heads (λ place. get_or marks place false);
        exact = λ object below.
            let value : get_or (map (λ place. get_or marks place false) heap.heads) object false ≡ get_or marks (head_of heap object) false =
            get_or-map (λ place. get_or marks place false) heap.heads object 0 false below in (
              (λ marked.
                  let at = sound.marked (head_of heap object) (sym value ∙ marked) in
                  let one : at.0 ≡ object = Fill-once heap.format heap.words heap.heads lawful.fill at.0 object at.1 below at.2 in
                  subst (IsLive heap) one at.3),
              λ live. value ∙ IsLive-induction heap P start step object live,
            );
      }
