-- Marking the places that words name.
use Rattle.std.proofs.Common.{◌≡◌, ℕ, zero, suc, ◌+◌, ◌<◌, inl, inr, List, [], ◌∷◌, ◌++◌, Bool, true, false, refl, sym, subst, ◌∙◌, arith, length, get_or, set, take}
use Rattle.std.proofs.lemmas.List.{get_or-set_same, get_or-set_other, length-set, length_push, take_more}
use Rattle.std.proofs.lemmas.List.Elements.{Contains-append_left, Contains-append_right, Contains-append_cases, Contains-push, Contains-push_cases}
use Rattle.std.proofs.lemmas.Bool.{cases_eq}
use Rattle.std.specs.List.{Contains}
use Rattle.image_mark.specs.Waiting.{IsMarkedAt, unmarked, MarksNamed}

-- the only word
Contains-one : (x y : ℕ) → Contains (x ∷ []) y → x ≡ y
Contains-one x y there = elim (Contains-push_cases [] x y there) [ inl nothing ↦ absurd (omega (arith, nothing.1)) | inr same ↦ same ]

pub marked_within : (marks : List Bool) (place : ℕ) → IsMarkedAt marks place → place < length marks
marked_within [] place marked = cc
marked_within (b ∷ marks) zero marked = omega arith
marked_within (b ∷ marks) (suc place) marked = omega (arith, marked_within marks place marked)

unmarked-set : (marks : List Bool) (place : ℕ) → place < length marks → get_or marks place false ≡ false
    → unmarked (set marks place true) + 1 ≡ unmarked marks
unmarked-set [] place below is = absurd (omega arith)
unmarked-set (true ∷ marks) zero below is = cc
unmarked-set (false ∷ marks) zero below is = omega arith
unmarked-set (true ∷ marks) (suc place) below is = unmarked-set marks place (omega arith) is
unmarked-set (false ∷ marks) (suc place) below is = omega (arith, unmarked-set marks place (omega arith) is)

-- a place is marked, and waits
pub MarksNamed-new : (marks : List Bool) (waiting : List ℕ) (place : ℕ) → place < length marks → get_or marks place false ≡ false
    → MarksNamed ((1 + place) ∷ []) marks (set marks place true) waiting (waiting ++ place ∷ [])
MarksNamed-new marks waiting place below is =
    let here : IsMarkedAt (set marks place true) place = get_or-set_same marks place true false below in
    record {
      each = length-set marks place true;
      marked = λ other. elim (cases_eq other place) [
        | inl same ↦ (
          (λ m. inr (subst (λ p. Contains ((1 + place) ∷ []) (1 + p)) (sym same) (Contains-push [] (1 + place)))),
          λ m. subst (IsMarkedAt (set marks place true)) (sym same) here,
        )
        | inr differ ↦ (
          (λ m. inl (sym (get_or-set_other marks place other true false differ) ∙ m)),
          λ m. elim m [
            | inl old ↦ get_or-set_other marks place other true false differ ∙ old
            | inr there ↦ let one : 1 + place ≡ 1 + other = Contains-one (1 + place) (1 + other) there in absurd (differ (omega arith))
          ],
        )
      ];
      waits = λ other there. elim (Contains-push_cases waiting place other there) [
        | inl old ↦ inl old
        | inr same ↦ inr (subst (λ p. Contains ((1 + place) ∷ []) (1 + p)) same (Contains-push [] (1 + place)))
      ];
      waited = λ other there. Contains-append_left waiting (place ∷ []) other there;
      fresh = λ other m. elim (cases_eq other place) [
        | inl same ↦ inr (subst (Contains (waiting ++ place ∷ [])) (sym same) (Contains-push waiting place))
        | inr differ ↦ inl (sym (get_or-set_other marks place other true false differ) ∙ m)
      ];
      same_left = omega (arith, unmarked-set marks place below is, length_push waiting place);
    }

-- it was marked already
pub MarksNamed-old : (marks : List Bool) (waiting : List ℕ) (place : ℕ) → IsMarkedAt marks place → MarksNamed ((1 + place) ∷ []) marks marks waiting waiting
MarksNamed-old marks waiting place is = record {
  each = refl;
  marked = λ other. (
    (λ m. inl m),
    λ m. elim m [
      | inl old ↦ old
      | inr there ↦
          let one : 1 + place ≡ 1 + other = Contains-one (1 + place) (1 + other) there in
          let same : place ≡ other = omega arith in
          subst (IsMarkedAt marks) same is
    ],
  );
  waits = λ other there. inl there;
  waited = λ other there. there;
  fresh = λ other m. inl m;
  same_left = refl;
}

-- no word, or a word that is 0
pub MarksNamed-none : (words : List ℕ) (marks : List Bool) (waiting : List ℕ) → ((place : ℕ) → Contains words (1 + place) → ⊥)
    → MarksNamed words marks marks waiting waiting
MarksNamed-none words marks waiting nothing = record {
  each = refl;
  marked = λ other. ((λ m. inl m), λ m. elim m [ inl old ↦ old | inr there ↦ absurd (nothing other there) ]);
  waits = λ other there. inl there;
  waited = λ other there. there;
  fresh = λ other m. inl m;
  same_left = refl;
}

pub MarksNamed-nil : (marks : List Bool) (waiting : List ℕ) → MarksNamed [] marks marks waiting waiting
MarksNamed-nil marks waiting = MarksNamed-none [] marks waiting (λ place there. omega (arith, there.1))

pub MarksNamed-zero : (marks : List Bool) (waiting : List ℕ) → MarksNamed (0 ∷ []) marks marks waiting waiting
MarksNamed-zero marks waiting = MarksNamed-none (0 ∷ []) marks waiting (λ place there. omega (arith, Contains-one 0 (1 + place) there))

-- some words and then others
MarksNamed-append : (xs ys : List ℕ) (a b c : List Bool) (x y z : List ℕ) → MarksNamed xs a b x y → MarksNamed ys b c y z → MarksNamed (xs ++ ys) a c x z
MarksNamed-append xs ys a b c x y z first next = record {
  each = next.each ∙ first.each;
  marked = λ place. (
    (λ m. elim ((next.marked place).0 m) [
      | inl before ↦ elim ((first.marked place).0 before) [ inl old ↦ inl old | inr there ↦ inr (Contains-append_left xs ys (1 + place) there) ]
      | inr there ↦ inr (Contains-append_right xs ys (1 + place) there)
    ]),
    λ m. elim m [
      | inl old ↦ (next.marked place).1 (inl ((first.marked place).1 (inl old)))
      | inr there ↦ elim (Contains-append_cases xs ys (1 + place) there) [
        | inl front ↦ (next.marked place).1 (inl ((first.marked place).1 (inr front)))
        | inr back ↦ (next.marked place).1 (inr back)
      ]
    ],
  );
  waits = λ place there. elim (next.waits place there) [
    | inl before ↦ elim (first.waits place before) [ inl old ↦ inl old | inr named ↦ inr (Contains-append_left xs ys (1 + place) named) ]
    | inr named ↦ inr (Contains-append_right xs ys (1 + place) named)
  ];
  waited = λ place there. next.waited place (first.waited place there);
  fresh = λ place m. elim (next.fresh place m) [
    | inl before ↦ elim (first.fresh place before) [ inl old ↦ inl old | inr there ↦ inr (next.waited place there) ]
    | inr there ↦ inr there
  ];
  same_left = next.same_left ∙ first.same_left;
}

-- one word more of a list
pub MarksNamed-more : (words : List ℕ) (i word : ℕ) (a b c : List Bool) (x y z : List ℕ) → i < length words → word ≡ get_or words i 0
    → MarksNamed (take i words) a b x y → MarksNamed (word ∷ []) b c y z → MarksNamed (take (i + 1) words) a c x z
MarksNamed-more words i word a b c x y z below is first next =
    subst (λ ws. MarksNamed ws a c x z) (sym (take_more words i 0 below))
    (MarksNamed-append (take i words) (get_or words i 0 ∷ []) a b c x y z first (subst (λ w. MarksNamed (w ∷ []) b c y z) is next))
