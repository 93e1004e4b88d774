-- Words and the parts that they begin.
use Rattle.std.proofs.Common.{◌≡◌, ◌↔◌, ℕ, ◌+◌, ◌<◌, ◌≤◌, List, [], ◌∷◌, ◌++◌, get_or, drop, length, refl, sym, ap, subst, ◌∙◌, arith, append_assoc, Bool, true, false, codes, Option, Some, None, IfSome}
use Rattle.std.specs.List.{flat_map}
use Rattle.std.proofs.lemmas.List.Elements.{All-head, All-tail, All-cons, All-nil}
use Rattle.std.proofs.lemmas.List.{append-nil, drop_more, drop_all}
use Rattle.std.proofs.lemmas.Bool.{false≢true, true≢false}
use Rattle.command_words.specs.Parts.{Name, workers, blocks, layout, word_of, IsPlain, Part, joined, apart, plain, words_of, IsPart}
use Rattle.command_words.specs.Forms.{IsForm, IsOptionForm, HaveParts, Follow}
use Rattle.command_words.specs.declared.parts.Form.{Form}
use Rattle.command_words.specs.declared.parts.Form.TheVariants.{Plain, Joined, Apart, Other}

-- an option's word is no plain one
option_hyphen : (name : Name) (rest : List ℕ) → IsPlain (word_of name ++ rest) → ⊥
option_hyphen workers rest differs = differs refl
option_hyphen blocks rest differs = differs refl
option_hyphen layout rest differs = differs refl

pub unplain : (word : List ℕ) (name : Name) (form : Form) → IsOptionForm word (word_of name) form → IsPlain word → ⊥
unplain word name form is here = option_hyphen name is.0 (subst IsPlain is.1 here)

-- one option stands behind one word
same_rest : (n m : Name) (rest other : List ℕ) → word_of n ++ rest ≡ word_of m ++ other → rest ≡ other
same_rest workers workers rest other is = ap (drop 9) is
same_rest workers blocks rest other is = absurd (let bad : 119 ≡ 98 = ap (λ w. get_or w 2 0) is in omega (arith, bad))
same_rest workers layout rest other is = absurd (let bad : 119 ≡ 108 = ap (λ w. get_or w 2 0) is in omega (arith, bad))
same_rest blocks workers rest other is = absurd (let bad : 98 ≡ 119 = ap (λ w. get_or w 2 0) is in omega (arith, bad))
same_rest blocks blocks rest other is = ap (drop 8) is
same_rest blocks layout rest other is = absurd (let bad : 98 ≡ 108 = ap (λ w. get_or w 2 0) is in omega (arith, bad))
same_rest layout workers rest other is = absurd (let bad : 108 ≡ 119 = ap (λ w. get_or w 2 0) is in omega (arith, bad))
same_rest layout blocks rest other is = absurd (let bad : 108 ≡ 98 = ap (λ w. get_or w 2 0) is in omega (arith, bad))
same_rest layout layout rest other is = ap (drop 8) is

-- a word is not an option in two ways
apart_joined : (word : List ℕ) (n m : Name) → IsOptionForm word (word_of n) Apart → IsOptionForm word (word_of m) Joined → ⊥
apart_joined word n m (rest, is, none) (other, are, (value, some_, there)) =
    let same : [] ≡ 61 ∷ value = sym none ∙ same_rest n m rest other (sym is ∙ are) ∙ there in
    omega (arith, ap length same)

-- a part more in front
have_more : (part : Part) (words : List (List ℕ)) → IsPart part → HaveParts words → HaveParts (words_of part ++ words)
have_more part words is (parts, are) = (part ∷ parts, record { each = All-cons IsPart part parts is are.each; words_are = ap (λ ws. words_of part ++ ws) are.words_are })

-- how the first word of parts may stand there
data First (word : List ℕ) (words : List (List ℕ)) : Type 0 where
  plainly : IsPlain word → HaveParts words → First word words
  with_value : (name : Name) → IsOptionForm word (word_of name) Joined → HaveParts words → First word words
  before_value : (name : Name) → IsOptionForm word (word_of name) Apart → Follow true words → First word words

first_of : (word : List ℕ) (words : List (List ℕ)) → HaveParts (word ∷ words) → First word words
first_of word words ([], are) = absurd (omega (arith, ap length are.words_are))
first_of word words (joined name value ∷ parts, are) =
    let is = are.words_are in
    let here : word ≡ word_of name ++ codes "=" ++ value = cc in
    let rest : words ≡ flat_map words_of parts = cc in
    with_value name (61 ∷ value, here ∙ append_assoc (word_of name) (codes "=") value, (value, All-head IsPart (joined name value) parts are.each, refl))
    (parts, record { each = All-tail IsPart (joined name value) parts are.each; words_are = rest })
first_of word words (apart name value ∷ parts, are) =
    let is = are.words_are in
    let here : word ≡ word_of name = cc in
    let rest : words ≡ value ∷ flat_map words_of parts = cc in
    before_value name ([], here ∙ sym (append-nil (word_of name)), refl)
    (subst (Follow true) (sym rest) (All-head IsPart (apart name value) parts are.each, (parts, record { each = All-tail IsPart (apart name value) parts are.each; words_are = refl })))
first_of word words (plain text ∷ parts, are) =
    let is = are.words_are in
    let here : word ≡ text = cc in
    let rest : words ≡ flat_map words_of parts = cc in
    plainly (subst IsPlain (sym here) (All-head IsPart (plain text) parts are.each)) (parts, record { each = All-tail IsPart (plain text) parts are.each; words_are = rest })

module _ (word : List ℕ) (words : List (List ℕ)) where
  pub plain_here : IsPlain word → HaveParts (word ∷ words) ↔ HaveParts words
  plain_here is = ((λ have. go (first_of word words have)), have_more (plain word) words is)
    where
      go : First word words → HaveParts words
      go (plainly here rest) = rest
      go (with_value name here rest) = rest
      go (before_value name here rest) = absurd (unplain word name Apart here is)

  pub joined_here : (name : Name) → IsOptionForm word (word_of name) Joined → HaveParts (word ∷ words) ↔ HaveParts words
  joined_here name (rest, is, (value, some_, there)) = (
    (λ have. go (first_of word words have)),
    λ have. subst (λ w. HaveParts (w ∷ words)) (append_assoc (word_of name) (codes "=") value ∙ ap (λ r. word_of name ++ r) (sym there) ∙ sym is)
        (have_more (joined name value) words some_ have),
  )
    where
      go : First word words → HaveParts words
      go (plainly here more) = more
      go (with_value other here more) = more
      go (before_value other here more) = absurd (apart_joined word other name here (rest, is, (value, some_, there)))

  pub apart_here : (name : Name) → IsOptionForm word (word_of name) Apart → HaveParts (word ∷ words) ↔ Follow true words
  apart_here name (rest, is, none) = ((λ have. go (first_of word words have)), λ follow. back words follow)
    where
      go : First word words → Follow true words
      go (plainly here more) = absurd (unplain word name Apart (rest, is, none) here)
      go (with_value other here more) = absurd (apart_joined word name other (rest, is, none) here)
      go (before_value other here more) = more

      back : (ws : List (List ℕ)) → Follow true ws → HaveParts (word ∷ ws)
      back [] follow = absurd follow
      back (value ∷ ws) follow =
          let same : word_of name ≡ word = sym (append-nil (word_of name)) ∙ ap (λ r. word_of name ++ r) (sym none) ∙ sym is in
          subst (λ w. HaveParts (w ∷ value ∷ ws)) same (have_more (apart name value) ws follow.0 follow.1)

  pub nothing_here : ((¬ IsPlain word) × ((name : Name) (form : Form) → ¬ IsOptionForm word (word_of name) form)) → HaveParts (word ∷ words) → ⊥
  nothing_here never have = go (first_of word words have)
    where
      go : First word words → ⊥
      go (plainly here more) = never.0 here
      go (with_value name here more) = never.1 name Joined here
      go (before_value name here more) = never.1 name Apart here

-- what may stand where a value is wanted, or is not
module _ (word : List ℕ) (words : List (List ℕ)) where
  pub plain_behind : (waits : Bool) → IsForm word Plain → Follow waits (word ∷ words) ↔ HaveParts words
  plain_behind false is = plain_here word words is
  plain_behind true is = ((λ follow. follow.1), λ have. (is, have))

  pub joined_behind : (waits : Bool) → waits ≡ false → IsForm word Joined → Follow waits (word ∷ words) ↔ HaveParts words
  joined_behind false no_wait is = joined_here word words is.0 is.1
  joined_behind true no_wait is = absurd (true≢false no_wait)

  pub apart_behind : (waits : Bool) → waits ≡ false → IsForm word Apart → Follow waits (word ∷ words) ↔ Follow true words
  apart_behind false no_wait is = apart_here word words is.0 is.1
  apart_behind true no_wait is = absurd (true≢false no_wait)

  pub joined_waited : (waits : Bool) → waits ≡ true → IsForm word Joined → Follow waits (word ∷ words) → ⊥
  joined_waited false wait is follow = false≢true wait
  joined_waited true wait is follow = unplain word is.0 Joined is.1 follow.0

  pub apart_waited : (waits : Bool) → waits ≡ true → IsForm word Apart → Follow waits (word ∷ words) → ⊥
  apart_waited false wait is follow = false≢true wait
  apart_waited true wait is follow = unplain word is.0 Apart is.1 follow.0

  pub other_behind : (waits : Bool) → IsForm word Other → Follow waits (word ∷ words) → ⊥
  other_behind false is follow = nothing_here word words is follow
  other_behind true is follow = is.0 follow.0

-- the words are parts exactly where the rest may follow
pub follow_more : (waits then : Bool) (words : List (List ℕ)) (i : ℕ) (word : List ℕ) → i < length words → get_or words i [] ≡ word
    → HaveParts words ↔ Follow waits (drop i words) → Follow waits (word ∷ drop (i + 1) words) ↔ Follow then (drop (i + 1) words)
    → HaveParts words ↔ Follow then (drop (i + 1) words)
follow_more waits then words i word below is so step =
    let cut : drop i words ≡ word ∷ drop (i + 1) words = drop_more words i [] below ∙ ap (λ w. w ∷ drop (i + 1) words) is in (
      (λ have. step.0 (subst (Follow waits) cut (so.0 have))),
      λ follow. so.1 (subst (Follow waits) (sym cut) (step.1 follow)),
    )

pub follow_none : (waits : Bool) (words : List (List ℕ)) (i : ℕ) (word : List ℕ) → i < length words → get_or words i [] ≡ word
    → HaveParts words ↔ Follow waits (drop i words) → (Follow waits (word ∷ drop (i + 1) words) → ⊥) → HaveParts words → ⊥
follow_none waits words i word below is so never have =
    never (subst (Follow waits) (drop_more words i [] below ∙ ap (λ w. w ∷ drop (i + 1) words) is) (so.0 have))

-- no words are left
pub follow_end : (waits : Bool) (words : List (List ℕ)) (i : ℕ) → length words ≤ i → HaveParts words ↔ Follow waits (drop i words) → HaveParts words ↔ (waits ≡ false)
follow_end waits words i all so =
    let none : drop i words ≡ [] = drop_all i words all in (
      (λ have. only waits (subst (Follow waits) none (so.0 have))),
      λ is. so.1 (subst (Follow waits) (sym none) (subst (λ w. Follow w []) (sym is) ([], record { each = All-nil IsPart; words_are = refl }))),
    )
  where
    only : (waits : Bool) → Follow waits [] → waits ≡ false
    only false follow = refl
    only true follow = absurd follow

pub IfSome-weaker : {A : Type 0} (found : Option A) (P Q : A → Type 0) → ((x : A) → P x → Q x) → IfSome found P → IfSome found Q
IfSome-weaker None P Q weaker is = is
IfSome-weaker (Some x) P Q weaker is = weaker x is

-- a word that is none of the three options is no option
pub no_option : (word : List ℕ) → ((form : Form) → ¬ IsOptionForm word (codes "--workers") form) → ((form : Form) → ¬ IsOptionForm word (codes "--blocks") form)
    → ((form : Form) → ¬ IsOptionForm word (codes "--layout") form) → (name : Name) (form : Form) → ¬ IsOptionForm word (word_of name) form
no_option word w b l workers form = w form
no_option word w b l blocks form = b form
no_option word w b l layout form = l form
