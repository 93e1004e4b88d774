-- What parts give to each option and operand, one part after another.
use Rattle.std.proofs.Common.{◌≡◌, ℕ, ◌≤◌, List, [], ◌∷◌, ◌++◌, length, refl, sym, ap, ◌∙◌, arith, append_assoc, Option, Some, None, true, is_some, codes}
use Rattle.std.proofs.lemmas.List.{append-nil as append_nil, length-append}
use Rattle.std.proofs.lemmas.Bool.{false≢true}
use Rattle.std.specs.Bool.{if◌then◌else◌}
use Rattle.std.specs.Str.{bytes_eq}
use Rattle.command_words.specs.Parts.{Name, workers, blocks, layout, Part, joined, apart, plain, given_by, given, plains}
use Rattle.command_words.specs.Clap.{id_of}

-- an option, or the command and its operands
pub data Slot : Type 0 where
  optional : Name → Slot
  command : Slot
  objects : Slot
  seed : Slot

abbrev pub slot_id : Slot → List ℕ
slot_id (optional name) = id_of name
slot_id command = codes "command"
slot_id objects = codes "objects"
slot_id seed = codes "seed"

-- what each has been given
abbrev pub Gifts : Type 0
Gifts = Slot → Option (List ℕ)

abbrev pub nothing_given : Gifts
nothing_given slot = None

-- one more gift
abbrev pub with_gift : Slot → List ℕ → Gifts → Gifts
with_gift slot text gifts other = if bytes_eq (slot_id slot) (slot_id other) then Some text else gifts other

-- where the next plain word goes
pub data Place : Type 0 where
  first : Place
  second : Place
  third : Place
  past : Place

abbrev pub next_place : Place → Place
next_place first = second
next_place second = third
next_place third = past
next_place past = past

abbrev pub slot_at : Place → Slot
slot_at first = command
slot_at second = objects
slot_at third = seed
slot_at past = seed

-- no option is given twice, and no word stands past the operands
abbrev pub Good : Gifts → Place → List Part → Type 0
Good gifts place [] = Unit {0}
Good gifts place (joined name value ∷ parts) = (gifts (optional name) ≡ None) × Good (with_gift (optional name) value gifts) place parts
Good gifts place (apart name value ∷ parts) = (gifts (optional name) ≡ None) × Good (with_gift (optional name) value gifts) place parts
Good gifts first (plain word ∷ parts) = Good (with_gift command word gifts) second parts
Good gifts second (plain word ∷ parts) = Good (with_gift objects word gifts) third parts
Good gifts third (plain word ∷ parts) = Good (with_gift seed word gifts) past parts
Good gifts past (plain word ∷ parts) = ⊥

-- what is given after all parts
abbrev pub after : Gifts → Place → List Part → Gifts
after gifts place [] = gifts
after gifts place (joined name value ∷ parts) = after (with_gift (optional name) value gifts) place parts
after gifts place (apart name value ∷ parts) = after (with_gift (optional name) value gifts) place parts
after gifts place (plain word ∷ parts) = after (with_gift (slot_at place) word gifts) (next_place place) parts

-- the operands that are given stand before those that are not
abbrev pub AreFirst : Gifts → Place → Type 0
AreFirst gifts first = (gifts command ≡ None) × (gifts objects ≡ None) × (gifts seed ≡ None)
AreFirst gifts second = (is_some (gifts command) ≡ true) × (gifts objects ≡ None) × (gifts seed ≡ None)
AreFirst gifts third = (is_some (gifts command) ≡ true) × (is_some (gifts objects) ≡ true) × (gifts seed ≡ None)
AreFirst gifts past = (is_some (gifts command) ≡ true) × (is_some (gifts objects) ≡ true) × (is_some (gifts seed) ≡ true)

abbrev pub one : Option (List ℕ) → List (List ℕ)
one None = []
one (Some text) = text ∷ []

abbrev pub operands_given : Gifts → List (List ℕ)
operands_given gifts = one (gifts command) ++ one (gifts objects) ++ one (gifts seed)

-- an option that gets a value has that one alone
given_more : (name other : Name) (value : List ℕ) (gifts : Gifts) → gifts (optional name) ≡ None
    → one (gifts (optional other)) ++ given_by other (joined name value) ≡ one (with_gift (optional name) value gifts (optional other))
given_more workers workers value gifts none = rw none refl
given_more workers blocks value gifts none = append_nil (one (gifts (optional blocks)))
given_more workers layout value gifts none = append_nil (one (gifts (optional layout)))
given_more blocks workers value gifts none = append_nil (one (gifts (optional workers)))
given_more blocks blocks value gifts none = rw none refl
given_more blocks layout value gifts none = append_nil (one (gifts (optional layout)))
given_more layout workers value gifts none = append_nil (one (gifts (optional workers)))
given_more layout blocks value gifts none = append_nil (one (gifts (optional blocks)))
given_more layout layout value gifts none = rw none refl

-- an option gets as much by a value in its word as by one in the next
given_apart : (other name : Name) (value : List ℕ) → given_by other (apart name value) ≡ given_by other (joined name value)
given_apart workers workers value = refl
given_apart workers blocks value = refl
given_apart workers layout value = refl
given_apart blocks workers value = refl
given_apart blocks blocks value = refl
given_apart blocks layout value = refl
given_apart layout workers value = refl
given_apart layout blocks value = refl
given_apart layout layout value = refl

given_plain : (other : Name) (word : List ℕ) → given_by other (plain word) ≡ []
given_plain workers word = refl
given_plain blocks word = refl
given_plain layout word = refl

kept : (name : Name) (place : Place) (word : List ℕ) (gifts : Gifts) → with_gift (slot_at place) word gifts (optional name) ≡ gifts (optional name)
kept workers first word gifts = refl
kept workers second word gifts = refl
kept workers third word gifts = refl
kept workers past word gifts = refl
kept blocks first word gifts = refl
kept blocks second word gifts = refl
kept blocks third word gifts = refl
kept blocks past word gifts = refl
kept layout first word gifts = refl
kept layout second word gifts = refl
kept layout third word gifts = refl
kept layout past word gifts = refl

-- one part more
module _ (other : Name) (gifts : Gifts) (parts : List Part) where
  step_joined : (name : Name) (value : List ℕ) → gifts (optional name) ≡ None
      → one (gifts (optional other)) ++ given other (joined name value ∷ parts) ≡ one (with_gift (optional name) value gifts (optional other)) ++ given other parts
  step_joined name value none =
      sym (append_assoc (one (gifts (optional other))) (given_by other (joined name value)) (given other parts))
      ∙ ap (λ l. l ++ given other parts) (given_more name other value gifts none)

  step_apart : (name : Name) (value : List ℕ) → gifts (optional name) ≡ None
      → one (gifts (optional other)) ++ given other (apart name value ∷ parts) ≡ one (with_gift (optional name) value gifts (optional other)) ++ given other parts
  step_apart name value none =
      ap (λ l. one (gifts (optional other)) ++ (l ++ given other parts)) (given_apart other name value) ∙ step_joined name value none

  step_plain : (place : Place) (word : List ℕ)
      → one (gifts (optional other)) ++ given other (plain word ∷ parts) ≡ one (with_gift (slot_at place) word gifts (optional other)) ++ given other parts
  step_plain place word =
      ap (λ l. one (gifts (optional other)) ++ (l ++ given other parts)) (given_plain other word)
      ∙ ap (λ o. one o ++ given other parts) (sym (kept other place word gifts))

-- the values that are given to an option are what it has after all parts
pub options_after : (name : Name) (gifts : Gifts) (place : Place) (parts : List Part) → Good gifts place parts
    → one (gifts (optional name)) ++ given name parts ≡ one (after gifts place parts (optional name))
options_after name gifts place [] good = append_nil (one (gifts (optional name)))
options_after name gifts place (joined other value ∷ parts) good =
    step_joined name gifts parts other value good.0 ∙ options_after name (with_gift (optional other) value gifts) place parts good.1
options_after name gifts place (apart other value ∷ parts) good =
    step_apart name gifts parts other value good.0 ∙ options_after name (with_gift (optional other) value gifts) place parts good.1
options_after name gifts first (plain word ∷ parts) good =
    step_plain name gifts parts first word ∙ options_after name (with_gift command word gifts) second parts good
options_after name gifts second (plain word ∷ parts) good =
    step_plain name gifts parts second word ∙ options_after name (with_gift objects word gifts) third parts good
options_after name gifts third (plain word ∷ parts) good =
    step_plain name gifts parts third word ∙ options_after name (with_gift seed word gifts) past parts good
options_after name gifts past (plain word ∷ parts) good = absurd good

-- an option's value is no operand
pub AreFirst-option : (name : Name) (value : List ℕ) (gifts : Gifts) (place : Place) → AreFirst gifts place → AreFirst (with_gift (optional name) value gifts) place
AreFirst-option workers value gifts first are = are
AreFirst-option workers value gifts second are = are
AreFirst-option workers value gifts third are = are
AreFirst-option workers value gifts past are = are
AreFirst-option blocks value gifts first are = are
AreFirst-option blocks value gifts second are = are
AreFirst-option blocks value gifts third are = are
AreFirst-option blocks value gifts past are = are
AreFirst-option layout value gifts first are = are
AreFirst-option layout value gifts second are = are
AreFirst-option layout value gifts third are = are
AreFirst-option layout value gifts past are = are

operands_option : (name : Name) (value : List ℕ) (gifts : Gifts) → operands_given (with_gift (optional name) value gifts) ≡ operands_given gifts
operands_option workers value gifts = refl
operands_option blocks value gifts = refl
operands_option layout value gifts = refl

-- what stands after all parts, in its place
abbrev pub place_after : Place → List Part → Place
place_after place [] = place
place_after place (joined name value ∷ parts) = place_after place parts
place_after place (apart name value ∷ parts) = place_after place parts
place_after place (plain word ∷ parts) = place_after (next_place place) parts

pub record Operands (gifts : Gifts) (place : Place) (parts : List Part) : Type 0 where
  pub words_are : operands_given gifts ++ plains parts ≡ operands_given (after gifts place parts)
  pub in_order : AreFirst (after gifts place parts) (place_after place parts)

abbrev three : Option (List ℕ) → Option (List ℕ) → Option (List ℕ) → List (List ℕ)
three a b c = one a ++ one b ++ one c

third_more : (a b : Option (List ℕ)) (word : List ℕ) (rest : List (List ℕ)) → three a b None ++ (word ∷ rest) ≡ three a b (Some word) ++ rest
third_more None None word rest = refl
third_more None (Some b) word rest = refl
third_more (Some a) None word rest = refl
third_more (Some a) (Some b) word rest = refl

second_more : (a : Option (List ℕ)) (word : List ℕ) (rest : List (List ℕ)) → three a None None ++ (word ∷ rest) ≡ three a (Some word) None ++ rest
second_more None word rest = refl
second_more (Some a) word rest = refl

-- one operand more
module _ (gifts : Gifts) (word : List ℕ) (rest : List (List ℕ)) where
  pub operand_first : AreFirst gifts first
      → (operands_given gifts ++ (word ∷ rest) ≡ operands_given (with_gift command word gifts) ++ rest) × AreFirst (with_gift command word gifts) second
  operand_first are = (rw (are.0, are.1, are.2) refl, (refl, are.1, are.2))

  pub operand_second : AreFirst gifts second
      → (operands_given gifts ++ (word ∷ rest) ≡ operands_given (with_gift objects word gifts) ++ rest) × AreFirst (with_gift objects word gifts) third
  operand_second are = (rw (are.1, are.2) (second_more (gifts command) word rest), (are.0, refl, are.2))

  pub operand_third : AreFirst gifts third
      → (operands_given gifts ++ (word ∷ rest) ≡ operands_given (with_gift seed word gifts) ++ rest) × AreFirst (with_gift seed word gifts) past
  operand_third are = (rw are.2 (third_more (gifts command) (gifts objects) word rest), (are.0, are.1, refl))

-- the plain words are the operands that are there after all parts
pub operands_after : (gifts : Gifts) (place : Place) (parts : List Part) → AreFirst gifts place → Good gifts place parts → Operands gifts place parts
operands_after gifts place [] are good = record { words_are = append_nil (operands_given gifts); in_order = are }
operands_after gifts place (joined name value ∷ parts) are good =
    let rest = operands_after (with_gift (optional name) value gifts) place parts (AreFirst-option name value gifts place are) good.1 in
    record { words_are = ap (λ l. l ++ plains parts) (sym (operands_option name value gifts)) ∙ rest.words_are; in_order = rest.in_order }
operands_after gifts place (apart name value ∷ parts) are good =
    let rest = operands_after (with_gift (optional name) value gifts) place parts (AreFirst-option name value gifts place are) good.1 in
    record { words_are = ap (λ l. l ++ plains parts) (sym (operands_option name value gifts)) ∙ rest.words_are; in_order = rest.in_order }
operands_after gifts first (plain word ∷ parts) are good =
    let more = operand_first gifts word (plains parts) are in
    let rest = operands_after (with_gift command word gifts) second parts more.1 good in
    record { words_are = more.0 ∙ rest.words_are; in_order = rest.in_order }
operands_after gifts second (plain word ∷ parts) are good =
    let more = operand_second gifts word (plains parts) are in
    let rest = operands_after (with_gift objects word gifts) third parts more.1 good in
    record { words_are = more.0 ∙ rest.words_are; in_order = rest.in_order }
operands_after gifts third (plain word ∷ parts) are good =
    let more = operand_third gifts word (plains parts) are in
    let rest = operands_after (with_gift seed word gifts) past parts more.1 good in
    record { words_are = more.0 ∙ rest.words_are; in_order = rest.in_order }
operands_after gifts past (plain word ∷ parts) are good = absurd good

-- parts that give each option at most one value, and have at most three plain words
pub record AreFew (gifts : Gifts) (parts : List Part) : Type 0 where
  pub once : (name : Name) → length (one (gifts (optional name)) ++ given name parts) ≤ 1
  pub few : length (operands_given gifts ++ plains parts) ≤ 3

gives_here : (name : Name) (value : List ℕ) → given_by name (joined name value) ≡ value ∷ []
gives_here workers value = refl
gives_here blocks value = refl
gives_here layout value = refl

none_yet : (gift : Option (List ℕ)) (value : List ℕ) (values rest : List (List ℕ)) → values ≡ value ∷ [] → length (one gift ++ (values ++ rest)) ≤ 1 → gift ≡ None
none_yet None value values rest is few = refl
none_yet (Some text) value values rest is few = absurd (omega (arith, few, ap (λ l. length (l ++ rest)) is))

three_given : (a b c : Option (List ℕ)) (rest : List (List ℕ)) → is_some a ≡ true → is_some b ≡ true → is_some c ≡ true → 3 ≤ length (three a b c ++ rest)
three_given (Some a) (Some b) (Some c) rest p q r = omega arith
three_given (Some a) (Some b) None rest p q r = absurd (false≢true r)
three_given (Some a) None c rest p q r = absurd (false≢true q)
three_given None b c rest p q r = absurd (false≢true p)

pub good_of_few : (gifts : Gifts) (place : Place) (parts : List Part) → AreFirst gifts place → AreFew gifts parts → Good gifts place parts
good_of_few gifts place [] are few = tt
good_of_few gifts place (joined name value ∷ parts) are few =
    let none : gifts (optional name) ≡ None = none_yet (gifts (optional name)) value (given_by name (joined name value)) (given name parts) (gives_here name value) (few.once name) in (
      none,
      good_of_few (with_gift (optional name) value gifts) place parts (AreFirst-option name value gifts place are) (record {
        once = λ other. omega (arith, few.once other, ap length (step_joined other gifts parts name value none));
        few = omega (arith, few.few, ap (λ l. length (l ++ plains parts)) (operands_option name value gifts));
      }),
    )
good_of_few gifts place (apart name value ∷ parts) are few =
    let none : gifts (optional name) ≡ None =
    none_yet (gifts (optional name)) value (given_by name (apart name value)) (given name parts) (given_apart name name value ∙ gives_here name value) (few.once name) in (
      none,
      good_of_few (with_gift (optional name) value gifts) place parts (AreFirst-option name value gifts place are) (record {
        once = λ other. omega (arith, few.once other, ap length (step_apart other gifts parts name value none));
        few = omega (arith, few.few, ap (λ l. length (l ++ plains parts)) (operands_option name value gifts));
      }),
    )
good_of_few gifts first (plain word ∷ parts) are few =
    let more = operand_first gifts word (plains parts) are in
    good_of_few (with_gift command word gifts) second parts more.1 (record {
      once = λ other. omega (arith, few.once other, ap length (step_plain other gifts parts first word));
      few = omega (arith, few.few, ap length more.0);
    })
good_of_few gifts second (plain word ∷ parts) are few =
    let more = operand_second gifts word (plains parts) are in
    good_of_few (with_gift objects word gifts) third parts more.1 (record {
      once = λ other. omega (arith, few.once other, ap length (step_plain other gifts parts second word));
      few = omega (arith, few.few, ap length more.0);
    })
good_of_few gifts third (plain word ∷ parts) are few =
    let more = operand_third gifts word (plains parts) are in
    good_of_few (with_gift seed word gifts) past parts more.1 (record {
      once = λ other. omega (arith, few.once other, ap length (step_plain other gifts parts third word));
      few = omega (arith, few.few, ap length more.0);
    })
good_of_few gifts past (plain word ∷ parts) are few =
    omega (
      arith,
      few.few,
      three_given (gifts command) (gifts objects) (gifts seed) [] are.0 are.1 are.2,
      length-append (operands_given gifts) (word ∷ plains parts),
      length-append (operands_given gifts) [],
    )
