-- The rows of a parse, and what is given so far.
use Rattle.std.proofs.Common.{◌≡◌, List, [], ◌∷◌, ◌++◌, refl, sym, ap, subst, ◌∙◌, Option, Some, None, Bool, true, false, ◌||◌, is_some, find, slice_get, option_and_then}
use Rattle.std.proofs.lemmas.Bool.{false≢true, true≢false}
use Rattle.std.proofs.lemmas.Slice.Eq.{bytes_eq-Decides}
use Rattle.std.specs.Bool.{if◌then◌else◌}
use Rattle.std.specs.Str.{bytes_eq}
use Rattle.clap.specs.Walk.{Row, Text, at_row, has_row, first_of, with_values, without, more_values}
use Rattle.std.proofs.lemmas.List.{append-nil}
use Rattle.clap.specs.declared.builder.value_parser.Reading.{Reading}
use Rattle.clap.specs.declared.parser.matches.ValueSource.{ValueSource}
use Rattle.command_words.proofs.Slots.{Slot, slot_id, Gifts, with_gift}

-- the rows show what is given to each slot
pub record Shows (rows : List Row) (gifts : Gifts) : Type 0 where
  pub there : (slot : Slot) → has_row (slot_id slot) rows ≡ is_some (gifts slot)
  pub text : (slot : Slot) → first_of (slot_id slot) rows ≡ gifts slot

abbrev first_row : Option Row → Option Text
first_row = option_and_then (λ r. slice_get r.values 0)

pub none_of : (o : Option Text) → is_some o ≡ false → o ≡ None
none_of None is = refl
none_of (Some text) is = absurd (true≢false is)

-- a change at a row that is not there adds one
added : (id : Text) (change : Row → List Row) (missing rows : List Row) → has_row id rows ≡ false → at_row id change missing rows ≡ rows ++ missing
added id change missing [] none = refl
added id change missing (r ∷ rows) none = go (added id change missing rows) (bytes_eq r.id id) refl
  where
    go : (has_row id rows ≡ false → at_row id change missing rows ≡ rows ++ missing) → (b : Bool) → bytes_eq r.id id ≡ b → at_row id change missing (r ∷ rows) ≡ r ∷ rows ++ missing
    go more true is = absurd (false≢true (sym none ∙ ap (λ b. b || has_row id rows) is))
    go more false is =
        ap (λ b. if b then change r ++ rows else r ∷ at_row id change missing rows) is
        ∙ ap (λ l. r ∷ l) (more (sym (ap (λ b. b || has_row id rows) is) ∙ none))

module _ (row : Row) (other : Text) where
  pub has_added : (rows : List Row) → has_row other (rows ++ row ∷ []) ≡ (has_row other rows || bytes_eq row.id other)
  has_added [] = or_false (bytes_eq row.id other)
    where
      or_false : (b : Bool) → (b || false) ≡ b
      or_false true = refl
      or_false false = refl
  has_added (r ∷ rows) = go (has_added rows) (bytes_eq r.id other)
    where
      go : has_row other (rows ++ row ∷ []) ≡ (has_row other rows || bytes_eq row.id other) → (b : Bool) → (b || has_row other (rows ++ row ∷ [])) ≡ ((b || has_row other rows) || bytes_eq row.id other)
      go more true = refl
      go more false = more

  pub find_there : (rows : List Row) → has_row other rows ≡ true → find (λ r. bytes_eq r.id other) (rows ++ row ∷ []) ≡ find (λ r. bytes_eq r.id other) rows
  find_there [] there = absurd (false≢true there)
  find_there (r ∷ rows) there = go (find_there rows) (bytes_eq r.id other) refl
    where
      go : (has_row other rows ≡ true → find (λ r. bytes_eq r.id other) (rows ++ row ∷ []) ≡ find (λ r. bytes_eq r.id other) rows) → (b : Bool) → bytes_eq r.id other ≡ b → find (λ r. bytes_eq r.id other) (r ∷ rows ++ row ∷ []) ≡ find (λ r. bytes_eq r.id other) (r ∷ rows)
      go more true is = rw is refl
      go more false is = rw is (more (sym (ap (λ b. b || has_row other rows) is) ∙ there))

  pub find_added : (rows : List Row) → has_row other rows ≡ false → find (λ r. bytes_eq r.id other) (rows ++ row ∷ []) ≡ find (λ r. bytes_eq r.id other) (row ∷ [])
  find_added [] none = refl
  find_added (r ∷ rows) none = go (find_added rows) (bytes_eq r.id other) refl
    where
      go : (has_row other rows ≡ false → find (λ r. bytes_eq r.id other) (rows ++ row ∷ []) ≡ find (λ r. bytes_eq r.id other) (row ∷ [])) → (b : Bool) → bytes_eq r.id other ≡ b → find (λ r. bytes_eq r.id other) (r ∷ rows ++ row ∷ []) ≡ find (λ r. bytes_eq r.id other) (row ∷ [])
      go more true is = absurd (false≢true (sym none ∙ ap (λ b. b || has_row other rows) is))
      go more false is = rw is (more (sym (ap (λ b. b || has_row other rows) is) ∙ none))

-- one more gift, of a slot that had none, is one more row
module _ (slot : Slot) (how : Reading) (source : ValueSource) (text : Text) (rows : List Row) (gifts : Gifts) (shows : Shows rows gifts) (none : gifts slot ≡ None) where
  abbrev row_of_gift : Row
  row_of_gift = record { id = slot_id slot; values = text ∷ []; count = None; source = Some source; reading = how }

  abbrev rows_after_gift : List Row
  rows_after_gift = with_values (slot_id slot) how source (text ∷ []) (without (slot_id slot) rows)

  not_there : has_row (slot_id slot) rows ≡ false
  not_there = shows.there slot ∙ ap is_some none

  gift_added : rows_after_gift ≡ rows ++ row_of_gift ∷ []
  gift_added =
      ap (λ rs. with_values (slot_id slot) how source (text ∷ []) rs) (added (slot_id slot) (λ _. []) [] rows not_there ∙ append-nil rows)
      ∙ added (slot_id slot) (more_values source (text ∷ [])) (row_of_gift ∷ []) rows not_there

  there_after : (other : Slot) → has_row (slot_id other) (rows ++ row_of_gift ∷ []) ≡ is_some (with_gift slot text gifts other)
  there_after other = has_added row_of_gift (slot_id other) rows ∙ go (bytes_eq (slot_id slot) (slot_id other))
    where
      go : (b : Bool) → (has_row (slot_id other) rows || b) ≡ is_some (if b then Some text else gifts other)
      go true = or_true (has_row (slot_id other) rows)
        where
          or_true : (b : Bool) → (b || true) ≡ true
          or_true true = refl
          or_true false = refl
      go false = or_false (has_row (slot_id other) rows) ∙ shows.there other
        where
          or_false : (b : Bool) → (b || false) ≡ b
          or_false true = refl
          or_false false = refl

  text_same : (other : Slot) → bytes_eq (slot_id slot) (slot_id other) ≡ true → first_of (slot_id other) (rows ++ row_of_gift ∷ []) ≡ Some text
  text_same other is =
      let same : slot_id slot ≡ slot_id other = (bytes_eq-Decides (slot_id slot) (slot_id other)).0 is in
      ap first_row (find_added row_of_gift (slot_id other) rows (subst (λ id. has_row id rows ≡ false) same not_there)) ∙ rw is refl

  text_apart : (other : Slot) (b : Bool) → has_row (slot_id other) rows ≡ b → bytes_eq (slot_id slot) (slot_id other) ≡ false
      → first_of (slot_id other) (rows ++ row_of_gift ∷ []) ≡ gifts other
  text_apart other true there is = ap first_row (find_there row_of_gift (slot_id other) rows there) ∙ shows.text other
  text_apart other false absent is =
      ap first_row (find_added row_of_gift (slot_id other) rows absent) ∙ rw is refl
      ∙ sym (none_of (gifts other) (sym (shows.there other) ∙ absent))

  text_after : (other : Slot) (b : Bool) → bytes_eq (slot_id slot) (slot_id other) ≡ b
      → first_of (slot_id other) (rows ++ row_of_gift ∷ []) ≡ if b then Some text else gifts other
  text_after other true is = text_same other is
  text_after other false is = text_apart other (has_row (slot_id other) rows) refl is

  pub Shows-gift : Shows rows_after_gift (with_gift slot text gifts)
  Shows-gift = subst (λ rs. Shows rs (with_gift slot text gifts)) (sym gift_added) (record { there = there_after; text = λ other. text_after other (bytes_eq (slot_id slot) (slot_id other)) refl })
