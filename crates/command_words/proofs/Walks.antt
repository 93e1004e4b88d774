-- A parse by `clap` of words that are parts: it fails exactly where an option is given twice or a word stands past the operands,
-- and else its rows show what is given.
use Rattle.std.proofs.Common.{◌≡◌, ℕ, ◌==◌, ◌&&◌, List, [], ◌∷◌, ◌++◌, length, refl, sym, ap, subst, ◌∙◌, arith, ne_eqb, Option, Some, None, Bool, true, false, not, is_some, codes}
use Rattle.std.specs.List.{All, flat_map, fold}
use Rattle.std.proofs.lemmas.List.Elements.{All-head, All-tail}
use Rattle.std.specs.Bool.{if◌then◌else◌}
use Rattle.clap.specs.Walk.{Row, Rule, Text, Held, Walk, walked, used, settled_rows, has_row, with_values, without, reading_by}
use Rattle.clap.specs.Simple.{filled, new_rule}
use Rattle.clap.specs.Faults.{turn_fault, settle_fault, use_fault, walk_fault}
use Rattle.clap.specs.Kinds.{Kinds, or_else}
use Rattle.clap.specs.declared.error.kind.ErrorKind.TheVariants as kind
use Rattle.clap.specs.declared.parser.matches.ValueSource.TheVariants.{CommandLine}
use Rattle.command_words.specs.Parts.{workers, blocks, layout, word_of, Part, joined, apart, plain, words_of, IsPart, plains}
use Rattle.command_words.specs.Clap.{id_of}
use Rattle.command_words.proofs.Steps.{shape, rules_, at_rest, waits_for, option_, joined_step, joined_fault, apart_step, apart_fault, value_step, first_step, second_step, third_step, turn_waiting, first_fault, second_fault, third_fault, fourth_fault}
use Rattle.command_words.proofs.Slots.{Slot, optional, command, objects, seed, slot_id, Gifts, with_gift, Place, first, second, third, past, Good, after, AreFirst, AreFirst-option, operand_first, operand_second, operand_third}
use Rattle.command_words.proofs.GivenRows.{Shows, Shows-gift, none_of}

-- a value that was met and is not used yet
abbrev pub Pending : Type 0
Pending = Option (Slot × Text)

abbrev pub pend : Pending → Option (Text × List Text)
pend None = None
pend (Some (slot, text)) = Some (slot_id slot, text ∷ [])

abbrev pub index_of : Place → ℕ
index_of first = 1
index_of second = 2
index_of third = 3
index_of past = 4

abbrev pub stand : List Row → Pending → Place → Walk
stand rows pending place = at_rest rows (pend pending) (index_of place)

-- the rows once that value is used, and what is wrong with the use
abbrev pub rows_so : List Row → Pending → List Row
rows_so rows pending = settled_rows rules_ (pend pending) rows

abbrev pub clash : List Row → Pending → Kinds
clash rows pending = settle_fault rules_ false (at_rest rows (pend pending) 1).held

abbrev rule_of : Slot → Rule
rule_of (optional name) = option_ name
rule_of command = filled (new_rule (codes "command"))
rule_of objects = filled (new_rule (codes "objects"))
rule_of seed = filled (new_rule (codes "seed"))

rows_used : (slot : Slot) (text : Text) (rows : List Row)
    → used (rule_of slot) (text ∷ []) rows ≡ with_values (slot_id slot) (reading_by (rule_of slot)) CommandLine (text ∷ []) (without (slot_id slot) rows)
rows_used (optional workers) text rows = refl
rows_used (optional blocks) text rows = refl
rows_used (optional layout) text rows = refl
rows_used command text rows = refl
rows_used objects text rows = refl
rows_used seed text rows = refl

rows_settled : (slot : Slot) (text : Text) (rows : List Row) → rows_so rows (Some (slot, text)) ≡ used (rule_of slot) (text ∷ []) rows
rows_settled (optional workers) text rows = refl
rows_settled (optional blocks) text rows = refl
rows_settled (optional layout) text rows = refl
rows_settled command text rows = refl
rows_settled objects text rows = refl
rows_settled seed text rows = refl

-- a value is refused where its slot has one
abbrev twice : Bool → Kinds
twice b = or_else (if b && not false then kind.ArgumentConflict ∷ [] else []) []

use_is : (slot : Slot) (text : Text) (rows : List Row) → use_fault false (rule_of slot) (text ∷ []) rows ≡ twice (has_row (slot_id slot) rows)
use_is (optional workers) text rows = refl
use_is (optional blocks) text rows = refl
use_is (optional layout) text rows = refl
use_is command text rows = refl
use_is objects text rows = refl
use_is seed text rows = refl

clash_is : (slot : Slot) (text : Text) (rows : List Row) → clash rows (Some (slot, text)) ≡ twice (has_row (slot_id slot) rows)
clash_is (optional workers) text rows = refl
clash_is (optional blocks) text rows = refl
clash_is (optional layout) text rows = refl
clash_is command text rows = refl
clash_is objects text rows = refl
clash_is seed text rows = refl

once_if : (b : Bool) → twice b ≡ [] → b ≡ false
once_if true is = absurd (omega (arith, ap length is))
once_if false is = refl

pub or_nil : (a b : Kinds) → or_else a b ≡ [] → (a ≡ []) × (b ≡ [])
or_nil [] b is = (refl, is)
or_nil (k ∷ ks) b is = absurd (omega (arith, ap length is))

pub nil_or : (a b : Kinds) → a ≡ [] → b ≡ [] → or_else a b ≡ []
nil_or a b p q = ap (λ x. or_else x b) p ∙ q

-- the words are walked and the last value used without a fault
pub record Fine (w : Walk) (words : List Text) : Type 0 where
  pub walks : walk_fault shape [] w words ≡ []
  pub settles : settle_fault rules_ false (fold (walked rules_ []) w words).held ≡ []

abbrev pub ending : Walk → List Text → Held
ending w words = (fold (walked rules_ []) w words).held

-- and then the rows show this
pub record Done (w : Walk) (words : List Text) (gifts : Gifts) : Type 0 where
  pub fine : Fine w words
  pub shown : Shows (settled_rows rules_ (ending w words).pending (ending w words).rows) gifts

-- one word
turned : (w next : Walk) (word : Text) (words : List Text) → walked rules_ [] w word ≡ next → Fine w (word ∷ words)
    → (turn_fault shape [] w word ≡ []) × Fine next words
unfolding walk_fault
turned w next word words step fine =
    let split = or_nil (turn_fault shape [] w word) (walk_fault shape [] (walked rules_ [] w word) words) fine.walks in
    (split.0, subst (λ z. Fine z words) step (record { walks = split.1; settles = fine.settles }))

done_turn : (w next : Walk) (word : Text) (words : List Text) (gifts : Gifts) → walked rules_ [] w word ≡ next → turn_fault shape [] w word ≡ []
    → Done next words gifts → Done w (word ∷ words) gifts
unfolding walk_fault
done_turn w next word words gifts step turn done =
    let here : Done (walked rules_ [] w word) words gifts = subst (λ z. Done z words gifts) (sym step) done in
    record {
      fine = record {
        walks = nil_or (turn_fault shape [] w word) (walk_fault shape [] (walked rules_ [] w word) words) turn here.fine.walks;
        settles = here.fine.settles;
      };
      shown = here.shown;
    }

-- a gift to a slot that has none
module _ (slot : Slot) (text : Text) (rows : List Row) (gifts : Gifts) (shows : Shows rows gifts) (none : gifts slot ≡ None) where
  fresh : has_row (slot_id slot) rows ≡ false
  fresh = shows.there slot ∙ ap is_some none

  fresh_use : use_fault false (rule_of slot) (text ∷ []) rows ≡ []
  fresh_use = use_is slot text rows ∙ ap twice fresh

  fresh_clash : clash rows (Some (slot, text)) ≡ []
  fresh_clash = clash_is slot text rows ∙ ap twice fresh

  shows_used : Shows (used (rule_of slot) (text ∷ []) rows) (with_gift slot text gifts)
  shows_used =
      subst (λ rs. Shows rs (with_gift slot text gifts)) (sym (rows_used slot text rows))
      (Shows-gift slot (reading_by (rule_of slot)) CommandLine text rows gifts shows none)

  shows_settled : Shows (rows_so rows (Some (slot, text))) (with_gift slot text gifts)
  shows_settled = subst (λ rs. Shows rs (with_gift slot text gifts)) (sym (rows_settled slot text rows)) shows_used

slot_free : (slot : Slot) (rows : List Row) (gifts : Gifts) → Shows rows gifts → has_row (slot_id slot) rows ≡ false → gifts slot ≡ None
slot_free slot rows gifts shows is = none_of (gifts slot) (sym (shows.there slot) ∙ is)

pub complete : (parts : List Part) (rows : List Row) (pending : Pending) (place : Place) (gifts : Gifts) → All IsPart parts → AreFirst gifts place
    → Shows (rows_so rows pending) gifts → clash rows pending ≡ [] → Good gifts place parts
    → Done (stand rows pending place) (flat_map words_of parts) (after gifts place parts)
unfolding walk_fault
complete [] rows pending place gifts each are shows clean good = record {
  fine = record { walks = refl; settles = clean };
  shown = shows;
}
complete (joined name value ∷ parts) rows pending place gifts each are shows clean good =
    let so = rows_so rows pending in
    let next : List Row = used (option_ name) (value ∷ []) so in
    done_turn (stand rows pending place) (stand next None place) (word_of name ++ codes "=" ++ value) (flat_map words_of parts)
    (after (with_gift (optional name) value gifts) place parts)
    (joined_step name value rows (pend pending) (index_of place))
    (joined_fault name value rows (pend pending) (index_of place)
    ∙ nil_or (or_else (clash rows pending) (use_fault false (option_ name) (value ∷ []) so)) []
    (nil_or (clash rows pending) (use_fault false (option_ name) (value ∷ []) so) clean (fresh_use (optional name) value so gifts shows good.0)) refl)
    (complete parts next None place (with_gift (optional name) value gifts) (All-tail IsPart (joined name value) parts each)
    (AreFirst-option name value gifts place are) (shows_used (optional name) value so gifts shows good.0) refl good.1)
complete (apart name [] ∷ parts) rows pending place gifts each are shows clean good = absurd (All-head IsPart (apart name []) parts each)
complete (apart name (byte ∷ bytes) ∷ parts) rows pending place gifts each are shows clean good =
    let so = rows_so rows pending in
    let text : Text = byte ∷ bytes in
    let no_hyphen : (byte == 45) ≡ false = ne_eqb byte 45 (All-head IsPart (apart name text) parts each) in
    let final : Gifts = after (with_gift (optional name) text gifts) place parts in
    done_turn (stand rows pending place) (waits_for name so (index_of place)) (word_of name) (text ∷ flat_map words_of parts) final
    (apart_step name rows (pend pending) (index_of place))
    (apart_fault name rows (pend pending) (index_of place) ∙ nil_or (clash rows pending) [] clean refl)
    (done_turn (waits_for name so (index_of place)) (stand so (Some (optional name, text)) place) text (flat_map words_of parts) final
    (value_step byte bytes no_hyphen name so (index_of place))
    (turn_waiting byte bytes no_hyphen so None name (index_of place))
    (complete parts so (Some (optional name, text)) place (with_gift (optional name) text gifts) (All-tail IsPart (apart name text) parts each)
    (AreFirst-option name text gifts place are) (shows_settled (optional name) text so gifts shows good.0)
    (fresh_clash (optional name) text so gifts shows good.0) good.1))
complete (plain [] ∷ parts) rows pending place gifts each are shows clean good = absurd (All-head IsPart (plain []) parts each)
complete (plain (byte ∷ bytes) ∷ parts) rows pending first gifts each are shows clean good =
    let so = rows_so rows pending in
    let text : Text = byte ∷ bytes in
    let no_hyphen : (byte == 45) ≡ false = ne_eqb byte 45 (All-head IsPart (plain text) parts each) in
    done_turn (stand rows pending first) (stand so (Some (command, text)) second) text (flat_map words_of parts)
    (after (with_gift command text gifts) second parts)
    (first_step byte bytes no_hyphen rows (pend pending)) (first_fault byte bytes no_hyphen rows (pend pending) ∙ clean)
    (complete parts so (Some (command, text)) second (with_gift command text gifts) (All-tail IsPart (plain text) parts each)
    (operand_first gifts text (plains parts) are).1 (shows_settled command text so gifts shows are.0) (fresh_clash command text so gifts shows are.0) good)
complete (plain (byte ∷ bytes) ∷ parts) rows pending second gifts each are shows clean good =
    let so = rows_so rows pending in
    let text : Text = byte ∷ bytes in
    let no_hyphen : (byte == 45) ≡ false = ne_eqb byte 45 (All-head IsPart (plain text) parts each) in
    done_turn (stand rows pending second) (stand so (Some (objects, text)) third) text (flat_map words_of parts)
    (after (with_gift objects text gifts) third parts)
    (second_step byte bytes no_hyphen rows (pend pending)) (second_fault byte bytes no_hyphen rows (pend pending) ∙ clean)
    (complete parts so (Some (objects, text)) third (with_gift objects text gifts) (All-tail IsPart (plain text) parts each)
    (operand_second gifts text (plains parts) are).1 (shows_settled objects text so gifts shows are.1) (fresh_clash objects text so gifts shows are.1) good)
complete (plain (byte ∷ bytes) ∷ parts) rows pending third gifts each are shows clean good =
    let so = rows_so rows pending in
    let text : Text = byte ∷ bytes in
    let no_hyphen : (byte == 45) ≡ false = ne_eqb byte 45 (All-head IsPart (plain text) parts each) in
    done_turn (stand rows pending third) (stand so (Some (seed, text)) past) text (flat_map words_of parts)
    (after (with_gift seed text gifts) past parts)
    (third_step byte bytes no_hyphen rows (pend pending)) (third_fault byte bytes no_hyphen rows (pend pending) ∙ clean)
    (complete parts so (Some (seed, text)) past (with_gift seed text gifts) (All-tail IsPart (plain text) parts each)
    (operand_third gifts text (plains parts) are).1 (shows_settled seed text so gifts shows are.2) (fresh_clash seed text so gifts shows are.2) good)
complete (plain (byte ∷ bytes) ∷ parts) rows pending past gifts each are shows clean good = absurd good

-- a clash that stands is told at the next part
clash_stays : (parts : List Part) (rows : List Row) (pending : Pending) (place : Place) → All IsPart parts → Fine (stand rows pending place) (flat_map words_of parts)
    → clash rows pending ≡ []
clash_stays [] rows pending place each fine = fine.settles
clash_stays (joined name value ∷ parts) rows pending place each fine =
    let turn = turned (stand rows pending place) (walked rules_ [] (stand rows pending place) (word_of name ++ codes "=" ++ value)) (word_of name ++ codes "=" ++ value)
    (flat_map words_of parts) refl fine in
    let used_ : Kinds = use_fault false (option_ name) (value ∷ []) (rows_so rows pending) in
    (or_nil (clash rows pending) used_
    (or_nil (or_else (clash rows pending) used_) [] (sym (joined_fault name value rows (pend pending) (index_of place)) ∙ turn.0)).0).0
clash_stays (apart name value ∷ parts) rows pending place each fine =
    let turn = turned (stand rows pending place) (walked rules_ [] (stand rows pending place) (word_of name)) (word_of name) (value ∷ flat_map words_of parts) refl fine in
    (or_nil (clash rows pending) [] (sym (apart_fault name rows (pend pending) (index_of place)) ∙ turn.0)).0
clash_stays (plain [] ∷ parts) rows pending place each fine = absurd (All-head IsPart (plain []) parts each)
clash_stays (plain (byte ∷ bytes) ∷ parts) rows pending first each fine =
    let turn = turned (stand rows pending first) (walked rules_ [] (stand rows pending first) (byte ∷ bytes)) (byte ∷ bytes) (flat_map words_of parts) refl fine in
    sym (first_fault byte bytes (ne_eqb byte 45 (All-head IsPart (plain (byte ∷ bytes)) parts each)) rows (pend pending)) ∙ turn.0
clash_stays (plain (byte ∷ bytes) ∷ parts) rows pending second each fine =
    let turn = turned (stand rows pending second) (walked rules_ [] (stand rows pending second) (byte ∷ bytes)) (byte ∷ bytes) (flat_map words_of parts) refl fine in
    sym (second_fault byte bytes (ne_eqb byte 45 (All-head IsPart (plain (byte ∷ bytes)) parts each)) rows (pend pending)) ∙ turn.0
clash_stays (plain (byte ∷ bytes) ∷ parts) rows pending third each fine =
    let turn = turned (stand rows pending third) (walked rules_ [] (stand rows pending third) (byte ∷ bytes)) (byte ∷ bytes) (flat_map words_of parts) refl fine in
    sym (third_fault byte bytes (ne_eqb byte 45 (All-head IsPart (plain (byte ∷ bytes)) parts each)) rows (pend pending)) ∙ turn.0
clash_stays (plain (byte ∷ bytes) ∷ parts) rows pending past each fine =
    let turn = turned (stand rows pending past) (walked rules_ [] (stand rows pending past) (byte ∷ bytes)) (byte ∷ bytes) (flat_map words_of parts) refl fine in
    let stray = sym (fourth_fault byte bytes (ne_eqb byte 45 (All-head IsPart (plain (byte ∷ bytes)) parts each)) rows (pend pending)) ∙ turn.0 in
    absurd (omega (arith, ap length stray))

pub sound : (parts : List Part) (rows : List Row) (pending : Pending) (place : Place) (gifts : Gifts) → All IsPart parts → AreFirst gifts place
    → Shows (rows_so rows pending) gifts → Fine (stand rows pending place) (flat_map words_of parts) → Good gifts place parts
sound [] rows pending place gifts each are shows fine = tt
sound (joined name value ∷ parts) rows pending place gifts each are shows fine =
    let so = rows_so rows pending in
    let next : List Row = used (option_ name) (value ∷ []) so in
    let turn = turned (stand rows pending place) (stand next None place) (word_of name ++ codes "=" ++ value) (flat_map words_of parts)
    (joined_step name value rows (pend pending) (index_of place)) fine in
    let use_ : Kinds = use_fault false (option_ name) (value ∷ []) so in
    let right = (or_nil (clash rows pending) use_
    (or_nil (or_else (clash rows pending) use_) [] (sym (joined_fault name value rows (pend pending) (index_of place)) ∙ turn.0)).0).1 in
    let free : gifts (optional name) ≡ None =
    slot_free (optional name) so gifts shows (once_if (has_row (id_of name) so) (sym (use_is (optional name) value so) ∙ right)) in (
      free,
      sound parts next None place (with_gift (optional name) value gifts) (All-tail IsPart (joined name value) parts each)
          (AreFirst-option name value gifts place are) (shows_used (optional name) value so gifts shows free) turn.1,
    )
sound (apart name [] ∷ parts) rows pending place gifts each are shows fine = absurd (All-head IsPart (apart name []) parts each)
sound (apart name (byte ∷ bytes) ∷ parts) rows pending place gifts each are shows fine =
    let so = rows_so rows pending in
    let text : Text = byte ∷ bytes in
    let no_hyphen : (byte == 45) ≡ false = ne_eqb byte 45 (All-head IsPart (apart name text) parts each) in
    let rest : All IsPart parts = All-tail IsPart (apart name text) parts each in
    let turn = turned (stand rows pending place) (waits_for name so (index_of place)) (word_of name) (text ∷ flat_map words_of parts)
    (apart_step name rows (pend pending) (index_of place)) fine in
    let then_ = turned (waits_for name so (index_of place)) (stand so (Some (optional name, text)) place) text (flat_map words_of parts)
    (value_step byte bytes no_hyphen name so (index_of place)) turn.1 in
    let right = clash_stays parts so (Some (optional name, text)) place rest then_.1 in
    let free : gifts (optional name) ≡ None =
    slot_free (optional name) so gifts shows (once_if (has_row (id_of name) so) (sym (clash_is (optional name) text so) ∙ right)) in (
      free,
      sound parts so (Some (optional name, text)) place (with_gift (optional name) text gifts) rest
          (AreFirst-option name text gifts place are) (shows_settled (optional name) text so gifts shows free) then_.1,
    )
sound (plain [] ∷ parts) rows pending place gifts each are shows fine = absurd (All-head IsPart (plain []) parts each)
sound (plain (byte ∷ bytes) ∷ parts) rows pending first gifts each are shows fine =
    let so = rows_so rows pending in
    let text : Text = byte ∷ bytes in
    let no_hyphen : (byte == 45) ≡ false = ne_eqb byte 45 (All-head IsPart (plain text) parts each) in
    let turn = turned (stand rows pending first) (stand so (Some (command, text)) second) text (flat_map words_of parts)
    (first_step byte bytes no_hyphen rows (pend pending)) fine in
    sound parts so (Some (command, text)) second (with_gift command text gifts) (All-tail IsPart (plain text) parts each)
    (operand_first gifts text (plains parts) are).1 (shows_settled command text so gifts shows are.0) turn.1
sound (plain (byte ∷ bytes) ∷ parts) rows pending second gifts each are shows fine =
    let so = rows_so rows pending in
    let text : Text = byte ∷ bytes in
    let no_hyphen : (byte == 45) ≡ false = ne_eqb byte 45 (All-head IsPart (plain text) parts each) in
    let turn = turned (stand rows pending second) (stand so (Some (objects, text)) third) text (flat_map words_of parts)
    (second_step byte bytes no_hyphen rows (pend pending)) fine in
    sound parts so (Some (objects, text)) third (with_gift objects text gifts) (All-tail IsPart (plain text) parts each)
    (operand_second gifts text (plains parts) are).1 (shows_settled objects text so gifts shows are.1) turn.1
sound (plain (byte ∷ bytes) ∷ parts) rows pending third gifts each are shows fine =
    let so = rows_so rows pending in
    let text : Text = byte ∷ bytes in
    let no_hyphen : (byte == 45) ≡ false = ne_eqb byte 45 (All-head IsPart (plain text) parts each) in
    let turn = turned (stand rows pending third) (stand so (Some (seed, text)) past) text (flat_map words_of parts)
    (third_step byte bytes no_hyphen rows (pend pending)) fine in
    sound parts so (Some (seed, text)) past (with_gift seed text gifts) (All-tail IsPart (plain text) parts each)
    (operand_third gifts text (plains parts) are).1 (shows_settled seed text so gifts shows are.2) turn.1
sound (plain (byte ∷ bytes) ∷ parts) rows pending past gifts each are shows fine =
    let turn = turned (stand rows pending past) (walked rules_ [] (stand rows pending past) (byte ∷ bytes)) (byte ∷ bytes) (flat_map words_of parts) refl fine in
    let stray = sym (fourth_fault byte bytes (ne_eqb byte 45 (All-head IsPart (plain (byte ∷ bytes)) parts each)) rows (pend pending)) ∙ turn.0 in
    omega (arith, ap length stray)
