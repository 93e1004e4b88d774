-- What `clap` makes of each part.
use Rattle.std.proofs.Common.{◌≡◌, ℕ, ◌==◌, ◌&&◌, List, [], ◌∷◌, ◌++◌, refl, ap, ◌∙◌, Option, Some, None, Bool, true, false, codes}
use Rattle.clap.specs.Walk.{Row, Rule, Text, Held, Walk, idle, option, walked, used, settled_rows, Waiting, value as taken, trailing, subcommand_or_other, long_or_other, short_or_plain, plain_word, after_step, pushed, settled}
use Rattle.clap.specs.Lexer.{long_of, short_of}
use Rattle.std.specs.Str.{bytes_eq}
use Rattle.std.specs.Option.{option_map_or}
use Rattle.std.specs.Bool.{if◌then◌else◌}
use Rattle.clap.specs.Simple.{Shape, built, filled}
use Rattle.clap.specs.Faults.{bundle_fault, flag_word_fault, other_fault, step_fault, turn_fault, settle_fault, use_fault}
use Rattle.clap.specs.Kinds.{or_else}
use Rattle.clap.specs.declared.error.kind.ErrorKind.TheVariants as kind
use Rattle.clap.proofs.OnLiterals.{clap_on_literals}
use Rattle.command_words.specs.Parts.{Name, workers, blocks, layout, word_of}
use Rattle.command_words.specs.Clap.{words_app, id_of, option_rule}

and_false : (b : Bool) → (b && false) ≡ false
and_false true = refl
and_false false = refl

abbrev pub shape : Shape
shape = (built words_app).top

abbrev pub rules_ : List Rule
rules_ = shape.rules

abbrev pub at_rest : List Row → Option (Text × List Text) → ℕ → Walk
at_rest rows pending position = record {
  held = record { rows = rows; pending = pending; skip = 0 };
  waiting = idle;
  position = position;
  is_trailing = false;
  stopped = None;
}

abbrev pub option_ : Name → Rule
option_ name = filled (option_rule (id_of name))

pub joined_step : (name : Name) (value : Text) (rows : List Row) (pending : Option (Text × List Text)) (position : ℕ)
    → walked rules_ [] (at_rest rows pending position) (word_of name ++ codes "=" ++ value)
    ≡ at_rest (used (option_ name) (value ∷ []) (settled_rows rules_ pending rows)) None position
unfolding clap_on_literals
joined_step workers value rows pending position = refl
joined_step blocks value rows pending position = refl
joined_step layout value rows pending position = refl

pub joined_fault : (name : Name) (value : Text) (rows : List Row) (pending : Option (Text × List Text)) (position : ℕ)
    → turn_fault shape [] (at_rest rows pending position) (word_of name ++ codes "=" ++ value)
    ≡ or_else (or_else (settle_fault rules_ false (at_rest rows pending position).held) (use_fault false (option_ name) (value ∷ []) (settled_rows rules_ pending rows))) []
unfolding clap_on_literals
joined_fault workers value rows pending position = refl
joined_fault blocks value rows pending position = refl
joined_fault layout value rows pending position = refl

abbrev pub waits_for : Name → List Row → ℕ → Walk
waits_for name rows position = record {
  held = record { rows = rows; pending = Some (id_of name, []); skip = 0 };
  waiting = option (id_of name);
  position = position;
  is_trailing = false;
  stopped = None;
}

pub apart_step : (name : Name) (rows : List Row) (pending : Option (Text × List Text)) (position : ℕ)
    → walked rules_ [] (at_rest rows pending position) (word_of name) ≡ waits_for name (settled_rows rules_ pending rows) position
unfolding clap_on_literals
apart_step workers rows pending position = refl
apart_step blocks rows pending position = refl
apart_step layout rows pending position = refl

pub apart_fault : (name : Name) (rows : List Row) (pending : Option (Text × List Text)) (position : ℕ)
    → turn_fault shape [] (at_rest rows pending position) (word_of name) ≡ or_else (settle_fault rules_ false (at_rest rows pending position).held) []
unfolding clap_on_literals
apart_fault workers rows pending position = refl
apart_fault blocks rows pending position = refl
apart_fault layout rows pending position = refl

module _ (byte : ℕ) (bytes : Text) (no_hyphen : (byte == 45) ≡ false) where
  abbrev word : Text
  word = byte ∷ bytes

  no_dashes : bytes_eq word (45 ∷ 45 ∷ []) ≡ false
  no_dashes = rw no_hyphen refl

  no_long : long_of word ≡ None
  no_long = rw no_hyphen refl

  no_short : short_of word ≡ None
  no_short = rw no_hyphen refl

  module _ (waiting : Waiting) (position : ℕ) (h : Held) where
    met_plain : subcommand_or_other rules_ None waiting position word h ≡ plain_word rules_ waiting word h
    met_plain =
        ap (λ b. if b then (h, trailing position) else long_or_other rules_ waiting word (long_of word) h) no_dashes
        ∙ ap (λ l. long_or_other rules_ waiting word l h) no_long
        ∙ ap (λ s. short_or_plain rules_ waiting word s h) no_short

    fault_plain : other_fault shape None word h ≡ []
    fault_plain =
        ap (λ b. if b then [] else flag_word_fault rules_ false (long_of word) word h) no_dashes
        ∙ ap (λ l. flag_word_fault rules_ false l word h) no_long
        ∙ ap (λ s. option_map_or (λ flags. bundle_fault rules_ false flags h) s []) no_short

  pub value_step : (name : Name) (rows : List Row) (position : ℕ)
      → walked rules_ [] (waits_for name rows position) word ≡ at_rest rows (Some (id_of name, word ∷ [])) position
  unfolding clap_on_literals
  value_step workers rows position =
      ap (λ m. after_step rules_ word (waits_for workers rows position) m.0 m.1) (met_plain (option (id_of workers)) position (waits_for workers rows position).held)
  value_step blocks rows position =
      ap (λ m. after_step rules_ word (waits_for blocks rows position) m.0 m.1) (met_plain (option (id_of blocks)) position (waits_for blocks rows position).held)
  value_step layout rows position =
      ap (λ m. after_step rules_ word (waits_for layout rows position) m.0 m.1) (met_plain (option (id_of layout)) position (waits_for layout rows position).held)

module _ (byte : ℕ) (bytes : Text) (no_hyphen : (byte == 45) ≡ false) (rows : List Row) (pending : Option (Text × List Text)) where
  abbrev pends : Text → Bool
  pends id = option_map_or (λ p. bytes_eq p.0 id) pending false

  abbrev pushed_to : Bool → Text → ℕ → Walk
  pushed_to b id next = record {
    held = pushed id (byte ∷ bytes) (if b then (at_rest rows pending 1).held else settled rules_ (at_rest rows pending 1).held);
    waiting = idle;
    position = next;
    is_trailing = false;
    stopped = None;
  }

  pub first_step : walked rules_ [] (at_rest rows pending 1) (byte ∷ bytes) ≡ at_rest (settled_rows rules_ pending rows) (Some (codes "command", (byte ∷ bytes) ∷ [])) 2
  unfolding clap_on_literals
  first_step =
      ap (λ m. after_step rules_ (byte ∷ bytes) (at_rest rows pending 1) m.0 m.1) (met_plain byte bytes no_hyphen idle 1 (at_rest rows pending 1).held)
      ∙ ap (λ b. pushed_to b (codes "command") 2) (and_false (pends (codes "command")))

  pub second_step : walked rules_ [] (at_rest rows pending 2) (byte ∷ bytes) ≡ at_rest (settled_rows rules_ pending rows) (Some (codes "objects", (byte ∷ bytes) ∷ [])) 3
  unfolding clap_on_literals
  second_step =
      ap (λ m. after_step rules_ (byte ∷ bytes) (at_rest rows pending 2) m.0 m.1) (met_plain byte bytes no_hyphen idle 2 (at_rest rows pending 2).held)
      ∙ ap (λ b. pushed_to b (codes "objects") 3) (and_false (pends (codes "objects")))

  pub third_step : walked rules_ [] (at_rest rows pending 3) (byte ∷ bytes) ≡ at_rest (settled_rows rules_ pending rows) (Some (codes "seed", (byte ∷ bytes) ∷ [])) 4
  unfolding clap_on_literals
  third_step =
      ap (λ m. after_step rules_ (byte ∷ bytes) (at_rest rows pending 3) m.0 m.1) (met_plain byte bytes no_hyphen idle 3 (at_rest rows pending 3).held)
      ∙ ap (λ b. pushed_to b (codes "seed") 4) (and_false (pends (codes "seed")))

  -- a plain word is no fault by itself; the place that it goes to may be none
  turn_idle : (position : ℕ)
      → turn_fault shape [] (at_rest rows pending position) (byte ∷ bytes) ≡ step_fault shape position (at_rest rows pending position).held taken
  unfolding clap_on_literals
  turn_idle position =
      ap (λ k. or_else k (step_fault shape position (subcommand_or_other rules_ None idle position (byte ∷ bytes) (at_rest rows pending position).held).0
      (subcommand_or_other rules_ None idle position (byte ∷ bytes) (at_rest rows pending position).held).1))
      (fault_plain byte bytes no_hyphen idle position (at_rest rows pending position).held)
      ∙ ap (λ m. step_fault shape position m.0 m.1) (met_plain byte bytes no_hyphen idle position (at_rest rows pending position).held)

  pub turn_waiting : (name : Name) (position : ℕ) → turn_fault shape [] (waits_for name rows position) (byte ∷ bytes) ≡ []
  unfolding clap_on_literals
  turn_waiting name position =
      ap (λ k. or_else k (step_fault shape position (subcommand_or_other rules_ None (option (id_of name)) position (byte ∷ bytes) (waits_for name rows position).held).0
      (subcommand_or_other rules_ None (option (id_of name)) position (byte ∷ bytes) (waits_for name rows position).held).1))
      (fault_plain byte bytes no_hyphen (option (id_of name)) position (waits_for name rows position).held)
      ∙ ap (λ m. step_fault shape position m.0 m.1) (met_plain byte bytes no_hyphen (option (id_of name)) position (waits_for name rows position).held)

  pub first_fault : turn_fault shape [] (at_rest rows pending 1) (byte ∷ bytes) ≡ settle_fault rules_ false (at_rest rows pending 1).held
  unfolding clap_on_literals
  first_fault =
      turn_idle 1 ∙ ap (λ b. if b then [] else settle_fault rules_ false (at_rest rows pending 1).held) (and_false (pends (codes "command")))

  pub second_fault : turn_fault shape [] (at_rest rows pending 2) (byte ∷ bytes) ≡ settle_fault rules_ false (at_rest rows pending 2).held
  unfolding clap_on_literals
  second_fault =
      turn_idle 2 ∙ ap (λ b. if b then [] else settle_fault rules_ false (at_rest rows pending 2).held) (and_false (pends (codes "objects")))

  pub third_fault : turn_fault shape [] (at_rest rows pending 3) (byte ∷ bytes) ≡ settle_fault rules_ false (at_rest rows pending 3).held
  unfolding clap_on_literals
  third_fault =
      turn_idle 3 ∙ ap (λ b. if b then [] else settle_fault rules_ false (at_rest rows pending 3).held) (and_false (pends (codes "seed")))

  pub fourth_fault : turn_fault shape [] (at_rest rows pending 4) (byte ∷ bytes) ≡ kind.UnknownArgument ∷ []
  unfolding clap_on_literals
  fourth_fault = turn_idle 4
