-- What the texts of a parse are.
use Rattle.std.proofs.Common.{◌≡◌, ◌≢◌, ℕ, List, [], ◌++◌, refl, sym, ap, ◌∙◌, append_assoc, Option, Some, None, option_map, is_some, true}
use Rattle.std.proofs.lemmas.Bool.{false≢true}
use Rattle.std.specs.Borrow.{Bor}
use Rattle.clap.specs.Words.{fault_of}
use Rattle.command_words.specs.Parts.{workers, blocks, layout, Part, AreParts}
use Rattle.command_words.specs.Texts.{listed, operands_of, Assigns, AreAssignable}
use Rattle.command_words.specs.Clap.{words_app, AreMatched}
use Rattle.command_words.specs.declared.texts.Texts.{Texts}
use Rattle.command_words.proofs.Slots.{optional, command, objects, seed, Gifts, nothing_given, Place, first, second, third, past, place_after, Good, after, AreFirst, one, options_after, operands_after, good_of_few}
use Rattle.command_words.proofs.Parses.{faultless, good_of_faultless, matches_show}

abbrev read : Option (Bor (List ℕ)) → Option (List ℕ)
read = option_map (λ s. s.now)

listed_one : (text : Option (Bor (List ℕ))) (gift : Option (List ℕ)) → option_map (λ s. s.now) text ≡ gift → one gift ≡ listed text
listed_one None gift is = ap one (sym is)
listed_one (Some text) gift is = ap one (sym is)

none_read : (text : Option (Bor (List ℕ))) (gift : Option (List ℕ)) → option_map (λ s. s.now) text ≡ gift → gift ≡ None → text ≡ None
none_read None gift is none = refl
none_read (Some text) gift is none = absurd (false≢true (sym (ap is_some (is ∙ none))))

some_read : (text : Option (Bor (List ℕ))) (gift : Option (List ℕ)) → option_map (λ s. s.now) text ≡ gift → is_some gift ≡ true → text ≡ None → ⊥
some_read text gift is there none = false≢true (ap (λ t. is_some (option_map (λ s. s.now) t)) (sym none) ∙ ap is_some is ∙ there)

-- the operands stand in order
module _ (texts : Texts) (gifts : Gifts) (c : read texts.command ≡ gifts command) (o : read texts.objects ≡ gifts objects) (s : read texts.seed ≡ gifts seed) where
  no_operands : gifts objects ≡ None → gifts seed ≡ None → operands_of texts ≡ []
  no_operands p q = ap (λ t. listed t ++ listed texts.seed) (none_read texts.objects (gifts objects) o p) ∙ ap listed (none_read texts.seed (gifts seed) s q)

  command_first_ : (place : Place) → AreFirst gifts place → texts.command ≡ None → operands_of texts ≡ []
  command_first_ first is none = no_operands is.1 is.2
  command_first_ second is none = absurd (some_read texts.command (gifts command) c is.0 none)
  command_first_ third is none = absurd (some_read texts.command (gifts command) c is.0 none)
  command_first_ past is none = absurd (some_read texts.command (gifts command) c is.0 none)

  objects_first_ : (place : Place) → AreFirst gifts place → texts.objects ≡ None → texts.seed ≡ None
  objects_first_ first is none = none_read texts.seed (gifts seed) s is.2
  objects_first_ second is none = none_read texts.seed (gifts seed) s is.2
  objects_first_ third is none = absurd (some_read texts.objects (gifts objects) o is.1 none)
  objects_first_ past is none = absurd (some_read texts.objects (gifts objects) o is.1 none)

  operands_read : one (gifts command) ++ one (gifts objects) ++ one (gifts seed) ≡ listed texts.command ++ operands_of texts
  operands_read =
      append_assoc (one (gifts command)) (one (gifts objects)) (one (gifts seed))
      ∙ ap (λ l. l ++ (one (gifts objects) ++ one (gifts seed))) (listed_one texts.command (gifts command) c)
      ∙ ap (λ l. listed texts.command ++ (l ++ one (gifts seed))) (listed_one texts.objects (gifts objects) o)
      ∙ ap (λ l. listed texts.command ++ (listed texts.objects ++ l)) (listed_one texts.seed (gifts seed) s)

module _ (words : List (List ℕ)) (parts : List Part) (are : AreParts words parts) where
  good_of_assignable : AreAssignable parts → Good nothing_given first parts
  good_of_assignable a = good_of_few nothing_given first parts (refl, refl, refl) (record { once = a.once; few = a.few })

  pub none_assigned : fault_of words_app words ≢ [] → AreAssignable parts → ⊥
  none_assigned fault a = fault (faultless words parts are (good_of_assignable a))

  pub texts_assigned : (texts : Texts) → fault_of words_app words ≡ [] → AreMatched words texts → Assigns parts texts
  texts_assigned texts none m =
      let good : Good nothing_given first parts = good_of_faultless words parts are none in
      let gifts : Gifts = after nothing_given first parts in
      let shows = matches_show words parts are good in
      let operands = operands_after nothing_given first parts (refl, refl, refl) good in
      let c = m.command_read ∙ shows.text command in
      let o = m.objects_read ∙ shows.text objects in
      let s = m.seed_read ∙ shows.text seed in
      record {
        workers_are = options_after workers nothing_given first parts good ∙ listed_one texts.workers (gifts (optional workers)) (m.workers_read ∙ shows.text (optional workers));
        blocks_are = options_after blocks nothing_given first parts good ∙ listed_one texts.blocks (gifts (optional blocks)) (m.blocks_read ∙ shows.text (optional blocks));
        layout_is = options_after layout nothing_given first parts good ∙ listed_one texts.layout (gifts (optional layout)) (m.layout_read ∙ shows.text (optional layout));
        plains_are = operands.words_are ∙ operands_read texts gifts c o s;
        command_first = command_first_ texts gifts c o s (place_after first parts) operands.in_order;
        objects_first = objects_first_ texts gifts c o s (place_after first parts) operands.in_order;
      }
