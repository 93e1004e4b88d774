-- A whole parse of words that are parts.
use Rattle.std.proofs.Common.{◌≡◌, List, [], ◌∷◌, refl, sym, ap, subst, ◌∙◌, None, Bool, true, false, ◌||◌}
use Rattle.std.specs.List.{fold}
use Rattle.std.specs.Bool.{if◌then◌else◌}
use Rattle.clap.specs.Walk.{Row, Rule, Text, Held, nothing_held, with_default, has_row, finished, settled, is_empty, default_rows, reading_by}
use Rattle.clap.specs.Words.{fault_of, matches_of}
use Rattle.clap.specs.Simple.{built}
use Rattle.clap.specs.Faults.{defaults_fault, default_fault, check_fault, given_default_fault, level_fault, walk_fault, settle_fault}
use Rattle.clap.specs.Kinds.{Kinds, or_else}
use Rattle.clap.proofs.FaultLemmas.{leaf_fault}
use Rattle.command_words.specs.Parts.{Part, AreParts}
use Rattle.command_words.specs.Clap.{words_app}
use Rattle.command_words.proofs.Steps.{shape, rules_}
use Rattle.command_words.proofs.Slots.{first, Good, after, nothing_given}
use Rattle.command_words.proofs.GivenRows.{Shows}
use Rattle.command_words.proofs.Walks.{Fine, Done, stand, ending, complete, sound, or_nil, nil_or}

-- no argument has a default value
abbrev Undefaulted : List Rule → Type 0
Undefaulted [] = Unit {0}
Undefaulted (a ∷ rules) = (a.defaults ≡ []) × Undefaulted rules

if_same : (b : Bool) (rows : List Row) → (if b then rows else rows) ≡ rows
if_same true rows = refl
if_same false rows = refl

or_true : (b : Bool) → (b || true) ≡ true
or_true true = refl
or_true false = refl

kept_rows : (a : Rule) (rows : List Row) → a.defaults ≡ [] → with_default rows a ≡ rows
kept_rows a rows none =
    ap (λ d. if has_row a.id rows then rows else default_rows a.id (reading_by a) d rows) none ∙ if_same (has_row a.id rows) rows

no_default : (a : Rule) (rows : List Row) → a.defaults ≡ [] → default_fault rows a ≡ []
no_default a rows none =
    ap (λ d. if has_row a.id rows || is_empty d then [] else given_default_fault a d) none
    ∙ ap (λ b. if b then [] else given_default_fault a []) (or_true (has_row a.id rows))

undefaulted : (rules : List Rule) → Undefaulted rules → (rows : List Row) → (fold with_default rows rules ≡ rows) × (defaults_fault rows rules ≡ [])
unfolding defaults_fault
undefaulted [] each rows = (refl, refl)
undefaulted (a ∷ rules) each rows =
    let more = undefaulted rules each.1 rows in
    let same : with_default rows a ≡ rows = kept_rows a rows each.0 in (
      ap (λ rs. fold with_default rs rules) same ∙ more.0,
      nil_or (default_fault rows a) (defaults_fault (with_default rows a) rules) (no_default a rows each.0) (ap (λ rs. defaults_fault rs rules) same ∙ more.1),
    )

rules_undefaulted : Undefaulted rules_
rules_undefaulted = (refl, (refl, (refl, (refl, (refl, (refl, tt))))))

check_none : (rows : List Row) → check_fault shape rows false ≡ []
check_none rows = refl

no_subs : (built words_app).subs ≡ []
no_subs = refl

fault_is : (words : List Text) → fault_of words_app words ≡ level_fault shape [] nothing_held words false []
fault_is words = leaf_fault (built words_app) nothing_held words no_subs

shows_nothing : Shows [] nothing_given
shows_nothing = record { there = λ slot. refl; text = λ slot. refl }

module _ (words : List Text) (parts : List Part) (are : AreParts words parts) where
  walk_done : Good nothing_given first parts → Done (stand [] None first) words (after nothing_given first parts)
  walk_done good =
      subst (λ ws. Done (stand [] None first) ws (after nothing_given first parts)) (sym are.words_are)
      (complete parts [] None first nothing_given are.each (refl, refl, refl) shows_nothing refl good)

  -- a parse of good parts has no fault
  pub faultless : Good nothing_given first parts → fault_of words_app words ≡ []
  faultless good =
      let done = walk_done good in
      let end : Held = ending (stand [] None first) words in
      fault_is words
      ∙ nil_or (walk_fault shape [] (stand [] None first) words)
      (or_else (settle_fault rules_ false end)
      (or_else (defaults_fault (settled rules_ end).rows rules_) (check_fault shape (finished rules_ end) false)))
      done.fine.walks
      (nil_or (settle_fault rules_ false end)
      (or_else (defaults_fault (settled rules_ end).rows rules_) (check_fault shape (finished rules_ end) false)) done.fine.settles
      (nil_or (defaults_fault (settled rules_ end).rows rules_) (check_fault shape (finished rules_ end) false)
      (undefaulted rules_ rules_undefaulted (settled rules_ end).rows).1 (check_none (finished rules_ end))))

  -- and parts that parse without a fault are good
  pub good_of_faultless : fault_of words_app words ≡ [] → Good nothing_given first parts
  good_of_faultless none =
      let end : Held = ending (stand [] None first) words in
      let rest : Kinds = or_else (defaults_fault (settled rules_ end).rows rules_) (check_fault shape (finished rules_ end) false) in
      let split = or_nil (walk_fault shape [] (stand [] None first) words) (or_else (settle_fault rules_ false end) rest) (sym (fault_is words) ∙ none) in
      let then_ = or_nil (settle_fault rules_ false end) rest split.1 in
      let fine : Fine (stand [] None first) words = record { walks = split.0; settles = then_.0 } in
      sound parts [] None first nothing_given are.each (refl, refl, refl) shows_nothing (subst (Fine (stand [] None first)) are.words_are fine)

  -- the matches show what the parts give
  pub matches_show : Good nothing_given first parts → Shows (matches_of words_app words) (after nothing_given first parts)
  matches_show good =
      let done = walk_done good in
      let end : Held = ending (stand [] None first) words in
      subst (λ rs. Shows rs (after nothing_given first parts)) (sym (undefaulted rules_ rules_undefaulted (settled rules_ end).rows).0) done.shown
