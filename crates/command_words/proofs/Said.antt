-- What parts say is determined.
use Rattle.std.proofs.Common.{◌≡◌, ◌≢◌, ℕ, ◌⊎◌, inl, inr, codes, MatchOption, ◌<◌, ◌≤◌, List, [], ◌∷◌, ◌++◌, refl, sym, ap, subst, ◌∙◌, arith, get_or, length, Option, Some, None, is_some, ◌==◌, ◌||◌}
use Rattle.std.proofs.lemmas.Fmt.{decimal_injective}
use Rattle.std.proofs.lemmas.Option.{none-some}
use Rattle.std.specs.Borrow.{Bor}
use Rattle.room_script.specs.Numbers.{IsNumber}
use Rattle.bay_core.specs.declared.calls.Layout.{Layout}
use Rattle.bay_core.specs.declared.calls.Layout.TheVariants.{Split, Paged}
use Rattle.command_words.specs.Parts.{Name, workers, blocks, layout, Part, AreParts, given, plains}
use Rattle.command_words.specs.Forms.{HaveParts}
use Rattle.std.specs.Bool.{if◌then◌else◌}
use Rattle.std.proofs.lemmas.Bool.{false≢true}
use Rattle.command_words.specs.Texts.{listed, operands_of, Assigns, AreAssignable}
use Rattle.command_words.specs.Words.{name_of, options_of, made_of, IsCalled, IsCount, IsLayout, GiveOptions, GiveNone, HaveOptions, IsMade, AreOperands, IsSaid, Names}
use Rattle.command_words.specs.declared.command.Command.{Command}
use Rattle.command_words.specs.declared.command.Command.TheVariants.{Compact, Mark, Check, Make, Trial, Schedule}
use Rattle.command_words.specs.declared.command.Options.{Options}
use Rattle.command_words.specs.declared.command.Made.{Made}
use Rattle.command_words.specs.declared.texts.Texts.{Texts}

number_once : (bytes : List ℕ) (m n : ℕ) → IsNumber bytes m → IsNumber bytes n → m ≡ n
number_once bytes m n a b = decimal_injective m n a.fits b.fits (sym a.digits ∙ b.digits)

pub made_once : (objects seed : List ℕ) (a b : Made) → IsMade objects seed a → IsMade objects seed b → a ≡ b
made_once objects seed a b this that =
    let count : a.objects ≡ b.objects = number_once objects a.objects b.objects this.objects_are that.objects_are in
    let from : a.seed ≡ b.seed = number_once seed a.seed b.seed this.seed_is that.seed_is in
    let f : ℕ → Made = λ n. record { objects = n; seed = a.seed } in
    let g : ℕ → Made = λ n. record { objects = b.objects; seed = n } in
    ap f count ∙ ap g from

pub operands_once : (words : List (List ℕ)) (a b : Option Made) → AreOperands words a → AreOperands words b → a ≡ b
operands_once [] None None this that = refl
operands_once [] None (Some b) this that = absurd that
operands_once [] (Some a) b this that = absurd this
operands_once (x ∷ []) a b this that = absurd this
operands_once (x ∷ y ∷ []) None b this that = absurd this
operands_once (x ∷ y ∷ []) (Some a) None this that = absurd that
operands_once (x ∷ y ∷ []) (Some a) (Some b) this that = ap Some (made_once x y a b this that)
operands_once (x ∷ y ∷ z ∷ words) a b this that = absurd this

-- the command that texts say, by its name, its options and its operands
module _ (parts : List Part) (texts : Texts) (assigns : Assigns parts texts) (name : Bor (List ℕ)) (is : texts.command ≡ Some name) where
  plains_here : plains parts ≡ name.now ∷ operands_of texts
  plains_here = assigns.plains_are ∙ ap (λ o. listed o ++ operands_of texts) is

  pub said_so : (command : Command) → name.now ≡ name_of command → AreOperands (operands_of texts) (made_of command)
      → HaveOptions parts (options_of command) → IsSaid parts command
  said_so command named operands options = record {
    operands = operands_of texts;
    words_are = plains_here ∙ ap (λ n. n ∷ operands_of texts) named;
    operands_are = operands;
    options_are = options;
  }

  pub so_named : (command : Command) → IsSaid parts command → name.now ≡ name_of command
  so_named command s = let same = sym plains_here ∙ s.words_are in cc

  pub so_operands : (command : Command) → IsSaid parts command → AreOperands (operands_of texts) (made_of command)
  so_operands command s =
      let same = sym plains_here ∙ s.words_are in
      let rest : s.operands ≡ operands_of texts = cc in
      subst (λ os. AreOperands os (made_of command)) rest s.operands_are

count_once : (texts : List (List ℕ)) (most without a b : ℕ) → IsCount texts most without a → IsCount texts most without b → a ≡ b
count_once [] most without a b this that = this ∙ sym that
count_once (value ∷ []) most without a b this that = number_once value a b this.0 that.0
count_once (value ∷ more ∷ texts) most without a b this that = absurd this

layout_once : (texts : List (List ℕ)) (a b : Layout) → IsLayout texts a → IsLayout texts b → a ≡ b
layout_once [] a b this that = this ∙ sym that
layout_once (value ∷ []) Split Split this that = refl
layout_once (value ∷ []) Split Paged this that = absurd (let bad : 115 ≡ 112 = ap (λ w. get_or w 0 0) (sym this ∙ that) in omega (arith, bad))
layout_once (value ∷ []) Paged Split this that = absurd (let bad : 112 ≡ 115 = ap (λ w. get_or w 0 0) (sym this ∙ that) in omega (arith, bad))
layout_once (value ∷ []) Paged Paged this that = refl
layout_once (value ∷ more ∷ texts) a b this that = absurd this

-- parts that give a layout its shared blocks give two of them
pub unroomed : (parts : List Part) (chosen : Layout) (size : ℕ) → IsLayout (given layout parts) chosen → IsCount (given blocks parts) 16384 64 size
    → chosen ≡ Paged → size < 2 → (options : Options) → GiveOptions parts options → ⊥
unroomed parts chosen size is count shared few options give =
    let same = layout_once (given layout parts) options.layout chosen give.layout_is is in
    let sized = count_once (given blocks parts) 16384 64 options.blocks size give.blocks_are count in
    omega (arith, give.paged (same ∙ shared), sized, few)

pub options_once : (parts : List Part) (a b : Options) → GiveOptions parts a → GiveOptions parts b → a ≡ b
options_once parts a b this that =
    let w : a.workers ≡ b.workers = count_once (given workers parts) 16 1 a.workers b.workers this.workers_are that.workers_are in
    let k : a.blocks ≡ b.blocks = count_once (given blocks parts) 16384 64 a.blocks b.blocks this.blocks_are that.blocks_are in
    let l : a.layout ≡ b.layout = layout_once (given layout parts) a.layout b.layout this.layout_is that.layout_is in
    let f : ℕ → Options = λ n. record { workers = n; blocks = a.blocks; layout = a.layout } in
    let g : ℕ → Options = λ n. record { workers = b.workers; blocks = n; layout = a.layout } in
    let h : Layout → Options = λ n. record { workers = b.workers; blocks = b.blocks; layout = n } in
    ap f w ∙ ap g k ∙ ap h l

-- the names of the commands that take options
pub takes_options : (name : List ℕ) (command : Command) → (name ≡ codes "compact") ⊎ (name ≡ codes "mark") → name ≡ name_of command → options_of command ≡ None → ⊥
takes_options name (Compact options) is named none = absurd (none-some options (sym none))
takes_options name (Mark options made) is named none = absurd (none-some options (sym none))
takes_options name Check (inl is) named none = let e = sym is ∙ named in cc
takes_options name Check (inr is) named none = let e = sym is ∙ named in cc
takes_options name (Make made) (inl is) named none = let e = sym is ∙ named in cc
takes_options name (Make made) (inr is) named none = let bad : 114 ≡ 107 = ap (λ w. get_or w 2 0) (sym is ∙ named) in absurd (omega (arith, bad))
takes_options name Trial (inl is) named none = let e = sym is ∙ named in cc
takes_options name Trial (inr is) named none = let e = sym is ∙ named in cc
takes_options name Schedule (inl is) named none = let e = sym is ∙ named in cc
takes_options name Schedule (inr is) named none = let e = sym is ∙ named in cc

pub takes_none : (name : List ℕ) (command : Command) (options : Options) → name ≢ codes "compact" → name ≢ codes "mark" → name ≡ name_of command
    → options_of command ≡ Some options → ⊥
takes_none name (Compact o) options compact mark named some_ = compact named
takes_none name (Mark o made) options compact mark named some_ = mark named
takes_none name Check options compact mark named some_ = absurd (none-some options some_)
takes_none name (Make made) options compact mark named some_ = absurd (none-some options some_)
takes_none name Trial options compact mark named some_ = absurd (none-some options some_)
takes_none name Schedule options compact mark named some_ = absurd (none-some options some_)

module _ (parts : List Part) (texts : Texts) (assigns : Assigns parts texts) (name : Bor (List ℕ)) (is : texts.command ≡ Some name)
    (made : Option Made) (operands : AreOperands (operands_of texts) made) where
  same_made : (command : Command) → IsSaid parts command → made_of command ≡ made
  same_made command s = operands_once (operands_of texts) (made_of command) made (so_operands parts texts assigns name is command s) operands

  called_so : (options : Option Options) (command : Command) → HaveOptions parts options → IsCalled name.now options made command → IsSaid parts command
  called_so options command have called =
      said_so parts texts assigns name is command called.named (subst (AreOperands (operands_of texts)) (sym called.made_up) operands)
      (subst (HaveOptions parts) (sym called.optional) have)

  pub unsaid_without : ((options : Options) → ¬ GiveOptions parts options) → (name.now ≡ codes "compact") ⊎ (name.now ≡ codes "mark")
      → (other : Command) → IsSaid parts other → ⊥
  unsaid_without never named other s = without (options_of other) refl s.options_are
    where
      without : (taken : Option Options) → options_of other ≡ taken → HaveOptions parts taken → ⊥
      without None are have = takes_options name.now other named (so_named parts texts assigns name is other s) are
      without (Some options) are have = never options have

  pub unsaid_with : ¬ GiveNone parts → name.now ≢ codes "compact" → name.now ≢ codes "mark" → (other : Command) → IsSaid parts other → ⊥
  unsaid_with some_ compact mark other s = with_ (options_of other) refl s.options_are
    where
      with_ : (taken : Option Options) → options_of other ≡ taken → HaveOptions parts taken → ⊥
      with_ None are have = some_ have
      with_ (Some options) are have = takes_none name.now other options compact mark (so_named parts texts assigns name is other s) are

  -- the command of a name that takes options
  module _ (options : Options) (give : GiveOptions parts options)
      (none : (command : Command) → name.now ≡ name_of command → options_of command ≡ None → GiveNone parts → ⊥) where
    same_options : (command : Command) (taken : Option Options) → name.now ≡ name_of command → options_of command ≡ taken → HaveOptions parts taken → taken ≡ Some options
    same_options command None named are have = absurd (none command named are have)
    same_options command (Some others) named are have = ap Some (options_once parts others options have give)

    pub answer_options : (result : Option Command)
        → MatchOption result ((other : Command) → ¬ IsCalled name.now (Some options) made other) (IsCalled name.now (Some options) made)
        → MatchOption result ((other : Command) → ¬ IsSaid parts other) (IsSaid parts)
    answer_options (Some command) called = called_so (Some options) command give called
    answer_options None never = λ other s.
        let named = so_named parts texts assigns name is other s in
        never other (record { named = named; optional = same_options other (options_of other) named refl s.options_are; made_up = same_made other s })

  -- the command of a name that takes none
  module _ (give : GiveNone parts) (bare : (command : Command) (options : Options) → name.now ≡ name_of command → options_of command ≡ Some options → ⊥) where
    no_options : (command : Command) (taken : Option Options) → name.now ≡ name_of command → options_of command ≡ taken → taken ≡ None
    no_options command None named are = refl
    no_options command (Some others) named are = absurd (bare command others named are)

    pub answer_bare : (result : Option Command)
        → MatchOption result ((other : Command) → ¬ IsCalled name.now None made other) (IsCalled name.now None made)
        → MatchOption result ((other : Command) → ¬ IsSaid parts other) (IsSaid parts)
    answer_bare (Some command) called = called_so None command give called
    answer_bare None never = λ other s.
        let named = so_named parts texts assigns name is other s in
        never other (record { named = named; optional = no_options other (options_of other) named refl; made_up = same_made other s })

-- the command of a name, of its options and of what it makes up
command_of : List ℕ → Option Options → Option Made → Command
command_of name (Some options) made = if get_or name 0 0 == 99 then Compact options else Mark options made
command_of name None (Some made) = Make made
command_of name None None = if get_or name 0 0 == 99 then Check else (if get_or name 0 0 == 116 then Trial else Schedule)

command_again : (command : Command) → command_of (name_of command) (options_of command) (made_of command) ≡ command
unfolding command_of
command_again (Compact options) = refl
command_again (Mark options made) = refl
command_again Check = refl
command_again (Make made) = refl
command_again Trial = refl
command_again Schedule = refl

-- whether a command takes options is seen by its name
optional_by_name : (command : Command) → is_some (options_of command) ≡ (get_or (name_of command) 1 0 == 111 || get_or (name_of command) 2 0 == 114)
optional_by_name (Compact options) = refl
optional_by_name (Mark options made) = refl
optional_by_name Check = refl
optional_by_name (Make made) = refl
optional_by_name Trial = refl
optional_by_name Schedule = refl

options_same : (parts : List Part) (a b : Option Options) → HaveOptions parts a → HaveOptions parts b → is_some a ≡ is_some b → a ≡ b
options_same parts None None this that same = refl
options_same parts None (Some b) this that same = absurd (false≢true same)
options_same parts (Some a) None this that same = absurd (false≢true (sym same))
options_same parts (Some a) (Some b) this that same = ap Some (options_once parts a b this that)

-- parts say one command
pub said_once : (parts : List Part) (a b : Command) → IsSaid parts a → IsSaid parts b → a ≡ b
said_once parts a b this that =
    let both = sym this.words_are ∙ that.words_are in
    let name : name_of a ≡ name_of b = cc in
    let operands : that.operands ≡ this.operands = cc in
    let made : made_of a ≡ made_of b = operands_once this.operands (made_of a) (made_of b) this.operands_are (subst (λ os. AreOperands os (made_of b)) operands that.operands_are) in
    let optional : is_some (options_of a) ≡ is_some (options_of b) =
    optional_by_name a ∙ ap (λ n. get_or n 1 0 == 111 || get_or n 2 0 == 114) name ∙ sym (optional_by_name b) in
    let options : options_of a ≡ options_of b = options_same parts (options_of a) (options_of b) this.options_are that.options_are optional in
    sym (command_again a) ∙ ap (λ n. command_of n (options_of a) (made_of a)) name
    ∙ ap (λ o. command_of (name_of b) o (made_of a)) options ∙ ap (command_of (name_of b) (options_of b)) made ∙ command_again b

-- what is said of some parts of the words is named by the words
module _ (words : List (List ℕ)) (result : Option Command)
    (told : (parts : List Part) → AreParts words parts → MatchOption result ((other : Command) → ¬ IsSaid parts other) (IsSaid parts)) where
  only_of : (found : Option Command) (parts : List Part) (command : Command) → MatchOption found ((other : Command) → ¬ IsSaid parts other) (IsSaid parts)
      → IsSaid parts command → found ≡ Some command
  only_of None parts command is said = absurd (is command said)
  only_of (Some other) parts command is said = ap Some (said_once parts other command is said)

  pub only_told : (command : Command) → Names words command → result ≡ Some command
  only_told command (parts, are, said) = only_of result parts command (told parts are) said

  named_of : (found : Option Command) (parts : List Part) → AreParts words parts → ((command : Command) → Names words command → found ≡ Some command)
      → MatchOption found ((other : Command) → ¬ IsSaid parts other) (IsSaid parts) → MatchOption found ((other : Command) → ¬ Names words other) (Names words)
  named_of None parts are only is = λ other named. none-some other (only other named)
  named_of (Some command) parts are only is = (parts, are, is)

  pub named_told : HaveParts words → MatchOption result ((other : Command) → ¬ Names words other) (Names words)
  named_told (parts, are) = named_of result parts are only_told (told parts are)

count_short : (texts : List (List ℕ)) (most without n : ℕ) → IsCount texts most without n → length texts ≤ 1
count_short [] most without n is = omega arith
count_short (text ∷ []) most without n is = omega arith
count_short (text ∷ more ∷ texts) most without n is = absurd is

layout_short : (texts : List (List ℕ)) (chosen : Layout) → IsLayout texts chosen → length texts ≤ 1
layout_short [] chosen is = omega arith
layout_short (text ∷ []) chosen is = omega arith
layout_short (text ∷ more ∷ texts) chosen is = absurd is

options_short : (parts : List Part) (options : Option Options) → HaveOptions parts options → (name : Name) → length (given name parts) ≤ 1
options_short parts (Some options) have workers = count_short (given workers parts) 16 1 options.workers have.workers_are
options_short parts (Some options) have blocks = count_short (given blocks parts) 16384 64 options.blocks have.blocks_are
options_short parts (Some options) have layout = layout_short (given layout parts) options.layout have.layout_is
options_short parts None have workers = omega (arith, ap length have.no_workers)
options_short parts None have blocks = omega (arith, ap length have.no_blocks)
options_short parts None have layout = omega (arith, ap length have.no_layout)

operands_short : (words : List (List ℕ)) (made : Option Made) → AreOperands words made → length words ≤ 2
operands_short [] made are = omega arith
operands_short (x ∷ []) made are = omega arith
operands_short (x ∷ y ∷ []) made are = omega arith
operands_short (x ∷ y ∷ z ∷ words) made are = absurd are

-- parts that say a command can be assigned
pub said_assignable : (parts : List Part) (command : Command) → IsSaid parts command → AreAssignable parts
said_assignable parts command said = record {
  once = options_short parts (options_of command) said.options_are;
  few = omega (arith, ap length said.words_are, operands_short said.operands (made_of command) said.operands_are);
}
