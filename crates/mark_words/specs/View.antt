-- What a seat knows at first, and after each kind of step.
use Rattle.std.specs.Prelude.{ℕ, zero, suc, ◌+◌, ◌-◌, [], ◌∷◌, ◌++◌}
use Rattle.mark_words.specs.declared.rule.Plan.{Plan}
use Rattle.mark_words.specs.declared.views.Known.{Known}

-- the seat that makes the others: it has all the parts
abbrev pub maker : Plan → Known
maker k = record { number = 0; parts = k.seats; won = []; found = []; old = 0; aim = 0 }

-- it has made one more
abbrev pub after_hire : Known → Known
after_hire v = record v { number = v.number + 1; parts = v.parts - 1 }

-- the one that it made
abbrev pub hired : Known → Known
hired v = record { number = v.number; parts = 1; won = []; found = []; old = 0; aim = 0 }

-- a seat with no part, that won nothing and found nothing
abbrev pub nobody : Known
nobody = record { number = 0; parts = 0; won = []; found = []; old = 0; aim = 0 }

-- a seat takes in another
abbrev pub taken_in : Known → Known → Known
taken_in v w = record v {
  parts = v.parts + w.parts;
  won = w.won ++ v.won;
  found = w.found ++ v.found;
}

-- a seat claims the bit, which was 0 or 1 in the word that it found
abbrev pub claims : ℕ → ℕ → ℕ → Known → Known
claims b word zero v = record v { won = b ∷ v.won; old = word }
claims b word (suc _) v = record v { found = b ∷ v.found; old = word }

-- a seat will look at a bit whose place in its word is that of this number
abbrev pub aims : ℕ → Known → Known
aims number v = record v { aim = number }

-- a seat looks at the bit, which was 0 or 1 in the word that it found
abbrev pub looks : ℕ → ℕ → ℕ → Known → Known
looks b word zero v = v
looks b word (suc _) v = record v { found = b ∷ v.found; old = word }
