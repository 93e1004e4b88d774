-- The words of the rooms, and one step on one of them.
use Rattle.std.specs.Prelude.{ℕ, ◌+◌, ◌<◌, ◌^◌, true, false, List, length, slice_index, slice_set, ◌∷◌, ◌++◌, ◌*◌}
use Rattle.room_core.specs.declared.words.Word.{Word}
use Rattle.room_core.specs.declared.words.Word.TheVariants.{Wait, Grant, Done, Active}
use Rattle.room_core.specs.declared.words.Touch.{Touch}
use Rattle.room_core.specs.declared.words.Touch.TheVariants.{Add, Load, Store, Swap}

-- the words of the rooms
pub record Words : Type 0 where
  pub active : ℕ
  pub wait : List ℕ
  pub grant : List ℕ
  pub done : List ℕ

-- the words with this number in this word
abbrev pub put : Words → Word → ℕ → Words
put s (Wait r) v = record s { wait = slice_set s.wait r v }
put s (Grant r) v = record s { grant = slice_set s.grant r v }
put s (Done r) v = record s { done = slice_set s.done r v }
put s Active v = record s { active = v }

-- one step on one word
abbrev pub touched : Words → Touch → Words
touched s (Add word old) = put s word (old + 1)
touched s (Load word value) = s
touched s (Store word value) = put s word value
touched s (Swap found new true) = put s Active new
touched s (Swap found new false) = s

-- the word's room exists
abbrev pub HasWord : Words → Word → Type 0
HasWord s (Wait r) = r < length s.wait
HasWord s (Grant r) = r < length s.grant
HasWord s (Done r) = r < length s.done
HasWord s Active = Unit {0}

-- the step names a word that there is, and its sum fits 64 bits
abbrev pub CanTouch : Words → Touch → Type 0
CanTouch s (Add word old) = HasWord s word × (old + 1 < 2 ^ 64)
CanTouch s (Load word value) = Unit {0}
CanTouch s (Store word value) = HasWord s word
CanTouch s (Swap found new won) = Unit {0}

-- the number that a word holds
abbrev pub held : Words → Word → ℕ
held s (Wait r) = slice_index s.wait r
held s (Grant r) = slice_index s.grant r
held s (Done r) = slice_index s.done r
held s Active = s.active

-- the words as one list, and the place of each, for m rooms
abbrev pub listed : Words → List ℕ
listed s = s.active ∷ (s.wait ++ (s.grant ++ s.done))

-- the place of a word in the list, for m rooms
abbrev pub place : ℕ → Word → ℕ
place m Active = 0
place m (Wait r) = 1 + r
place m (Grant r) = 1 + m + r
place m (Done r) = 1 + 2 * m + r
