-- One number of an image, in which each of its words counts.
use Rattle.std.specs.Prelude.{ℕ, ◌+◌, ◌*◌, ◌%◌, ◌^◌, ◌++◌}
use Rattle.std.specs.List.{fold}
use Rattle.image_core.specs.Heap.{Heap}

-- the number with one word more
abbrev pub with_word : ℕ → ℕ → ℕ
with_word number word = (31 * number + word) % 2 ^ 64

-- from 0 on, each heap word in turn, and then each root
abbrev pub fold_of : Heap → ℕ
fold_of heap = fold with_word 0 (heap.words ++ heap.roots)
