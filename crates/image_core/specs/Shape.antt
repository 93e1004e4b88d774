-- What a caller sees of one object, and of a word that names one.
use Rattle.std.specs.Prelude.{◌≡◌, ℕ, ◌+◌, ◌<◌, List, length, slice_index, Option, Some, None}
use Rattle.image_core.specs.Header.{refs_of, weak_of, plain_of, tag_of}
use Rattle.image_core.specs.declared.object.Obj.{Obj}

-- the object of a format whose header stands at a place
abbrev pub object_at : ℕ → List ℕ → ℕ → Obj
object_at format words head =
    let header = slice_index words head in
    record {
      at = head;
      refs = refs_of header;
      weak = weak_of format header;
      plain = plain_of header;
      tag = tag_of format header;
    }

-- which object a word names: none where the word is 0
abbrev pub Target : List ℕ → ℕ → Option ℕ → Type 0
Target heads word None = word ≡ 0
Target heads word (Some object) = (object < length heads) × (word ≡ 1 + slice_index heads object)
