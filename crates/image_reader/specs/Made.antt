-- The heap that is made up from a seed: one draw for the header of each object, then one for each other word, object by object, and then one for each root.
use Rattle.std.specs.Prelude.{ℕ, ◌+◌, ◌*◌, ◌/◌, ◌%◌, ◌^◌, ◌==◌, min, if◌then◌else◌, List, ◌∷◌, ◌++◌, length, map, slice_index, sum_by}
use Rattle.std.specs.List.{range_with_len, flat_map}
use Rattle.image_core.specs.Heap.{Heap}
use Rattle.image_reader.specs.Draws.{draw, draws}

-- how many references an object has, by the draw of its header: 0 to 3
abbrev pub refs : ℕ → ℕ
refs shape = shape % 4

-- how many data words: at most one, and none beside three references
abbrev pub data_words : ℕ → ℕ
data_words shape = if shape % 4 == 3 then 0 else shape / 4 % 2

-- how many words behind its header
abbrev pub body : ℕ → ℕ
body shape = refs shape + data_words shape

-- the header: the two counts, and the object's number as the tag
abbrev pub header : ℕ → ℕ → ℕ
header object shape = refs shape + 2 ^ 16 * data_words shape + 2 ^ 32 * object

-- how many words the objects before it have behind their headers
abbrev pub bodies : ℕ → ℕ → ℕ
bodies start object = sum_by body (draws start 0 object)

-- where its header stands: behind the headers and bodies of the objects before it
abbrev pub place : ℕ → ℕ → ℕ
place start object = object + bodies start object

-- where the headers of so many objects stand
abbrev pub places : ℕ → ℕ → List ℕ
places start objects = map (place start) (range_with_len 0 objects)

-- the word of a reference: it names an object, or is 0 at the remainder behind the last object
abbrev pub reference : List ℕ → ℕ → ℕ
reference heads drawn =
    let object = drawn % (length heads + 1) in
    if object == length heads then 0 else 1 + slice_index heads object

-- the word of a root: it names an object
abbrev pub root : List ℕ → ℕ → ℕ
root heads drawn = 1 + slice_index heads (drawn % length heads)

-- how many draws come before an object's references and data: one for each header, and one for each word of the bodies before
abbrev pub drawn_before : ℕ → ℕ → ℕ → ℕ
drawn_before start objects object = objects + bodies start object

-- the words of an object: its header, references and data
abbrev pub object_words : ℕ → List ℕ → ℕ → List ℕ
object_words start heads object =
    let shape = draw start object in
    let before = drawn_before start (length heads) object in
    header object shape
    ∷ map (reference heads) (draws start before (refs shape)) ++ draws start (before + refs shape) (data_words shape)

-- the heap of format 1 of so many objects by a seed, with a root for each object up to 16
unfoldable pub made : ℕ → ℕ → Heap
made objects seed =
    let start = seed % 2 ^ 31 in
    let heads = places start objects in
    record {
      format = 1;
      words = flat_map (object_words start heads) (range_with_len 0 objects);
      roots = map (root heads) (draws start (drawn_before start objects objects) (min objects 16));
      heads = heads;
    }
