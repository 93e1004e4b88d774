-- The heap words of an image that is made up.
use Rattle.std.specs.Prelude.{◌≡◌, ℕ}
use Rattle.std.specs.List.{range_with_len, flat_map}
use Rattle.image_reader.specs.Made.{places, object_words}
use Rattle.image_reader.specs.declared.objects.Objects.{Objects}

-- the words of so many objects, and where their headers stand
pub record AreObjects (start count : ℕ) (objects : Objects) : Type 0 where
  pub words : objects.words.items ≡ flat_map (object_words start (places start count)) (range_with_len 0 count)
  pub heads : objects.heads.items ≡ places start count
