-- The objects of an image that is made up, before their words are drawn.
use Rattle.std.specs.Prelude.{◌≡◌, ℕ}
use Rattle.image_reader.specs.Draws.{draws}
use Rattle.image_reader.specs.Made.{place, places}
use Rattle.image_reader.specs.declared.plan.Plan.{Plan}

-- the draws of the headers, where these stand, and how many words there are
pub record IsPlan (start objects : ℕ) (plan : Plan) : Type 0 where
  pub shapes : plan.shapes.items ≡ draws start 0 objects
  pub heads : plan.heads.items ≡ places start objects
  pub size : plan.size ≡ place start objects
