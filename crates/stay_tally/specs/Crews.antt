-- What callers that make stays together count.
use Rattle.std.specs.Prelude.{◌≡◌, ℕ, ◌+◌, ◌%◌, ◌<◌, ◌≤◌, ◌==◌, Bool, true, false, length}
use Rattle.std.specs.List.{sum_by, count_by, range_with_len}
use Rattle.atomic_table.specs.Seated.{TableId}
use Rattle.room_gate.specs.Shows.{Caller}
use Rattle.stay_tally.specs.declared.uses.Stays.{Stays}
use Rattle.stay_tally.specs.Tally.{counted_in}

-- the room of a caller's stay k: the next one each time where it spreads its stays, and else the one
-- that it begins with
abbrev pub room_of : Bool → ℕ → ℕ → ℕ
room_of true from k = (from + k) % 4
room_of false from k = from % 4

-- the room that a caller begins with
abbrev pub first_room : Bool → ℕ → ℕ
first_room true who = who
first_room false who = 0

-- how many of a caller's first so many stays are in room r
abbrev pub stays_in : Bool → ℕ → ℕ → ℕ → ℕ
stays_in spread from stays r = count_by (λ k. room_of spread from k == r) (range_with_len 0 stays)

-- how many of the stays of all callers are in room r
abbrev pub all_in : Bool → ℕ → ℕ → ℕ → ℕ
all_in spread callers stays r =
    sum_by (λ who. stays_in spread (first_room spread who) stays r) (range_with_len 0 callers)

-- a caller made so many stays from a room on, and counted each in its room
pub record HasStayed (spread : Bool) (from stays : ℕ) (before after : Caller Stays) : Type 0 where
  pub same : after ≡ record before {
    draws = before.draws + stays;
    user = after.user;
    seen = after.seen;
    first = after.first;
    loads = after.loads;
    done = after.done;
  }
  pub counted : (r : ℕ) → r < 4
      → counted_in r after.user ≡ counted_in r before.user + stays_in spread from stays r

-- a pass of the set-up can make so many stays
pub record IsReady (site : TableId) (stays : ℕ) (pass : Caller Stays) : Type 0 where
  pub own : pass.site ≡ site
  pub who : pass.who < 64
  pub draws : pass.draws + stays ≤ pass.limit
  pub wide : length pass.user.counted ≡ 4
