-- How large the counters of a run become.
use Rattle.std.specs.Prelude.{ℕ, ◌<◌, ◌≤◌, ◌^◌, slice_index}
use Rattle.room_core.specs.Machine.{State}

-- tickets are at most 2^54, draws of one caller at most 2^48, and the active word is below 2^58
pub record IsBounded (s : State) : Type 0 where
  pub wait : (r : ℕ) → slice_index s.words.wait r ≤ 2 ^ 54
  pub grant : (r : ℕ) → slice_index s.words.grant r ≤ 2 ^ 54
  pub done : (r : ℕ) → slice_index s.words.done r ≤ 2 ^ 54
  pub active : s.words.active < 2 ^ 58
  pub draws : (c : ℕ) → slice_index s.draws c ≤ 2 ^ 48
