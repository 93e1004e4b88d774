-- What contracts see of rooms and of their callers' tokens.
use Rattle.std.specs.Prelude.{ℕ, Option, None, List, []}
use Rattle.atomic_table.specs.Seated.{TableId}
use Rattle.room_core.specs.declared.items.Opening.{Opening}
use Rattle.room_core.specs.declared.phases.Phase.{Phase}

-- Rooms: which set-up it is, what it is used for, and how many callers it has
pub record Site (X : Type 0) : Type 0 where
  pub site : TableId
  pub usage : X
  pub callers : ℕ

-- A pass, and what every token made from it shows of its caller
pub record Caller (V : Type 0) : Type 0 where
  -- the set-up, the caller's number there, the draws that it has made and may make
  pub site : TableId
  pub who : ℕ
  pub draws : ℕ
  pub limit : ℕ
  -- its view in the use
  pub user : V
  -- the openings that it has seen: the first part of the one list of openings
  pub seen : List Opening
  -- the turn in its first look at the active word after its last draw
  pub first : Option ℕ
  -- how many loads of the active word it has made
  pub loads : ℕ
  -- the old value of its last add on a count of departures
  pub done : ℕ

-- A caller that waits for a room with a ticket
pub record Waiter (V : Type 0) : Type 0 where
  pub caller : Caller V
  pub room : ℕ
  pub ticket : ℕ
  -- the grant and the active word that its last poll loaded, and what the exchange of it found
  pub grant : ℕ
  pub active : ℕ
  pub found : Option ℕ
  -- the openings that it knows of: those seen at its draw, and those of the notes learned since
  pub known : List Opening
  -- its phase in the protocol
  pub phase : Phase

-- A caller that is inside, by an opening
pub record Insider (S V : Type 0) : Type 0 where
  pub caller : Caller V
  pub ticket : ℕ
  pub opening : Opening
  -- what the slot holds that it keeps, if it keeps one
  pub held : Option (Option S)

-- The holder of a key: the opening that it ended, and the user words as they stand, but for touch
-- words
pub record KeyHolder (V : Type 0) : Type 0 where
  pub caller : Caller V
  pub opening : Opening
  pub words : List ℕ

-- A note of openings
pub record Notice : Type 0 where
  pub site : TableId
  pub openings : List Opening

-- a caller that has made no draw
abbrev pub newcomer : {V : Type 0} → TableId → ℕ → (ℕ → V) → ℕ → Caller V
newcomer site limit starts who = record {
  site = site;
  who = who;
  draws = 0;
  limit = limit;
  user = starts who;
  seen = [];
  first = None;
  loads = 0;
  done = 0;
}
