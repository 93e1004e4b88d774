-- What the steps of a caller that leaves, and passes on, leave of its seat.
use Rattle.std.proofs.Common.{◌≡◌, ◌∙◌, ℕ, ◌+◌, ◌%◌, ◌^◌, ◌<◌, cond, eqb, ltb, Option, Some, None, List, ap, sym, refl}
use Rattle.atomic_table.specs.declared.shared.Seat.{Seat}
use Rattle.room_core.specs.declared.phases.Phase.TheVariants.{Inside, Exiting, Peering, Scanning, Passing, Admitting}
use Rattle.room_core.specs.Moves.{exiting_move, peering_move, scanning_move, passing_move, admitting_move}
use Rattle.room_rule.specs.Use.{Meaning}
use Rattle.room_rule.specs.Told.{Seated, stepped_by, left_by}
use Rattle.room_rule.specs.declared.views.Shown.{Shown}
use Rattle.room_gate.specs.Rows.{Goes}
use Rattle.room_gate.specs.LeavingRows.{departed, scanned, peered, passed_on, went_out}
use Rattle.room_gate.proofs.Stepping.{quietly, one_of}

-- a departure shows the words that it finds
pub depart_goes : {S V : Type 0} (a b : Seat (Option S) (Shown V)) (n room ticket turn to first : ℕ)
    → b.table_id ≡ a.table_id → left_by a.me n b.me
    → a.me.0.phase ≡ Inside room ticket (Some first) turn to
    → Goes a b (departed room turn to n b.me.0.kept a.me.0) × (n + 1 < 2 ^ 64)
depart_goes {S} {V} a b n room ticket turn to first same told at =
    let t = told room ticket turn to (Some first) at in
    let kept : List ℕ = t.1.0 in
    let e : kept ≡ b.me.0.kept = ap (λ (z : Seated S V). z.0.kept) (sym t.1.1) in
    ((same, t.1.1 ∙ (λ i. (departed room turn to n (e i) a.me.0, a.me.1))), t.0)

module _ {X S V : Type 0} (M : Meaning X S V) (m : ℕ) (a b : Seat (Option S) (Shown V)) (n : ℕ)
    (same : b.table_id ≡ a.table_id) (told : stepped_by M m a.me n b.me) where
  pub end_goes : (room turn next : ℕ) → next ≡ (room + 1) % m → a.me.0.phase ≡ Exiting room turn
      → Goes a b (scanned room turn next n a.me.0)
  end_goes room turn next is at =
      let q = quietly M m a b n same told (Exiting room turn) (exiting_move m room turn) at refl
      (λ all e. e) in
      (q.0, q.1 ∙ (λ i. (scanned room turn (sym is i) n a.me.0, a.me.1)))

  pub peer_goes : (room turn k w : ℕ) → a.me.0.phase ≡ Peering room turn k w
      → Goes a b (peered m room turn k w n a.me.0)
  peer_goes room turn k w at =
      let on = Scanning room turn ((k + 1) % m) in
      quietly M m a b n same told (Peering room turn k w) (peering_move m room turn k w) at refl
      (λ all. one_of M m a b n same told (ltb n w) (Passing turn (Some k))
      (cond (eqb k room) (Passing turn None) on) all (λ e. e)
      (one_of M m a b n same told (eqb k room) (Passing turn None) on all (λ e. e) (λ e. e)))

  pub scan_goes : (room turn k : ℕ) → a.me.0.phase ≡ Scanning room turn k
      → Goes a b (scanned room turn k n a.me.0)
  scan_goes room turn k at =
      quietly M m a b n same told (Scanning room turn k) (scanning_move room turn k) at refl
      (λ all e. e)

  pub pass_on_goes : (turn k : ℕ) → a.me.0.phase ≡ Passing turn (Some k)
      → Goes a b (passed_on turn k a.me.0)
  pass_on_goes turn k at =
      quietly M m a b n same told (Passing turn (Some k)) (passing_move turn (Some k)) at refl
      (λ all e. e)

  pub pass_idle_goes : (turn : ℕ) → a.me.0.phase ≡ Passing turn None → Goes a b (went_out a.me.0)
  pass_idle_goes turn at =
      quietly M m a b n same told (Passing turn None) (passing_move turn None) at refl (λ all e. e)

  pub open_out_goes : (room turn to : ℕ) → a.me.0.phase ≡ Admitting room 0 None turn to
      → Goes a b (went_out a.me.0)
  open_out_goes room turn to at =
      quietly M m a b n same told (Admitting room 0 None turn to)
      (admitting_move a.me.0.who room 0 None turn to) at refl (λ all e. e)
