-- Who has the key left last.
use Rattle.std.proofs.Common.{◌≡◌, ℕ, ◌<◌, ◌≤◌, true, List, length, get_or, set, Option, refl, inl}
use Rattle.room_core.specs.declared.acts.Act.{Act}
use Rattle.room_core.specs.declared.phases.Phase.{Phase}
use Rattle.room_core.specs.declared.phases.Phase.TheVariants.{Out, Looking, Glancing, Seizing, Counting, Admitting, Turning, Inside, Exiting, Peering, Scanning, Passing}
use Rattle.room_core.specs.declared.items.Item.{Item}
use Rattle.room_core.specs.Words.{Words}
use Rattle.room_core.specs.Machine.{Row}
use Rattle.room_core.specs.Trace.{is_exiting, onto}
use Rattle.room_core.specs.Gate.{leaver}
use Rattle.room_core.proofs.Lists.{each_set}
use Rattle.room_core.proofs.Invariant.{is_keeper, phase, Fits, Inv}
use Rattle.room_core.proofs.Rows.{fits_at, inside_open}
use Rattle.room_core.proofs.Keys.{no_keeper}
use Rattle.room_core.proofs.Went.{Went, drawn, found, missed, saw_idle, saw_busy, won, lost, counted_wait, opened, opened_in, entered, left, left_last, exited, chose, ended, went_on, scanned, passed, rested}

abbrev pub LeaverAt : ℕ → ℕ → Phase → Type 0
LeaverAt who d (Exiting room turn) = who ≡ d
LeaverAt who d _ = Unit {0}

pub record LeftLast (ps : List Phase) (t : List Item) : Type 0 where
  pub each : (d : ℕ) → LeaverAt (leaver t) d (phase ps d)

leaver_still : (ps : List Phase) (who c : ℕ) (p : Phase) → c < length ps → LeaverAt who c p
    → ((d : ℕ) → LeaverAt who d (phase ps d)) → (d : ℕ) → LeaverAt who d (phase (set ps c p) d)
leaver_still ps who c p h here all =
    each_set (λ d q. LeaverAt who d q) ps c p Out h here (λ d _. all d)

not_exiting : (who d : ℕ) (p : Phase) → (is_keeper p ≡ true → ⊥) → LeaverAt who d p
not_exiting who d (Exiting room turn) h = absurd (h refl)
not_exiting who d Out h = tt
not_exiting who d (Looking _ _ _) h = tt
not_exiting who d (Glancing _ _ _) h = tt
not_exiting who d (Seizing _ _ _ _) h = tt
not_exiting who d (Counting _ _ _ _) h = tt
not_exiting who d (Admitting _ _ _ _ _) h = tt
not_exiting who d (Turning _ _ _ _) h = tt
not_exiting who d (Inside _ _ _ _ _) h = tt
not_exiting who d (Peering _ _ _ _) h = tt
not_exiting who d (Scanning _ _ _) h = tt
not_exiting who d (Passing _ _) h = tt

-- while somebody is inside nobody has the key
none_exiting : (s : Words) (ps : List Phase) (t : List Item) (c room ticket : ℕ) (first : Option ℕ) (turn to : ℕ)
    → Inv s ps t → phase ps c ≡ Inside room ticket first turn to → (d : ℕ)
    → is_keeper (phase ps d) ≡ true → ⊥
none_exiting s ps t c room ticket first turn to i e d =
    no_keeper s ps t d i (inl (room, inside_open s ps t c room ticket first turn to i e))

pub leaver_went : (c : ℕ) (s : Words) (ps : List Phase) (t : List Item) (p : Phase) (act : Act) (row : Row)
    → Went c s p act row → Inv s ps t → c < length ps → phase ps c ≡ p → LeftLast ps t
    → LeftLast (set ps c row.0) (onto row.1.two (onto row.1.one t))
leaver_went c s ps t p act row (left room ticket first turn to short) i h e k = record {
  each =
      leaver_still ps c c Out h tt
      (λ d. not_exiting c d (phase ps d) (none_exiting s ps t c room ticket first turn to i e d));
}
leaver_went c s ps t p act row (left_last room ticket first turn to full) i h e k = record {
  each =
      leaver_still ps c c (Exiting room turn) h refl
      (λ d. not_exiting c d (phase ps d) (none_exiting s ps t c room ticket first turn to i e d));
}
leaver_went c s ps t p act row went i h e k = record {
  each = leaver_still ps (leaver t) c row.0 h tt k.each;
}
