-- The table follows the protocol: by the rows of the phases.
use Rattle.std.proofs.Common.{◌≡◌, ℕ, zero, suc, ◌+◌, ◌%◌, Bool, true, false, cond, eqb, get_or, set, Some, None, refl, subst, arith, mod-eq_of_lt}
use prog.Atomic.{either}
use Rattle.room_core.specs.declared.acts.Act.TheVariants.{Draw, Step}
use Rattle.room_core.specs.declared.phases.Phase.{Phase}
use Rattle.room_core.specs.declared.phases.Phase.TheVariants.{Out, Looking, Glancing, Seizing, Counting, Admitting, Turning, Inside, Exiting, Peering, Scanning, Passing}
use Rattle.room_core.specs.Words.{place}
use Rattle.room_core.specs.Moves.{Move, move, drawing_move, value_of}
use Rattle.room_core.specs.Active.{pack, turn_of}
use Rattle.room_rule.specs.Use.{Meaning}
use Rattle.room_rule.specs.Laws.{Laws}
use Rattle.room_rule.specs.View.{moved}
use Rattle.room_rule.specs.Told.{Seated, stepped_by, IsEvent}
use Rattle.room_rule.specs.Following.{number_told, MayGo, StepsAreActs, DrawsAreActs, LeavesAreActs}
use Rattle.room_rule.specs.Following.{anything, InsidersKeepIt, HoldersKeepIt, TouchesKeepIt}
use Rattle.room_rule.specs.declared.rule.Plan.{Plan}
use Rattle.room_rule.specs.declared.views.Role.TheVariants.{Pass}
use Rattle.room_rule.proofs.Entering.{draws, looks, glances, seizes, counts, turns, admits}
use Rattle.room_rule.proofs.Leaving.{leaves, ends, peers, scans, passes_on, passes_idle, opens_out}
use Rattle.room_rule.proofs.UserSteps.{shows_set, steps, exits, touches}

no_move : (mv : Move) → None ≡ Some mv → ⊥
no_move mv e = cc

same_move : (a b : Move) → Some a ≡ Some b → a ≡ b
same_move a b e = cc

either_cond : (b : Bool) (x y : ℕ) → either b x y ≡ cond b x y
either_cond true x y = refl
either_cond false x y = refl

module _ {X S V : Type 0} (M : Meaning X S V) (m : ℕ) (laws : Laws M) where
  abbrev IsAct : Plan X → ℕ → ℕ → Seated S V → Move → Type 0
  IsAct k slots id me mv =
      IsEvent M m k slots id me (place m mv.word) (value_of mv.kind)
      (λ n me'. stepped_by M m me (number_told mv.kind n) me') Step

  -- the step of the row of a phase
  row : (k : Plan X) (slots id : ℕ) (me : Seated S V) (p : Phase) (mv : Move) → me.0.role ≡ Pass
      → me.0.phase ≡ p → move m me.0.who p ≡ Some mv → MayGo M m k.usage me.0 p
      → IsAct k slots id me mv
  row k slots id me Out mv is at by may = absurd (no_move mv by)
  row k slots id me (Inside room ticket first turn to) mv is at by may = absurd (no_move mv by)
  row k slots id me (Looking room ticket first) mv is at by may =
      subst (IsAct k slots id me) (same_move _ mv by)
      (looks M m k slots id me room ticket first is may at)
  row k slots id me (Glancing room ticket first) mv is at by may =
      subst (IsAct k slots id me) (same_move _ mv by)
      (glances M m k slots id me room ticket first is at)
  row k slots id me (Seizing room ticket first idle) mv is at by may =
      let new = pack (turn_of idle + 1) (room + 1) in
      subst (IsAct k slots id me) (same_move _ mv by)
      (subst (λ (change : ℕ → ℕ).
      IsEvent M m k slots id me 0 change (λ n me'. stepped_by M m me n me') Step)
      (λ i n. either_cond (eqb n idle) new n i)
      (seizes M m k slots id me room ticket idle new first is at refl))
  row k slots id me (Counting room ticket first turn) mv is at by may =
      subst (IsAct k slots id me) (same_move _ mv by)
      (counts M m k slots id me room ticket turn first is may at)
  row k slots id me (Admitting room zero first turn to) mv is at by may =
      subst (IsAct k slots id me) (same_move _ mv by)
      (opens_out M m k laws slots id me room turn to to first is may at)
  row k slots id me (Admitting room (suc ticket) first turn to) mv is at by may =
      subst (IsAct k slots id me) (same_move _ mv by)
      (admits M m k laws slots id me room (suc ticket) turn to to first is may (omega arith) at)
  row k slots id me (Turning room ticket first to) mv is at by may =
      subst (IsAct k slots id me) (same_move _ mv by)
      (turns M m k laws slots id me room ticket to first is at)
  row k slots id me (Exiting room turn) mv is at by may =
      subst (IsAct k slots id me) (same_move _ mv by)
      (ends M m k laws slots id me room turn ((room + 1) % m) is may.0 at refl may.1)
  row k slots id me (Peering room turn j w) mv is at by may =
      subst (IsAct k slots id me) (same_move _ mv by) (peers M m k slots id me room turn j w is at)
  row k slots id me (Scanning room turn j) mv is at by may =
      subst (IsAct k slots id me) (same_move _ mv by) (scans M m k slots id me room turn j is at)
  row k slots id me (Passing turn None) mv is at by may =
      subst (IsAct k slots id me) (same_move _ mv by)
      (passes_idle M m k slots id me turn (pack turn 0) (pack turn 0) is at refl)
  row k slots id me (Passing turn (Some j)) mv is at by may =
      subst (IsAct k slots id me) (same_move _ mv by)
      (passes_on M m k slots id me turn j (pack (turn + 1) (j + 1))
      (pack (turn + 1) (j + 1)) is at refl)

  pub steps_are_acts : StepsAreActs M m
  steps_are_acts k slots id me mv p = row k slots id me me.0.phase mv p.pass refl p.row p.may

  pub draws_are_acts : DrawsAreActs M m
  draws_are_acts k slots id me room p =
      let tells : ℕ → Seated S V
      → Type 0 = λ n me'.
      me' ≡ (moved me.0 (Draw room) (drawing_move room) n me.0.seen, me.1) in
      draws M m k slots id me room
      (λ n. (n + 1) % 18446744073709551616) tells p.pass p.exists p.out p.left p.may
      (λ n h. mod-eq_of_lt h) (λ n h. refl)

  pub leaves_are_acts : LeavesAreActs M m
  leaves_are_acts k slots id me room p =
      leaves M m k laws slots id me room p.ticket p.turn p.to p.first
      (λ n. (n + 1) % 18446744073709551616) p.pass p.inside p.may (λ n h. mod-eq_of_lt h)

  pub insiders_keep_it : InsidersKeepIt M m
  insiders_keep_it k slots id me word change p =
      steps M m k laws slots id me p.room p.ticket p.turn p.to word p.first change change
      (λ n. Unit {0}) (anything M m) (λ n me'. Unit {0}) p.pass p.inside p.exists p.carries p.can
      (λ n small f. refl) (λ n u carried c t. tt)

  pub holders_keep_it : HoldersKeepIt M m
  holders_keep_it k slots id me word change p =
      exits M m k laws slots id me p.room p.turn word change change
      (λ n. set me.0.kept word (change n))
      (anything M m) (λ n me'. Unit {0}) p.pass p.exiting p.exists p.can (λ n small. refl)
      (λ words size shows.
      shows_set M k.usage words me.0.kept word (change (get_or words word 0)) size shows)
      (λ n u shown size t. tt)

  pub touches_keep_it : TouchesKeepIt M m
  touches_keep_it k slots id me word change p =
      touches M m k laws slots id me word change change (λ n. Unit {0}) (anything M m)
      (λ n me'. Unit {0}) p.pass p.out p.exists p.can (λ n small f. refl) (λ n u t. tt)
