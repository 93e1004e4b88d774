-- While the active word is of a room, the room is open or somebody has the key.
use Rattle.std.proofs.Common.{◌≡◌, ◌≢◌, ℕ, suc, ◌+◌, ◌<◌, ◌≤◌, Bool, true, false, cond, List, [], ◌∷◌, length, get_or, set, Option, Some, None, refl, sym, ap, ◌∙◌, inl, inr, ◌⊎◌, arith, eqb, ltb, ◌&&◌, Result, Ok, Err}
use Rattle.std.proofs.lemmas.List.{get_or-set_same, get_or-set_other}
use Rattle.std.proofs.lemmas.Bool.{cond-true, eq-eqb, lt-ltb}
use Rattle.std.proofs.lemmas.List.Sums.{sum_by-cons}
use Rattle.room_core.specs.declared.acts.Act.{Act}
use Rattle.room_core.specs.declared.phases.Phase.{Phase}
use Rattle.room_core.specs.declared.phases.Phase.TheVariants.{Out, Admitting, Inside}
use Rattle.room_core.specs.declared.items.Item.{Item}
use Rattle.room_core.specs.declared.acts.Act.TheVariants.{Leave}
use Rattle.room_core.specs.declared.items.Item.TheVariants.{ExitBegun}
use Rattle.room_core.specs.declared.acts.Refused.{Refused}
use Rattle.room_core.specs.declared.acts.Refused.TheVariants.{NoCaller}
use Rattle.room_core.specs.Words.{Words, touched}
use Rattle.room_core.specs.Machine.{Row, row_of, phase_of, acting, made}
use Rattle.room_core.specs.Active.{code_of}
use Rattle.room_core.specs.Trace.{is_exiting}
use Rattle.room_core.specs.Runs.{World}
use Rattle.room_core.specs.Moves.{leaving_move}
use Rattle.room_core.proofs.Lists.{within}
use Rattle.room_core.proofs.Invariant.{is_keeper, phase, Fits, Inv, holders, above}
use Rattle.room_core.proofs.Rows.{fits_at, inside_open}
use Rattle.room_core.proofs.Keys.{code_of_pack}
use Rattle.room_core.proofs.Went.{Went, drawn, found, missed, saw_idle, saw_busy, won, lost, counted_wait, opened, opened_in, entered, left, left_last, exited, chose, ended, went_on, scanned, passed, rested}

pub record Awake (s : Words) (ps : List Phase) : Type 0 where
  pub why : (code_of s.active ≡ 0) ⊎ (((r : ℕ) × (get_or s.done r 0 < get_or s.grant r 0)) ⊎ ((d : ℕ) × (is_keeper (phase ps d) ≡ true)))

differ : true ≡ false → ⊥
differ e = cc

still : (s s' : Words) (ps : List Phase) (c : ℕ) (p q : Phase) → phase ps c ≡ q
    → is_keeper q ≡ false → s'.active ≡ s.active → s'.grant ≡ s.grant → s'.done ≡ s.done
    → Awake s ps → Awake s' (set ps c p)
still s s' ps c p q e free ea eg ed k = record {
  why = elim k.why [
    | inl z ↦ inl (ap code_of ea ∙ z)
    | inr (inl o) ↦ inr (inl (o.0, (let a : get_or s'.done o.0 0 ≡ get_or s.done o.0 0 = ap (λ (l : List ℕ). get_or l o.0 0) ed in let b : get_or s'.grant o.0 0 ≡ get_or s.grant o.0 0 = ap (λ (l : List ℕ). get_or l o.0 0) eg in omega (arith, a, b, o.1))))
    | inr (inr d) ↦ inr (inr (d.0, (let ne : d.0 ≢ c = λ f. differ (sym d.1 ∙ (ap (λ (z : ℕ). is_keeper (phase ps z)) f ∙ (ap is_keeper e ∙ free))) in ap is_keeper (get_or-set_other ps c d.0 p Out ne) ∙ d.1)))
  ];
}

keyed : (s' : Words) (ps : List Phase) (c : ℕ) (p : Phase) → c < length ps → is_keeper p ≡ true
    → Awake s' (set ps c p)
keyed s' ps c p h e = record {
  why = inr (inr (c, ap is_keeper (get_or-set_same ps c p Out h) ∙ e));
}

opens : (s : Words) (ps' : List Phase) (t : List Item) (room to : ℕ)
    → get_or s.done room 0 ≡ get_or s.grant room 0 → get_or s.grant room 0 < to
    → room < length s.grant → Awake (record s { grant = set s.grant room to }) ps'
opens s ps' t room to shut more lt = record {
  why =
      inr
      (inl (room, (let a = get_or-set_same s.grant room to 0 lt in omega (arith, a, shut, more))));
}

abbrev pub NotLast : Words → Phase → Act → Row → Type 0
NotLast s p act row =
    (room ticket turn to : ℕ) (first : Option ℕ) → p ≡ Inside room ticket first turn to
    → act ≡ Leave → row.1.two ≡ None → get_or s.done room 0 + 1 ≡ to → ⊥

pub awake_went : (c : ℕ) (s : Words) (ps : List Phase) (t : List Item) (p : Phase) (act : Act) (row : Row)
    → Went c s p act row → Inv s ps t → c < length ps → phase ps c ≡ p → NotLast s p act row
    → Awake s ps → Awake (touched s row.1.touch) (set ps c row.0)
awake_went c s ps t p act row (drawn r hr) i h e l k = still s _ ps c _ p e refl refl refl refl k
awake_went c s ps t p act row (found room ticket first le) i h e l k =
    still s _ ps c _ p e refl refl refl refl k
awake_went c s ps t p act row (missed room ticket first le) i h e l k =
    still s _ ps c _ p e refl refl refl refl k
awake_went c s ps t p act row (saw_idle room ticket first z) i h e l k =
    still s _ ps c _ p e refl refl refl refl k
awake_went c s ps t p act row (saw_busy room ticket first) i h e l k =
    still s _ ps c _ p e refl refl refl refl k
awake_went c s ps t p act row (lost room ticket first idle) i h e l k =
    still s _ ps c _ p e refl refl refl refl k
awake_went c s ps t p act row (opened room first turn to) i h e l k =
    let f : Fits s (is_exiting t) (Admitting room 0 first turn to) =
    fits_at s ps t c (Admitting room 0 first turn to) i e in
    opens s _ t room to (f.0.keeps.shut room) f.1
    (omega (arith, within s.wait room (omega (arith, f.0.more)), i.grants))
awake_went c s ps t p act row (opened_in room ticket first turn to) i h e l k =
    let f : Fits s (is_exiting t) (Admitting room (suc ticket) first turn to) =
    fits_at s ps t c (Admitting room (suc ticket) first turn to) i e in
    opens s _ t room to (f.0.keeps.shut room) f.1
    (omega (arith, within s.wait room (omega (arith, f.0.more)), i.grants))
awake_went c s ps t p act row (entered room ticket first to) i h e l k =
    still s _ ps c _ p e refl refl refl refl k
awake_went c s ps t p act row (rested turn) i h e l k = record {
  why = inl (code_of_pack turn 0 (omega arith));
}
awake_went c s ps t p act row (left room ticket first turn to short) i h e l k =
    let f : Fits s (is_exiting t) (Inside room ticket first turn to) =
    fits_at s ps t c (Inside room ticket first turn to) i e in
    let open_now = inside_open s ps t c room ticket first turn to i e in
    let lt : room < length s.done =
    omega (arith, within s.grant room (omega (arith, open_now)), i.grants, i.dones) in
    let same =
    get_or-set_same s.done room (get_or s.done room 0 + 1) 0 lt in let ne : get_or s.done room 0
    + 1 ≢ to = l room ticket turn to first refl refl refl in
    record { why = inr (inl (room, omega (arith, same, ne, open_now, f.0.to_is))) }
awake_went c s ps t p act row went i h e l k = keyed _ ps c _ h refl

-- a departure that begins no exit code is not the last
some_none : (r : ℕ) → Some (ExitBegun r) ≡ None → ⊥
some_none r e = cc

same_row : (a b : Row) → ◌≡◌ {A = Result Row Refused} (Ok a) (Ok b) → a ≡ b
same_row a b e = cc

pub not_last : (w : World) (c : ℕ) (act : Act) (row : Row) → c < length w.state.phases
    → row_of w.state c act ≡ Ok row → NotLast w.state.words (phase_of w.state c) act row
not_last w c act row h e room ticket turn to first at is none full =
    let b : row_of w.state c Leave ≡ Ok (made w.state.words (leaving_move c room turn to)) =
    cond-true (ltb c (length w.state.phases)) (acting w.state c (phase_of w.state c) Leave)
    (Err NoCaller) (lt-ltb c (length w.state.phases) h)
    ∙ ap (λ (z : Phase). acting w.state c z Leave) at in
    let same : made w.state.words (leaving_move c room turn to) ≡ row =
    same_row (made w.state.words (leaving_move c room turn to)) row
    (sym b ∙ (ap (row_of w.state c) (sym is) ∙ e)) in
    some_none room
    (ap (λ (z : Bool). cond z (Some (ExitBegun room)) None)
    (sym (eq-eqb (get_or w.state.words.done room 0 + 1) to full))
    ∙ (ap (λ (z : Row). z.1.two) same ∙ none))

no_ticket : (b : Bool) → ◌≡◌ {A = ℕ} (cond (b && ltb 0 0) 1 0) 0
no_ticket true = refl
no_ticket false = refl

-- nobody holds a ticket where all are out
pub none_held : (ps : List Phase) (r : ℕ) → ((d : ℕ) → phase ps d ≡ Out) → holders ps r 0 ≡ 0
none_held [] r all = refl
none_held (p ∷ ps) r all =
    let rest = none_held ps r (λ d. all (suc d)) in
    let mine : above r 0 p ≡ above r 0 Out = ap (above r 0) (all 0) in
    let zero_is : above r 0 Out ≡ 0 = no_ticket (eqb 0 r) in
    let all_of = sum_by-cons (above r 0) p ps in omega (arith, rest, mine, zero_is, all_of)
