-- The rows that change a word or the trace.
use Rattle.std.proofs.Common.{◌≡◌, ◌≢◌, ℕ, ◌+◌, ◌<◌, ◌≤◌, Bool, true, false, List, length, get_or, set, Some, None, refl, sym, ap, ◌∙◌, inl, inr, arith}
use Rattle.std.proofs.lemmas.Bool.{cases_lt}
use Rattle.std.proofs.lemmas.List.{length-set, get_or-set_same}
use Rattle.std.proofs.lemmas.List.Sums.{sum_by-le-sum_by}
use Rattle.std.proofs.lemmas.Bool.Decides.{nat_tests}
use Rattle.room_core.specs.declared.phases.Phase.{Phase}
use Rattle.room_core.specs.declared.phases.Phase.TheVariants.{Out, Looking, Glancing, Seizing, Counting, Admitting, Turning, Inside, Exiting, Peering, Scanning, Passing}
use Rattle.room_core.specs.declared.items.Item.{Item}
use Rattle.room_core.specs.Words.{Words}
use Rattle.room_core.specs.Active.{code_of}
use Rattle.room_core.specs.Trace.{occupant, is_exiting}
use Rattle.room_core.proofs.Lists.{each_set}
use Rattle.room_core.proofs.Invariant.{ticket_of, room_of, is_keeper, room_inside, above, holders, phase, Fits, Inv}
use Rattle.room_core.proofs.Rows.{above_le, above_one, above_zero, admitted_open, inside_of, one_set, holders_set}

pub above_other : (r x : ℕ) (p : Phase) → room_of p ≢ r → above r x p ≡ 0
above_other r x p ne = grind (arith, nat_tests)

pub keeper_busy : (s : Words) (now : Bool) (q : Phase) → Fits s now q → is_keeper q ≡ true
    → (0 < code_of s.active) × ((r : ℕ) → get_or s.done r 0 ≡ get_or s.grant r 0)
keeper_busy s now (Counting room ticket first turn) f e = (f.keeps.busy, f.keeps.shut)
keeper_busy s now (Admitting room ticket first turn to) f e = (f.0.keeps.busy, f.0.keeps.shut)
keeper_busy s now (Exiting room turn) f e = (f.0.busy, f.0.shut)
keeper_busy s now (Peering room turn k w) f e = (f.0.busy, f.0.shut)
keeper_busy s now (Scanning room turn k) f e = (f.0.busy, f.0.shut)
keeper_busy s now (Passing turn next) f e = (f.0.busy, f.0.shut)
keeper_busy s now _ f e = absurd (cc)

-- a phase that isn't the keeper's, when tickets are drawn
pub fits_grown : (s : Words) (wait : List ℕ) (now : Bool)
    → ((k : ℕ) → get_or s.wait k 0 ≤ get_or wait k 0) → (q : Phase) → Fits s now q
    → Fits (record s { wait = wait }) now q
fits_grown s wait now g Out f = tt
fits_grown s wait now g (Looking room ticket first) f = record {
  some = f.some;
  drawn = omega (arith, f.drawn, g room);
}
fits_grown s wait now g (Glancing room ticket first) f = record {
  some = f.some;
  drawn = omega (arith, f.drawn, g room);
}
fits_grown s wait now g (Seizing room ticket first idle) f =
    (record { some = f.0.some; drawn = omega (arith, f.0.drawn, g room) }, f.1)
fits_grown s wait now g (Counting room ticket first turn) f =
    record { keeps = record { turn_is = f.keeps.turn_is; busy = f.keeps.busy; shut = f.keeps.shut; exit = f.keeps.exit }; code = f.code; more = omega (arith, f.more, g room); late = f.late; drawn = omega (arith, f.drawn, g room) }
fits_grown s wait now g (Admitting room ticket first turn to) f = (
  record {
    keeps = record {
      turn_is = f.0.keeps.turn_is;
      busy = f.0.keeps.busy;
      shut = f.0.keeps.shut;
      exit = f.0.keeps.exit;
    };
    code = f.0.code;
    more = omega (arith, f.0.more, g room);
    late = f.0.late;
    drawn = omega (arith, f.0.drawn, g room);
  },
  f.1,
  f.2,
  omega (arith, f.3, g room),
)
fits_grown s wait now g (Turning room ticket first to) f = record {
  some = f.some;
  granted = f.granted;
  to_is = f.to_is;
}
fits_grown s wait now g (Inside room ticket first turn to) f =
    (record { some = f.0.some; granted = f.0.granted; to_is = f.0.to_is }, f.1)
fits_grown s wait now g (Exiting room turn) f =
    (record { turn_is = f.0.turn_is; busy = f.0.busy; shut = f.0.shut; exit = f.0.exit }, f.1)
fits_grown s wait now g (Peering room turn k w) f = (
  record { turn_is = f.0.turn_is; busy = f.0.busy; shut = f.0.shut; exit = f.0.exit },
  f.1,
  omega (arith, f.2, g k),
)
fits_grown s wait now g (Scanning room turn k) f =
    (record { turn_is = f.0.turn_is; busy = f.0.busy; shut = f.0.shut; exit = f.0.exit }, f.1)
fits_grown s wait now g (Passing turn None) f =
    (record { turn_is = f.0.turn_is; busy = f.0.busy; shut = f.0.shut; exit = f.0.exit }, tt)
fits_grown s wait now g (Passing turn (Some k)) f = (
  record { turn_is = f.0.turn_is; busy = f.0.busy; shut = f.0.shut; exit = f.0.exit },
  omega (arith, f.1, g k),
)

-- a phase that isn't the keeper's and isn't admitted, whatever the other words and the trace are
pub fits_waiting : (s : Words) (active : ℕ) (grant done : List ℕ) (now new : Bool) (q : Phase)
    → Fits s now q → is_keeper q ≡ false
    → (0 < ticket_of q → get_or s.grant (room_of q) 0 < ticket_of q)
    → Fits (record { active = active; wait = s.wait; grant = grant; done = done }) new q
fits_waiting s active grant done now new Out f e l = tt
fits_waiting s active grant done now new (Looking room ticket first) f e l = record {
  some = f.some;
  drawn = f.drawn;
}
fits_waiting s active grant done now new (Glancing room ticket first) f e l = record {
  some = f.some;
  drawn = f.drawn;
}
fits_waiting s active grant done now new (Seizing room ticket first idle) f e l =
    (record { some = f.0.some; drawn = f.0.drawn }, f.1)
fits_waiting s active grant done now new (Turning room ticket first to) f e l =
    absurd (omega (arith, f.granted, l f.some))
fits_waiting s active grant done now new (Inside room ticket first turn to) f e l =
    absurd (omega (arith, f.0.granted, l f.0.some))
fits_waiting s active grant done now new _ f e l = absurd (cc)

-- a phase that isn't the keeper's, when somebody leaves or the trace grows
pub fits_left : (s : Words) (done : List ℕ) (now new : Bool) (q : Phase) → Fits s now q
    → is_keeper q ≡ false → Fits (record s { done = done }) new q
fits_left s done now new Out f e = tt
fits_left s done now new (Looking room ticket first) f e = record { some = f.some; drawn = f.drawn }
fits_left s done now new (Glancing room ticket first) f e = record {
  some = f.some;
  drawn = f.drawn;
}
fits_left s done now new (Seizing room ticket first idle) f e =
    (record { some = f.0.some; drawn = f.0.drawn }, f.1)
fits_left s done now new (Turning room ticket first to) f e = record {
  some = f.some;
  granted = f.granted;
  to_is = f.to_is;
}
fits_left s done now new (Inside room ticket first turn to) f e =
    (record { some = f.0.some; granted = f.0.granted; to_is = f.0.to_is }, f.1)
fits_left s done now new _ f e = absurd (cc)

-- while no room is open, each ticket that is held is a late one
pub late : (s : Words) (ps : List Phase) (t : List Item) → Inv s ps t
    → ((r : ℕ) → get_or s.done r 0 ≡ get_or s.grant r 0) → (d : ℕ) → 0 < ticket_of (phase ps d)
    → get_or s.grant (room_of (phase ps d)) 0 < ticket_of (phase ps d)
late s ps t i shut d h = elim (cases_lt (get_or s.grant (room_of (phase ps d)) 0) (ticket_of (phase ps d))) [
  | inl l ↦ l
  | inr le ↦ absurd (omega (arith, admitted_open s ps t d i h le, shut (room_of (phase ps d))))
]

pub nobody_inside : (s : Words) (ps : List Phase) (t : List Item) → Inv s ps t
    → ((r : ℕ) → get_or s.done r 0 ≡ get_or s.grant r 0) → (d r : ℕ) → occupant d t ≡ Some r → ⊥
nobody_inside s ps t i shut d r e =
    let h = inside_of s (is_exiting t) (phase ps d) r (i.each d) (sym (i.occupied d) ∙ e) in
    omega (arith, late s ps t i shut d h.1, h.2)

pub draw_kept : (s : Words) (ps : List Phase) (t : List Item) (c r : ℕ) → Inv s ps t → c < length ps
    → r < length s.wait
    → phase ps c ≡ Out
    → Inv (record s { wait = set s.wait r (get_or s.wait r 0 + 1) })
    (set ps c (Looking r (get_or s.wait r 0 + 1) None)) t
draw_kept s ps t c r i h hr e =
    let o = get_or s.wait r 0 in
    let p : Phase = Looking r (o + 1) None in
    let w : List ℕ = set s.wait r (o + 1) in
    let g : (k : ℕ) → get_or s.wait k 0 ≤ get_or w k 0 =
    each_set (λ k v. get_or s.wait k 0 ≤ v) s.wait r (o + 1) 0 hr (omega arith)
    (λ k _. omega arith) in
    let out : (k x : ℕ) → above k x (phase ps c) ≡ 0 =
    λ k x. ap (above k x) e ∙ above_zero k x Out (omega arith) in
    record {
      each = each_set (λ _ q. Fits (record s { wait = w }) (is_exiting t) q) ps c p Out h
          (record {
            some = omega arith;
            drawn =
                let same : get_or w r 0 ≡ o + 1 = get_or-set_same s.wait r (o + 1) 0 hr in
                omega (arith, same);
          })
          (λ d _. fits_grown s w (is_exiting t) g (phase ps d) (i.each d));
      one = one_set ps c p h i.one (λ kp. absurd (cc));
      open_room = i.open_room;
      idle = i.idle;
      occupied =
          each_set (λ d q. occupant d t ≡ room_inside q) ps c p Out h
          (i.occupied c ∙ ap room_inside e) (λ d _. i.occupied d);
      granted = λ k. omega (arith, i.granted k, g k);
      total =
          each_set (λ k v. holders (set ps c p) k 0 + get_or s.done k 0 ≡ v) s.wait r (o + 1) 0 hr
          (omega (
            arith,
            holders_set ps c p r 0 h,
            out r 0,
            above_one r 0 p refl (omega arith),
            i.total r,
          ))
          (λ k ne.
          omega (
            arith,
            holders_set ps c p k 0 h,
            out k 0,
            above_other k 0 p (λ q. ne (sym q)),
            i.total k,
          ));
      later =
          λ k x.
          each_set
          (λ k v. (x : ℕ) → get_or s.grant k 0 ≤ x → x ≤ v → holders (set ps c p) k x + x ≡ v)
          s.wait r (o + 1) 0 hr
          (λ x l u. elim (cases_lt x (o + 1)) [
            | inl lt ↦ omega (arith, holders_set ps c p r x h, out r x, above_one r x p refl lt, i.later r x l (omega arith))
            | inr ge ↦ omega (arith, holders_set ps c p r x h, out r x, above_zero r x p ge, i.later r o (i.granted r) (omega arith), sum_by-le-sum_by (above r x) (above r o) ps (above_le r o x (omega arith)))
          ])
          (λ k ne x l u.
          omega (
            arith,
            holders_set ps c p k x h,
            out k x,
            above_other k x p (λ q. ne (sym q)),
            i.later k x l u,
          )) k x;
      grants = i.grants ∙ sym (length-set s.wait r (o + 1));
      dones = i.dones ∙ sym (length-set s.wait r (o + 1));
      few = rw length-set i.few;
    }
