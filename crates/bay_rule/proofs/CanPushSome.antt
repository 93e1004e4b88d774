-- The deciding step of a handful of pushes may be made.
use Rattle.std.proofs.Common.{◌≡◌, ℕ, ◌+◌, ◌-◌, ◌^◌, ◌<◌, ◌≤◌, Bool, true, min, List, [], length, take, drop, get_or, set, None, refl, sym, ap, subst, inl, inr, arith}
use Rattle.std.proofs.lemmas.Bool.{cases_lt}
use Rattle.std.proofs.lemmas.List.{length-take, length-drop}
use Rattle.room_core.specs.Gate.{Held}
use Rattle.room_rule.specs.Steps.{CanStep}
use Rattle.bay_core.specs.declared.calls.Layout.{Layout}
use Rattle.bay_core.specs.declared.calls.Noted.{Noted}
use Rattle.bay_core.specs.declared.calls.Op.TheVariants.{Push}
use Rattle.bay_core.specs.declared.numbers.TheConstants.{MOST_DRAWS, MOST_ITEMS}
use Rattle.bay_core.specs.Noted.{after}
use Rattle.bay_core.specs.History.{GoesOn}
use Rattle.bay_core.proofs.Growing.{IsHistory-fits}
use Rattle.bay_rule.specs.declared.bay_use.BayUse.{BayUse}
use Rattle.bay_rule.specs.declared.views.BayView.{BayView}
use Rattle.bay_rule.specs.Views.{view_of, acted}
use Rattle.bay_rule.specs.Ends.{Rising}
use Rattle.bay_rule.specs.Shows.{Shows}
use Rattle.bay_rule.specs.Leaving.{pushes, noting_some, overflowed, frozen_after, spare_after}
use Rattle.bay_rule.specs.Words.{room_at, spare_at, stack_room, spare_blocks}
use Rattle.bay_rule.specs.Calls.{PushReady, Stops, Does}
use Rattle.bay_rule.specs.Draws.{used}
use Rattle.bay_rule.specs.Bay.{bay}
use Rattle.bay_rule.specs.Told.{of_users, IsFrozen, Stood, AddedSome, places_in, push_some_told}
use Rattle.bay_rule.specs.Keeping.Fitting.{items_few}
use Rattle.bay_rule.specs.Keeping.Seats.{found, acts_few}
use Rattle.bay_rule.specs.Keeping.Pushing.{froze, short, pushed_some}
use Rattle.bay_rule.proofs.Adding.{stood, added_some}
use Rattle.bay_rule.proofs.CanPush.{push_still, push_loaded}

module _ (x : BayUse) (t who : ℕ) (v : BayView) (ins : ℕ → Bool) (h : List Noted) (words : List ℕ) (views : List BayView) (k : Shows x h words views (Held 0 t ins)) (inside : ins who ≡ true) (below : who < length views) (is : view_of views who ≡ v)
    (pages free : ℕ) (ready : PushReady x.layout v.stage pages free) (fresh : v.last < t) (limited : used v < MOST_DRAWS) (share : 1 ≤ v.held) where
  ready' : PushReady x.layout (view_of views who).stage pages free
  ready' = subst (λ (y : BayView). PushReady x.layout y.stage pages free) (sym is) ready

  fresh' : (view_of views who).last < t
  fresh' = subst (λ (y : BayView). y.last < t) (sym is) fresh

  limited' : used (view_of views who) < MOST_DRAWS
  limited' = subst (λ (y : BayView). used y < MOST_DRAWS) (sym is) limited

  held_in : length (after h).stack ≤ room_at x.layout x.blocks pages
  held_in = omega (arith, short x t who ins h words views k inside below pages free ready' fresh' limited', (froze x t who ins h words views k inside below pages free ready' fresh' limited').at)

  still : IsFrozen x.layout Push (frozen_after x.layout v pages) (after h)
  still = push_still x.layout x.blocks v pages (after h) held_in

  pub at : Stood x.layout x.blocks who t Push (frozen_after x.layout v pages) (spare_after x.layout v free) (get_or words 0 0) h
  at =
      let frz = froze x t who ins h words views k inside below pages free ready' fresh' limited' in
      stood x who t ins Push (frozen_after x.layout v pages) (spare_after x.layout v free) (get_or words 0 0) h words views k inside (push_loaded x.layout x.blocks v pages free words frz.at frz.spare) refl

  -- with these items stored, these refused, and so many that have no call
  module _ (stored refused : List ℕ) (over m held spilled : ℕ) (left : held + length stored ≡ v.held) (some : 0 < length stored + length refused) (most : m ≤ MOST_ITEMS) (all : m ≡ length stored + length refused + over)
      (room : 0 < length stored → get_or words 0 0 + length stored ≤ 2 ^ 32 + room_at x.layout x.blocks pages)
      (stops : Stops (2 ^ 32 + room_at x.layout x.blocks pages ≤ get_or words 0 0 + length stored) (spare_at x.layout free) refused over v.spilled spilled) where
    pub some_view : BayView
    some_view = noting_some v t who stored refused h (frozen_after x.layout v pages) (spare_after x.layout v free) (get_or words 0 0) held spilled

    pub some_does : Does x h words t who (view_of views who) 0 (get_or words 0 0 + m) (noting_some v t who stored refused h (frozen_after x.layout v pages) (spare_after x.layout v free) (get_or words 0 0) held spilled) 0
    some_does = subst (λ y. Does x h words t who y 0 (get_or words 0 0 + m) (noting_some v t who stored refused h (frozen_after x.layout v pages) (spare_after x.layout v free) (get_or words 0 0) held spilled) 0) (sym is)
        (inl (inr (inr (inr (record {
          stored = stored;
          refused = refused;
          over = over;
          frozen = pages;
          spare = free;
          held = held;
          spilled = spilled;
          share = left;
          some_share = share;
          ready = ready;
          fresh = fresh;
          limited = limited;
          word = refl;
          some = some;
          most = omega (arith, most, all);
          room = room;
          stops = stops;
          value = omega (arith, all);
          view = refl;
        })))))

    pub some_added : AddedSome x.layout x.blocks t who v (noting_some v t who stored refused h (frozen_after x.layout v pages) (spare_after x.layout v free) (get_or words 0 0) held spilled) stored refused (frozen_after x.layout v pages) (spare_after x.layout v free) (get_or words 0 0) held spilled
    some_added = added_some x who t (Held 0 t ins) words (set words 0 (get_or words 0 0 + m)) views h v stored refused (frozen_after x.layout v pages) (spare_after x.layout v free) (get_or words 0 0) held spilled below is still at k
        (subst (λ y. Shows x (pushes t (get_or words 0 0) who stored refused h) (set words 0 (get_or words 0 0 + m)) (set views who (noting_some y t who stored refused h (frozen_after x.layout v pages) (spare_after x.layout v free) (get_or words 0 0) held spilled)) (Held 0 t ins)) is
        (pushed_some x t who ins h words views k inside below pages free ready' fresh' limited' stored refused over (frozen_after x.layout v pages) (spare_after x.layout v free) held spilled (get_or words 0 0 + m) (omega (arith, left, ap (λ (y : BayView). y.held) is)) (subst (λ (y : BayView). 1 ≤ y.held) (sym is) share)
        some (omega (arith, most, all)) room (subst (λ (y : BayView). Stops (2 ^ 32 + room_at x.layout x.blocks pages ≤ get_or words 0 0 + length stored) (spare_at x.layout free) refused over y.spilled spilled) (sym is) stops) (omega (arith, all))))

module _ (x : BayUse) (t who : ℕ) (v : BayView) where
  in_push_some : (items : List ℕ) (m pages free : ℕ) → m ≡ length items → 1 ≤ m → m ≤ MOST_ITEMS → PushReady x.layout v.stage pages free → v.last < t → used v < MOST_DRAWS → m ≤ v.held
      → CanStep bay x who v 0 (λ n. n + m) 0 t None (λ n. n + m < 2 ^ 64) (of_users (push_some_told x.layout x.blocks t who items pages free))
  in_push_some items m pages free count one most ready fresh limited share s ins stands small =
      let k = stands.lawful.1 in
      let h = stands.lawful.0 in
      let f = found s.views who v stands.view in
      let top = get_or s.words 0 0 in
      let fz = frozen_after x.layout v pages in
      let sp = spare_after x.layout v free in
      let bound = 2 ^ 32 + room_at x.layout x.blocks pages in
      let part = places_in bound top (length items) in
      let head : length (take part items) ≡ min part (length items) = length-take part items in
      let tail : length (drop part items) ≡ length items - part = length-drop part items in
      let rise : Rising (stack_room x s.words) (spare_blocks x s.words) t (length (after h).stack) top (acted s.views t) h = k.top in
      let few : length (after h).stack ≤ 2 ^ 20 = items_few x.layout x.blocks (after h) k.small (IsHistory-fits x.layout x.blocks h k.legal) in
      let fits : top + m < 2 ^ 64 = omega (arith, rise.high, few, acts_few s.views t, k.few, most) in
      let low : 2 ^ 32 ≤ top = omega (arith, rise.low) in
      let has : 1 ≤ v.held = omega (arith, one, share) in
      let stand = at x t who v ins h s.words s.views k stands.inside f.0 f.1 pages free ready fresh limited has in
      elim (cases_lt bound (top + m)) [
        | inl past ↦ elim (cases_lt 0 (spare_at x.layout free)) [
          | inl some' ↦ elim (cases_lt top bound) [
            | inl room ↦ (
              fits,
              (
                noting_some v t who (take part items) [] h fz sp top (v.held - part) (v.spilled + 1),
                (
                  h,
                  k,
                  some_does x t who v ins h s.words s.views k stands.inside f.0 f.1 pages free ready fresh limited has (take part items) [] (m - part) m (v.held - part) (v.spilled + 1) (omega (arith, head, count, share)) (omega (arith, head, count, past, room)) most (omega (arith, head, count))
                      (λ _. omega (arith, head, count, past, room)) (inr (inr (omega (arith, head, count, past, room), some', refl, omega (arith, count, past, room), refl))),
                ),
                inr (inr (
                  low,
                  omega (arith, past, count),
                  some',
                  inl (
                    room,
                    some_added x t who v ins h s.words s.views k stands.inside f.0 f.1 pages free ready fresh limited has (take part items) [] (m - part) m (v.held - part) (v.spilled + 1) (omega (arith, head, count, share)) (omega (arith, head, count, past, room)) most (omega (arith, head, count))
                        (λ _. omega (arith, head, count, past, room)) (inr (inr (omega (arith, head, count, past, room), some', refl, omega (arith, count, past, room), refl))),
                  ),
                )),
              ),
            )
            | inr none ↦ (
              fits,
              (
                overflowed v t fz sp top (v.spilled + 1) v.overran,
                (
                  h,
                  k,
                  subst (λ y. Does x h s.words t who y 0 (top + m) (overflowed v t fz sp top (v.spilled + 1) v.overran) 0) (sym f.1)
                      (inl (inr (inr (inl (record { frozen = pages; spare = free; count = m; some = one; most = most; overflows = record { share = has; ready = ready; fresh = fresh; limited = limited; word = refl; view = refl }; none = none; some_spare = some'; value = refl }))))),
                ),
                inr (inr (low, omega (arith, past, count), some', inr (none, refl, h, subst (λ (y : BayView). GoesOn h y.seen) f.1 (k.each who).seen, stand))),
              ),
            )
          ]
          | inr none' ↦ (let nothing : spare_at x.layout free ≡ 0 = omega (arith, none') in (
            fits,
            (
              noting_some v t who (take part items) (drop part items) h fz sp top (v.held - part) v.spilled,
              (
                h,
                k,
                some_does x t who v ins h s.words s.views k stands.inside f.0 f.1 pages free ready fresh limited has (take part items) (drop part items) 0 m (v.held - part) v.spilled (omega (arith, head, count, share)) (omega (arith, head, tail, count, one)) most (omega (arith, head, tail, count))
                    (λ l. omega (arith, head, count, past, l)) (inr (inl (omega (arith, head, count, past), nothing, refl, refl))),
              ),
              inr (inl (
                low,
                omega (arith, past, count),
                nothing,
                some_added x t who v ins h s.words s.views k stands.inside f.0 f.1 pages free ready fresh limited has (take part items) (drop part items) 0 m (v.held - part) v.spilled (omega (arith, head, count, share)) (omega (arith, head, tail, count, one)) most (omega (arith, head, tail, count))
                    (λ l. omega (arith, head, count, past, l)) (inr (inl (omega (arith, head, count, past), nothing, refl, refl))),
              )),
            ),
          ))
        ]
        | inr within ↦ (
          fits,
          (
            noting_some v t who items [] h fz sp top (v.held - length items) v.spilled,
            (
              h,
              k,
              some_does x t who v ins h s.words s.views k stands.inside f.0 f.1 pages free ready fresh limited has items [] 0 m (v.held - length items) v.spilled (omega (arith, count, share)) (omega (arith, count, one)) most (omega (arith, count))
                  (λ _. omega (arith, count, within)) (inl (refl, refl, refl)),
            ),
            inl (
              low,
              omega (arith, within, count),
              some_added x t who v ins h s.words s.views k stands.inside f.0 f.1 pages free ready fresh limited has items [] 0 m (v.held - length items) v.spilled (omega (arith, count, share)) (omega (arith, count, one)) most (omega (arith, count))
                  (λ _. omega (arith, count, within)) (inl (refl, refl, refl)),
            ),
          ),
        )
      ]

pub can_push_some : (x : BayUse) (layout : Layout) (blocks room t who : ℕ) (v : BayView) (items : List ℕ) (m pages free : ℕ) → room ≡ 0 → x.layout ≡ layout → x.blocks ≡ blocks → m ≡ length items → 1 ≤ m → m ≤ MOST_ITEMS → PushReady layout v.stage pages free → v.last < t → used v < MOST_DRAWS → m ≤ v.held
    → CanStep bay x who v 0 (λ n. n + m) room t None (λ n. n + m < 2 ^ 64) (of_users (push_some_told layout blocks t who items pages free))
can_push_some x layout blocks room t who v items m pages free e l f count one most ready fresh limited share = subst (λ r. CanStep bay x who v 0 (λ n. n + m) r t None (λ n. n + m < 2 ^ 64) (of_users (push_some_told layout blocks t who items pages free))) (sym e)
    (subst (λ b. CanStep bay x who v 0 (λ n. n + m) 0 t None (λ n. n + m < 2 ^ 64) (of_users (push_some_told layout b t who items pages free))) f
    (subst (λ y. CanStep bay x who v 0 (λ n. n + m) 0 t None (λ n. n + m < 2 ^ 64) (of_users (push_some_told y x.blocks t who items pages free))) l
    (in_push_some x t who v items m pages free count one most (subst (λ y. PushReady y v.stage pages free) (sym l) ready) fresh limited share)))
