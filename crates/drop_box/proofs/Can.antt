-- That the steps which add to a word may be made: the sum fits. The others need no proof of ours.
use Rattle.std.proofs.Common.{ℕ, ◌+◌, ◌^◌, ◌<◌, inl, Option, refl, arith}
use Rattle.std.specs.Prelude.{◌==◌, slice_index}
use Rattle.std.proofs.lemmas.List.Sums.{count_by-le-length}
use Rattle.room_rule.specs.Use.{Meaning}
use Rattle.room_rule.specs.Steps.{CanStep, CanTouch}
use Rattle.room_rule.specs.Callers.{part_of_sum, sum_within}
use Rattle.drop_box.specs.declared.uses.Visit.{Visit}
use Rattle.drop_box.specs.Box.{turnstile, bell, through, box_meaning}
use Rattle.drop_box.specs.Plays.{went_through, rang}

module _ {X S : Type 0} (x : X) (who : ℕ) (v : Visit) where
  abbrev M : Meaning X S Visit
  M = box_meaning

  -- through the turnstile: it counts callers, so that it does not wrap
  pub can_go_through : (room turn : ℕ) (held : Option (Option S)) → v.last < turn
      → CanStep M x who v turnstile (λ n. n + 1) room turn held (λ n. n + 1 < 2 ^ 64) went_through
  can_go_through room turn held once s ins st small =
      let few = st.lawful.few in
      let shows = st.lawful.shows in
      let most = count_by-le-length (λ (w : Visit). w.last == turn) s.views in (
        omega arith,
        (
          through turn (slice_index s.words turnstile) v,
          inl (record {
            view = v;
            at = st.view;
            may = once;
            word_is = refl;
            value_is = refl;
            after_is = refl;
          }),
          refl,
        ),
      )

  -- the bell: 64 callers, and at most 2^32 rings of each
  pub can_ring : v.rings < 2 ^ 32
      → CanTouch M x who v bell (λ n. n + 1) (λ n. n + 1 < 2 ^ 64) rang
  can_ring few s gate st small =
      let h = st.lawful in
      let callers = h.few in
      let sum = h.rang in
      let all = sum_within (λ (w : Visit). w.rings) (2 ^ 32) s.views h.rarely in
      let own = part_of_sum (λ (w : Visit). w.rings) s.views who v st.view in (
        omega arith,
        (
          record v { rings = v.rings + 1 },
          record {
            view = v;
            at = st.view;
            may = few;
            word_is = refl;
            value_is = refl;
            after_is = refl;
          },
          (refl, omega arith),
        ),
      )
