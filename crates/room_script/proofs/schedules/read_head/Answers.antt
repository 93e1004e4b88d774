use Rattle.std.proofs.Common.{refl, sym, ◌∙◌}
use Rattle.room_script.proofs.Heads.{head_spelled, title_breaks, rooms_break, callers_break}
use Rattle.room_script.proofs.schedules.read_head.Goals as goal

pub returns-then-not-is_title-clause-broken : goal.returns-then-not-is_title-clause-broken
returns-then-not-is_title-clause-broken c =
    (1, refl, title_breaks _ (λ title. let e = c.if-not-is_title.ensures.1 (c.line_at.ensures ∙ title) in cc))

pub returns-in_default-clause-broken : goal.returns-in_default-clause-broken
returns-in_default-clause-broken c =
    let title = sym c.line_at.ensures ∙ c.if-not-is_title.ensures.0 refl in
    (2, refl, rooms_break _ title (λ m is. let e = (c.in_default.ensures m).1 (is.0, c.line_at-2.ensures ∙ is.1) in cc))

pub returns-in_default-read_callers-clause-broken :
    goal.returns-in_default-read_callers-clause-broken
returns-in_default-read_callers-clause-broken c =
    let title = sym c.line_at.ensures ∙ c.if-not-is_title.ensures.0 refl in
    let rooms = (c.in-Some.ensures c.in-Some.rooms).0 refl in (
      3,
      refl,
      callers_break _ c.in-Some.rooms title (rooms.0, sym c.line_at-2.ensures ∙ rooms.1)
          (λ n is. let e = (c.in_default-read_callers.ensures n).1 (is.0, c.line_at-3.ensures ∙ is.1) in cc),
    )

pub returns-clause-read : goal.returns-clause-read
returns-clause-read c =
    let title = sym c.line_at.ensures ∙ c.if-not-is_title.ensures.0 refl in
    let rooms = (c.in-Some.ensures c.in-Some.rooms).0 refl in
    let callers = (c.in-Some-read_callers.ensures c.in-Some-read_callers.callers).0 refl in
    head_spelled _ c.in-Some.rooms c.in-Some-read_callers.callers title (rooms.0, sym c.line_at-2.ensures ∙ rooms.1) (callers.0, sym c.line_at-3.ensures ∙ callers.1)
