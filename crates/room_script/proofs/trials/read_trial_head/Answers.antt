use Rattle.std.proofs.Common.{refl, sym, ◌∙◌}
use Rattle.room_script.proofs.TrialHeads.{title_wrong, layout_wrong, blocks_wrong, draws_wrong, caller_wrong, head_read}
use Rattle.room_script.proofs.trials.read_trial_head.Goals as goal

pub returns-in_default-clause-broken : goal.returns-in_default-clause-broken
returns-in_default-clause-broken c =
    (1, refl, title_wrong _ (λ form is. let e = (c.in_default.ensures form).1 (is.0, c.line_at.ensures ∙ is.1) in cc))

pub returns-in_default-read_layout-clause-broken :
    goal.returns-in_default-read_layout-clause-broken
returns-in_default-read_layout-clause-broken c =
    let title = (c.in-Some.ensures c.in-Some.form).0 refl in
    (2, refl, layout_wrong _ c.in-Some.form (title.0, sym c.line_at.ensures ∙ title.1) (λ l is. let e = (c.in_default-read_layout.ensures l).1 (c.line_at-2.ensures ∙ is) in cc))

pub returns-in_default-read_blocks-clause-broken :
    goal.returns-in_default-read_blocks-clause-broken
returns-in_default-read_blocks-clause-broken c =
    let title = (c.in-Some.ensures c.in-Some.form).0 refl in
    let layout = sym c.line_at-2.ensures ∙ (c.in-Some-read_layout.ensures c.in-Some-read_layout.layout).0 refl in (
      3,
      refl,
      blocks_wrong _ c.in-Some.form (title.0, sym c.line_at.ensures ∙ title.1) c.in-Some-read_layout.layout layout
          (λ n is. let e = (c.in_default-read_blocks.ensures n).1 (is.0, c.line_at-3.ensures ∙ is.1) in cc),
    )

pub returns-in_default-read_draws-clause-broken : goal.returns-in_default-read_draws-clause-broken
returns-in_default-read_draws-clause-broken c =
    let title = (c.in-Some.ensures c.in-Some.form).0 refl in
    let layout = sym c.line_at-2.ensures ∙ (c.in-Some-read_layout.ensures c.in-Some-read_layout.layout).0 refl in
    let blocks = (c.in-Some-read_blocks.ensures c.in-Some-read_blocks.blocks).0 refl in (
      4,
      refl,
      draws_wrong _ c.in-Some.form (title.0, sym c.line_at.ensures ∙ title.1) c.in-Some-read_layout.layout layout c.in-Some-read_blocks.blocks
          (blocks.0, sym c.line_at-3.ensures ∙ blocks.1)
          (λ n is. let e = (c.in_default-read_draws.ensures n).1 (is.0, c.line_at-4.ensures ∙ is.1) in cc),
    )

pub returns-then-not-is_caller-clause-broken : goal.returns-then-not-is_caller-clause-broken
returns-then-not-is_caller-clause-broken c =
    let title = (c.in-Some.ensures c.in-Some.form).0 refl in
    let layout = sym c.line_at-2.ensures ∙ (c.in-Some-read_layout.ensures c.in-Some-read_layout.layout).0 refl in
    let blocks = (c.in-Some-read_blocks.ensures c.in-Some-read_blocks.blocks).0 refl in
    let draws = (c.in-Some-read_draws.ensures c.in-Some-read_draws.draws).0 refl in (
      5,
      refl,
      caller_wrong _ c.in-Some.form (title.0, sym c.line_at.ensures ∙ title.1) c.in-Some-read_layout.layout layout c.in-Some-read_blocks.blocks
          (blocks.0, sym c.line_at-3.ensures ∙ blocks.1) c.in-Some-read_draws.draws (draws.0, sym c.line_at-4.ensures ∙ draws.1)
          (λ caller. let e = c.if-not-is_caller.ensures.1 (c.line_at-5.ensures ∙ caller) in cc),
    )

pub returns-clause-read : goal.returns-clause-read
returns-clause-read c =
    let title = (c.in-Some.ensures c.in-Some.form).0 refl in
    let layout = sym c.line_at-2.ensures ∙ (c.in-Some-read_layout.ensures c.in-Some-read_layout.layout).0 refl in
    let blocks = (c.in-Some-read_blocks.ensures c.in-Some-read_blocks.blocks).0 refl in
    let draws = (c.in-Some-read_draws.ensures c.in-Some-read_draws.draws).0 refl in
    head_read _ c.in-Some.form (title.0, sym c.line_at.ensures ∙ title.1) c.in-Some-read_layout.layout layout c.in-Some-read_blocks.blocks (blocks.0, sym c.line_at-3.ensures ∙ blocks.1)
    c.in-Some-read_draws.draws (draws.0, sym c.line_at-4.ensures ∙ draws.1) (sym c.line_at-5.ensures ∙ c.if-not-is_caller.ensures.0 refl)
