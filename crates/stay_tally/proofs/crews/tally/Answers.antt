use Rattle.std.proofs.Common.{◌∙◌, ℕ, ap, arith}
use Rattle.stay_tally.specs.Crews.{all_in}
use Rattle.stay_tally.proofs.Closed.{ready, done, all_back, words_left}
use Rattle.stay_tally.proofs.crews.tally.Goals as goal

pub in_threads-requires-after_bounds : goal.in_threads-requires-after_bounds
in_threads-requires-after_bounds g c κs within i p h is =
    let made = c.in_ok-rooms in let passes = made.passes in let ok = passes.ok.0 in
    ready made.rooms.site _ c.args.callers c.args.stays passes.items made.ensures.passes c.requires
    (let fits = c.ranges.stays.fits in omega arith) i p (omega arith) is

pub close-requires : goal.close-requires
close-requires g c =
    let made = c.in_ok-rooms in let back = c.in_ok-passes in let site = made.rooms.site in
    let ok = made.passes.ok.0 in let same = back.passes.ok.0 in let len = back.ensures.len in
    let long = made.ensures.passes.long in let callers = made.ensures.rooms.1 in
    all_back c.args.spread c.args.stays site _ made.rooms.callers back.passes.items (omega arith)
    (done c.args.spread c.args.stays site _ c.args.callers made.passes.items back.passes.items
    made.ensures.passes (omega arith) back.ensures.each)

pub returns-in-Ok-clause-words : goal.returns-in-Ok-clause-words
returns-in-Ok-clause-words g c r h =
    let made = c.in_ok-rooms in let back = c.in_ok-passes in let site = made.rooms.site in
    let ok = made.passes.ok.0 in let same = back.passes.ok.0 in let len = back.ensures.len in
    let long = made.ensures.passes.long in let callers = made.ensures.rooms.1 in
    let are = done c.args.spread c.args.stays site _ c.args.callers made.passes.items
    back.passes.items made.ensures.passes (omega arith) back.ensures.each in
    words_left c.args.spread c.args.stays site _ made.rooms.callers made.rooms.usage
    back.passes.items c.in-Ok.left.words.items c.in-Ok.left.slots.items (omega arith) are
    c.in-Ok.ensures.left r h
    ∙ ap (λ (n : ℕ). all_in c.args.spread n c.args.stays r) callers
