use Rattle.std.proofs.Common.{◌≡◌, ℕ, List, ◌+◌, ◌-◌, ◌≤◌, length, map, sym, ap, subst, arith}
use Rattle.std.proofs.lemmas.List.{length-append}
use Rattle.std.proofs.lemmas.List.Elements.{All-same}
use Rattle.bay_core.specs.Times.{times}
use Rattle.image_slide.specs.Jobs.{first_of, end_of, DoesJob}
use Rattle.image_slide.specs.Parts.{IsSlid}
use Rattle.image_slide.specs.Sliding.{pieces_first}
use Rattle.image_slide.specs.declared.pieces.Part.{Part}
use Rattle.image_slide.proofs.Account.{job_done, job_handled}
use Rattle.image_slide.proofs.sliders.SliderWork.handle.Goals as goal

pub invariant_of-self-in_err-make_room : goal.invariant_of-self-in_err-make_room
invariant_of-self-in_err-make_room c =
    let i = c.self.invariant in let e = c.make_room.ensures in
    record {
      at = rw e.came i.at;
      ranks = i.ranks;
      slid = All-same (IsSlid c.self.inside.image.now c.self.inside.marks.now c.self.inside.ranks.now) _ _ e.parts i.slid;
      account = λ p. rw (e.parts, e.came, e.done) (i.account p);
    }

pub invariant_of-self-in_err-do_job : goal.invariant_of-self-in_err-do_job
invariant_of-self-in_err-do_job c =
    let i = c.self.invariant in let e = c.make_room.ensures in let f = c.in_err-do_job.ensures.failed in
    record {
      at = rw (f.1, e.came) i.at;
      ranks = i.ranks;
      slid = c.do_job.ensures.slid;
      account = λ p. rw (f.0, f.1, e.parts, e.came, e.done) (i.account p);
    }

-- the job was done from what was there
from_there : (job : ℕ) (parts room : List Part) (now came came_room came_now : List ℕ) → room ≡ parts → came_room ≡ came
    → DoesJob job (map (λ (p : Part). p.piece) room) now came_room came_now
    → DoesJob job (map (λ (p : Part). p.piece) parts) now came came_now
from_there job parts room now came came_room came_now a b d =
    subst (λ (z : List Part × List ℕ). DoesJob job (map (λ (p : Part). p.piece) z.0) now z.1 came_now) (λ k. (a k, b k)) d

pub invariant_of-self-2 : goal.invariant_of-self-2
invariant_of-self-2 c =
    let i = c.self.invariant in let e = c.make_room.ensures in let s = c.self.inside in
    let d = from_there c.args.item s.parts.items _ _ s.came.items _ _ e.parts e.came c.in_ok-do_job.ensures.does in
    record {
      at = omega (arith, i.at, ap length d.jobs_are, length-append s.came.items d.more);
      ranks = i.ranks;
      slid = c.do_job.ensures.slid;
      account = λ p. rw (c.push_reserved.ensures.items, e.done)
          (job_done p (times p (pieces_first s.image.now s.whole)) _ _ s.came.items _ s.done.items c.args.item d (i.account p));
    }

pub returns-clause-done : goal.returns-clause-done
returns-clause-done c =
    let i = c.self.invariant in let e = c.make_room.ensures in let s = c.self.inside in
    let d = from_there c.args.item s.parts.items _ _ s.came.items _ _ e.parts e.came c.in_ok-do_job.ensures.does in
    let enough : length s.came.items - s.at + (end_of c.args.item - first_of c.args.item) ≤ c.widen.new.self.spare =
    omega (
      arith,
      c.in_ok-widen.ensures.room,
      c.len.ensures,
      c.saturating_sub-more.ensures,
      c.end_piece.ensures.value,
      c.first_piece.ensures.value,
    ) in
    rw (sym c.self.view_is, c.push_reserved.ensures.items, e.done)
    (job_handled c.args.item s.at s.kept c.widen.new.self _ _ s.came.items _ s.done.items d c.widen.ensures.items i.at enough)
