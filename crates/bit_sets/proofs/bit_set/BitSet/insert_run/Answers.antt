use Rattle.std.proofs.Common.{◌≡◌, ◌+◌, ◌≤◌, Bool, List, length, ap, ◌∙◌, arith}
use Rattle.bit_sets.specs.Run.{with_run}
use Rattle.bit_sets.proofs.Runs.{run_none, run_more, run_long}
use Rattle.bit_sets.proofs.bit_set.BitSet.insert_run.Goals as goal

pub loop-at-init : goal.loop-at-init
loop-at-init c = record {
  above = omega arith;
  within = c.requires.order;
  set = run_none _ c.args.from (omega (arith, c.requires.order, c.requires.within));
}

pub insert_in_word-requires-clause-within : goal.insert_in_word-requires-clause-within
insert_in_word-requires-clause-within c =
    let i = c.loop-at.invariant in let r = c.requires in
    let long = run_long c.args.self.now c.args.from c.loop-at.at i.above (omega (arith, i.within, r.within)) in
    omega (arith, ap (λ (l : List Bool). length l) i.set, long, r.within, i.within, c.min.ensures)

pub loop-at-preserved : goal.loop-at-preserved
loop-at-preserved c =
    let i = c.loop-at.invariant in
    let within : c.loop-at.at + c.min.result ≤ c.args.end = omega (arith, i.within, c.min.ensures) in
    record {
      above = omega (arith, i.above);
      within = within;
      set = run_more c.args.self.now c.loop-at.self _ c.args.from c.loop-at.at (c.loop-at.at + c.min.result) i.above
          (omega arith) (omega (arith, within, c.requires.within)) i.set c.insert_in_word.ensures;
    }

pub returns : goal.returns
returns c =
    let i = c.loop-at.invariant in
    let end : c.loop-at.at ≡ c.args.end = omega (arith, i.within, c.loop-at-test.false) in
    i.set ∙ ap (with_run c.args.self.now c.args.from) end
