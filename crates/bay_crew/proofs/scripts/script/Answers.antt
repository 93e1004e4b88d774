use Rattle.bay_crew.specs.Mixes.{line_of}
use Rattle.bay_crew.proofs.Ranges.{made_more}
use Rattle.bay_crew.proofs.scripts.script.Goals as goal

pub loop-k-preserved : goal.loop-k-preserved
loop-k-preserved c =
    made_more (line_of c.args.mix c.args.who) c.loop-k.k _ c.loop-k.lines.items c.nth_line.result
    c.in_ok-push.ensures.items c.loop-k.invariant c.nth_line.ensures
