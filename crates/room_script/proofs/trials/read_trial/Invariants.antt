use Rattle.std.proofs.Common.{map, take, ◌++◌, ◌∷◌, []}
use Rattle.room_script.specs.Lines.{bytes_at}
use Rattle.room_script.specs.Trials.{SpellsIn}
use Rattle.room_script.proofs.TrialHeads.{outline}
use Rattle.room_script.proofs.trials.read_trial.Given as goal

abbrev pub invariant-loop-i : goal.invariant-loop-i
invariant-loop-i l =
    SpellsIn l.form (take l.i (map (bytes_at l.text) l.lines.items)) (outline l.layout l.blocks l.draws (map (λ s. s.items) l.scripts.items ++ l.script.items ∷ []))
