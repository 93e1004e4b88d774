use Rattle.std.proofs.lemmas.List.{length-map}
use Rattle.room_script.specs.Trials.{outline_of}
use Rattle.room_trial.proofs.Texts.{trial_printed}
use Rattle.room_trial.proofs.trials.trial.Goals as goal

pub returns : goal.returns
returns g c =
    let o = outline_of c.args.trial.now in let played = c.in_ok-played in
    let scripts = c.args.trial.now.scripts.items in
    trial_printed o played.played played.ensures c.in_ok-history.history.items c.printed.result
    (c.in_ok-history.ensures o played.ensures)
    (rw (c.deref.ensures.value, c.deref-2.ensures.value, ← length-map scripts (λ script. script.items)) at c.printed.ensures)
