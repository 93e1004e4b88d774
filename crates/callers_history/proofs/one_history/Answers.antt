use Rattle.room_script.specs.Trials.{outline_of}
use Rattle.callers_history.proofs.one_history.Goals as goal

pub returns : goal.returns
returns g c = record {
  played = c.in_ok-played.played;
  plays = c.in_ok-played.ensures;
  history = c.in_ok-history.ensures (outline_of c.args.trial.now) c.in_ok-played.ensures;
}
