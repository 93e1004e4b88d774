use Rattle.std.proofs.Common.{◌≡◌, ◌<◌, length}
use Rattle.std.specs.List.{All}
use Rattle.image_mark.specs.Ahead.{all_waiting, AreLoaded}
use Rattle.image_mark.proofs.mark.look_ahead.Given as goal

abbrev pub invariant-loop-waiting : goal.invariant-loop-waiting
invariant-loop-waiting l = record {
  same : all_waiting l.waiting.items l.ring ≡ all_waiting l.initial.waiting.items l.initial.ring;
  loaded : AreLoaded l.words l.initial.ring → AreLoaded l.words l.ring;
  within : All (λ place. place < length l.words) l.waiting.items;
}

abbrev pub decreases-loop-waiting : goal.decreases-loop-waiting
decreases-loop-waiting l = length l.waiting.items
