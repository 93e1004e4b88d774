-- What the words of the command line name.
use Rattle.std.specs.Prelude.{◌≤◌, IfSome}
use Rattle.room_bench.specs.declared.words.Command.{Command}
use Rattle.room_bench.specs.declared.words.Command.TheVariants.{Time, Stress}

-- there are at most 64 threads, where the command names a number of them
abbrev pub HasThreads : Command → Type 0
HasThreads (Time stays threads) = IfSome threads (λ number. number ≤ 64)
HasThreads Stress = Unit {0}
