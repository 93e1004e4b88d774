-- What the words of the command line name.
use Rattle.std.specs.Prelude.{◌*◌, ◌≤◌, IfSome}
use Rattle.room_script.specs.Trials.{IsBlocks}
use Rattle.bay_bench.specs.declared.words.Blocks.{Blocks}
use Rattle.bay_bench.specs.declared.words.Command.{Command}
use Rattle.bay_bench.specs.declared.words.Command.TheVariants.{History, Time, Try}
use Rattle.bay_bench.specs.declared.words.Task.{Task}
use Rattle.bay_bench.specs.declared.words.Task.TheVariants.{Lists, Handfuls, Looks}

-- the blocks hold all items that are put by handfuls
abbrev pub HoldsAll : Task → Blocks → Type 0
HoldsAll (Lists mix items) blocks = Unit {0}
HoldsAll (Handfuls turn items) blocks = items ≤ 32 * blocks.count
HoldsAll (Looks crowd calls) blocks = Unit {0}

-- the command's bay has blocks within the limits of its layout, and there are at most 64 threads, where
-- the command names a number of them; where items are put by handfuls, there are at most 32 for each block
abbrev pub HasBay : Command → Type 0
HasBay (History callers calls blocks) = IsBlocks blocks.layout blocks.count
HasBay (Time task threads blocks) = (IsBlocks blocks.layout blocks.count) × (IfSome threads (λ number. number ≤ 64)) × HoldsAll task blocks
HasBay Try = Unit {0}
