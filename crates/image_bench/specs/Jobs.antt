-- Jobs within their limits.
use Rattle.std.specs.Prelude.{◌≤◌, ◌^◌}
use Rattle.work_pool.specs.Crews.{IsCrew}
use Rattle.image_bench.specs.declared.words.Job.{Job}
use Rattle.image_bench.specs.declared.words.Command.{Command}
use Rattle.image_bench.specs.declared.words.Command.TheVariants.{Time, Try}

-- an image that can be made up, and a crew
pub record IsJob (job : Job) : Type 0 where
  pub objects : job.objects ≤ 2 ^ 20
  pub crew : IsCrew job.crew

-- the job of a command, where it has one
abbrev pub HasJob : Command → Type 0
HasJob (Time job) = IsJob job
HasJob Try = Unit {0}
