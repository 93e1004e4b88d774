use Rattle.command_words.proofs.Forms.{apart_behind}
use Rattle.command_words.proofs.parts.behind.Goals as goal

pub returns-else-waits-2-clause-some : goal.returns-else-waits-2-clause-some
returns-else-waits-2-clause-some c = λ word words is. apart_behind word words c.args.waits c.if-waits-2.false (rw c.in-Apart.is at is)
