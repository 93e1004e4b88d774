use Rattle.stay_tally.proofs.Counted.{stay_counted}
use Rattle.stay_tally.proofs.stays.stay.Goals as goal

pub returns-in-Inside : goal.returns-in-Inside
returns-in-Inside c c' =
    let entered = c'.in-Inside.ensures in (
      entered.spent,
      stay_counted c'.args.room c'.args.pass c'.leave.result c'.in-Inside.inside c'.count.new.inside
          entered.answer entered.in_a_new_turn c'.count.ensures c'.leave.ensures,
    )
