use Rattle.room_core.proofs.Order.{trace_of-reverse, all_opened-reverse, last_opening-reverse, occupies-reverse}
use Rattle.room_core.proofs.laws.a_trace_reads_backward.Goals as goal

pub returns : goal.returns
returns c = record {
  items = λ history. trace_of-reverse history;
  openings = λ past. all_opened-reverse past;
  last = λ past. last_opening-reverse past;
  occupants = λ past k room. occupies-reverse k room past;
}
