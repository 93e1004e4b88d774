use Rattle.std.proofs.Common.{rules, ◌≤◌, ap, inl, inr, Err, length}
use Rattle.room_script.specs.Schedules.{plan_of}
use Rattle.rooms_program.specs.Texts.{most_text}
use Rattle.rooms_program.proofs.Schedules.{broken, stopped, not_runnable, unrefused}
use Rattle.rooms_program.proofs.schedule.scheduled.Goals as goal

pub returns-in-Err-Line : goal.returns-in-Err-Line
returns-in-Err-Line c =
    let few : length c.args.text.now ≤ most_text = c.if-text-gt-MOST_TEXT.false in
    let is = c.in-Err-Line.field-0-is in
    record {
      output = tt;
      why = search rules;
      accepts = search rules;
      refuses = λ why r. rw is (inl (ap Err (broken c.args.text.now few c.in-Err-Line.line
          (λ k b. elim (c.in-Err-Line.ensures.told k b) [ inl e ↦ cc | inr e ↦ absurd (cc) ])
          (λ p s. let e = c.in-Err-Line.ensures.found p s in absurd (cc))
          why r)));
    }

pub returns-in-Err-Act : goal.returns-in-Err-Act
returns-in-Err-Act c =
    let few : length c.args.text.now ≤ most_text = c.if-text-gt-MOST_TEXT.false in
    let told = c.in-Err-Act.ensures.refused c.in-Err-Act.at c.in-Err-Act.why (ap Err c.in-Err-Act.field-0-is) in
    let first = rw c.deref.ensures.value at told in
    record {
      output = tt;
      why = search rules;
      accepts = λ r. absurd (not_runnable c.args.text.now few (plan_of c.in-Ok.schedule) (λ k b. c.in-Ok.ensures.told k b) (λ p s. c.in-Ok.ensures.found p s)
          c.in-Err-Act.at c.in-Err-Act.why first r);
      refuses = λ why r. rw c.in-Err-Act.field-0-is (inl (ap Err (stopped c.args.text.now few (plan_of c.in-Ok.schedule)
          (λ k b. c.in-Ok.ensures.told k b) (λ p s. c.in-Ok.ensures.found p s) c.in-Err-Act.at c.in-Err-Act.why first why r)));
    }

pub returns : goal.returns
returns c =
    let few : length c.args.text.now ≤ most_text = c.if-text-gt-MOST_TEXT.false in
    let all = c.in-Ok-run.ensures.accepted in
    let accepted = rw c.deref.ensures.value at all in
    record {
      output = record {
        runnable = record { few = few; plan = plan_of c.in-Ok.schedule; spells = c.in-Ok.ensures.read; accepted = accepted };
        printed = search rules;
      };
      why = tt;
      accepts = λ _. tt;
      refuses = λ why r.
          absurd (unrefused c.args.text.now few (plan_of c.in-Ok.schedule) (λ k b. c.in-Ok.ensures.told k b) (λ p s. c.in-Ok.ensures.found p s)
          accepted why r);
    }
