use Rattle.std.proofs.Common.{rules, ◌≤◌, length, inl, inr}
use Rattle.rooms_program.specs.Texts.{most_text}
use Rattle.rooms_program.proofs.Trials.{refused_line}
use Rattle.rooms_program.proofs.trial.tried.Goals as goal

pub returns-in-Err-Line : goal.returns-in-Err-Line
returns-in-Err-Line g c =
    let few : length c.args.text.now ≤ most_text = c.if-text-gt-MOST_TEXT.false in
    record {
      output = tt;
      why = search rules;
      accepts = search rules;
      refuses = λ why r.
          let broken = refused_line c.args.text.now few why r in
          rw c.in-Err-Line.field-0-is (elim (c.in-Err-Line.ensures.told broken.0 broken.2) [ inl e ↦ inl cc | inr e ↦ absurd (cc) ]);
    }

pub returns : goal.returns
returns g c =
    let few : length c.args.text.now ≤ most_text = c.if-text-gt-MOST_TEXT.false in
    record {
      output = search rules;
      why = tt;
      accepts = λ _. tt;
      refuses = λ why r.
          let broken = refused_line c.args.text.now few why r in
          absurd (c.in-Ok.ensures.told broken.0 broken.2);
    }
