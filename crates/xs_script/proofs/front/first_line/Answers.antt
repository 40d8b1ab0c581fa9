use Rattle.xs_script.proofs.Fronts.{no_plain_fails}
use Rattle.xs_script.proofs.Readings.{plain_is_line}
use Rattle.xs_script.proofs.front.first_line.Goals as goal

pub returns-in-Some-clause-line : goal.returns-in-Some-clause-line
returns-in-Some-clause-line c =
    let (line, fits, spelled, kept) = c.in-Some.ensures.line in
    record {
      line = line;
      fits = plain_is_line line fits;
      spelled = spelled;
      kept_is = kept;
    }

pub returns-in-None-clause-refused : goal.returns-in-None-clause-refused
returns-in-None-clause-refused c = λ stand other early. no_plain_fails stand c.args.text.now other early c.in-None.ensures.line
