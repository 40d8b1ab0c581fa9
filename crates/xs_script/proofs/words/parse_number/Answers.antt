use Rattle.std.proofs.Common.{arith, decimal, ◌∙◌}
use Rattle.std.specs.Str.{IsUtf8}
use Rattle.std.proofs.lemmas.Str.{IsUtf8-from_ascii}
use Rattle.std.proofs.lemmas.Fmt.{IsAscii-decimal}
use Rattle.xs_script.proofs.Numbers.{parsed_decimal, unparsed_decimal}
use Rattle.xs_script.proofs.words.parse_number.Goals as goal

pub returns-in-Err : goal.returns-in-Err
returns-in-Err c n small e =
    let text : IsUtf8 c.args.bytes.now = rw e (IsUtf8-from_ascii (decimal n) (IsAscii-decimal n (omega arith))) in
    c.in-Err.ensures.cases.0 text

pub returns-in-Ok-parse : goal.returns-in-Ok-parse
returns-in-Ok-parse c n small e = parsed_decimal n _ c.in-Ok.text.now small (c.in-Ok.ensures.cases.0 ∙ e) c.in-Ok-parse.ensures.value.0

pub returns-in-Err-parse : goal.returns-in-Err-parse
returns-in-Err-parse c n small e = unparsed_decimal n c.in-Ok.text.now small (c.in-Ok.ensures.cases.0 ∙ e) c.in-Err-parse.ensures.value.0
