use Rattle.std.proofs.Common.{refl}
use Rattle.xs_script.proofs.ScheduleWords.{takes_more, words_over, word_explains, last_explains}
use Rattle.xs_script.proofs.schedule.Schedule.add_words.Goals as goal

pub returns-in-Err-clause-refused : goal.returns-in-Err-clause-refused
returns-in-Err-clause-refused c =
    let cut = c.in-Some.ensures in
    word_explains c.args.self.now c.words.self c.args.words.now c.words.left.now c.in-Some.word.now c.in-Some.rest.now c.words.within c.args.number c.in-Err.e c.words.invariant cut.1 cut.0 c.in-Err.ensures.refused

pub words-preserved : goal.words-preserved
words-preserved c =
    takes_more c.args.self.now c.words.self c.add_word.new.self c.args.words.now c.words.left.now c.in-Some.word.now c.in-Some.rest.now c.words.within c.in-Ok.still c.words.invariant c.in-Some.ensures.1 c.in-Ok.ensures.taken

pub returns-in-Ok-false-clause-refused : goal.returns-in-Ok-false-clause-refused
returns-in-Ok-false-clause-refused c =
    (refl, words_over c.args.self.now c.words.self c.add_word-2.new.self c.args.words.now c.words.left.now c.words.within c.in-Ok-false.field-0 c.words.invariant c.in-Ok-false.ensures.taken c.in-Ok-false.field-0-test)

pub returns-in-Err-add_word-clause-refused : goal.returns-in-Err-add_word-clause-refused
returns-in-Err-add_word-clause-refused c =
    last_explains c.args.self.now c.words.self c.args.words.now c.words.left.now c.words.within c.args.number c.in-Err-add_word.e c.words.invariant c.in_default.ensures c.in-Err-add_word.ensures.refused
