-- Each command is one of the task in the bank.
use Rattle.std.proofs.Common.{ℕ, List, length, sym, ap, ◌∙◌, arith}
use Rattle.xs_base.specs.File.{read_place}
use Rattle.xs_base.specs.Register.{place_of}
use Rattle.xs_base.specs.Task.{frame_length, buffer_length}
use Rattle.xs_bank.specs.Bank.{read_trap, write_trap}
use Rattle.xs_machine.specs.Line.{after_get, after_set}
use Rattle.xs_machine.proofs.Commands.{fits_within}
use Rattle.xs_machine.proofs.RanLemmas.{set_ran, set_trapped, get_ran, get_trapped, release_ran, ask_ran, section_ran, peek_ran, bpeek_ran, poke_ran, bpoke_ran}
use Rattle.xs_machine.proofs.lines.run_user_command.Goals as goal

pub write_register-requires-clause-known : goal.write_register-requires-clause-known
write_register-requires-clause-known g c = let known = rw c.in-Set.is at c.requires.known in rw c.as_slice.ensures.bytes known

pub read_register-requires-clause-known : goal.read_register-requires-clause-known
read_register-requires-clause-known g c = let known = rw c.in-Get.is at c.requires.known in rw c.as_slice-in-Get.ensures.bytes known

pub returns-in-Ok : goal.returns-in-Ok
returns-in-Ok g c =
    let old = g.B.Bank.state c.args.cpu.now.bank in
    let known = rw c.in-Set.is at c.requires.known in
    let e = c.in-Ok.ensures in
    let passes = ap (λ (name : List ℕ). write_trap old.armed (place_of name)) (sym c.as_slice.ensures.bytes) ∙ e.trap in
    let after = e.after ∙ ap (λ (name : List ℕ). after_set old (place_of name) c.in-Set.bytes) c.as_slice.ensures.bytes in
    rw c.in-Set.is (set_ran c.args.cpu.now c.write_register.new.bank c.args.task.now old (g.B.Bank.state c.write_register.new.bank) c.in-Set.reg c.in-Set.bytes c.requires.set_up known c.requires.loaded passes after e.ready)

pub returns-in-Err : goal.returns-in-Err
returns-in-Err g c =
    let old = g.B.Bank.state c.args.cpu.now.bank in
    let e = c.in-Err.ensures in
    let traps = ap (λ (name : List ℕ). write_trap old.armed (place_of name)) (sym c.as_slice.ensures.bytes) ∙ e.trap in
    rw c.in-Set.is (set_trapped c.args.cpu.now c.write_register.new.bank c.args.task.now old (g.B.Bank.state c.write_register.new.bank) c.in-Set.reg c.in-Set.bytes c.in-Err.trap c.requires.loaded traps e.kept)

pub returns-in-Ok-read_register : goal.returns-in-Ok-read_register
returns-in-Ok-read_register g c =
    let old = g.B.Bank.state c.args.cpu.now.bank in
    let e = c.in-Ok-read_register.ensures in
    let bytes = c.in-Ok-read_register.bytes in
    let passes = ap (λ (name : List ℕ). read_trap old.armed (place_of name)) (sym c.as_slice-in-Get.ensures.bytes) ∙ e.trap in
    let lane = e.lane ∙ ap (λ (name : List ℕ). read_place old.file (place_of name)) c.as_slice-in-Get.ensures.bytes in
    let after = e.after ∙ ap (λ (name : List ℕ). after_get old (place_of name) bytes) c.as_slice-in-Get.ensures.bytes in
    rw c.in-Get.is (get_ran c.args.cpu.now c.read_register.new.bank c.args.task.now old (g.B.Bank.state c.read_register.new.bank) c.in-Get.reg bytes c.requires.set_up c.requires.loaded passes lane after)

pub returns-in-Err-read_register : goal.returns-in-Err-read_register
returns-in-Err-read_register g c =
    let old = g.B.Bank.state c.args.cpu.now.bank in
    let e = c.in-Err-read_register.ensures in
    let traps = ap (λ (name : List ℕ). read_trap old.armed (place_of name)) (sym c.as_slice-in-Get.ensures.bytes) ∙ e.trap in
    rw c.in-Get.is (get_trapped c.args.cpu.now c.read_register.new.bank c.args.task.now old (g.B.Bank.state c.read_register.new.bank) c.in-Get.reg c.in-Err-read_register.trap c.requires.loaded traps e.kept)

pub returns-in-Tilerelease : goal.returns-in-Tilerelease
returns-in-Tilerelease g c =
    let e = c.release.ensures in
    rw c.in-Tilerelease.is (release_ran c.args.cpu.now c.release.new.cpu c.args.task.now (g.B.Bank.state c.args.cpu.now.bank) (g.B.Bank.state c.release.new.cpu.bank) c.requires.set_up c.requires.loaded e.cpu e.file e.armed e.ready e.counts)

pub returns-in-Perm : goal.returns-in-Perm
returns-in-Perm g c =
    let e = c.ask.ensures in
    rw c.in-Perm.is (ask_ran c.args.cpu.now c.args.task.now c.ask.new.task (g.B.Bank.state c.args.cpu.now.bank) c.in-Perm.feature c.ask.result c.requires.set_up c.requires.loaded e.reply e.form e.rest)

pub returns-in-Ksec : goal.returns-in-Ksec
returns-in-Ksec g c =
    let e = c.kernel_section.ensures in
    rw c.in-Ksec.is (section_ran c.args.cpu.now c.kernel_section.new.cpu c.args.task.now c.kernel_section.new.task (g.B.Bank.state c.args.cpu.now.bank) (g.B.Bank.state c.kernel_section.new.cpu.bank) c.in-Ksec.byte c.kernel_section.new.task.lease e.set_up e.whole e.task e.cpu e.ready e.running e.counts)

pub peek-requires-clause-inside : goal.peek-requires-clause-inside
peek-requires-clause-inside g c =
    let known = rw c.in-Peek.is at c.requires.known in
    omega (arith, (fits_within frame_length c.in-Peek.at c.in-Peek.len known).0, c.requires.on.1.whole.frame)

pub peek-requires-clause-few : goal.peek-requires-clause-few
peek-requires-clause-few g c =
    let known = rw c.in-Peek.is at c.requires.known in
    (fits_within frame_length c.in-Peek.at c.in-Peek.len known).1

pub poke-requires : goal.poke-requires
poke-requires g c =
    let known = rw c.in-Poke.is at c.requires.known in
    omega (arith, (fits_within frame_length c.in-Poke.at (length c.in-Poke.bytes) known.0).0, c.requires.on.1.whole.frame)

pub returns-in-Peek : goal.returns-in-Peek
returns-in-Peek g c = rw c.in-Peek.is (peek_ran c.args.cpu.now c.args.task.now (g.B.Bank.state c.args.cpu.now.bank) c.in-Peek.at c.in-Peek.len c.peek.result c.requires.set_up c.requires.loaded c.peek.ensures)

pub returns-in-Poke : goal.returns-in-Poke
returns-in-Poke g c =
    let known = rw c.in-Poke.is at c.requires.known in
    let e = c.poke.ensures in
    rw c.in-Poke.is (poke_ran c.args.cpu.now c.args.task.now c.poke.new.self (g.B.Bank.state c.args.cpu.now.bank) c.in-Poke.at c.in-Poke.bytes c.requires.set_up known c.requires.loaded e.others e.written e.len)

pub peek-requires-in-Bpeek-clause-inside : goal.peek-requires-in-Bpeek-clause-inside
peek-requires-in-Bpeek-clause-inside g c =
    let known = rw c.in-Bpeek.is at c.requires.known in
    omega (arith, (fits_within buffer_length c.in-Bpeek.at c.in-Bpeek.len known).0, c.requires.on.1.whole.buffer)

pub peek-requires-in-Bpeek-clause-few : goal.peek-requires-in-Bpeek-clause-few
peek-requires-in-Bpeek-clause-few g c =
    let known = rw c.in-Bpeek.is at c.requires.known in
    (fits_within buffer_length c.in-Bpeek.at c.in-Bpeek.len known).1

pub poke-requires-in-Bpoke : goal.poke-requires-in-Bpoke
poke-requires-in-Bpoke g c =
    let known = rw c.in-Bpoke.is at c.requires.known in
    omega (arith, (fits_within buffer_length c.in-Bpoke.at (length c.in-Bpoke.bytes) known.0).0, c.requires.on.1.whole.buffer)

pub returns-in-Bpeek : goal.returns-in-Bpeek
returns-in-Bpeek g c = rw c.in-Bpeek.is (bpeek_ran c.args.cpu.now c.args.task.now (g.B.Bank.state c.args.cpu.now.bank) c.in-Bpeek.at c.in-Bpeek.len c.peek-in-Bpeek.result c.requires.set_up c.requires.loaded c.peek-in-Bpeek.ensures)

pub returns-in-Bpoke : goal.returns-in-Bpoke
returns-in-Bpoke g c =
    let known = rw c.in-Bpoke.is at c.requires.known in
    let e = c.poke-in-Bpoke.ensures in
    rw c.in-Bpoke.is (bpoke_ran c.args.cpu.now c.args.task.now c.poke-in-Bpoke.new.self (g.B.Bank.state c.args.cpu.now.bank) c.in-Bpoke.at c.in-Bpoke.bytes c.requires.set_up known c.requires.loaded e.others e.written e.len)
