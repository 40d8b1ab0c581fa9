-- What each command of a user task leaves, as one fact.
use Rattle.std.proofs.Common.{◌≡◌, ℕ, ◌+◌, Bool, true, false, ◌&&◌, List, length, slice_range, Option, Some, None, refl, sym, ap, subst, ◌∙◌}
use Rattle.xs_area.specs.declared.area.Lease.{Lease}
use Rattle.xs_base.specs.declared.component.Row.{Row}
use Rattle.xs_base.specs.declared.header.HeaderError.{HeaderError}
use Rattle.xs_base.specs.declared.words.Errno.{Errno}
use Rattle.xs_base.specs.Bytes.{splice}
use Rattle.xs_base.specs.Counts.{load_if, one_load, one_save, one_section, save_if}
use Rattle.xs_base.specs.File.{File, read_place}
use Rattle.xs_base.specs.Frame.{Return, Refused, return_of, after_return}
use Rattle.xs_base.specs.Register.{place_of}
use Rattle.xs_base.specs.Task.{PrivateTask}
use Rattle.xs_base.specs.Tile.{feature_error, released_file}
use Rattle.xs_bank.specs.declared.instruction.Trap.{Trap}
use Rattle.xs_bank.specs.declared.cpu.Cpu.{Cpu}
use Rattle.xs_bank.specs.Bank as banks
use Rattle.xs_bank.specs.Bank.{IsReady, counts_of}
use Rattle.xs_bank.specs.Holds.{Holds}
use Rattle.xs_bank.specs.SetUp.{WasSetUp}
use Rattle.xs_image.specs.declared.image.Restored.{Restored}
use Rattle.xs_image.specs.declared.image.Restored.TheVariants as answers
use Rattle.xs_image.specs.Restored.{restored_as}
use Rattle.xs_model.specs.declared.event.Reply.{Reply}
use Rattle.xs_model.specs.declared.event.Reply.TheVariants as replies
use Rattle.xs_model.specs.declared.script.Command.{Command}
use Rattle.xs_model.specs.declared.script.Command.TheVariants as commands
use Rattle.xs_model.specs.declared.script.Script.{Script}
use Rattle.xs_model.specs.Counts.{exec_of, numbers_of}
use Rattle.xs_model.specs.Line.{asked, count_or_error, local_after, local_reply, next_line, refusal, return_cause, return_reply, traps}
use Rattle.xs_model.specs.Note.{is_section}
use Rattle.xs_model.specs.Script.{IsCommand, is_return}
use Rattle.xs_switch.specs.Running.{CanSave, IsRunning}
use Rattle.xs_task.specs.declared.task.Task.{Task}
use Rattle.xs_task.specs.TaskArea.{IsTask}
use Rattle.xs_task.specs.Private.{HasForm}
use Rattle.xs_machine.specs.Line.{IsOn, IsUserOn, KeepsCpu, Ran, RanLine, WasRefused, WasTrapped, after_get, after_set, in_place, restored_reply}
use Rattle.xs_machine.proofs.TrapLemmas.{set_free, set_traps, get_free, get_traps}
use Rattle.xs_machine.proofs.Commands.{advanced, ask_on, asked_same, poke_on, bpoke_on, release_on, release_holds, set_on, set_holds, set_rows, set_counts, read_on, read_holds, get_rows, get_counts}

-- A register is set.
pub set_ran : {B : Type 0} (cpu : Cpu B) (bank : B) (task : Task) (old new : banks.Bank) (reg bytes : List ℕ)
    → WasSetUp cpu.layout old cpu.initial → IsCommand cpu.layout (commands.Set reg bytes) → task.need_load ≡ false → banks.write_trap old.armed (place_of reg) ≡ None
    → new ≡ after_set old (place_of reg) bytes → ((id m : ℕ) (area : List ℕ) → IsReady old id m area → IsReady new id m area)
    → Ran true (commands.Set reg bytes) replies.Done task task cpu (record cpu { bank = bank }) old new
set_ran cpu bank task old new reg bytes set_up known loaded passes after ready = record {
  set_up = record { rows_are = set_rows old new reg bytes after ∙ set_up.rows_are; initial_is = set_up.initial_is };
  cpu = refl;
  mark = refl;
  name = refl;
  place = refl;
  loaded = λ _. loaded;
  on = λ p on. set_on cpu.layout task old new reg bytes known loaded after ready p on (set_free cpu.layout task old p on loaded reg bytes passes);
  free = λ p on. set_free cpu.layout task old p on loaded reg bytes passes;
  reply_is = λ p on. refl;
  holds = λ _ plain p on held. set_holds cpu.layout task old new reg bytes known loaded after ready p on held;
  counts = λ script layout. set_counts old new reg bytes after;
  still = λ no. absurd (cc);
}

-- A register is read.
pub get_ran : {B : Type 0} (cpu : Cpu B) (bank : B) (task : Task) (old new : banks.Bank) (reg bytes : List ℕ)
    → WasSetUp cpu.layout old cpu.initial → task.need_load ≡ false → banks.read_trap old.armed (place_of reg) ≡ None
    → bytes ≡ read_place old.file (place_of reg) → new ≡ after_get old (place_of reg) bytes
    → Ran true (commands.Get reg) (replies.Bytes bytes) task task cpu (record cpu { bank = bank }) old new
get_ran cpu bank task old new reg bytes set_up loaded passes lane after = record {
  set_up = record { rows_are = get_rows old new reg bytes after ∙ set_up.rows_are; initial_is = set_up.initial_is };
  cpu = refl;
  mark = refl;
  name = refl;
  place = refl;
  loaded = λ _. loaded;
  on = λ p on. read_on cpu.layout task old new reg bytes loaded after p on;
  free = λ p on. get_free cpu.layout task old p on loaded reg passes;
  reply_is = λ p on. ap replies.Bytes (lane ∙ ap (λ f. read_place f (place_of reg)) (on.running.whole loaded));
  holds = λ _ plain p on held. read_holds cpu.layout task old new reg bytes loaded after p on held;
  counts = λ script layout. get_counts old new reg bytes after;
  still = λ no. absurd (cc);
}

-- An instruction of the tiles traps.
pub set_trapped : {B : Type 0} (cpu : Cpu B) (bank : B) (task : Task) (old new : banks.Bank) (reg bytes : List ℕ) (trap : Trap) → task.need_load ≡ false → banks.write_trap old.armed (place_of reg) ≡ Some trap → new ≡ old
    → WasTrapped true (commands.Set reg bytes) task task cpu (record cpu { bank = bank }) old new
set_trapped cpu bank task old new reg bytes trap loaded is kept = record { task = refl; cpu = refl; bank = kept; why = λ p on. set_traps cpu.layout task old p on loaded reg bytes trap is }

pub get_trapped : {B : Type 0} (cpu : Cpu B) (bank : B) (task : Task) (old new : banks.Bank) (reg : List ℕ) (trap : Trap) → task.need_load ≡ false → banks.read_trap old.armed (place_of reg) ≡ Some trap → new ≡ old
    → WasTrapped true (commands.Get reg) task task cpu (record cpu { bank = bank }) old new
get_trapped cpu bank task old new reg trap loaded is kept = record { task = refl; cpu = refl; bank = kept; why = λ p on. get_traps cpu.layout task old p on loaded reg trap is }

-- The tiles are released.
pub release_ran : {B : Type 0} (cpu new_cpu : Cpu B) (task : Task) (old new : banks.Bank)
    → WasSetUp cpu.layout old cpu.initial → task.need_load ≡ false → new_cpu ≡ record cpu { bank = new_cpu.bank }
    → new.file ≡ released_file old.file → new.armed ≡ old.armed → ((id m : ℕ) (area : List ℕ) → IsReady old id m area → IsReady new id m area)
    → ((script : Script) → script.layout ≡ cpu.layout → counts_of new ≡ exec_of (numbers_of script (Some commands.Tilerelease) replies.Done) (counts_of old))
    → Ran true commands.Tilerelease replies.Done task task cpu new_cpu old new
release_ran {B} cpu new_cpu task old new set_up loaded cpu_is file armed ready counts =
    let mark : new_cpu.mark ≡ cpu.mark = ap (λ (x : Cpu B). x.mark) cpu_is in
    record {
      set_up = rw (ap (λ (x : Cpu B). x.initial) cpu_is) (record { rows_are = ap (λ (f : File). f.rows) file ∙ set_up.rows_are; initial_is = set_up.initial_is });
      cpu = cpu_is ∙ ap (λ (m : Option ℕ). record cpu { bank = new_cpu.bank; mark = m }) (sym mark);
      mark = mark;
      name = refl;
      place = refl;
      loaded = λ _. loaded;
      on = λ p on. release_on cpu.layout task old new loaded file armed ready p on;
      free = λ p on. refl;
      reply_is = λ p on. refl;
      holds = λ _ plain p on held. release_holds cpu.layout task old new loaded file armed ready p on held;
      counts = counts;
      still = λ no. absurd (cc);
    }

-- A kernel section.
pub section_ran : {B : Type 0} (cpu new_cpu : Cpu B) (task new_task : Task) (old new : banks.Bank) (byte : ℕ) (lease : Option Lease)
    → WasSetUp new_cpu.layout new new_cpu.initial → IsTask new_cpu.layout new_task → new_task ≡ record task { lease = lease; need_load = true }
    → new_cpu ≡ record cpu { bank = new_cpu.bank; mark = None } → CanSave new_cpu.layout new_task new
    → ((p : PrivateTask) → IsRunning cpu.layout task old p → IsRunning new_cpu.layout new_task new p)
    → counts_of new ≡ one_section byte (one_save (counts_of old))
    → Ran true (commands.Ksec byte) replies.Done task new_task cpu new_cpu old new
section_ran {B} cpu new_cpu task new_task old new byte lease set_up whole task_is cpu_is ready running counts =
    let layout : new_cpu.layout ≡ cpu.layout = ap (λ (x : Cpu B). x.layout) cpu_is in
    let mark : new_cpu.mark ≡ None = ap (λ (x : Cpu B). x.mark) cpu_is in
    record {
      set_up = rw layout at set_up;
      cpu = cpu_is ∙ ap (λ (m : Option ℕ). record cpu { bank = new_cpu.bank; mark = m }) (sym mark);
      mark = mark;
      name = ap (λ (x : Task). x.name) task_is;
      place = ap (λ (x : Task). x.place) task_is;
      loaded = λ _. ap (λ (x : Task). x.need_load) task_is;
      on = λ p on. record { whole = rw layout at whole; ready = rw layout at ready; running = rw layout at (running p on.running) };
      free = λ p on. refl;
      reply_is = λ p on. refl;
      holds = λ _ plain. absurd (cc);
      counts = λ script same. counts;
      still = λ no. absurd (cc);
    }

-- A command that leaves the processor: no section, no trap, and nothing is counted.
still_ran : {B : Type 0} (cpu : Cpu B) (task new_task : Task) (bank : banks.Bank) (command : Command) (reply : Reply)
    → is_section (Some command) ≡ false → ((p : PrivateTask) → traps p command ≡ false) → ((script : Script) → numbers_of script (Some command) reply ≡ None)
    → WasSetUp cpu.layout bank cpu.initial → new_task.name ≡ task.name → new_task.place ≡ task.place → new_task.need_load ≡ false
    → ((p : PrivateTask) → IsUserOn cpu.layout task bank p → IsUserOn cpu.layout new_task bank (in_place p command))
    → ((p : PrivateTask) → IsUserOn cpu.layout task bank p → reply ≡ local_reply p command)
    → ((p : PrivateTask) → ((in_place p command).file ≡ p.file) × ((in_place p command).large ≡ p.large))
    → Ran true command reply task new_task cpu cpu bank bank
still_ran cpu task new_task bank command reply plain free silent set_up name place loaded on lane same = record {
  set_up = set_up;
  cpu = refl;
  mark = rw plain refl;
  name = name;
  place = place;
  loaded = λ _. loaded ∙ sym plain;
  on = on;
  free = λ p _. free p;
  reply_is = lane;
  holds = λ _ _ p on held. record { file = rw (same p).0 held.file; armed = rw ((same p).0, (same p).1) held.armed };
  counts = λ script layout. rw (silent script, plain) refl;
  still = λ no. absurd (cc);
}

-- Leave to use TILEDATA is asked for.
asked_place : (error : Option Errno) (p : PrivateTask) → record (asked error p) { place = p.place } ≡ asked error p
asked_place None p = refl
asked_place (Some error) p = refl

pub ask_ran : {B : Type 0} (cpu : Cpu B) (task new_task : Task) (bank : banks.Bank) (feature : ℕ) (reply : Reply)
    → WasSetUp cpu.layout bank cpu.initial → task.need_load ≡ false → reply ≡ count_or_error 0 (feature_error cpu.layout feature)
    → ((p : PrivateTask) → HasForm task p → HasForm new_task (asked (feature_error cpu.layout feature) p)) → new_task ≡ record task { permitted = new_task.permitted }
    → Ran true (commands.Perm feature) reply task new_task cpu cpu bank bank
ask_ran cpu task new_task bank feature reply set_up loaded answer form rest =
    still_ran cpu task new_task bank (commands.Perm feature) reply refl (λ p. refl) (λ script. refl) set_up (ap (λ (x : Task). x.name) rest) (ap (λ (x : Task). x.place) rest) (ap (λ (x : Task). x.need_load) rest ∙ loaded)
    (λ p on.
    let error = feature_error p.file.rows feature in
    let same : feature_error cpu.layout feature ≡ error = ap (λ (rows : List Row). feature_error rows feature) (sym on.running.valid.file.rows_are) in
    subst (IsUserOn cpu.layout new_task bank) (sym (asked_place error p)) (ask_on cpu.layout task new_task bank error p rest (subst (λ (e : Option Errno). HasForm new_task (asked e p)) same (form p on.running.form)) on))
    (λ p on. answer ∙ ap (λ (rows : List Row). count_or_error 0 (feature_error rows feature)) (sym on.running.valid.file.rows_are))
    (λ p. ((asked_same (feature_error p.file.rows feature) p).2, (asked_same (feature_error p.file.rows feature) p).3))

-- Bytes of the frame are read, or bytes of the buffer.
pub peek_ran : {B : Type 0} (cpu : Cpu B) (task : Task) (bank : banks.Bank) (at len : ℕ) (bytes : List ℕ)
    → WasSetUp cpu.layout bank cpu.initial → task.need_load ≡ false → bytes ≡ slice_range task.frame.items at (at + len)
    → Ran true (commands.Peek at len) (replies.Bytes bytes) task task cpu cpu bank bank
peek_ran cpu task bank at len bytes set_up loaded lane =
    still_ran cpu task task bank (commands.Peek at len) (replies.Bytes bytes) refl (λ p. refl) (λ script. refl) set_up refl refl loaded (λ p on. on)
    (λ p on. ap replies.Bytes (lane ∙ ap (λ (f : List ℕ). slice_range f at (at + len)) (sym (ap (λ (q : PrivateTask). q.frame) on.running.form)))) (λ p. (refl, refl))

pub bpeek_ran : {B : Type 0} (cpu : Cpu B) (task : Task) (bank : banks.Bank) (at len : ℕ) (bytes : List ℕ)
    → WasSetUp cpu.layout bank cpu.initial → task.need_load ≡ false → bytes ≡ slice_range task.buffer.items at (at + len)
    → Ran true (commands.Bpeek at len) (replies.Bytes bytes) task task cpu cpu bank bank
bpeek_ran cpu task bank at len bytes set_up loaded lane =
    still_ran cpu task task bank (commands.Bpeek at len) (replies.Bytes bytes) refl (λ p. refl) (λ script. refl) set_up refl refl loaded (λ p on. on)
    (λ p on. ap replies.Bytes (lane ∙ ap (λ (b : List ℕ). slice_range b at (at + len)) (sym (ap (λ (q : PrivateTask). q.buffer) on.running.form)))) (λ p. (refl, refl))

-- Bytes of the frame are written, or bytes of the buffer.
pub poke_ran : {B : Type 0} (cpu : Cpu B) (task new_task : Task) (bank : banks.Bank) (at : ℕ) (bytes : List ℕ)
    → WasSetUp cpu.layout bank cpu.initial → IsCommand cpu.layout (commands.Poke at bytes) → task.need_load ≡ false
    → new_task ≡ record task { frame = new_task.frame } → new_task.frame.items ≡ splice at bytes task.frame.items → length new_task.frame.items ≡ length task.frame.items
    → Ran true (commands.Poke at bytes) replies.Done task new_task cpu cpu bank bank
poke_ran cpu task new_task bank at bytes set_up known loaded others written len =
    still_ran cpu task new_task bank (commands.Poke at bytes) replies.Done refl (λ p. refl) (λ script. refl) set_up (ap (λ (x : Task). x.name) others) (ap (λ (x : Task). x.place) others) (ap (λ (x : Task). x.need_load) others ∙ loaded)
    (λ p on. poke_on cpu.layout task new_task bank at bytes p on known others written len) (λ p on. refl) (λ p. (refl, refl))

pub bpoke_ran : {B : Type 0} (cpu : Cpu B) (task new_task : Task) (bank : banks.Bank) (at : ℕ) (bytes : List ℕ)
    → WasSetUp cpu.layout bank cpu.initial → IsCommand cpu.layout (commands.Bpoke at bytes) → task.need_load ≡ false
    → new_task ≡ record task { buffer = new_task.buffer } → new_task.buffer.items ≡ splice at bytes task.buffer.items → length new_task.buffer.items ≡ length task.buffer.items
    → Ran true (commands.Bpoke at bytes) replies.Done task new_task cpu cpu bank bank
bpoke_ran cpu task new_task bank at bytes set_up known loaded others written len =
    still_ran cpu task new_task bank (commands.Bpoke at bytes) replies.Done refl (λ p. refl) (λ script. refl) set_up (ap (λ (x : Task). x.name) others) (ap (λ (x : Task). x.place) others) (ap (λ (x : Task). x.need_load) others ∙ loaded)
    (λ p on. bpoke_on cpu.layout task new_task bank at bytes p on known others written len) (λ p on. refl) (λ p. (refl, refl))

-- ---- a line

no_refusal : (p : PrivateTask) (command : Command) → is_return command ≡ false → refusal p command ≡ None
no_refusal p commands.Sigreturn stays = absurd (cc)
no_refusal p other stays = refl

-- the task goes on to its next line
local_is : (p : PrivateTask) (command : Command) → is_return command ≡ false → next_line (in_place p command) ≡ local_after p command
local_is p (commands.Perm feature) stays = ap (λ (place : ℕ). record (asked (feature_error p.file.rows feature) p) { place = place + 1 }) (sym (asked_same (feature_error p.file.rows feature) p).0)
local_is p commands.Sigreturn stays = absurd (cc)
local_is p other stays = refl

-- A line that is no return, whose command ran.
pub next_ran : {B : Type 0} (user : Bool) (command : Command) (reply : Reply) (task new_task : Task) (cpu new_cpu : Cpu B) (old new : banks.Bank) → is_return command ≡ false
    → Ran user command reply task new_task cpu new_cpu old new → RanLine user command reply task (record new_task { place = new_task.place + 1 }) cpu new_cpu old new
next_ran user command reply task new_task cpu new_cpu old new stays ran = record {
  set_up = ran.set_up;
  cpu = ran.cpu;
  mark = ran.mark;
  name = ran.name;
  loaded = ran.loaded;
  on = λ p on. subst (IsOn user cpu.layout (record new_task { place = new_task.place + 1 }) new) (local_is p command stays) (advanced user cpu.layout new_task new (in_place p command) (ran.on p on));
  free = ran.free;
  whole = λ p on. no_refusal p command stays;
  reply_is = ran.reply_is;
  holds = λ known plain p on held. let here = ran.holds known plain p on held in record { file = here.file; armed = here.armed };
  counts = λ script layout. ran.counts script layout ∙ ap (λ b. exec_of (numbers_of script (Some command) reply) (save_if (user && is_section (Some command)) (load_if b (counts_of old)))) (sym stays);
  still = ran.still;
}

-- ---- a return from a handler

back_is : (p : PrivateTask) → p.handling ≡ true → local_after p commands.Sigreturn ≡ after_return p (return_of p)
back_is p inside = rw inside refl

no_cause : (restored : Restored) (file : File) → return_cause (restored_as restored file) ≡ None
no_cause answers.Full file = refl
no_cause answers.LegacyOnly file = refl

same_reply : (restored : Restored) (file : File) → restored_reply restored ≡ return_reply (restored_as restored file)
same_reply answers.Full file = refl
same_reply answers.LegacyOnly file = refl

module _ {B : Type 0} (cpu new_cpu : Cpu B) (task new_task : Task) (old new : banks.Bank) (inside : task.handling ≡ true) (set_up : WasSetUp new_cpu.layout new new_cpu.initial) (whole : IsTask new_cpu.layout new_task)
    (name : new_task.name ≡ task.name) (loaded : new_task.need_load ≡ false) (cpu_is : new_cpu ≡ record cpu { bank = new_cpu.bank }) (ready : CanSave new_cpu.layout new_task new)
    (running : (p : PrivateTask) → IsRunning cpu.layout task old p → IsRunning new_cpu.layout new_task new (after_return p (return_of p)))
    (holds : (p : PrivateTask) → IsRunning cpu.layout task old p → Holds new (after_return p (return_of p)))
    (counts : counts_of new ≡ one_load (counts_of old)) where
  layout : new_cpu.layout ≡ cpu.layout
  layout = ap (λ (x : Cpu B). x.layout) cpu_is

  mark : new_cpu.mark ≡ cpu.mark
  mark = ap (λ (x : Cpu B). x.mark) cpu_is

  keeps : KeepsCpu cpu new_cpu
  keeps = cpu_is ∙ ap (λ (m : Option ℕ). record cpu { bank = new_cpu.bank; mark = m }) (sym mark)

  -- what the return leaves
  on_return : (p : PrivateTask) → IsUserOn cpu.layout task old p → IsUserOn cpu.layout new_task new (after_return p (return_of p))
  on_return p on = record { whole = rw layout at whole; ready = rw layout at ready; running = rw layout at (running p on.running) }

  handles : (p : PrivateTask) → IsUserOn cpu.layout task old p → p.handling ≡ true
  handles p on = ap (λ (q : PrivateTask). q.handling) on.running.form ∙ inside

  pub return_ran : (restored : Restored) → ((p : PrivateTask) → IsRunning cpu.layout task old p → return_of p ≡ restored_as restored new.file) → RanLine true commands.Sigreturn (restored_reply restored) task new_task cpu new_cpu old new
  return_ran restored answer = record {
    set_up = rw layout at set_up;
    cpu = keeps;
    mark = mark;
    name = name;
    loaded = λ _. loaded;
    on = λ p on. subst (IsUserOn cpu.layout new_task new) (sym (back_is p (handles p on))) (on_return p on);
    free = λ p on. refl;
    whole = λ p on. ap return_cause (answer p on.running) ∙ no_cause restored new.file;
    reply_is = λ p on. same_reply restored new.file ∙ ap return_reply (sym (answer p on.running));
    holds = λ _ plain p on held. subst (Holds new) (sym (back_is p (handles p on))) (holds p on.running);
    counts = λ script same. counts;
    still = λ no. absurd (cc);
  }

  pub return_refused : (error : HeaderError) → ((p : PrivateTask) → IsRunning cpu.layout task old p → return_of p ≡ Refused error) → WasRefused true commands.Sigreturn error task new_task cpu new_cpu old new
  return_refused error answer = record {
    known = refl;
    set_up = rw layout at set_up;
    cpu = keeps;
    mark = mark;
    name = name;
    loaded = loaded;
    on = λ p on. subst (λ (r : Return). IsUserOn cpu.layout new_task new (after_return p r)) (answer p on.running) (on_return p on);
    why = λ p on. ap return_cause (answer p on.running);
    holds = λ p on. subst (λ (r : Return). Holds new (after_return p r)) (answer p on.running) (holds p on.running);
    counts = counts;
  }
