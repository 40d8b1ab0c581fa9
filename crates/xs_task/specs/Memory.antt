-- The two memories of a task: that of its signal frame (Linux 6.6, arch/x86/kernel/signal.c, get_sigframe) and a buffer for
-- register sets (arch/x86/kernel/fpu/regset.c). That a task owns them is this project's own.
use Rattle.std.specs.Prelude.{◌≡◌, ℕ, List}
use Rattle.xs_task.specs.declared.task.Task.{Task}
use Rattle.xs_task.specs.declared.memory.Mem.{Mem}
use Rattle.xs_task.specs.declared.memory.Mem.TheVariants.{Frame, Buffer}

-- the bytes of a memory
abbrev pub memory : Mem → Task → List ℕ
memory Frame task = task.frame.items
memory Buffer task = task.buffer.items

-- Nothing of the task but this memory changes.
abbrev pub KeepsOthers : Mem → Task → Task → Type 0
KeepsOthers Frame old new = new ≡ record old { frame = new.frame }
KeepsOthers Buffer old new = new ≡ record old { buffer = new.buffer }
