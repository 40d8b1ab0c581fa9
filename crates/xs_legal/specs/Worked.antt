-- What a local line asks of its task, beside that it goes on with the next one. This project's own.
use Rattle.xs_base.specs.Bytes.{splice}
use Rattle.xs_base.specs.File.{write_place}
use Rattle.xs_base.specs.Register.{place_of}
use Rattle.xs_base.specs.Task.{PrivateTask}
use Rattle.xs_base.specs.Tile.{feature_error, released_file}
use Rattle.xs_model.specs.declared.script.Command.{Command}
use Rattle.xs_model.specs.declared.script.Command.TheVariants as commands
use Rattle.xs_model.specs.Line.{asked}

-- the task at the line, after it
abbrev pub worked : PrivateTask → Command → PrivateTask
worked task (commands.Set reg bytes) = record task { file = write_place task.file (place_of reg) bytes }
worked task commands.Tilerelease = record task { file = released_file task.file }
worked task (commands.Perm feature) = asked (feature_error task.file.rows feature) task
worked task (commands.Poke at bytes) = record task { frame = splice at bytes task.frame }
worked task (commands.Bpoke at bytes) = record task { buffer = splice at bytes task.buffer }
worked task other = task
