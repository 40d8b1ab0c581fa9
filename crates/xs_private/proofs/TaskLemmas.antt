-- How tasks begin.
use Rattle.std.proofs.Common.{◌≡◌, ℕ, Bool, false, List, refl}
use Rattle.xs_base.specs.Bytes.{zeros}
use Rattle.xs_base.specs.Component.{initial_part}
use Rattle.xs_base.specs.File.{File, with_part}
use Rattle.xs_base.specs.Task.{PrivateTask, buffer_length, child_of, frame_length, marks_after}
use Rattle.xs_private.specs.Marks.{marks_of}

-- A task with these parts is the child of a fork.
pub child_is : (parent : PrivateTask) (file : File) (marks : ℕ) (permitted : Bool) (frame buffer : List ℕ) → file ≡ with_part parent.file 18 (initial_part 18)
    → marks ≡ marks_of file false → permitted ≡ parent.permitted → frame ≡ zeros frame_length → buffer ≡ zeros buffer_length
    → record { file = file; marks = marks; permitted = permitted; large = false; frame = frame; buffer = buffer; handling = false; place = 0; back = 0 } ≡ child_of parent
unfolding child_of marks_after
child_is parent file marks permitted frame buffer one two three four five = rw (two, one, three, four, five) refl
