-- A task whose registers were saved stands for its private task after the turn.
use Rattle.std.proofs.Common.{◌≡◌, true, refl, sym, ap, ◌∙◌, List, Some, None, Option}
use Rattle.xs_base.specs.declared.component.Row.{Row}
use Rattle.xs_area.specs.declared.area.Lease.{Lease}
use Rattle.xs_base.specs.File.{part, pkru_bytes, pkru_of}
use Rattle.xs_base.specs.Layout.{IsLayout}
use Rattle.xs_base.specs.Task.{PrivateTask, IsPrivateTask, marks_after, parked}
use Rattle.xs_task.specs.declared.task.Task.{Task}
use Rattle.xs_task.specs.Marks.{marks_of, IsSavedIn}
use Rattle.xs_task.specs.Parked.{IsParked}
use Rattle.xs_task.specs.Private.{HasForm}
use Rattle.xs_task.specs.TaskArea.{has_large}
use Rattle.xs_task.proofs.MarkLemmas.{marks_kept}

-- its marks
kept_marks : (rows : List Row) (task : Task) (private : PrivateTask) → IsPrivateTask rows private → HasForm task private → (task.lease ≡ None → ⊥) → ((lease : Lease) → task.lease ≡ Some lease → IsSavedIn rows lease private.file) → pkru_of private.file ≡ task.pkru → marks_after private ≡ marks_of task.lease task.pkru
kept_marks rows task private valid form some saved value = here task.lease refl
  where
    table : IsLayout rows
    table = rw (valid.file.rows_are) at valid.file.is_file.layout

    here : (o : Option Lease) → task.lease ≡ o → marks_after private ≡ marks_of task.lease task.pkru
    here None is = absurd (some is)
    here (Some lease) is =
        marks_kept rows lease private table valid.file.rows_are (ap (λ (q : PrivateTask). q.large) form ∙ ap has_large is) (saved lease is)
        ∙ ap (marks_of (Some lease)) value ∙ ap (λ (o : Option Lease). marks_of o task.pkru) (sym is)

pub parked_from : (rows : List Row) (task : Task) (private : PrivateTask) → IsPrivateTask rows private → task.need_load ≡ true → HasForm task private → (task.lease ≡ None → ⊥) → ((lease : Lease) → task.lease ≡ Some lease → IsSavedIn rows lease private.file) → part private.file 9 ≡ pkru_bytes task.pkru → pkru_of private.file ≡ task.pkru → IsParked rows task (parked private)
parked_from rows task private valid flag form some saved own value = record {
  valid = record {
    file = valid.file;
    tiles_are = valid.tiles_are;
    frame_size = valid.frame_size;
    frame_bytes = valid.frame_bytes;
    buffer_size = valid.buffer_size;
    buffer_bytes = valid.buffer_bytes;
  };
  flag = flag;
  form = ap (λ (q : PrivateTask). record q { marks = marks_after private }) form;
  stands = λ lease is. (saved lease is).stands;
  pkru = own;
  marks = kept_marks rows task private valid form some saved value;
}
