-- A task after a delivery, and what its area and its bank tell of it.
use Rattle.std.proofs.Common.{◌≡◌, ℕ, Bool, true, false, not, ◌&&◌, List, Option, Some, None, refl, sym, ap, ◌∙◌, if◌then◌else◌}
use Rattle.std.proofs.lemmas.Bool.{false≢true}
use Rattle.xs_base.specs.declared.class.Class.{Class}
use Rattle.xs_base.specs.declared.component.Row.{Row}
use Rattle.xs_base.specs.File.{File, part}
use Rattle.xs_base.specs.Frame.{delivered, frame_bytes}
use Rattle.xs_base.specs.Layout as layouts
use Rattle.xs_base.specs.Layout.{has_row}
use Rattle.xs_base.specs.Task as tasks
use Rattle.xs_base.specs.Task.{PrivateTask, IsPrivateTask, start_file}
use Rattle.xs_area.specs.declared.area.Lease.{Lease}
use Rattle.xs_bank.specs.Bank.{Bank}
use Rattle.xs_bank.specs.Holds.{Holds}
use Rattle.xs_bank.specs.Load.{tiles}
use Rattle.xs_task.specs.declared.task.Task.{Task}
use Rattle.xs_task.specs.Private.{HasForm, private_of}
use Rattle.xs_task.specs.TaskArea.{IsTask, KeepsArea, has_large, is_large}
use Rattle.xs_switch.specs.Armed.{armed_for}
use Rattle.xs_switch.specs.Running.{CanSave, IsRunning}
use Rattle.xs_image.specs.User.{user_features, user_size}
use Rattle.xs_frame.proofs.UserLemmas.{user_by, size_by}

-- ---- the area

-- what is armed for its class stays so
pub kept_armed : (rows : List Row) (armed : ℕ) (old new : Option Lease) → KeepsArea old new → ((lease : Lease) → old ≡ Some lease → armed ≡ armed_for rows lease.class) → (lease : Lease) → new ≡ Some lease → armed ≡ armed_for rows lease.class
kept_armed rows armed None new keeps each lease is = absurd cc
kept_armed rows armed (Some old) None keeps each lease is = absurd keeps
kept_armed rows armed (Some old) (Some new) keeps each lease is =
    let same : new ≡ lease = cc is in
    each old refl ∙ ap (armed_for rows) (sym keeps.0 ∙ ap (λ (l : Lease). l.class) same)

-- and so does its private task's form
pub form_kept : (task : Task) (new : Option Lease) (p : PrivateTask) → HasForm task p → KeepsArea task.lease new → p ≡ private_of (record task { lease = new }) p.file p.marks
form_kept task new p form keeps = form ∙ ap (λ (b : Bool). record (private_of task p.file p.marks) { large = b }) (here task.lease new keeps)
  where
    here : (old new : Option Lease) → KeepsArea old new → has_large old ≡ has_large new
    here None new keeps = ap has_large (sym keeps)
    here (Some old) None keeps = absurd keeps
    here (Some old) (Some lease) keeps = ap is_large (sym keeps.0)

-- ---- what a private task may use, by the class of its area

pub large_of : (task : Task) (p : PrivateTask) (lease : Lease) → HasForm task p → task.lease ≡ Some lease → p.large ≡ is_large lease.class
large_of task p lease form is = ap (λ (q : PrivateTask). q.large) form ∙ ap has_large is

pub features_are : (p : PrivateTask) (rows : List Row) (class : Class) → p.file.rows ≡ rows → p.large ≡ is_large class → user_features rows class ≡ tasks.user_features p
features_are p rows class rows_are large = user_by rows class ∙ ap (λ (b : Bool). if b then layouts.features rows else layouts.default_features rows) (sym large) ∙ ap (λ (rs : List Row). if p.large then layouts.features rs else layouts.default_features rs) (sym rows_are)

pub size_is : (p : PrivateTask) (rows : List Row) (class : Class) → p.file.rows ≡ rows → p.large ≡ is_large class → user_size rows class ≡ tasks.user_size p
size_is p rows class rows_are large = size_by rows class ∙ ap (λ (b : Bool). if b then layouts.full_size rows else layouts.default_size rows) (sym large) ∙ ap (λ (rs : List Row). if p.large then layouts.full_size rs else layouts.default_size rs) (sym rows_are)

-- ---- the bank

-- a task is running where the bank has its file
pub running_in_bank : (rows : List Row) (task : Task) (bank : Bank) (p : PrivateTask) → IsPrivateTask rows p → HasForm task p → task.need_load ≡ false → bank.file ≡ p.file → IsRunning rows task bank p
running_in_bank rows task bank p valid form clear same = record {
  valid = valid;
  form = form;
  pkru = ap (λ (f : File). part f 9) same;
  saved = λ flag. absurd (false≢true (sym clear ∙ flag));
  whole = λ flag. same;
}

-- and a bank that is armed for it is the task's
pub running_holds : (rows : List Row) (task : Task) (bank : Bank) (p : PrivateTask) → IsTask rows task → task.need_load ≡ false → CanSave rows task bank → IsRunning rows task bank p → Holds bank p
running_holds rows task bank p whole clear ready run = here task.lease refl
  where
    here : (o : Option Lease) → task.lease ≡ o → Holds bank p
    here None is = absurd (whole.some is)
    here (Some lease) is = record {
      file = rw (run.whole clear) (record { rows_are = refl; parts = λ c apart. refl; control = refl });
      armed = (ready clear lease is).armed ∙ sym (ap (λ (rs : List Row). if has_row rs 18 && not p.large then tiles else 0) run.valid.file.rows_are ∙ ap (λ (b : Bool). if has_row rows 18 && not b then tiles else 0) (large_of task p lease run.form is));
    }

-- ---- a delivery

-- the form of the task after it
pub delivered_form : (task : Task) (p : PrivateTask) (rows : List Row) (lease : Lease) (frame : List ℕ) → HasForm task p → task.lease ≡ Some lease → p.file.rows ≡ rows → frame ≡ frame_bytes p.file (user_features rows lease.class) (user_size rows lease.class) → delivered p ≡ record (private_of task (start_file p.file.rows) p.marks) { frame = frame; handling = true; place = 0; back = task.place }
delivered_form task p rows lease frame form is rows_are written =
    let large = large_of task p lease form is in
    let same : frame_bytes p.file (tasks.user_features p) (tasks.user_size p) ≡ frame =
    ap (λ n. frame_bytes p.file n (tasks.user_size p)) (sym (features_are p rows lease.class rows_are large)) ∙ ap (frame_bytes p.file (user_features rows lease.class)) (sym (size_is p rows lease.class rows_are large)) ∙ sym written in
    ap (λ (bytes : List ℕ). record p { file = start_file p.file.rows; frame = bytes; handling = true; place = 0; back = p.place }) same
    ∙ ap (λ (q : PrivateTask). record q { file = start_file p.file.rows; frame = frame; handling = true; place = 0; back = q.place }) form
