-- One row more.
use Rattle.std.proofs.Common.{◌≡◌, ◌<◌, ◌≤◌, length, get_or, refl, sym, ap, subst, ◌∙◌, arith}
use Rattle.std.proofs.lemmas.Option.{slice_get_read}
use Rattle.xs_base.specs.declared.component.Features.{Features}
use Rattle.xs_base.specs.Compact.{place}
use Rattle.xs_base.specs.Header.{xcomp_bv}
use Rattle.xs_base.specs.Layout.{IsLayout}
use Rattle.xs_base.specs.Sets.{has}
use Rattle.xs_base.proofs.LayoutLemmas.{has_row_at}
use Rattle.xs_bank.proofs.LoadLemmas.{loaded_none, loaded_more, loaded_skip, loaded_all}
use Rattle.xs_bank.proofs.loading.load_components.Goals as goal
use Rattle.xs_bank.proofs.loading.load_components.Goals.{then-has, else-has}

pub each-init : goal.each-init
each-init c = record {
  loaded = loaded_none c.args.mask.0 c.args.area.now c.args.file.now;
  names = ap (λ (n : Features). n.0) c.new-cursor.ensures.names ∙ c.xcomp_bv.ensures;
  before = c.new-cursor.ensures.before c.args.file.now.rows;
}

pub pass-at-requires-clause-within : goal.pass-at-requires-clause-within
pass-at-requires-clause-within c = omega (arith, ap length c.layout.ensures.rows, ap length c.layout-in-each.ensures.rows, ap length c.each.invariant.loaded.rows_are)

pub pass-at-requires-clause-before : goal.pass-at-requires-clause-before
pass-at-requires-clause-before c =
    let all : c.layout-in-each.result.now ≡ c.args.file.now.rows = c.layout-in-each.ensures.rows ∙ c.each.invariant.loaded.rows_are in
    rw all c.each.invariant.before

pub load_row-requires-clause-there : goal.load_row-requires-clause-there
load_row-requires-clause-there c =
    let all = c.layout-in-each.ensures.rows in
    let lt : c.each.i < length c.each.file.rows = omega (arith, ap length c.layout.ensures.rows, ap length c.each.invariant.loaded.rows_are) in
    has_row_at c.each.file.rows c.each.i c.pass-at.result.0 lt (rw all at c.pass-at.ensures.row)

pub load_row-requires-clause-held : goal.load_row-requires-clause-held
load_row-requires-clause-held c = λ on.
    let rows = c.args.file.now.rows in
    let row = c.pass-at.result.0 in
    let all : c.layout-in-each.result.now ≡ rows = c.layout-in-each.ensures.rows ∙ c.each.invariant.loaded.rows_are in
    let lt : c.each.i < length rows = omega (arith, ap length c.layout.ensures.rows) in
    let is : row ≡ get_or rows c.each.i row = rw all at c.pass-at.ensures.row in
    let at : c.pass-at.result.1 ≡ place rows (xcomp_bv c.args.area.now) row = c.pass-at.ensures.place ∙ ap (λ rs. place rs c.each.cursor.names.0 row) all ∙ ap (λ n. place rows n row) c.each.invariant.names in
    let fits = c.requires.places c.each.i row (slice_get_read rows (length rows) c.each.i row refl lt is) (sym c.has.ensures ∙ c.if-has.true) (ap (λ n. has n row.comp.0) (sym c.xstate_bv.ensures) ∙ on) in
    omega (arith, at, fits)

pub each-preserved : goal.each-preserved
each-preserved c =
    let rows = c.args.file.now.rows in
    let row = c.pass-at.result.0 in
    let all : c.layout-in-each.result.now ≡ rows = c.layout-in-each.ensures.rows ∙ c.each.invariant.loaded.rows_are in
    let lt : c.each.i < length rows = omega (arith, ap length c.layout.ensures.rows) in
    let is : row ≡ get_or rows c.each.i row = rw all at c.pass-at.ensures.row in
    let table : IsLayout rows = subst (λ rs. IsLayout rs) c.layout.ensures.rows c.len-i-end.ensures.layout in
    let at : c.pass-at.result.1 ≡ place rows (xcomp_bv c.args.area.now) row = c.pass-at.ensures.place ∙ ap (λ rs. place rs c.each.cursor.names.0 row) all ∙ ap (λ n. place rows n row) c.each.invariant.names in
    record {
      loaded = elim c.if-has.branch [
        | then-has w ↦
            rw w.file-is (loaded_more c.args.mask.0 c.args.area.now c.each.i c.args.file.now c.each.file row lt is c.each.invariant.loaded w.load_row.new.file c.xstate_bv.result c.pass-at.result.1 table (sym c.has.ensures ∙ w.if-has.true) c.xstate_bv.ensures at w.load_row.ensures)
        | else-has w ↦
            rw w.file-is (loaded_skip c.args.mask.0 c.args.area.now c.each.i c.args.file.now c.each.file row lt is c.each.invariant.loaded (sym c.has.ensures ∙ w.if-has.false))
      ];
      names = ap (λ (n : Features). n.0) c.pass-at.ensures.names ∙ c.each.invariant.names;
      before = rw all at c.pass-at.ensures.before;
    }

pub returns : goal.returns
returns c =
    let past : length c.args.file.now.rows ≤ c.each.i = omega (arith, ap length c.layout.ensures.rows) in
    loaded_all c.args.mask.0 c.args.area.now c.each.i c.args.file.now c.each.file past c.each.invariant.loaded
