-- A release of tiles on a machine without them.
use Rattle.std.proofs.Common.{◌≡◌, ℕ, Bool, true, false, not, ◌&&◌, ◌||◌, List, refl, sym, ap, ◌∙◌, lit<}
use Rattle.std.proofs.lemmas.Bool.{true≢false}
use Rattle.std.proofs.lemmas.List.{set-get_or}
use Rattle.std.specs.Prelude.{slice_set}
use Rattle.xs_base.specs.declared.component.Row.{Row}
use Rattle.xs_base.specs.declared.layout_error.LayoutError.TheVariants as errors
use Rattle.xs_base.specs.Component.{initial_part}
use Rattle.xs_base.specs.File.{File, IsFile, part, with_part}
use Rattle.xs_base.specs.Layout.{IsLayout, has_row, lacks_legacy, has_lone_tile, table_error}
use Rattle.xs_base.specs.Tile.{released_file}
use Rattle.xs_base.proofs.LayoutLemmas.{else_none, layout_parts}

-- TILECFG is there only with TILEDATA
pub no_config : (rows : List Row) → IsLayout rows → has_row rows 18 ≡ false → has_row rows 17 ≡ false
unfolding table_error
no_config rows table off = both (has_row rows 17) (has_row rows 18) (else_none (has_lone_tile rows) errors.TileAlone _ (else_none (lacks_legacy rows) errors.LegacyMissing _ (layout_parts rows table).1).1).0 off
  where
    both : (a b : Bool) → ((a && not b) || (not a && b)) ≡ false → b ≡ false → a ≡ false
    both false b h off = refl
    both true false h off = absurd (true≢false h)
    both true true h off = absurd (true≢false off)

-- a part that is as it was
same_part : (file : File) (c : ℕ) (bytes : List ℕ) → part file c ≡ bytes → with_part file c bytes ≡ file
same_part file c bytes is = ap (λ (ps : List (List ℕ)). record file { parts = ps }) (ap (slice_set file.parts c) (sym is) ∙ set-get_or file.parts c _)

pub nothing_released : (file : File) → IsFile file → has_row file.rows 18 ≡ false → released_file file ≡ file
nothing_released file good off =
    let config = good.absent 17 (lit< tt) (no_config file.rows good.layout off) (λ e. cc) in
    let data_part = good.absent 18 (lit< tt) off (λ e. cc) in
    ap (λ (f : File). with_part f 18 (initial_part 18)) (same_part file 17 (initial_part 17) config) ∙ same_part file 18 (initial_part 18) data_part
