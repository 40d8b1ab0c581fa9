-- The definitions at worked values: the machine `amx`, and a task before its first turn.
use Rattle.std.proofs.Common.{◌≡◌, ℕ, Bool, true, false, [], ◌∷◌, Some, None, codes, refl}
use Rattle.std.specs.Prelude.{slice_range}
use Rattle.xs_base.specs.Bytes.{splice, zeros}
use Rattle.xs_base.specs.declared.words.Errno.TheVariants.{Invalid, NotSupported}
use Rattle.xs_base.specs.Component.{sizes, component_size, initial_part}
use Rattle.xs_base.specs.Layout.{amx_rows, avx_rows, has_row, row_of, set_of, end_of, features, default_features, full_size, default_size}
use Rattle.xs_base.specs.declared.header.HeaderError.TheVariants as errors
use Rattle.xs_base.specs.declared.words.Set.TheVariants.{Xstate, Fx}
use Rattle.xs_base.specs.Frame.{frame_of, frame_bytes, frame_bits, with_words, word, long, word_at, xfeatures, delivered, Return, Full, LegacyOnly, Refused, return_of}
use Rattle.xs_base.specs.Header.{xstate_bv, xcomp_bv, mxcsr}
use Rattle.xs_base.specs.HeaderCheck.{header_error}
use Rattle.xs_base.specs.Image.{image_part}
use Rattle.xs_base.specs.RegisterSet.{set_reply, set_result, after_set, Fault, Header}
use Rattle.xs_base.specs.Standard.{component_byte, control_bytes, standard_bytes}
use Rattle.xs_base.specs.Task.{PrivateTask, root_task, child_of, marks_after}
use Rattle.xs_base.specs.Register.{place_at, place_of, registers}
use Rattle.xs_base.specs.Tile.{feature_error}
use Rattle.xs_base.specs.Trail.{mixed, release_numbers}
use Rattle.xs_base.specs.Compact.{compact_offset, compact_size, compact_end, compact_from}

amx_features : features amx_rows ≡ 0x602e7
unfolding amx_rows has_row set_of
amx_features = refl

amx_default_features : default_features amx_rows ≡ 0x202e7
unfolding amx_rows has_row set_of
amx_default_features = refl

amx_full_size : full_size amx_rows ≡ 11008
unfolding amx_rows end_of
amx_full_size = refl

amx_default_size : default_size amx_rows ≡ 2816
unfolding amx_rows end_of
amx_default_size = refl

avx_sizes : (full_size avx_rows ≡ 832) × (default_size avx_rows ≡ 832)
unfolding avx_rows end_of
avx_sizes = (refl, refl)

amx_places : (compact_offset amx_rows 0x602e7 9 ≡ 2432) × (compact_offset amx_rows 0x602e7 17 ≡ 2496) × (compact_offset amx_rows 0x602e7 18 ≡ 2560)
unfolding amx_rows compact_from
amx_places = (refl, refl, refl)

amx_compact_size : compact_size amx_rows 0x602e7 ≡ 10752
unfolding amx_rows compact_end
amx_compact_size = refl

amx_places_without_pkru : (compact_offset amx_rows 0x600e7 17 ≡ 2432) × (compact_offset amx_rows 0x600e7 18 ≡ 2496) × (compact_size amx_rows 0x600e7 ≡ 10688)
unfolding amx_rows compact_from compact_end
amx_places_without_pkru = (refl, refl, refl)

x87_size : component_size 0 ≡ 160
unfolding component_size sizes
x87_size = refl

tile_size : component_size 18 ≡ 8192
unfolding component_size sizes
tile_size = refl

-- ---- names of registers

places : (place_of (codes "mxcsr") ≡ place_at 1 256 4) × (place_of (codes "zmm31") ≡ place_at 7 960 64) × (place_of (codes "tmm7.15") ≡ place_at 18 8128 64) × (place_of (codes "xmm16") ≡ place_at 0 0 0)
unfolding place_of registers
places = (refl, refl, refl, refl)

-- ---- leave to use TILEDATA

leave : (feature_error amx_rows 9 ≡ Some NotSupported) × (feature_error amx_rows 19 ≡ Some Invalid) × (feature_error amx_rows 18 ≡ None) × (feature_error avx_rows 18 ≡ Some NotSupported)
unfolding amx_rows avx_rows has_row
leave = (refl, refl, refl, refl)

-- ---- the trail of one release of the tiles, and of two

releases : (mixed 0 release_numbers ≡ 4) × (mixed (mixed 0 release_numbers) release_numbers ≡ 7009800821677620408)
unfolding mixed
releases = (refl, refl)

-- ---- a task of the machine `amx` before its first turn, its child and its frame

abbrev task : PrivateTask
task = root_task amx_rows

child_marks : (child_of task).marks ≡ 0x200
unfolding amx_rows has_row set_of root_task child_of marks_after component_size sizes initial_part zeros
child_marks = refl

frame_start : slice_range (frame_of task) 464 484 ≡ 0x53 ∷ 0x58 ∷ 0x50 ∷ 0x46 ∷ 0x04 ∷ 0x0b ∷ 0 ∷ 0 ∷ 0xe7 ∷ 0x02 ∷ 0x02 ∷ 0 ∷ 0 ∷ 0 ∷ 0 ∷ 0 ∷ 0 ∷ 0x0b ∷ 0 ∷ 0 ∷ []
unfolding amx_rows has_row set_of end_of root_task frame_bytes frame_bits with_words word long standard_bytes component_byte splice zeros
frame_start = refl

frame_header : slice_range (frame_of task) 512 520 ≡ 0x03 ∷ 0x02 ∷ 0 ∷ 0 ∷ 0 ∷ 0 ∷ 0 ∷ 0 ∷ []
unfolding amx_rows has_row set_of end_of root_task frame_bytes frame_bits with_words word long standard_bytes component_byte splice zeros component_size sizes initial_part
frame_header = refl

frame_end : slice_range (frame_of task) 2816 2820 ≡ 0x45 ∷ 0x58 ∷ 0x50 ∷ 0x46 ∷ []
unfolding amx_rows has_row set_of end_of root_task frame_bytes frame_bits with_words word long standard_bytes component_byte splice zeros
frame_end = refl

-- ---- what a tracer reads and writes of it

xstate_words : (slice_range (set_reply task Xstate) 464 472 ≡ 0xe7 ∷ 0x02 ∷ 0x06 ∷ 0 ∷ 0 ∷ 0 ∷ 0 ∷ 0 ∷ []) × (slice_range (set_reply task Xstate) 512 520 ≡ 0 ∷ 0x02 ∷ 0 ∷ 0 ∷ 0 ∷ 0 ∷ 0 ∷ 0 ∷ [])
unfolding amx_rows has_row set_of end_of root_task set_reply component_byte control_bytes zeros component_size sizes initial_part marks_after
xstate_words = (refl, refl)

fx_words : (slice_range (set_reply task Fx) 24 32 ≡ 0x80 ∷ 0x1f ∷ 0 ∷ 0 ∷ 0xff ∷ 0xff ∷ 0 ∷ 0 ∷ []) × (slice_range (set_reply task Fx) 464 472 ≡ zeros 8)
unfolding amx_rows has_row set_of end_of root_task set_reply component_byte control_bytes zeros component_size sizes initial_part marks_after
fx_words = (refl, refl)

xstate_refused : set_result task Xstate (splice 514 (4 ∷ []) (set_reply task Xstate)) ≡ Header errors.Features
unfolding amx_rows has_row set_of end_of root_task set_reply component_byte control_bytes zeros component_size sizes initial_part splice header_error xstate_bv marks_after
xstate_refused = refl

xstate_count : set_result task Xstate (zeros 11007) ≡ Fault
unfolding amx_rows end_of root_task zeros has_row set_of
xstate_count = refl

-- A component that is named without being in use stays marked, beside PKRU.
marks_given : slice_range (set_reply (after_set task Xstate (splice 512 (4 ∷ []) (set_reply task Xstate))) Xstate) 512 520 ≡ 0x04 ∷ 0x02 ∷ 0 ∷ 0 ∷ 0 ∷ 0 ∷ 0 ∷ 0 ∷ []
unfolding amx_rows has_row row_of set_of end_of root_task set_reply component_byte control_bytes zeros component_size sizes initial_part splice xstate_bv mxcsr marks_after image_part
marks_given = refl

-- ---- what a return makes of its frame, and of one with a byte changed

-- the same task with a byte of its frame changed
poked : ℕ → ℕ → PrivateTask
poked at byte = record (delivered task) { frame = splice at (byte ∷ []) (frame_of task) }

abbrev is_legacy : Return → Bool
is_legacy (Full file) = false
is_legacy (LegacyOnly file) = true
is_legacy (Refused error) = false

wrong_magic : is_legacy (return_of (poked 2816 0)) ≡ true
unfolding poked amx_rows has_row row_of set_of end_of root_task frame_bytes frame_bits with_words word long standard_bytes component_byte splice zeros component_size sizes initial_part word_at xfeatures header_error xstate_bv xcomp_bv mxcsr control_bytes
wrong_magic = refl

wrong_size : is_legacy (return_of (poked 480 1)) ≡ true
unfolding poked amx_rows has_row row_of set_of end_of root_task frame_bytes frame_bits with_words word long standard_bytes component_byte splice zeros component_size sizes initial_part word_at xfeatures header_error xstate_bv xcomp_bv mxcsr control_bytes
wrong_size = refl

wrong_byte : return_of (poked 528 1) ≡ Refused errors.Reserved
unfolding poked amx_rows has_row row_of set_of end_of root_task frame_bytes frame_bits with_words word long standard_bytes component_byte splice zeros component_size sizes initial_part word_at xfeatures header_error xstate_bv xcomp_bv mxcsr control_bytes
wrong_byte = refl

-- A return right after the delivery gives the file back.
same_file : return_of (delivered task) ≡ Full task.file
unfolding amx_rows has_row row_of set_of end_of root_task frame_bytes frame_bits with_words word long standard_bytes component_byte splice zeros component_size sizes initial_part image_part word_at xfeatures header_error xstate_bv xcomp_bv mxcsr control_bytes
same_file = refl
