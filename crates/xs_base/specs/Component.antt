-- The components of the extended state that the machines here may have (SDM volume 1, 13.1, 13.2 and
-- 13.5): their numbers, sizes in bytes, and initial configurations (SDM volume 1, 13.6). Byte 5 and the upper six bytes
-- of each ST slot of component 0, and its bytes 24 to 31, belong to no register; that they are zero is this project's
-- own.
use Rattle.std.specs.Prelude.{ℕ, List, [], ◌∷◌, slice_index, if◌then◌else◌, ◌==◌}
use Rattle.xs_base.specs.Bytes.{zeros}

-- The numbers of the components that definitions speak of by name.
abbrev pub x87_number : ℕ
x87_number = 0

abbrev pub sse_number : ℕ
sse_number = 1

abbrev pub avx_number : ℕ
avx_number = 2

abbrev pub pkru_number : ℕ
pkru_number = 9

abbrev pub tilecfg_number : ℕ
tilecfg_number = 17

abbrev pub tiledata_number : ℕ
tiledata_number = 18

-- x87, SSE, AVX, opmask, ZMM_Hi256, Hi16_ZMM, PKRU, TILECFG, TILEDATA
abbrev pub component_numbers : List ℕ
component_numbers = 0 ∷ 1 ∷ 2 ∷ 5 ∷ 6 ∷ 7 ∷ 9 ∷ 17 ∷ 18 ∷ []

-- The size of each number from 0 to 18; 0 stands at a number that is no component here.
unfoldable pub sizes : List ℕ
sizes = 160 ∷ 256 ∷ 256 ∷ 0 ∷ 0 ∷ 64 ∷ 512 ∷ 1024 ∷ 0 ∷ 8 ∷ 0 ∷ 0 ∷ 0 ∷ 0 ∷ 0 ∷ 0 ∷ 0 ∷ 64 ∷ 8192 ∷ []

-- how many numbers the table of sizes has
abbrev pub component_count : ℕ
component_count = 19

-- the bytes of component c
unfoldable pub component_size : ℕ → ℕ
component_size c = slice_index sizes c

-- FCW is 037FH, and every other byte is zero.
unfoldable pub initial_part : ℕ → List ℕ
initial_part c = if c == x87_number then 0x7f ∷ 0x03 ∷ zeros 158 else zeros (component_size c)

-- MXCSR after initialisation (SDM volume 1, 10.2.3)
abbrev pub initial_mxcsr : ℕ
initial_mxcsr = 0x1F80
