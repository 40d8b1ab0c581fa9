-- The three kinds of names.
use Rattle.std.proofs.Common.{ℕ, List, Option, Some, None}
use Rattle.xs_base.specs.declared.component.Place.{Place}
use Rattle.xs_base.specs.Register.{singles, families, IsTileRow, IsNamed, Alone, Member, TileRow}
use Rattle.xs_regs.specs.Finds.{Finds}
use Rattle.xs_regs.specs.Names.{IsAlone, IsNumbered}

-- A name that is neither alone nor a stem and a number is a tile's row or none.
pub last_kind : (name : List ℕ) (o : Option Place) → ((place : Place) → IsAlone singles name place → ⊥) → ((place : Place) → IsNumbered families name place → ⊥) → Finds (IsTileRow name) o → Finds (IsNamed name) o
last_kind name (Some place) alone numbered h = TileRow h
last_kind name None alone numbered h = λ place named. elim named [
  | Alone a ↦ alone place a
  | Member m ↦ numbered place m
  | TileRow t ↦ h place t
]
