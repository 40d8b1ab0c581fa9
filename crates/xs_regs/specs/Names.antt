-- What the readers of names find, in tables that have the entries of the definitions.
use Rattle.std.specs.Prelude.{◌≡◌, ℕ, ◌+◌, ◌≤◌, List, Any}
use Rattle.xs_base.specs.declared.component.Place.{Place}
use Rattle.xs_base.specs.Register as register
use Rattle.xs_base.specs.Register.{IsMember}
use Rattle.xs_regs.specs.declared.tables.Single.{Single}
use Rattle.xs_regs.specs.declared.tables.Family.{Family}

-- an entry of the code's table, as the definition has it
abbrev pub single_of : Single → register.Single
single_of s = record { name = s.name.now; place = s.place }

abbrev pub family_of : Family → register.Family
family_of f = record { stem = f.stem.now; from = f.from; count = f.count; component = f.component; offset = f.offset; stride = f.stride; len = f.len }

-- the numbers of the family have at most two digits
abbrev pub HasTwoDigits : Family → Type 0
HasTwoDigits f = f.from + f.count ≤ 100

-- one of these has the name and stands at the place
abbrev pub IsAlone : List register.Single → List ℕ → Place → Type 0
IsAlone entries name place = Any (λ (s : register.Single). (name ≡ s.name) × (place ≡ s.place)) entries

-- the name is a stem and a number of one of these, whose register of that number stands at the place
abbrev pub IsNumbered : List register.Family → List ℕ → Place → Type 0
IsNumbered entries name place = Any (IsMember name place) entries
