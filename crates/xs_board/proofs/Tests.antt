-- Tests whose answer is known.
use Rattle.std.proofs.Common.{◌≡◌, Bool, true, false, refl}
use Rattle.std.specs.Prelude.{if◌then◌else◌}
use Rattle.xs_board.specs.Deed.{IfStopped}

-- a test that holds
pub if_true : {A : Type 0} (b : Bool) (x y : A) → b ≡ true → (if b then x else y) ≡ x
if_true true x y on = refl
if_true false x y on = absurd (cc on)

-- a test that does not
pub if_false : {A : Type 0} (b : Bool) (x y : A) → b ≡ false → (if b then x else y) ≡ y
if_false true x y off = absurd (cc off)
if_false false x y off = refl

-- what holds of a stopped block
pub when_stopped : (held : Bool) (Reaches Refuses : Type 0) → held ≡ true → Reaches → IfStopped held Reaches Refuses
when_stopped true Reaches Refuses is reaches = reaches
when_stopped false Reaches Refuses is reaches = absurd (cc is)

-- and of another
pub unless_stopped : (held : Bool) (Reaches Refuses : Type 0) → held ≡ false → Refuses → IfStopped held Reaches Refuses
unless_stopped true Reaches Refuses is refuses = absurd (cc is)
unless_stopped false Reaches Refuses is refuses = refuses
