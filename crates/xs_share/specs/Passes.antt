-- The words in which the calls speak of passes.
use Rattle.std.specs.Prelude.{◌≡◌, ℕ, ◌+◌, ◌<◌, List, length, slice_index_or, Option, Some, None, MatchOption, false}
use Rattle.atomic_table.specs.Seated.{TableId}
use Rattle.xs_share.specs.declared.rule.View.{View}
use Rattle.xs_share.specs.declared.pass.Pass.{Pass}
use Rattle.xs_share.specs.declared.pass.Passes.{Passes}
use Rattle.xs_share.specs.declared.shared.Shared.{Shared}

-- the word that stands for a mark
abbrev pub mark_word : Option ℕ → ℕ
mark_word None = 0
mark_word (Some t) = t + 1

module _ {K : Type 0} where
  -- which shared value it is
  abbrev pub name_of : Shared K → TableId
  name_of s = s.table.shared.table_id

  abbrev pub home_of : Pass K → TableId
  home_of p = p.seat.table_id

  -- what the pass knows
  abbrev pub view : Pass K → View K
  view p = p.seat.me.0

  -- the value that was opened
  abbrev pub opened : Passes K → K
  opened ps = ps.keeper.me.0.first

  -- The pass of processor c of that shared value, without the turn
  pub record IsIdle (name : TableId) (c : ℕ) (p : Pass K) : Type 0 where
    pub home : home_of p ≡ name
    pub number : (view p).number ≡ c
    pub turn : (view p).turn ≡ false

  -- The same as `open` makes it: it saw the value k, and has no mark
  pub record IsNew (name : TableId) (k : K) (c : ℕ) (p : Pass K) : Type 0 where
    pub idle : IsIdle name c p
    pub last : (view p).last ≡ k
    pub mark : (view p).mark ≡ 0

  -- a pass stands at each place, and P holds of each place and its pass
  abbrev pub EachPass : (ℕ → Pass K → Type 0) → List (Option (Pass K)) → Type 0
  EachPass P list = (c : ℕ) → c < length list → MatchOption (slice_index_or list c None) ⊥ (P c)

  -- the list has all passes that were made of that shared value
  pub record HasAll (name : TableId) (ps : Passes K) : Type 0 where
    pub table : ps.keeper.table_id ≡ name
    pub count : length ps.list.items ≡ ps.keeper.me.0.made
