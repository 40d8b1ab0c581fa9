-- The set of the components in use, where a part changes, and where every part is initial.
use Rattle.std.proofs.Common.{◌≡◌, ◌⊎◌, inl, inr, ℕ, ◌<◌, ◌≤◌, Bool, true, false, not, ◌&&◌, ◌==◌, List, [], set, if◌then◌else◌, refl, sym, ap, ◌∙◌, arith}
use Rattle.std.proofs.lemmas.Bool.{cases_Bool, cases_eq, cases_lt, ne_eqb, eq-eqb, eqb-true, false≢true}
use Rattle.std.proofs.lemmas.List.{set-get_or}
use Rattle.std.proofs.lemmas.List.Folds.{Any-from_list_any}
use Rattle.std.proofs.lemmas.Slice.Eq.{bytes_eq-Decides}
use Rattle.std.specs.List.{list_any}
use Rattle.std.specs.Str.{bytes_eq}
use Rattle.xs_base.specs.declared.component.Row.{Row}
use Rattle.xs_base.specs.Sets.{has}
use Rattle.xs_base.specs.Component.{component_count, initial_part}
use Rattle.xs_base.specs.File.{File, IsFile, part, with_part, in_use}
use Rattle.xs_base.specs.Layout.{IsLayout, has_row}
use Rattle.xs_base.proofs.SetLemmas.{has_none}
use Rattle.xs_base.proofs.LayoutLemmas.{sound_at}
use Rattle.xs_base.proofs.FileLemmas.{part_here, part_other}
use Rattle.xs_regs.proofs.Loads.{none_of}
use Rattle.xs_regs.specs.Used.{HasUsed}

-- A machine has no component from 19 on.
none_above : (rows : List Row) (c : ℕ) → IsLayout rows → component_count ≤ c → has_row rows c ≡ false
unfolding has_row
none_above rows c layout above =
    elim (cases_Bool (list_any (λ (r : Row). r.comp.0 == c) rows)) [
      | inl there ↦
          let found = Any-from_list_any (λ (r : Row). r.comp.0 == c) rows there in
          let number = (sound_at rows layout found.0 found.1 found.2 (sym found.3)).number in
          let same : found.1.comp.0 ≡ c = eqb-true found.1.comp.0 c found.4 in
          absurd (omega arith)
      | inr gone ↦ gone
    ]

pub unused_above : (file : File) (c : ℕ) → IsLayout file.rows → component_count ≤ c → in_use file c ≡ false
unused_above file c layout above = none_of (has_row file.rows c) (not (bytes_eq (part file c) (initial_part c))) (none_above file.rows c layout above)

-- initial bytes, and a component that the machine has
pub unchanged : (c : ℕ) (bytes : List ℕ) (there : Bool) → bytes ≡ initial_part c → (there && not (bytes_eq bytes (initial_part c))) ≡ false
unchanged c bytes there same = rw ((bytes_eq-Decides bytes (initial_part c)).1 same) (never there)
  where
    never : (b : Bool) → (b && not true) ≡ false
    never true = refl
    never false = refl

pub changed_there : (there changed used : Bool) → there ≡ true → used ≡ changed → used ≡ (there && changed)
changed_there there changed used on same = rw on same

pub not_both : (a b : Bool) → b ≡ false → (a && b) ≡ false
not_both true b none = none
not_both false b none = refl

-- Where every part is initial, none is in use.
pub unused_all : (file : File) → IsLayout file.rows → ((c : ℕ) → c < component_count → part file c ≡ initial_part c) → HasUsed file 0
unused_all file layout each = record {
  each = λ c. has_none c ∙ sym (elim (cases_lt c component_count) [
    | inl below ↦ unchanged c (part file c) (has_row file.rows c) (each c below)
    | inr above ↦ unused_above file c layout above
  ]);
}

-- A component that isn't in use is initial, but for PKRU where the machine lacks it.
pub reset_unused : (file : File) (c : ℕ) (kept : Bool) → IsFile file → c < component_count → kept ≡ in_use file c → kept ≡ false → (c ≡ 9 → ⊥) → file ≡ with_part file c (initial_part c)
reset_unused file c kept h small is unused apart =
    let parts : set file.parts c (initial_part c) ≡ file.parts = rw (← initial (cases_Bool (has_row file.rows c))) (set-get_or file.parts c []) in
    ap (λ (parts : List (List ℕ)). record { rows = file.rows; parts = parts; mxcsr = file.mxcsr }) (sym parts)
  where
    same_of : (a e k : Bool) → a ≡ true → k ≡ (a && not e) → k ≡ false → e ≡ true
    same_of true true k on made off = refl
    same_of true false k on made off = absurd (false≢true (sym off ∙ made))
    same_of false e k on made off = absurd (false≢true on)

    initial : (has_row file.rows c ≡ true) ⊎ (has_row file.rows c ≡ false) → part file c ≡ initial_part c
    initial (inl there) = (bytes_eq-Decides (part file c) (initial_part c)).0 (same_of (has_row file.rows c) (bytes_eq (part file c) (initial_part c)) kept there is unused)
    initial (inr gone) = h.absent c small gone apart

-- One part is another.
pub used_with : (file : File) (c set new : ℕ) (bytes : List ℕ) (used : Bool) → IsFile file → c < component_count → HasUsed file set → used ≡ (has_row file.rows c && not (bytes_eq bytes (initial_part c))) → ((d : ℕ) → has new d ≡ (if d == c then used else has set d)) → HasUsed (with_part file c bytes) new
used_with file c set new bytes used file_is small h is made =
    let count = file_is.count in
    let here : part (with_part file c bytes) c ≡ bytes = part_here file c bytes (omega arith) in
    record {
      each = λ d. made d ∙ elim (cases_eq d c) [
        | inl same ↦ rw (same, eq-eqb c c refl, here) is
        | inr apart ↦ rw (ne_eqb d c apart, part_other file c d bytes apart) (h.each d)
      ];
    }
