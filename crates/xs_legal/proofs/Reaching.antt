-- What an outer line of a block reaches.
use Rattle.std.proofs.Common.{◌≡◌, ℕ, Bool, true, false, List, slice_get, slice_set, Some, None, if◌then◌else◌, refl, sym, ap, ◌∙◌, inl, inr}
use Rattle.std.proofs.lemmas.Bool.{cases_eq}
use Rattle.std.proofs.lemmas.Option.{slice_get-map}
use Rattle.std.specs.Prelude.{Option, option_map}
use Rattle.xs_base.specs.declared.words.Set.{Set}
use Rattle.xs_model.specs.declared.event.Reply.{Reply}
use Rattle.xs_model.specs.declared.script.Command.{Command}
use Rattle.xs_model.specs.declared.script.Command.TheVariants as commands
use Rattle.xs_model.specs.declared.script.Script.{Script}
use Rattle.xs_model.specs.Note.{is_count}
use Rattle.xs_model.specs.Outer.{born, buffer_filled, buffer_of, continued, is_held, reach_of, registers_set, signalled, woken}
use Rattle.xs_model.specs.Script.{block_named}
use Rattle.xs_model.specs.State.{BlockState, changed}
use Rattle.xs_legal.specs.declared.giving.Gift.{Gift}
use Rattle.xs_legal.specs.Gift.{ArePair, given}
use Rattle.xs_legal.specs.Step.{CanReach}
use Rattle.xs_legal.proofs.Places.{changed_at, get_changed, get_other}

-- what a gift leaves, where the taker's place is known by another name
pub gift_changed : (f : Option BlockState → BlockState → BlockState) (gift : Gift) (blocks new : List BlockState) (from to : ℕ) → ((giver taker : BlockState) → given gift giver taker ≡ f (Some giver) taker) → ArePair gift blocks from to
    → ((giver taker : BlockState) → slice_get blocks from ≡ Some giver → slice_get blocks to ≡ Some taker → new ≡ slice_set blocks to (given gift giver taker))
    → new ≡ changed to (f (slice_get blocks from)) blocks
gift_changed f gift blocks new from to same pair gave =
    gave pair.giver pair.taker pair.from_is pair.to_is
    ∙ ap (slice_set blocks to) (same pair.giver pair.taker ∙ ap (λ (o : Option BlockState). f o pair.taker) (sym pair.from_is))
    ∙ sym (changed_at (f (slice_get blocks from)) blocks to pair.taker pair.to_is)

-- ---- the block's own place

-- The block is still there, at its place.
pub record IsPlaced (blocks : List BlockState) (t place : ℕ) : Type 0 where
  pub block : BlockState
  pub here : slice_get blocks t ≡ Some block
  pub place_is : block.task.place ≡ place

-- a change of a block leaves its place
changed_place : (f : BlockState → BlockState) (blocks : List BlockState) (t u : ℕ) (block : BlockState) → ((b : BlockState) → (f b).task.place ≡ b.task.place) → slice_get blocks t ≡ Some block → IsPlaced (changed u f blocks) t block.task.place
changed_place f blocks t u block keeps at =
    elim (cases_eq u t) [
      | inl same ↦ record { block = f block; here = ap (λ (n : ℕ). slice_get (changed n f blocks) t) same ∙ get_changed f blocks t block at; place_is = keeps block }
      | inr apart ↦ record { block = block; here = get_other f blocks u t apart ∙ at; place_is = refl }
    ]

-- and a change of another one
other_place : (f : BlockState → BlockState) (blocks : List BlockState) (t u : ℕ) (block : BlockState) → (t ≡ u → ⊥) → slice_get blocks t ≡ Some block → IsPlaced (changed u f blocks) t block.task.place
other_place f blocks t u block apart at = record { block = block; here = get_other f blocks u t (λ (e : u ≡ t). apart (sym e)) ∙ at; place_is = refl }

filled_place : (set : Set) (child : Option BlockState) (block : BlockState) → (buffer_filled set child block).task.place ≡ block.task.place
filled_place set None block = refl
filled_place set (Some child) block = refl

module _ (script : Script) (blocks : List BlockState) (t : ℕ) (block : BlockState) (at : slice_get blocks t ≡ Some block) where
  stays : IsPlaced blocks t block.task.place
  stays = record { block = block; here = at; place_is = refl }

  by_test : (test : Bool) (reached : List BlockState) → (test ≡ true → IsPlaced reached t block.task.place) → IsPlaced (if test then reached else blocks) t block.task.place
  by_test true reached placed = placed refl
  by_test false reached placed = stays

  pub reached_place : (command : Command) (reply : Reply) → CanReach script blocks t command reply → IsPlaced (reach_of script t command reply blocks) t block.task.place
  reached_place (commands.Fork name) reply can = other_place (born t (slice_get blocks t)) blocks t (block_named script name) block can.apart at
  reached_place (commands.Kill name signo) reply can = by_test (is_count reply) _ (λ count. changed_place (signalled signo) blocks t (block_named script name) block (λ b. refl) at)
  reached_place commands.Stop reply can = by_test (is_held reply) _ (λ held. record { block = woken t block; here = slice_get-map (woken t) blocks t ∙ ap (option_map (woken t)) at; place_is = refl })
  reached_place (commands.Getregs name set) reply can = by_test (is_count reply) _ (λ count. changed_place (buffer_filled set (slice_get blocks (block_named script name))) blocks t t block (filled_place set (slice_get blocks (block_named script name))) at)
  reached_place (commands.Setregs name set count) reply can = by_test (is_count reply) _ (λ counted. other_place (registers_set set count (buffer_of (slice_get blocks t))) blocks t (block_named script name) block (can counted).apart at)
  reached_place (commands.Cont name) reply can = by_test (is_count reply) _ (λ count. changed_place continued blocks t (block_named script name) block (λ b. refl) at)
  reached_place other reply can = stays
