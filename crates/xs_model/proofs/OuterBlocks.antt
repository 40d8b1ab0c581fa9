-- What an outer line makes of the blocks.
use Rattle.std.proofs.Common.{◌≡◌, ℕ, ◌==◌, Bool, true, false, ◌&&◌, List, map, sym, ap, ◌∙◌, eq-eqb, ne_eqb, ⊎_elim}
use Rattle.std.proofs.lemmas.Bool.{cases_eq}
use Rattle.std.specs.Prelude.{Some, slice_get, if◌then◌else◌}
use Rattle.std.specs.Option.{option_map}
use Rattle.xs_model.specs.declared.script.Command.{Command}
use Rattle.xs_model.specs.declared.script.Command.TheVariants as commands
use Rattle.xs_model.specs.declared.script.Script.{Script}
use Rattle.xs_model.specs.declared.event.Reply.{Reply}
use Rattle.xs_model.specs.Script.{block_named}
use Rattle.xs_model.specs.Note.{is_count}
use Rattle.xs_model.specs.State.{BlockState, changed}
use Rattle.xs_model.specs.Outer.{is_held, woken, continued, born, signalled, buffer_of, registers_set, buffer_filled, reach_of, outer_own}
use Rattle.xs_model.specs.Machine.{machine}
use Rattle.xs_model.specs.Effects.{reached, OuterOwn, OuterOther}
use Rattle.xs_model.proofs.EventTurns.{changed_same, changed_other}
use Rattle.xs_model.proofs.StepLaws.{after_outer, map_at}

-- a block, where one is changed
changed_at : (c u : ℕ) (g : BlockState → BlockState) (blocks : List BlockState) (block : BlockState) → slice_get blocks u ≡ Some block → slice_get (changed c g blocks) u ≡ Some (if c == u then g block else block)
changed_at c u g blocks block at = ⊎_elim
    (λ (same : c ≡ u).
    let there : slice_get (changed c g blocks) u ≡ Some (g block) = ap (λ (x : ℕ). slice_get (changed x g blocks) u) same ∙ changed_same u g blocks ∙ ap (option_map g) at in
    there ∙ ap (λ (test : Bool). Some (if test then g block else block)) (sym (eq-eqb c u same)))
    (λ (other : c ≡ u → ⊥). changed_other c u g blocks other ∙ at ∙ ap (λ (test : Bool). Some (if test then g block else block)) (sym (ne_eqb c u other)))
    (cases_eq c u)

-- the same by a test
one_at : (test : Bool) (c u : ℕ) (g : BlockState → BlockState) (blocks : List BlockState) (block : BlockState) → slice_get blocks u ≡ Some block
    → slice_get (if test then changed c g blocks else blocks) u ≡ Some (if test && (c == u) then g block else block)
one_at true c u g blocks block at = changed_at c u g blocks block at
one_at false c u g blocks block at = at

-- where each is changed, by a test
each_at : (test : Bool) (u : ℕ) (g : BlockState → BlockState) (blocks : List BlockState) (block : BlockState) → slice_get blocks u ≡ Some block
    → slice_get (if test then map g blocks else blocks) u ≡ Some (if test then g block else block)
each_at true u g blocks block at = map_at g blocks u block at
each_at false u g blocks block at = at

-- what an outer command makes of a block beside its turn
reach_at : (script : Script) (t u : ℕ) (command : Command) (reply : Reply) (blocks : List BlockState) (block : BlockState) → slice_get blocks u ≡ Some block
    → slice_get (reach_of script t command reply blocks) u ≡ Some (reached script blocks t command reply u block)
reach_at script t u (commands.Fork name) reply blocks block at = changed_at (block_named script name) u (born t (slice_get blocks t)) blocks block at
reach_at script t u (commands.Kill name signo) reply blocks block at = one_at (is_count reply) (block_named script name) u (signalled signo) blocks block at
reach_at script t u commands.Stop reply blocks block at = each_at (is_held reply) u (woken t) blocks block at
reach_at script t u (commands.Getregs name set) reply blocks block at = one_at (is_count reply) t u (buffer_filled set (slice_get blocks (block_named script name))) blocks block at
reach_at script t u (commands.Setregs name set count) reply blocks block at = one_at (is_count reply) (block_named script name) u (registers_set set count (buffer_of (slice_get blocks t))) blocks block at
reach_at script t u (commands.Cont name) reply blocks block at = one_at (is_count reply) (block_named script name) u continued blocks block at
reach_at script t u other reply blocks block at = at

-- its own block
pub outer_own_block : OuterOwn
outer_own_block script past t line reply command block is here =
    let blocks = (machine script past).blocks in
    let f = outer_own script (Some command) reply in
    ap (λ (bs : List BlockState). slice_get bs t) (after_outer script past t line reply command is) ∙ changed_same t f (reach_of script t command reply blocks)
    ∙ ap (option_map f) (reach_at script t t command reply blocks block here)

-- another one
pub outer_other_block : OuterOther
outer_other_block script past t line u reply command block is other here =
    let blocks = (machine script past).blocks in
    ap (λ (bs : List BlockState). slice_get bs u) (after_outer script past t line reply command is) ∙ changed_other t u (outer_own script (Some command) reply) (reach_of script t command reply blocks) other
    ∙ reach_at script t u command reply blocks block here
