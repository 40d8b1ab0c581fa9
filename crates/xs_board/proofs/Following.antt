-- What a taking and a commit leave of the board for every other processor.
use Rattle.std.proofs.Common.{◌≡◌, ◌≢◌, ℕ, ◌==◌, Bool, true, false, List, [], ◌∷◌, ◌++◌, map, refl, sym, ap, ◌∙◌, subst, inl, inr, eq-eqb, ne_eqb}
use Rattle.std.proofs.lemmas.Bool.{cases_eq}
use Rattle.std.proofs.lemmas.Option.{same_Some}
use Rattle.std.specs.Prelude.{Option, Some, None, if◌then◌else◌}
use Rattle.xs_base.specs.declared.words.How.{How}
use Rattle.xs_base.specs.declared.words.Signo.{Signo}
use Rattle.xs_model.specs.declared.event.Event.{Event}
use Rattle.xs_model.specs.declared.event.Event.TheVariants as events
use Rattle.xs_model.specs.declared.event.Why.{Why}
use Rattle.xs_model.specs.declared.script.Script.{Script}
use Rattle.xs_model.specs.declared.stage.Stage.TheVariants.{Ready, Turn}
use Rattle.xs_model.specs.Counts.{in_section, is_event_on}
use Rattle.xs_model.specs.Held.{is_start}
use Rattle.xs_model.specs.History.{IsLegal}
use Rattle.xs_model.specs.Laws.{AreElsewhere}
use Rattle.xs_model.specs.Machine.{machine, IsLegalPast}
use Rattle.xs_model.specs.Note.{Act, Starts, Section, Grows, Sets, Plain, task_of, act_of, set_act, set_target, is_section, is_count, notes_of, is_at, start_cpu, cpu_of, last, last_after}
use Rattle.xs_model.specs.Script.{IsValid, command_at}
use Rattle.xs_model.specs.State.{stage_at, stage_of, task_at, task_of_state, turn_cpu}
use Rattle.xs_board.specs.declared.turn.Close.{Close}
use Rattle.xs_board.specs.declared.turn.Close.TheVariants.{Quantum, Yield, Outer, Refused, Trap, End}
use Rattle.xs_board.specs.declared.turn.Entry.{Entry}
use Rattle.xs_board.specs.Board.{Board, past_of, stage_in, private_in, KeepsOthers, OthersKept, KeepsTurns}
use Rattle.xs_board.specs.Follows.{Next, last_in, section_in}
use Rattle.xs_board.specs.Laws.{Laws}
use Rattle.xs_board.specs.Turn.{Answer, entry_event, close_events, trap_end, turn_events}
use Rattle.xs_board.proofs.Events.{onto}
use Rattle.xs_board.proofs.Tests.{if_true, if_false}

-- ---- events within a turn

-- An act that starts no turn.
pub record IsActWithin (act : Act) : Type 0 where
  pub cpu : (older : Option ℕ) → start_cpu act older ≡ older
  pub within : is_start act ≡ false

-- An event of block t that starts no turn.
pub record IsWithin (script : Script) (t : ℕ) (event : Event) : Type 0 where
  pub own : task_of event ≡ t
  pub act : IsActWithin (act_of script event)

abbrev pub AreWithin : Script → ℕ → List Event → Type 0
AreWithin script t [] = Unit {0}
AreWithin script t (event ∷ events) = IsWithin script t event × AreWithin script t events

plain_act : IsActWithin Plain
plain_act = record { cpu = λ older. refl; within = refl }

line_act : (b : Bool) → IsActWithin (if b then Section else Plain)
line_act true = record { cpu = λ older. refl; within = refl }
line_act false = plain_act

outer_act : (target : Option ℕ) (accepted : Bool) → IsActWithin (set_act target accepted)
outer_act None accepted = plain_act
outer_act (Some u) true = record { cpu = λ older. refl; within = refl }
outer_act (Some u) false = plain_act

trap_within : (script : Script) (t : ℕ) (fate : Option Why) → IsWithin script t (trap_end t fate)
trap_within script t None = record { own = refl; act = record { cpu = λ older. refl; within = refl } }
trap_within script t (Some why) = record { own = refl; act = plain_act }

close_within : (script : Script) (t : ℕ) (close : Close) (answer : Answer) → AreWithin script t (close_events t close answer)
close_within script t Quantum answer = tt
close_within script t Yield answer = tt
close_within script t (Outer line) answer = (record { own = refl; act = outer_act (set_target script (command_at script t line)) (is_count answer.reply) }, tt)
close_within script t (Refused error) answer = (record { own = refl; act = plain_act }, tt)
close_within script t Trap answer = (trap_within script t answer.fate, tt)
close_within script t End answer = (record { own = refl; act = plain_act }, tt)

lines_within : (script : Script) (t : ℕ) (entries : List Entry) (more : List Event) → AreWithin script t more → AreWithin script t (map (entry_event t) entries ++ more)
lines_within script t [] more after = after
lines_within script t (entry ∷ entries) more after = (record { own = refl; act = line_act (is_section (command_at script t entry.line)) }, lines_within script t entries more after)

-- those of a turn after its Start
pub turn_within : (script : Script) (t : ℕ) (entries : List Entry) (close : Close) (answer : Answer) → AreWithin script t (turn_events t entries close answer)
turn_within script t entries close answer = lines_within script t entries (close_events t close answer) (close_within script t close answer)

-- ---- what they leave

-- they join a past at its front
onto_front : (events newer past : List Event) → onto events (newer ++ past) ≡ onto events newer ++ past
onto_front [] newer past = refl
onto_front (event ∷ events) newer past = onto_front events (event ∷ newer) past

module _ (script : Script) (t d : ℕ) where
  -- the block's turn stays on its processor
  cpu_then : (event : Event) (past : List Event) → IsWithin script t event → cpu_of (notes_of script past) t ≡ Some d → cpu_of (notes_of script (event ∷ past)) t ≡ Some d
  cpu_then event past is on =
      if_true (task_of event == t) (start_cpu (act_of script event) (cpu_of (notes_of script past) t)) (cpu_of (notes_of script past) t) (eq-eqb (task_of event) t is.own)
      ∙ is.act.cpu (cpu_of (notes_of script past) t)
      ∙ on

  off : (c : ℕ) (event : Event) (past : List Event) → d ≢ c → IsWithin script t event → cpu_of (notes_of script past) t ≡ Some d → is_event_on script past event c ≡ false
  off c event past apart is on =
      ap (λ (u : ℕ). is_at (start_cpu (act_of script event) (cpu_of (notes_of script past) u)) c) is.own
      ∙ ap (λ (o : Option ℕ). is_at o c) (is.act.cpu (cpu_of (notes_of script past) t) ∙ on)
      ∙ ne_eqb d c apart

  all_elsewhere : (c : ℕ) (events newer past : List Event) → d ≢ c → AreWithin script t events → cpu_of (notes_of script (newer ++ past)) t ≡ Some d → AreElsewhere script newer past c → AreElsewhere script (onto events newer) past c
  all_elsewhere c [] newer past apart are on before = before
  all_elsewhere c (event ∷ events) newer past apart are on before =
      all_elsewhere c events (event ∷ newer) past apart are.1 (cpu_then event (newer ++ past) are.0 on) (before, off c event (newer ++ past) apart are.0 on)

  -- no section of another block
  no_section : (u : ℕ) (events past : List Event) → (u ≡ t → ⊥) → AreWithin script t events → in_section script (onto events past) u ≡ in_section script past u
  no_section u [] past other are = refl
  no_section u (event ∷ events) past other are =
      no_section u events (event ∷ past) other are.1
      ∙ if_false (task_of event == u) _ (in_section script past u) (ne_eqb (task_of event) u (λ (same : task_of event ≡ u). other (sym same ∙ are.0.own)))

-- a last processor that the block has then it had before
drops : (gone : Bool) (older : Option ℕ) (c : ℕ) → (if gone then None else older) ≡ Some c → older ≡ Some c
drops true older c is = absurd (cc is)
drops false older c is = is

last_then : (act : Act) (task t c : ℕ) (older : Option ℕ) → is_start act ≡ false → last_after task act t older ≡ Some c → older ≡ Some c
last_then (Starts d) task t c older within is = absurd (cc within)
last_then Section task t c older within is = is
last_then Grows task t c older within is = drops (task == t) older c is
last_then (Sets u) task t c older within is = drops (u == t) older c is
last_then Plain task t c older within is = is

last_before : (script : Script) (t c : ℕ) (events past : List Event) → AreWithin script t events → last script (onto events past) t ≡ Some c → last script past t ≡ Some c
last_before script t c [] past are is = is
last_before script t c (event ∷ events) past are is =
    last_then (act_of script event) (task_of event) t c (last script past t) are.0.act.within (last_before script t c events (event ∷ past) are.1 is)

-- ---- a Start

module _ (old new : Board) (t cpu : ℕ) (how : How) (signal : Option Signo) (script_is : new.script ≡ old.script) (past_is : past_of new ≡ events.Start t cpu how signal ∷ past_of old) (ready : stage_in old t ≡ Ready) (others : KeepsOthers t old new) (turns : KeepsTurns cpu old new) where
  -- what is told of another block
  start_section : (u : ℕ) → (u ≡ t → ⊥) → section_in new u ≡ section_in old u
  start_section u other =
      ap (λ (s : Script × List Event). in_section s.0 s.1 u) (λ i. (script_is i, past_is i))
      ∙ if_false (t == u) _ (in_section old.script (past_of old) u) (ne_eqb t u (λ (same : t ≡ u). other (sym same)))

  start_last : (u : ℕ) → (u ≡ t → ⊥) → last_in new u ≡ last_in old u
  start_last u other =
      ap (λ (s : Script × List Event). last s.0 s.1 u) (λ i. (script_is i, past_is i))
      ∙ if_false (t == u) (Some cpu) (last old.script (past_of old) u) (ne_eqb t u (λ (same : t ≡ u). other (sym same)))

  own_last : last_in new t ≡ Some cpu
  own_last =
      ap (λ (s : Script × List Event). last s.0 s.1 t) (λ i. (script_is i, past_is i))
      ∙ if_true (t == t) (Some cpu) (last old.script (past_of old) t) (eq-eqb t t refl)

  pub start_next : Next cpu old new
  start_next c apart = record {
    script = script_is;
    newer = events.Start t cpu how signal ∷ [];
    past = past_is;
    elsewhere = (tt, ne_eqb cpu c apart);
    turn = turns c (λ (same : c ≡ cpu). apart (sym same));
    in_turn = λ u ran is.
        let other : u ≡ t → ⊥ = λ (same : u ≡ t). absurd (let clash : Ready ≡ Turn c ran = sym ready ∙ ap (stage_in old) (sym same) ∙ is in cc clash) in
        record { stage = ap stage_of (others u other) ∙ is; task = ap task_of_state (others u other); section = start_section u other };
    parked = λ u is. elim (cases_eq u t) [
      | inl same ↦ absurd (apart (same_Some cpu c (sym own_last ∙ ap (last_in new) (sym same) ∙ is)))
      | inr other ↦ record { last_is = sym (start_last u other) ∙ is; task = ap task_of_state (others u other) }
    ];
  }

-- ---- the further events of a turn

module _ (laws : Laws) (old new : Board) (t cpu : ℕ) (events : List Event) (within : AreWithin old.script t events) (valid : IsValid old.script) (legal : IsLegal old.script old.history) (later : IsLegal new.script new.history) (script_is : new.script ≡ old.script) (past_is : past_of new ≡ onto events (past_of old)) (turn : stage_in old t ≡ Turn cpu 0) (others : OthersKept t old new) (turns : KeepsTurns cpu old new) where
  legal_then : IsLegalPast old.script (past_of new)
  legal_then = subst (λ (s : Script). IsLegalPast s (past_of new)) script_is later

  -- the block had its turn there
  known : (cpu_of (notes_of old.script (past_of old)) t ≡ Some cpu) × (last old.script (past_of old) t ≡ Some cpu)
  known = laws.known old.script (past_of old) cpu t valid legal (ap turn_cpu turn)

  -- what is told of another block
  task_then : (u c : ℕ) → (u ≡ t → ⊥) → last old.script (past_of new) u ≡ Some c → private_in new u ≡ private_in old u
  task_then u c other is = ap (λ (s : Script). task_at (machine s (past_of new)).blocks u) script_is ∙ ((others u other).held c is).1

  section_then : (u : ℕ) → (u ≡ t → ⊥) → section_in new u ≡ section_in old u
  section_then u other =
      ap (λ (s : Script × List Event). in_section s.0 s.1 u) (λ i. (script_is i, past_is i))
      ∙ no_section old.script t cpu u events (past_of old) other within

  last_known : (u c : ℕ) → last_in new u ≡ Some c → last old.script (past_of new) u ≡ Some c
  last_known u c is = ap (λ (s : Script). last s (past_of new) u) (sym script_is) ∙ is

  pub turn_next : Next cpu old new
  turn_next c apart = record {
    script = script_is;
    newer = onto events [];
    past = past_is ∙ onto_front events [] (past_of old);
    elsewhere = all_elsewhere old.script t cpu c events [] (past_of old) apart within known.0 tt;
    turn = turns c (λ (same : c ≡ cpu). apart (sym same));
    in_turn = λ u ran is.
        let other : u ≡ t → ⊥ = λ (same : u ≡ t). apart (same_Some cpu c (ap turn_cpu (sym turn ∙ ap (stage_in old) (sym same) ∙ is))) in
        let stays = (others u other).turn c ran is in
        let home = (laws.known old.script (past_of new) c u valid legal_then (ap turn_cpu stays)).1 in
        record {
          stage = ap (λ (s : Script). stage_at (machine s (past_of new)).blocks u) script_is ∙ stays;
          task = task_then u c other home;
          section = section_then u other;
        };
    parked = λ u is. elim (cases_eq u t) [
      | inl same ↦
          let was = last_before old.script t c events (past_of old) within (ap (last old.script (onto events (past_of old))) (sym same) ∙ ap (λ (past : List Event). last old.script past u) (sym past_is) ∙ last_known u c is) in
          absurd (apart (same_Some cpu c (sym known.1 ∙ was)))
      | inr other ↦ record { last_is = ((others u other).held c (last_known u c is)).0; task = task_then u c other (last_known u c is) }
    ];
  }
