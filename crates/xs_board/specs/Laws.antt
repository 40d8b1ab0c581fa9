-- The laws of the private machine on which the board rests.
use Rattle.xs_model.specs.Laws.{LinesFound, TurnsKnown, TurnsApart, TwoNumbers, ReadyOnce, FirstReady, NobodyReady, NeverStuck, FewEvents, MachineKnown, TasksValid, ForkBears, UnbornUnseen, StartIsStep, LocalIsStep, OuterIsStep, RefusalIsStep, TrapIsStep, EndIsStep, LargeStays, LargeGrows, LargeEnds, LargeKilled, LargeKnown, OuterOutside, OuterOfUser, TrapOfUser, NamedUser, WaitsForChild, ThreadsQuiet, QuietUnlessAlive, OthersKeep}
use Rattle.xs_model.specs.Effects.{StartedBlock, RanBlock, OuterOwn, OuterOther, GrewBlock, EndedBlock, KilledBlock, StartOthers, LocalOthers, GrowOthers, EndOthers, KilledOthers, StartTakes, LocalKeeps, LocalRises, OuterRises, GrowRises, EndRises, KillRises}

pub record Laws : Type 0 where
  pub found : LinesFound
  pub known : TurnsKnown
  pub apart : TurnsApart
  pub numbers : TwoNumbers
  pub once : ReadyOnce
  pub first : FirstReady
  pub nobody : NobodyReady
  pub stuck : NeverStuck
  pub few : FewEvents
  pub machine : MachineKnown
  pub tasks : TasksValid
  pub bears : ForkBears
  pub unseen : UnbornUnseen
  pub start_is : StartIsStep
  pub local_is : LocalIsStep
  pub outer_is : OuterIsStep
  pub refused_is : RefusalIsStep
  pub trap_is : TrapIsStep
  pub end_is : EndIsStep
  pub started : StartedBlock
  pub ran : RanBlock
  pub outer_own : OuterOwn
  pub outer_other : OuterOther
  pub grew : GrewBlock
  pub ended : EndedBlock
  pub killed : KilledBlock
  pub start_others : StartOthers
  pub local_others : LocalOthers
  pub grow_others : GrowOthers
  pub end_others : EndOthers
  pub kill_others : KilledOthers
  pub start_ready : StartTakes
  pub local_keeps : LocalKeeps
  pub local_rises : LocalRises
  pub outer_rises : OuterRises
  pub grow_rises : GrowRises
  pub end_rises : EndRises
  pub kill_rises : KillRises
  pub large_stays : LargeStays
  pub large_grows : LargeGrows
  pub large_ends : LargeEnds
  pub large_killed : LargeKilled
  pub large_known : LargeKnown
  pub outside : OuterOutside
  pub outer_user : OuterOfUser
  pub trap_user : TrapOfUser
  pub named : NamedUser
  pub waits : WaitsForChild
  pub threads : ThreadsQuiet
  pub quiet : QuietUnlessAlive
  pub others_keep : OthersKeep
