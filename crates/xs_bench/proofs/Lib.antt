pub mod BankTurns
pub mod Changes
pub mod Numbers
pub mod Pushed
pub mod SignalTurns
