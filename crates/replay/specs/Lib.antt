pub mod Numbers
pub mod Verdicts
pub mod Account
pub mod Commands
pub mod MachineCommands
pub mod Panel
pub mod Plans
