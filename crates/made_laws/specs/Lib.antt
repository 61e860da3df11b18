pub mod MadeProgram
pub mod MadeRun
pub mod Laws
