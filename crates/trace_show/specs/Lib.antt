pub mod Answer
pub mod Earlier
pub mod Reason
pub mod RuleLine
pub mod ShowForm
pub mod Why
