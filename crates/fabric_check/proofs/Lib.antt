pub mod TargetLaws
pub mod UnmappedMask
pub mod RefusalLaws
pub mod CheckLaws
