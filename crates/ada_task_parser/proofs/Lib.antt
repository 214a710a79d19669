pub mod MemberSteps
pub mod Steps
pub mod TaskSteps
