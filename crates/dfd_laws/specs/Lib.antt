pub mod RecordedTrails
pub mod Headline
pub mod AsyncHeadline
pub mod RunHeadline
pub mod Laws
pub mod MakeLaws
