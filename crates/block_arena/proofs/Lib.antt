pub mod Lists
pub mod Contents
pub mod Fronts
pub mod Regions
