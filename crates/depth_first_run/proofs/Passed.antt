-- What the proofs of callers need of what this crate stands on.
pub use Rattle.depth_first_list.proofs.JoinLaws as JoinLaws
pub use Rattle.depth_first_list.proofs.LiveLaws as LiveLaws
pub use Rattle.depth_first_list.proofs.OrderLaw as OrderLaw
pub use Rattle.depth_first_list.proofs.Own as Own
pub use Rattle.depth_first_list.proofs.Peak as Peak
pub use Rattle.depth_first_list.proofs.QuotaLaws as QuotaLaws
pub use Rattle.depth_first_list.proofs.ThreadLaws as ThreadLaws
pub use Rattle.depth_first_list.proofs.TreeLaws as TreeLaws
pub use Rattle.depth_first_list.proofs.Weights as Weights
pub use Rattle.par_ownership.proofs.NewNames as NewNames
