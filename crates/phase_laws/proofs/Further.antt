-- Names of Faults and Segments.
pub use Rattle.phase_laws.proofs.Faults.{faults_kept}
pub use Rattle.phase_laws.proofs.Segments.{segments_are}
