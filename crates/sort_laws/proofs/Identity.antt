-- A test that tells items exactly.
pub use Rattle.content_laws.proofs.Identity.{items, items_exact}
