-- An account is known by its number. Assumes nothing.
pub use Rattle.accounts.proofs.Keys.{key_test, key_once}
