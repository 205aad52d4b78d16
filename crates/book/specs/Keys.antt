-- The accounts that a book can keep: each as one number, and when one can be credited. The requests for paper that it can keep, and under which references.
-- Both in order of their numbers.
pub use Rattle.words.specs.Order.{Next}
pub use Rattle.accounts.specs.Keys.{key_of, account_of, has_balance}
pub use Rattle.accounts.specs.Keys.{key_limit as account_limit}
pub use Rattle.accounts.specs.Map.{CreditFits}
pub use Rattle.requests.specs.Packed.{ReferenceInRange, RequestInRange, member_of, reference_of, is_open}
pub use Rattle.requests.specs.Packed.{key_limit as request_limit}
