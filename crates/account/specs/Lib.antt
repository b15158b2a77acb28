-- What the contracts of `account` say beside the definitions of `steps`.
pub mod Account
