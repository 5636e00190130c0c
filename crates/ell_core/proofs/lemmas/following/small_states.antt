-- Each of the facts that a small state makes up fails.
pub mod Facts
-- Each of the small states whose names or flags are unsound breaks its clause.
pub mod Flags
-- Each of the small states whose ledgers, searches or strangers are unsound breaks its clause.
pub mod Ledgers
-- Each of the small trees breaks its rule of a lawful one.
pub mod Trees
