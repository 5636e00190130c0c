-- what a pass may rely on where it knows a card
pub mod Known
-- the calls that read: upd, down, next, key_of, info, frozen_child
pub mod Looks
-- the calls that begin and end: begin, again, leave, answer
pub mod Begins
-- a ledger where one key is settled
pub mod Settling
-- info and frozen_child
pub mod Asking
-- the exchange of a word of a card that does not wait: what it leaves of the machine, won or lost
pub mod Exchanges
-- iflag and dflag
pub mod Flags
-- ichild and iunflag
pub mod Inserting
-- mark, dchild, dunflag and backtrack
pub mod Deleting
-- the claim
pub mod Claiming
-- fill
pub mod Filling
-- every step call is an event of the machine, or leaves it
pub mod AllCalls
-- The steps of a look for a key, whoever owns it.
pub mod Looking
