-- Answer keeps the invariant: at a leaf nothing was done and the ledger stays, and by a card that is over the ledger becomes
-- the effective one.
pub mod Answer
-- Begin, again and leave keep the invariant: a worker drops what it has in hand, where no flag of it stands, and stands at
-- the root or nowhere.
pub mod Begin
-- Down keeps the invariant: a worker goes from an internal node to the child on its key's side.
pub mod Down
-- Upd keeps the invariant: a worker reads the update word of the node where it stands, and learns what that tells.
pub mod Upd
