-- how a table ends
pub mod Ends
-- the code of a pass fits what it knows, as a table opens, and as passes part and come together
pub mod Fits
