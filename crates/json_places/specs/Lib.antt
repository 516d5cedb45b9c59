-- What the contracts of json_places say, in reading order.

pub mod Steps  -- the steps of a path
pub mod Places  -- offsets, lines and columns, the name of a member at an offset, and an item of a list
-- ---- not part of any public contract: what private functions compute
pub mod Private
