-- spans in the order of their lower ends
pub mod PlacedOrder
-- the loop that makes a list of spans with their places
pub mod PlacedLoop
-- joining such spans one by one
pub mod JoinedRuns
-- the spans that a list is joined to
pub mod JoinedSpans
-- the places of the joined spans
pub mod JoinedPlaces
-- the loop that tests whether a list is merged as it stands
pub mod ApartLoop
-- moving the ends out of the list
pub mod TakenEnds
-- merged lists with the same cuts
pub mod SameSpans
-- where joined spans begin, and how many there are
pub mod Starts
pub mod StartsCounted
