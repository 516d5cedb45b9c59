pub mod Adding  -- what a call adds to the problems
pub mod JudgementValue  -- judgements as values
pub mod RangeBytes  -- the bytes of most ranges
pub mod PatternSteps  -- which patterns are read and matched, step by step
pub mod Patterns  -- what an index of the patterns of workspaces says of a folder
pub mod GroupSpecs  -- the members of a group that are left
