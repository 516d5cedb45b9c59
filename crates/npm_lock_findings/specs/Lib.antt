-- What the contracts of npm_lock_findings say.

pub mod Forms  -- how texts are written: no text ends a line, leaves a string, or is read as markup
pub mod Findings  -- a report as findings
-- ---- not part of any public contract: what private functions compute
pub mod Private
