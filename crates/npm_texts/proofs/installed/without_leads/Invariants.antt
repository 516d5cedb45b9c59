-- What is left has the same characters from the first on that is no lead.
use Rattle.std.proofs.Common.{◌≡◌, chars, length}
use Rattle.std.specs.Str.Iter.{chars_rest}
use Rattle.npm_texts.specs.InstalledVersions.{is_lead}
use Rattle.npm_texts.specs.WhiteSpace.{without_start}
use Rattle.npm_texts.proofs.installed.without_leads.Given as goal

abbrev pub invariant-leads : goal.invariant-leads
invariant-leads l = without_start is_lead (chars (chars_rest l.left)) ≡ without_start is_lead (chars l.text)

abbrev pub decreases-leads : goal.decreases-leads
decreases-leads l = length (chars_rest l.left)
