-- A path of one part is in the root.
use Rattle.std.proofs.Common.{◌∙◌, inr, refl, rules, sym}
use Rattle.npm_packages.proofs.search.above_of.Goals as goal

pub returns-in-None : goal.returns-in-None
returns-in-None c = record {
  inside = sym c.is_up.ensures ∙ c.if-is_up.false;
  name = c.args.folder.now;
  one_part = c.in-None.ensures;
  whole = inr (refl, λ empty. search (rules, empty, c.is_empty.ensures, c.if-is_empty.false), refl);
}
