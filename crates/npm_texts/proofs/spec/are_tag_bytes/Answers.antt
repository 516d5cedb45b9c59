use Rattle.std.proofs.Common.{rules, tests}
use Rattle.std.proofs.lemmas.Iterator.Adapters.{YieldsList-from_bytes}
use Rattle.std.proofs.lemmas.Iterator.Search.{all_from_yields_List}
use Rattle.npm_texts.specs.SpecGrammar.{is_tag_byte}
use Rattle.npm_texts.proofs.spec.are_tag_bytes.Goals as goal

pub returns : goal.returns
returns c = all_from_yields_List is_tag_byte _ _ _ c.all.ensures.ran (YieldsList-from_bytes c.args.text.now cc)
    (λ x b q k. search (rules, tests))
