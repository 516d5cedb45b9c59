-- A version, a range and a tag are read alike by both.
use Rattle.npm_resolve_laws.proofs.Ranges.{kept}
use Rattle.npm_resolve_laws.proofs.lock_files.a_version_that_a_spec_allows_is_kept.Goals as goal

pub returns : goal.returns
returns c = λ packument before name spec request meaning candidate asked ordinary means admitted read.
    kept c.prints_are_read_back_by_npm.ensures c.specs_are_those_of_the_grammar.ensures.one packument before name spec request meaning candidate
    ((c.specs_are_those_of_the_grammar.ensures.asked name spec request).0 asked) ordinary means admitted read
